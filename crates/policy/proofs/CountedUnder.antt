-- The row that a call is counted under, by its definition, is the one that the record at its front tells, because a record has one folder
-- or none; and the firm of a declared folder is that of its record in the rulebook, since no number is declared twice.
use Prim.Native.Nat.{ℕ, ◌≤◌, ◌<◌}
use native.Mathlib.Omega.{arith}
use mathlib.Core.Path.{◌≡◌, refl, sym, ap, ◌∙◌}
use mathlib.Core.Logic.{inl, inr, ⊎_elim, ◌↔◌}
use mathlib.Core.Bool.{true}
use mathlib.Core.List.{List, Memᴰ}
use mathlib.Core.Option.{Option, none, some}
use lib.ListN.{get_or-eq_default}
use lib.Dec.{ltb}
use borrow.Author.Tests.{ltb-true, ltb-false}
use Rattle.bits.proofs.Booleans.{decide, false_elim, by_test}
use Rattle.policy.specs.declared.Folder.{Folder}
use Rattle.policy.specs.declared.Tables.{Tables}
use Rattle.policy.specs.Tables.{no_folder, folder_at, folder_declared}
use Rattle.policy.specs.Rulebook.{folder, declare, given, load_book, records_of}
use Rattle.policy.specs.Request.{Request, read, write, start, step, request_of}
use Rattle.policy.specs.Causes.{IsFolder}
use Rattle.policy.specs.Tallies.{without_firm, firm_of, counted_under}
use Rattle.policy.specs.Tallying.{OnFolder, CountedUnder}
use Rattle.policy.proofs.Fronts.{front_request, request_front, is_folder}
use Rattle.policy.proofs.Declaring.{book_loads}
use Rattle.policy.proofs.Sound.{start_sound}
use Rattle.policy.proofs.Loads.{AnyWidth, any_fits, loaded_sound}
use Rattle.policy.proofs.FolderParts.{folder_part, folder_blank}
use Rattle.policy.proofs.Holding.{source, loaded_holds}
use Rattle.policy.proofs.GivenEntries.{folder_firm}

-- ---- the folder of a request

folder_of : Option Request → Option ℕ
folder_of none = none
folder_of (some (read s o)) = some o
folder_of (some (write s o)) = some o
folder_of (some (start s u)) = none
folder_of (some (step s p o)) = some o

folder_front : (bytes : List ℕ) (o : ℕ) → OnFolder bytes o → folder_of (request_of bytes) ≡ some o
unfolding folder_of
folder_front bytes o (s, p, rest, w) =
    ⊎_elim (λ f. rw (front_request (read s o) rest f))
    (⊎_elim (λ f. rw (front_request (write s o) rest f)) (λ f. rw (front_request (step s p o) rest f))) w

front_folder : (bytes : List ℕ) (o : ℕ) → folder_of (request_of bytes) ≡ some o → OnFolder bytes o
unfolding folder_of
front_folder bytes o = go (request_of bytes) refl
  where
    go : (r : Option Request) → request_of bytes ≡ r → folder_of r ≡ some o → OnFolder bytes o
    go none e q = let z : ◌≡◌ {A = ℕ} 0 1 = cc in absurd (omega arith)
    go (some (read s f)) e q =
        let same : f ≡ o = cc in
        let (rest, front) = request_front bytes (read s f) e in
        (s, 0, rest, inl (rw (← same) front))
    go (some (write s f)) e q =
        let same : f ≡ o = cc in
        let (rest, front) = request_front bytes (write s f) e in
        (s, 0, rest, inr (inl (rw (← same) front)))
    go (some (start s u)) e q = let z : ◌≡◌ {A = ℕ} 0 1 = cc in absurd (omega arith)
    go (some (step s p f)) e q =
        let same : f ≡ o = cc in
        let (rest, front) = request_front bytes (step s p f) e in
        (s, p, rest, inr (inr (rw (← same) front)))

-- ---- the row of a call

module _ (t : Tables) where
  row_of : Option ℕ → ℕ
  row_of none = without_firm
  row_of (some o) = firm_of t o

  row_folder : (r : Option Request) → counted_under t r ≡ row_of (folder_of r)
  unfolding counted_under folder_of row_of
  row_folder none = refl
  row_folder (some (read s o)) = refl
  row_folder (some (write s o)) = refl
  row_folder (some (start s u)) = refl
  row_folder (some (step s p o)) = refl

  row_counted : (bytes : List ℕ) (f : ℕ) (o : Option ℕ) → folder_of (request_of bytes) ≡ o → (row_of o ≡ f) ↔ CountedUnder t bytes f
  unfolding row_of firm_of
  row_counted bytes f none e = (
    λ q. inr (λ o on known. let here = folder_front bytes o on in let z : ◌≡◌ {A = ℕ} 0 1 = cc in absurd (omega arith), sym q),
    ⊎_elim (λ w. let here = folder_front bytes w.0 w.1 in cc) (λ w. sym w.1),
  )
  row_counted bytes f (some o) e =
      let on : OnFolder bytes o = front_folder bytes o e in
      ⊎_elim
      (λ known. rw known (
        λ q. inl (o, on, (is_folder t o).0 known, q),
        ⊎_elim
            (λ w.
            let here = folder_front bytes w.0 w.1 in
            let same : o ≡ w.0 = cc in
            ap (λ (i : ℕ). (folder_at t i).firm) same ∙ w.3)
            (λ w. absurd (w.0 o on ((is_folder t o).0 known))),
      ))
      (λ unknown. rw unknown (
        λ q. inr (λ i on' known. false_elim _ unknown (other i on' known), sym q),
        ⊎_elim (λ w. absurd (false_elim _ unknown (other w.0 w.1 w.2))) (λ w. sym w.1),
      ))
      (decide (folder_declared t o))
    where
      other : (i : ℕ) → OnFolder bytes i → IsFolder t i → folder_declared t o ≡ true
      other i on known =
          let here = folder_front bytes i on in
          let same : o ≡ i = cc in
          rw same ((is_folder t i).1 known)

  pub counted_under_lem : (bytes : List ℕ) (f : ℕ) → (counted_under t (request_of bytes) ≡ f) ↔ CountedUnder t bytes f
  counted_under_lem bytes f = rw (row_folder (request_of bytes)) (row_counted bytes f (folder_of (request_of bytes)) refl)

  -- on tables that a load gives, one of the 65
  pub row_within : given t ≡ true → (bytes : List ℕ) → counted_under t (request_of bytes) ≤ 64
  unfolding row_of firm_of
  row_within ok bytes = rw (row_folder (request_of bytes)) (go (folder_of (request_of bytes)))
    where
      go : (o : Option ℕ) → row_of o ≤ 64
      go none = omega arith
      go (some o) =
          by_test (λ (f : ℕ). f ≤ 64) (folder_declared t o) _ _
          (λ known. let below = folder_firm t ok o known in omega arith) (λ unknown. omega arith)

-- ---- the firm of a folder in the rulebook

module _ (book : List ℕ) (ok : (load_book book).number ≡ 0) where
  declared_below : (o : ℕ) → (folder_at (load_book book).tables o).declared ≡ true → o < 128
  declared_below o marked =
      let size = (loaded_sound AnyWidth (λ w. tt) book ok (λ r m. any_fits r)).folders.size in
      ⊎_elim (λ e. ltb-true o 128 e)
      (λ e.
      let blank = get_or-eq_default (load_book book).tables.folders no_folder {n = o} (rw size (ltb-false o 128 e)) in
      absurd (false_elim _ (ap (λ (x : Folder). x.declared) blank) marked))
      (decide (ltb o 128))

  folder_source : (o : ℕ) → (folder_at (load_book book).tables o).declared ≡ true
      → (v : ℕ × ℕ × ℕ) × Memᴰ (folder o v.0 v.1 v.2) (records_of book)
  unfolding declare
  folder_source o marked =
      let l = book_loads book ok in
      ⊎_elim (λ early. absurd (false_elim _ (folder_blank o) early)) (λ w. (w.0, rw l.first (Memᴰ.tail w.1)))
      (source folder_part l.finishes.declares (start_sound AnyWidth (λ w. tt) l.mask l.low) o marked)

  pub folder_firms : (o f : ℕ)
      → (IsFolder (load_book book).tables o × ((folder_at (load_book book).tables o).firm ≡ f))
      ↔ ((kind level : ℕ) × Memᴰ (folder o f kind level) (records_of book))
  folder_firms o f = (
    λ w.
        let (v, m) = folder_source o w.0.1 in
        let entry = (loaded_holds book ok).folders o v.0 v.1 v.2 m in
        let firm : v.0 ≡ f = sym (ap (λ (x : Folder). x.firm) entry) ∙ w.1 in
        (v.1, v.2, rw firm at m),
    λ w.
        let entry = (loaded_holds book ok).folders o f w.0 w.1 w.2 in
        let marked = ap (λ (x : Folder). x.declared) entry in
        ((declared_below o marked, marked), ap (λ (x : Folder). x.firm) entry),
  )
