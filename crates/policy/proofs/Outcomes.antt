-- A book is refused with the number of the first check that it fails, and loads where it fails none. It holds because loading takes one
-- record at a time, and each turn does what the record's checks say; by induction on the bytes left, and back on the outcome.
use Prim.Native.Nat.{ℕ, zero, suc, ◌+◌, ◌≤◌}
use native.Mathlib.Omega.{arith}
use mathlib.Core.Path.{◌≡◌, refl, ◌∙◌}
use mathlib.Core.Logic.{◌⊎◌, inl, inr, ⊎_elim, ◌↔◌, ◌≢◌}
use mathlib.Core.Bool.{true}
use mathlib.Core.List.{List, [], ◌∷◌, Memᴰ}
use lib.Dec.{eqb}
use lib.ListN.{length, drop, length-drop}
use borrow.Author.Tests.{eqb-true, eqb-false, ne_eqb}
use Rattle.bits.proofs.Booleans.{decide, false_elim}
use Rattle.policy.specs.declared.Tables.{Tables}
use Rattle.policy.specs.declared.Loaded.{Loaded}
use Rattle.policy.specs.Checks.{Check, ladder}
use Rattle.policy.specs.Tables.{empty_tables}
use Rattle.policy.specs.Rulebook.{
  body_length,
  record_of,
  record_checks,
  declare,
  end_checks,
  refused_book,
  ended,
  load_from,
  load_book,
}
use Rattle.policy.proofs.Ladders.{AllPermit, FirstRefusal, numbered, ladder_zero, zero_ladder, ladder_first, first_ladder}
use Rattle.policy.proofs.PublishedNumbers.{record_numbered, end_numbered}

-- loading, one record after another: what a book comes to by the first check that it fails, or by none
pub data Outcome : ℕ → List ℕ → Tables → Loaded → Type 0 where
  no_byte : {at : ℕ} {t : Tables} → Outcome at [] t (refused_book 1 at)
  refused :
      {at kind n : ℕ} {body : List ℕ} {t : Tables} → FirstRefusal (record_checks at t kind body) n
      → Outcome at (kind ∷ body) t (refused_book n at)
  next :
      {at kind : ℕ} {body : List ℕ} {t : Tables} {l : Loaded} → AllPermit (record_checks at t kind body) → kind ≢ 0
      → Outcome (at + 1 + body_length kind) (drop (body_length kind) body) (declare t (record_of kind body)) l
      → Outcome at (kind ∷ body) t l
  end_refused :
      {at n : ℕ} {body : List ℕ} {t : Tables} → AllPermit (record_checks at t 0 body) → FirstRefusal (end_checks t) n
      → Outcome at (0 ∷ body) t (refused_book n at)
  loaded :
      {at : ℕ} {body : List ℕ} {t : Tables} → AllPermit (record_checks at t 0 body) → AllPermit (end_checks t)
      → Outcome at (0 ∷ body) t (record { number = 0; offset = at; tables = t })

-- a book is refused exactly with the number of the first check that it fails, and loads where it fails none
abbrev pub Loading : Type 0
Loading = (book : List ℕ) (l : Loaded) → (load_book book ≡ l) ↔ Outcome 0 book empty_tables l

-- ---- a list of checks permits throughout, or has a first refusal, whose number is not 0

pub refusal_not_zero : {cs : List Check} {n : ℕ} → numbered cs ≡ true → FirstRefusal cs n → n ≢ 0
refusal_not_zero {cs} {n} h r z =
    let all : AllPermit cs = ladder_zero cs h (first_ladder cs n r ∙ z) in
    let stands : Memᴰ r.check cs = rw r.split (mathlib.Core.List.Memᴰ.append_right r.before (mathlib.Core.List.Memᴰ.head refl)) in
    false_elim r.check.permits r.refuses (all r.check stands)

permits_or_refuses : (cs : List Check) → numbered cs ≡ true → AllPermit cs ⊎ FirstRefusal cs (ladder cs)
permits_or_refuses cs h =
    ⊎_elim (λ e. inl (ladder_zero cs h (eqb-true (ladder cs) 0 e))) (λ e. inr (ladder_first cs (eqb-false (ladder cs) 0 e)))
    (decide (eqb (ladder cs) 0))

-- ---- one turn of loading

module _ (n at : ℕ) (t : Tables) (body : List ℕ) where
  load_refused : (kind m : ℕ) → FirstRefusal (record_checks at t kind body) m → load_from (suc n) at (kind ∷ body) t ≡ refused_book m at
  unfolding load_from
  load_refused kind m r =
      rw (first_ladder (record_checks at t kind body) m r, ne_eqb m 0 (refusal_not_zero (record_numbered at t kind body) r))

  load_next : (kind : ℕ) → AllPermit (record_checks at t kind body) → kind ≢ 0
      → load_from (suc n) at (kind ∷ body) t
      ≡ load_from n (at + 1 + body_length kind) (drop (body_length kind) body) (declare t (record_of kind body))
  unfolding load_from
  load_next kind a z = rw (zero_ladder (record_checks at t kind body) a, ne_eqb kind 0 z)

  load_end : AllPermit (record_checks at t 0 body) → load_from (suc n) at (0 ∷ body) t ≡ ended at t
  unfolding load_from
  load_end a = rw (zero_ladder (record_checks at t 0 body) a)

ended_refused : (at : ℕ) (t : Tables) (m : ℕ) → FirstRefusal (end_checks t) m → ended at t ≡ refused_book m at
unfolding ended
ended_refused at t m r = rw (first_ladder (end_checks t) m r, ne_eqb m 0 (refusal_not_zero (end_numbered t) r))

ended_loaded : (at : ℕ) (t : Tables) → AllPermit (end_checks t) → ended at t ≡ record { number = 0; offset = at; tables = t }
unfolding ended
ended_loaded at t a = rw (zero_ladder (end_checks t) a)

-- the bytes after a record are fewer
pub fewer_bytes : (n kind : ℕ) (body : List ℕ) → length (kind ∷ body) ≤ suc n → length (drop (body_length kind) body) ≤ n
fewer_bytes n kind body h = rw length-drop (omega arith)

no_bytes : (n at : ℕ) (t : Tables) → load_from n at [] t ≡ refused_book 1 at
unfolding load_from
no_bytes zero at t = refl
no_bytes (suc n) at t = refl

-- ---- what a load gives is the outcome of its book

module _ (n at : ℕ) (t : Tables) (body : List ℕ) where
  end_outcome : AllPermit (record_checks at t 0 body) → Outcome at (0 ∷ body) t (ended at t)
  end_outcome a =
      ⊎_elim (λ (e : AllPermit (end_checks t)). rw (ended_loaded at t e) (loaded a e))
      (λ (r : FirstRefusal (end_checks t) (ladder (end_checks t))). rw (ended_refused at t _ r) (end_refused a r))
      (permits_or_refuses (end_checks t) (end_numbered t))

  permitted_outcome : (kind : ℕ) → AllPermit (record_checks at t kind body)
      → Outcome (at + 1 + body_length kind) (drop (body_length kind) body) (declare t (record_of kind body))
      (load_from n (at + 1 + body_length kind) (drop (body_length kind) body) (declare t (record_of kind body)))
      → Outcome at (kind ∷ body) t (load_from (suc n) at (kind ∷ body) t)
  permitted_outcome zero a o = rw (load_end n at t body a) (end_outcome a)
  permitted_outcome (suc kind) a o =
      let z : suc kind ≢ 0 = omega arith in
      rw (load_next n at t body (suc kind) a z) (next a z o)

pub load_outcome : (n at : ℕ) (bytes : List ℕ) (t : Tables) → length bytes ≤ n → Outcome at bytes t (load_from n at bytes t)
load_outcome zero at [] t h = rw (no_bytes 0 at t) no_byte
load_outcome zero at (kind ∷ body) t h = absurd (omega arith)
load_outcome (suc n) at [] t h = rw (no_bytes (suc n) at t) no_byte
load_outcome (suc n) at (kind ∷ body) t h =
    let more =
    load_outcome n (at + 1 + body_length kind) (drop (body_length kind) body) (declare t (record_of kind body)) (fewer_bytes n kind body h) in
    ⊎_elim (λ (a : AllPermit (record_checks at t kind body)). permitted_outcome n at t body kind a more)
    (λ (r : FirstRefusal (record_checks at t kind body) (ladder (record_checks at t kind body))).
    rw (load_refused n at t body kind _ r) (refused r))
    (permits_or_refuses (record_checks at t kind body) (record_numbered at t kind body))

-- ---- a book has one outcome

pub outcome_load : {at : ℕ} {bytes : List ℕ} {t : Tables} {l : Loaded} → Outcome at bytes t l
    → (n : ℕ) → length bytes ≤ n → load_from n at bytes t ≡ l
outcome_load (no_byte {at = at} {t = t}) n h = no_bytes n at t
outcome_load (refused r) zero h = absurd (omega arith)
outcome_load (next a z o) zero h = absurd (omega arith)
outcome_load (end_refused a r) zero h = absurd (omega arith)
outcome_load (loaded a e) zero h = absurd (omega arith)
outcome_load (refused {at = at} {kind = kind} {n = m} {body = body} {t = t} r) (suc n) h = load_refused n at t body kind m r
outcome_load (next {at = at} {kind = kind} {body = body} {t = t} a z o) (suc n) h =
    load_next n at t body kind a z ∙ outcome_load o n (fewer_bytes n kind body h)
outcome_load (end_refused {at = at} {n = m} {body = body} {t = t} a r) (suc n) h =
    load_end n at t body a ∙ ended_refused at t m r
outcome_load (loaded {at = at} {body = body} {t = t} a e) (suc n) h = load_end n at t body a ∙ ended_loaded at t e

pub loading : Loading
unfolding load_book
loading book l = (
  λ (e : load_book book ≡ l). rw e at (load_outcome (length book) 0 book empty_tables (omega arith)),
  λ o. outcome_load o (length book) (omega arith),
)
