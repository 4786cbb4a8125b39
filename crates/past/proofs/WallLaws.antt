-- The wall over the folders of one class: a folder bears on an access exactly where it counts and is of the class, so that one of the
-- folder's own firm lets the access pass, and without such a one it passes exactly where none bears on it.
use Prim.Native.Nat.{ℕ, ◌+◌, ◌<◌}
use native.Mathlib.Omega.{arith}
use mathlib.Core.Path.{◌≡◌, sym, ap, ◌∙◌}
use mathlib.Core.Logic.{⊎_elim}
use mathlib.Core.Bool.{Bool, true, false, not, ◌&&◌, and-true, and-false}
use mathlib.Core.List.{List}
use lib.Dec.{eqb, ltb}
use borrow.Author.Tests.{ltb-true, eq-eqb, not-true}
use Rattle.bits.specs.Bounded.{any_below, all_below, ◌implies◌}
use Rattle.bits.proofs.Booleans.{
  and_left,
  and_right,
  and_both,
  or_left,
  or_right,
  implies_elim,
  implies_intro,
  decide,
  false_elim,
  false_intro,
}
use Rattle.bits.proofs.Bounds.{any_start, any_more, any_none, any_some, any_ext, none_at, all_at, all_of}
use Rattle.policy.specs.declared.Firm.{Firm}
use Rattle.policy.specs.declared.Folder.{Folder}
use Rattle.policy.specs.declared.Tables.{Tables}
use Rattle.policy.specs.Tables.{firm_at, folder_at, firm_declared, person_declared, class_of, is_public}
use Rattle.policy.specs.Rulebook.{given}
use Rattle.policy.specs.Request.{set_of}
use Rattle.policy.specs.Rules.{counts, counted, other_class, wall_access}
use Rattle.policy.proofs.Accesses.{firm_some, some_firm}
use Rattle.policy.proofs.GivenEntries.{given_entries, folder_cases}
use Rattle.recorded.specs.Recorded.{touched_at}
use Rattle.past.specs.Wall.{bears, bears_at, own_at, Searched}
use Rattle.recorded.proofs.Recorded.{undeclared, touched_access}

-- every folder's firm is in range: an undeclared folder's is 0
pub any_firm_below : (t : Tables) → given t ≡ true → (o : ℕ) → o < 128 → (folder_at t o).firm < 64
unfolding firm_declared
any_firm_below t ok o l =
    ⊎_elim (λ none. rw none (omega arith)) (λ some. ltb-true _ 64 (and_left (ltb (folder_at t o).firm 64) _ some.1))
    (folder_cases t (folder_at t o) ((given_entries t ok).folders o l))

-- ---- the search

module _ (t : Tables) (h : List ℕ) (s class firm : ℕ) where
  pub search_start : Searched t h s class firm 0 false
  search_start = record { own = any_start (own_at t h s class firm); others = sym (any_start (bears_at t h s class)) }

  -- one folder more, which does not bear on the access
  pub search_past : (n : ℕ) {rival : Bool} → Searched t h s class firm n rival → bears_at t h s class n ≡ false
      → Searched t h s class firm (n + 1) rival
  unfolding own_at
  search_past n found none =
      record {
        own = any_none n (own_at t h s class firm) found.own (rw none);
        others = found.others ∙ sym (any_more n (bears_at t h s class) ∙ rw none);
      }

  -- one folder more, which bears on it and is a rival's
  pub search_rival : (n : ℕ) {rival : Bool} → Searched t h s class firm n rival → bears_at t h s class n ≡ true
      → eqb (folder_at t n).firm firm ≡ false → Searched t h s class firm (n + 1) true
  unfolding own_at
  search_rival n found some other =
      record {
        own = any_none n (own_at t h s class firm) found.own (rw (some, other));
        others = sym (any_more n (bears_at t h s class) ∙ rw some);
      }

-- ---- the wall

turned : (a b c : Bool) → a && b && c ≡ c && a && b
turned a b true = and-true (a && b)
turned a b false = and-false (a && b)

-- what one thing implies is false of every number: no number has both
never_both : (n : ℕ) (p q : ℕ → Bool) → all_below n (λ k. p k implies not (q k)) ≡ not (any_below n (λ k. p k && q k))
never_both n p q = ⊎_elim some none (decide (any_below n (λ k. p k && q k)))
  where
    some : any_below n (λ k. p k && q k) ≡ true → all_below n (λ k. p k implies not (q k)) ≡ not (any_below n (λ k. p k && q k))
    some y =
        let (k, l, w) = any_some n (λ k. p k && q k) y in
        false_intro (all_below n (λ k. p k implies not (q k))) (λ a.
        false_elim (q k)
        (not-true _ (implies_elim (p k) _ (all_at n (λ k. p k implies not (q k)) a k l) (and_left (p k) _ w))) (and_right (p k) _ w))
        ∙ sym (ap not y)

    none : any_below n (λ k. p k && q k) ≡ false → all_below n (λ k. p k implies not (q k)) ≡ not (any_below n (λ k. p k && q k))
    none f =
        all_of n (λ k. p k implies not (q k)) (λ k l.
        implies_intro (p k) _ (λ c.
        ap not (false_intro (q k) (λ e. false_elim _ (none_at n (λ k. p k && q k) f k l) (and_both (p k) (q k) c e)))))
        ∙ sym (ap not f)

module _ (e : Folder) (f : Firm) (class : ℕ) (h : List ℕ) (s o : ℕ) where
  bears_declared : e.declared ≡ true → bears e f class h s o ≡ not e.public && eqb f.class class && touched_at h s o
  unfolding bears
  bears_declared d = rw d

  bears_undeclared : e.declared ≡ false → bears e f class h s o ≡ false
  unfolding bears
  bears_undeclared d = rw d

module _ (t : Tables) (h : List ℕ) (s : ℕ) (person : person_declared t s ≡ true) where
  bears_counts : (class o : ℕ) → o < 128 → bears_at t h s class o ≡ counts t (set_of h) s o && eqb (class_of t o) class
  unfolding bears_at counts class_of
  bears_counts class o l =
      let e = folder_at t o in
      let f = firm_at t e.firm in
      ⊎_elim
      (λ d.
      bears_declared e f class h s o d ∙ turned (not e.public) (eqb f.class class) (touched_at h s o)
      ∙ rw (touched_access t h s person o l d))
      (λ d. bears_undeclared e f class h s o d ∙ sym (rw (undeclared t h s person o l d))) (decide e.declared)

  pub wall_public : (o : ℕ) → is_public t o ≡ true → wall_access t (set_of h) s o ≡ true
  unfolding wall_access
  wall_public o y = or_left _ _ y

  -- a folder of the same firm bears on the access
  pub wall_own : (o i : ℕ) → i < 128 → bears_at t h s (class_of t o) i ≡ true → (folder_at t i).firm ≡ (folder_at t o).firm
      → wall_access t (set_of h) s o ≡ true
  unfolding wall_access counted
  wall_own o i l some same =
      or_right (is_public t o) _
      (or_left _ _
      (some_firm t (counts t (set_of h) s) (folder_at t o).firm i l
      (and_left (counts t (set_of h) s i) _ (sym (bears_counts (class_of t o) i l) ∙ some)) (sym same)))

  -- no folder of the same firm bears on it
  uncounted : (o : ℕ) → any_below 128 (own_at t h s (class_of t o) (folder_at t o).firm) ≡ false
      → counted t (set_of h) s (folder_at t o).firm ≡ false
  unfolding counted own_at class_of
  uncounted o none =
      false_intro (counted t (set_of h) s (folder_at t o).firm) (λ e.
      let (i, l, c, same) = firm_some t (counts t (set_of h) s) (folder_at t o).firm e in
      let class : eqb (class_of t i) (class_of t o) ≡ true = eq-eqb _ _ (ap (λ (f : ℕ). (firm_at t f).class) (sym same)) in
      false_elim _ (none_at 128 (own_at t h s (class_of t o) (folder_at t o).firm) none i l)
      (and_both (bears_at t h s (class_of t o) i) _ (bears_counts (class_of t o) i l ∙ and_both _ _ c class) (eq-eqb _ _ (sym same))))

  pub wall_searched : (o : ℕ) {rival : Bool} → is_public t o ≡ false
      → Searched t h s (class_of t o) (folder_at t o).firm 128 rival → not rival ≡ wall_access t (set_of h) s o
  unfolding wall_access other_class
  wall_searched o closed found =
      ap not (found.others ∙ any_ext 128 _ _ (bears_counts (class_of t o)))
      ∙ sym (never_both 128 (counts t (set_of h) s) (λ i. eqb (class_of t i) (class_of t o)))
      ∙ sym (rw (closed, uncounted o found.own))
