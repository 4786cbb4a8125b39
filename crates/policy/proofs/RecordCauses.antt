-- The checks of one record, and those of the end where it is the end record, have the number of the record's first cause. Row by row: each
-- check refuses exactly where the cause of its row holds, by what the tables know of the records read before.
use Prim.Native.Nat.{ℕ, ◌≤◌}
use mathlib.Core.Path.{◌≡◌, refl, sym, ap}
use mathlib.Core.Logic.Iff
use mathlib.Core.Logic.{◌↔◌}
use mathlib.Core.Bool.{Bool, true, not, ◌&&◌, beq, false≢true}
use mathlib.Core.List.{List, [], ◌∷◌, ◌++◌}
use lib.Dec.{eqb, leb}
use lib.ListN.{length}
use borrow.Author.Tests.{leb-true, leb-false, le-leb, lt-leb, eqb-true, eq-eqb}
use Rattle.bits.specs.Bounded.{◌implies◌}
use Rattle.bits.proofs.Booleans.{and_left, and_right, and_both}
use Rattle.policy.specs.declared.Tables.{Tables}
use Rattle.policy.specs.Checks.{Check, ◌else◌}
use Rattle.policy.specs.Rulebook.{
  Record,
  end,
  rules,
  firm,
  person,
  folder,
  role,
  pair,
  public,
  last_kind,
  body_length,
  record_of,
  in_range,
  enters_create,
  record_checks,
  has_circle,
  has_loose,
}
use Rattle.policy.specs.Loading.{RecordAtFront, InRange, Misplaced, record_causes}
use Rattle.policy.proofs.Answers.{
  Numbered,
  no_rows,
  one_row,
  then_row,
  Refuses,
  refuses_not,
  refuses_where,
  refuses_under,
  refuses_unequal,
}
use Rattle.policy.proofs.StandsLaws.{end_bytes, kind_front, record_front, stands_long}
use Rattle.policy.proofs.Known.{Known, before_known, firm_stood, folder_stood, circle_known, loose_known}

-- ---- the tests of one record

leb_is : (a b : ℕ) → (leb a b ≡ true) ↔ (a ≤ b)
leb_is a b = (leb-true a b, le-leb a b)

eqb_is : (a b : ℕ) → (eqb a b ≡ true) ↔ (a ≡ b)
eqb_is a b = (eqb-true a b, eq-eqb a b)

and_is : {a b : Bool} {A B : Type 0} → (a ≡ true) ↔ A → (b ≡ true) ↔ B → (a && b ≡ true) ↔ (A × B)
and_is {a} {b} v w = (λ h. (v.0 (and_left a b h), w.0 (and_right a b h)), λ h. and_both a b (v.1 h.0) (w.1 h.1))

range_is : (r : Record) → (in_range r ≡ true) ↔ InRange r
unfolding in_range
range_is end = (λ e. tt, λ w. refl)
range_is (rules mask) = leb_is mask 15
range_is (firm f class) = and_is (leb_is f 63) (leb_is class 31)
range_is (person s level) = leb_is s 63
range_is (folder o f kind level) =
    Iff.trans (and_is (and_is (leb_is o 127) (leb_is f 63)) (leb_is kind 15))
    (λ w. (w.0.0, w.0.1, w.1), λ w. ((w.0, w.1), w.2))
range_is (role k rights) = leb_is k 31
range_is (pair p q) = and_is (leb_is p 15) (leb_is q 15)
range_is (public o) = leb_is o 127

create_is : (r : Record) → (enters_create r ≡ true) ↔ ((p : ℕ) × (r ≡ pair p 0))
unfolding enters_create
create_is end = (λ e. absurd (false≢true e), λ w. cc w.1)
create_is (rules mask) = (λ e. absurd (false≢true e), λ w. cc w.1)
create_is (firm f class) = (λ e. absurd (false≢true e), λ w. cc w.1)
create_is (person s level) = (λ e. absurd (false≢true e), λ w. cc w.1)
create_is (folder o f kind level) = (λ e. absurd (false≢true e), λ w. cc w.1)
create_is (role k rights) = (λ e. absurd (false≢true e), λ w. cc w.1)
create_is (pair p q) = (λ e. (p, ap (pair p) (eqb-true q 0 e)), λ w. eq-eqb q 0 (cc w.1))
create_is (public o) = (λ e. absurd (false≢true e), λ w. cc w.1)

-- ---- row by row

-- the checks of a record, and of the end where the kind is 0; that a byte is left is the first row
abbrev pub front_checks : ℕ → Tables → ℕ → List ℕ → List Check
front_checks at t kind body =
    (true else 1)
    ∷ record_checks at t kind body
    ++ (eqb kind 0 implies not (has_circle t) else 8)
    ∷ (eqb kind 0 implies not (has_loose t) else 9)
    ∷ []

module _ {at : ℕ} {before : List Record} {t : Tables} (k : Known at before t) (kind : ℕ) (body : List ℕ) where
  misplaced_is : Refuses (beq (eqb kind 1) (eqb at 0)) (Misplaced before kind)
  misplaced_is = refuses_unequal (eqb_is kind 1) (Iff.trans (eqb_is at 0) k.first)

  -- a record stands exactly where the body is whole
  whole_is : kind ≤ last_kind → (leb (body_length kind) (length body) ≡ true) ↔ RecordAtFront (kind ∷ body) (λ r. Unit {0})
  whole_is known = (
    λ e. (record_front kind body {P = λ r. Unit {0}} known (leb-true (body_length kind) (length body) e)).0 tt,
    λ w. le-leb (body_length kind) (length body) (stands_long kind body w.2),
  )

  module _ (known : leb kind last_kind ≡ true) (long : leb (body_length kind) (length body) ≡ true) where
    front_is : {P : Record → Type 0} → P (record_of kind body) ↔ RecordAtFront (kind ∷ body) P
    front_is {P} = record_front kind body {P = P} (leb-true kind last_kind known) (leb-true (body_length kind) (length body) long)

    end_is : (eqb kind 0 ≡ true) ↔ (record_of kind body ≡ end)
    unfolding record_of
    end_is = (
      λ e. ap (λ (n : ℕ). record_of n body) (eqb-true kind 0 e),
      λ e. let (r, rest, s, same) = (front_is {P = λ r. r ≡ end}).0 e in eq-eqb kind 0 (cc (end_bytes (rw same at s))),
    )

  pub front_numbered : Numbered (front_checks at t kind body) (record_causes before (kind ∷ body))
  unfolding record_checks record_causes
  front_numbered =
      let r = record_of kind body in
      one_row refl (λ f. absurd (false≢true (sym f)), λ (e : kind ∷ body ≡ []). cc)
      (then_row refl (Iff.trans (leb-false kind last_kind, lt-leb kind last_kind) (kind_front kind body))
      (λ known. one_row refl (Iff.trans misplaced_is (kind_front kind body))
      (then_row refl (refuses_not (whole_is (leb-true kind last_kind known)))
      (λ long. one_row refl (Iff.trans (refuses_not (range_is r)) (front_is known long))
      (one_row refl (Iff.trans (refuses_where (before_known k r)) (front_is known long))
      (one_row refl (Iff.trans (firm_stood k r) (front_is known long))
      (one_row refl (Iff.trans (folder_stood k r) (front_is known long))
      (one_row refl (Iff.trans (refuses_where (create_is r)) (front_is known long))
      (one_row refl (Iff.trans (refuses_under (end_is known long) (circle_known k)) (front_is known long))
      (one_row refl (Iff.trans (refuses_under (end_is known long) (loose_known k)) (front_is known long)) no_rows))))))))))
