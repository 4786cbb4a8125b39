-- The number of a record: at the record's numbers the code asks of the tables what the definition asks of them, and the checks without
-- the tables come before those on them. So the number that the code computes is the one of the definition.
use Prim.Native.Nat.{ℕ, ◌+◌, ◌%◌, ◌<◌}
use native.Mathlib.Omega.{arith}
use mathlib.Core.Bool.{Bool, true, false, cond, not, ◌&&◌, beq}
use mathlib.Core.List.{List, [], ◌∷◌}
use mathlib.Core.Path.{◌≡◌, refl, sym, ap, ◌∙◌}
use lib.Dec.{eqb, ltb, leb}
use lib.ListN.{length, get_or, drop}
use borrow.Author.Tests.{lt-ltb, leb-true, eq-eqb, ne_eqb}
use Rattle.bits.specs.Bits.{bit}
use Rattle.bits.proofs.Booleans.{and_left, and_right}
use Rattle.policy.specs.declared.Tables.{Tables}
use Rattle.policy.specs.Checks.{Check, ◌else◌, ladder}
use Rattle.policy.specs.Tables.{
  firm_at,
  person_at,
  folder_at,
  role_at,
  enabled_by,
  is_public,
  enables,
  firm_declared,
  person_declared,
  folder_declared,
  role_declared,
}
use Rattle.policy.specs.Rulebook.{
  Record,
  end,
  rules,
  firm,
  person,
  folder,
  role,
  pair,
  public,
  last_kind,
  body_length,
  record_of,
  in_range,
  declared_before,
  firm_stands,
  folder_stands,
  enters_create,
  record_checks,
}
use Rattle.rulebook.specs.declared.records.Reading.{Reading}
use Rattle.rulebook.specs.Readings.{record_read, form_checks, form_number, ReadAt, table_checks, table_number, number_at}
use Rattle.rulebook.proofs.ListLaws.{within}

-- ---- the ranges of a record, by its kind

up_to : (n m : ℕ) → leb n m ≡ true → n < m + 1
up_to n m h = omega (arith, leb-true n m h)

pub firm_inside : (f class : ℕ) → in_range (firm f class) ≡ true → f < 64
unfolding in_range
firm_inside f class inside = up_to f 63 (and_left (leb f 63) (leb class 31) inside)

pub person_inside : (s level : ℕ) → in_range (person s level) ≡ true → s < 64
unfolding in_range
person_inside s level inside = up_to s 63 inside

pub folder_inside : (o f kind level : ℕ) → in_range (folder o f kind level) ≡ true → o < 128
unfolding in_range
folder_inside o f kind level inside =
    up_to o 127 (and_left (leb o 127) (leb f 63) (and_left (leb o 127 && leb f 63) (leb kind 15) inside))

pub owner_inside : (o f kind level : ℕ) → in_range (folder o f kind level) ≡ true → f < 64
unfolding in_range
owner_inside o f kind level inside =
    up_to f 63 (and_right (leb o 127) (leb f 63) (and_left (leb o 127 && leb f 63) (leb kind 15) inside))

pub role_inside : (k rights : ℕ) → in_range (role k rights) ≡ true → k < 32
unfolding in_range
role_inside k rights inside = up_to k 31 inside

pub step_inside : (p q : ℕ) → in_range (pair p q) ≡ true → p < 16
unfolding in_range
step_inside p q inside = up_to p 15 (and_left (leb p 15) (leb q 15) inside)

pub enabled_inside : (p q : ℕ) → in_range (pair p q) ≡ true → q < 16
unfolding in_range
enabled_inside p q inside = up_to q 15 (and_right (leb p 15) (leb q 15) inside)

pub public_inside : (o : ℕ) → in_range (public o) ≡ true → o < 128
unfolding in_range
public_inside o inside = up_to o 127 inside

-- ---- the number of a record by the tables, kind by kind

module _ (t : Tables) where
  -- the kinds that ask nothing of the tables
  pub end_number : 0 ≡ table_number t end
  unfolding table_number table_checks declared_before firm_stands folder_stands enters_create ladder
  end_number = refl

  pub rules_number : (mask : ℕ) → 0 ≡ table_number t (rules mask)
  unfolding table_number table_checks declared_before firm_stands folder_stands enters_create ladder
  rules_number mask = refl

  pub firm_number : (f class : ℕ) → in_range (firm f class) ≡ true
      → ladder ((not (firm_at t f).declared else 5) ∷ []) ≡ table_number t (firm f class)
  unfolding table_number table_checks declared_before firm_stands folder_stands enters_create firm_declared ladder
  firm_number f class inside = rw (lt-ltb _ _ (firm_inside f class inside))

  pub person_number : (s level : ℕ) → in_range (person s level) ≡ true
      → ladder ((not (person_at t s).declared else 5) ∷ []) ≡ table_number t (person s level)
  unfolding table_number table_checks declared_before firm_stands folder_stands enters_create person_declared ladder
  person_number s level inside = rw (lt-ltb _ _ (person_inside s level inside))

  pub folder_number : (o f kind level : ℕ) → in_range (folder o f kind level) ≡ true
      → ladder ((not (folder_at t o).declared else 5) ∷ ((firm_at t f).declared else 6) ∷ []) ≡ table_number t (folder o f kind level)
  unfolding table_number table_checks declared_before firm_stands folder_stands enters_create folder_declared firm_declared ladder
  folder_number o f kind level inside =
      rw (lt-ltb _ _ (folder_inside o f kind level inside), lt-ltb _ _ (owner_inside o f kind level inside))

  pub role_number : (k rights : ℕ) → in_range (role k rights) ≡ true
      → ladder ((not (role_at t k).declared else 5) ∷ []) ≡ table_number t (role k rights)
  unfolding table_number table_checks declared_before firm_stands folder_stands enters_create role_declared ladder
  role_number k rights inside = rw (lt-ltb _ _ (role_inside k rights inside))

  pub pair_number : (p q : ℕ) → in_range (pair p q) ≡ true
      → ladder ((not (bit (enabled_by t p) (q % 16)) else 5) ∷ (not (eqb q 0) else 7) ∷ []) ≡ table_number t (pair p q)
  unfolding table_number table_checks declared_before firm_stands folder_stands enters_create enables ladder
  pair_number p q inside = rw (within (bit (enabled_by t p)) q 16 (enabled_inside p q inside))

  pub mark_number : (o : ℕ) → in_range (public o) ≡ true
      → ladder ((not (is_public t o) else 5) ∷ ((folder_at t o).declared else 19) ∷ []) ≡ table_number t (public o)
  unfolding table_number table_checks declared_before firm_stands folder_stands enters_create folder_declared ladder
  mark_number o inside = rw (lt-ltb _ _ (public_inside o inside))

-- ---- all checks

-- four checks, and then others: the others count where the four pass
form_first : (a b c d : Bool) (others : List Check)
    → ladder ((a else 2) ∷ (b else 3) ∷ (c else 1) ∷ (d else 4) ∷ others)
    ≡ cond (eqb (ladder ((a else 2) ∷ (b else 3) ∷ (c else 1) ∷ (d else 4) ∷ [])) 0)
    (ladder others)
    (ladder ((a else 2) ∷ (b else 3) ∷ (c else 1) ∷ (d else 4) ∷ []))
unfolding ladder
form_first true true true true others = refl
form_first true true true false others = refl
form_first true true false d others = refl
form_first true false c d others = refl
form_first false b c d others = refl

-- the definition's number, by the checks without the tables and those on them
split_number : (book : List ℕ) (at : ℕ) (t : Tables)
    → number_at book at t
    ≡ cond (eqb (form_number book at) 0)
    (ladder (table_checks t (record_of (get_or book at 0) (drop (at + 1) book))))
    (form_number book at)
unfolding number_at form_number record_checks form_checks table_checks
split_number book at t = by (ltb at (length book))
  where
    kind : ℕ
    kind = get_or book at 0

    body : List ℕ
    body = drop (at + 1) book

    by : (b : Bool)
        → cond b (ladder (record_checks at t kind body)) 1
        ≡ cond (eqb (cond b (ladder (form_checks at kind body)) 1) 0)
        (ladder (table_checks t (record_of kind body)))
        (cond b (ladder (form_checks at kind body)) 1)
    by true =
        form_first (leb kind last_kind) (beq (eqb kind 1) (eqb at 0)) (leb (body_length kind) (length body))
        (in_range (record_of kind body)) (table_checks t (record_of kind body))
    by false = refl

-- a record that passes the checks without the tables: those on them decide
pub number_is : {book : List ℕ} {at : ℕ} {r : Reading} → ReadAt book at r → (t : Tables)
    → table_number t (record_read r.found) ≡ number_at book at t
unfolding table_number
number_is {book} {at} read t =
    ap (λ (x : Record). ladder (table_checks t x)) read.same
    ∙ sym (split_number book at t ∙ rw (eq-eqb _ _ (sym read.number)))

-- a record that does not
pub refused_number : {n : ℕ} (book : List ℕ) (at : ℕ) → n ≡ form_number book at → (n ≡ 0 → ⊥) → (t : Tables) → n ≡ number_at book at t
refused_number book at is z t = is ∙ sym (split_number book at t ∙ rw (ne_eqb _ _ (λ e. z (is ∙ e))))
