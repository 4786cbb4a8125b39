-- The parts of the tables: firms, persons, roles and pairs; folders and their marks are in FolderParts. A record that passes its checks
-- gives one entry of its part, which was not declared before, and leaves every other entry as it was; by the laws of arrays and of bits.
use Prim.Native.Nat.{ℕ, ◌<◌}
use native.Mathlib.Omega.{arith}
use mathlib.Core.Path.{◌≡◌, refl, ap, ◌∙◌}
use mathlib.Core.Logic.{◌⊎◌, inl, inr, ⊎_elim, ◌≢◌}
use mathlib.Core.Bool.{Bool, true, false, ◌&&◌, false≢true}
use lib.Dec.{eqb, leb, ltb}
use lib.Seq.{get_or-set_same, get_or-set_other}
use borrow.Author.Tests.{leb-true, lt-ltb, ne_eqb, eqb-true, eqb-false, eq-eqb}
use Rattle.bits.specs.Bits.{bit, with_bit}
use Rattle.bits.proofs.Booleans.{and_left, or_left, decide, false_elim}
use Rattle.bits.proofs.BitLaws.{bit_zero, bit_with}
use Rattle.policy.specs.declared.Firm.{Firm}
use Rattle.policy.specs.declared.Person.{Person}
use Rattle.policy.specs.declared.Role.{Role}
use Rattle.policy.specs.declared.Tables.{Tables}
use Rattle.policy.specs.Tables.{
  empty_tables,
  no_firm,
  no_person,
  no_role,
  firm_at,
  person_at,
  role_at,
  enabled_by,
  enables,
  firm_declared,
  person_declared,
  role_declared,
}
use Rattle.policy.specs.Rulebook.{
  Record,
  end,
  rules,
  firm,
  person,
  folder,
  role,
  pair,
  public,
  in_range,
  declared_before,
  declare,
}
use Rattle.policy.proofs.Declaring.{Passes}
use Rattle.policy.proofs.Sound.{set_keeps, blank_each, Sound}
use Rattle.policy.proofs.Loads.{AnyWidth}

-- ---- a part of the tables: the entries that the records of one kind give

pub record Part : Type 1 where
  pub Index : Type 0
  pub Value : Type 0
  pub Entry : Type 0
  pub records : Index → Value → Record
  pub value : Value → Entry
  pub entry : Tables → Index → Entry
  pub is_declared : Entry → Bool
  pub marked : (v : Value) → is_declared (value v) ≡ true
  pub fresh : (t : Tables) (i : Index) (v : Value) → Passes t (records i v) → is_declared (entry t i) ≡ false
  pub given :
      (t : Tables) (i : Index) (v : Value) → Sound AnyWidth t → Passes t (records i v)
      → entry (declare t (records i v)) i ≡ value v
  pub after :
      (t : Tables) (r : Record) (i : Index) → Sound AnyWidth t → Passes t r
      → ((v : Value) × (r ≡ records i v)) ⊎ (entry (declare t r) i ≡ entry t i)
  pub blank : (i : Index) → is_declared (entry empty_tables i) ≡ false

-- ---- a record gives an entry, or leaves it as it was

pub same_or_other : (i k : ℕ) → (i ≡ k) ⊎ (i ≢ k)
same_or_other i k = ⊎_elim (λ e. inl (eqb-true i k e)) (λ e. inr (eqb-false i k e)) (decide (eqb i k))

module _ (t : Tables) where
  pub firm_after : (r : Record) (i : ℕ) → ((class : ℕ) × (r ≡ firm i class)) ⊎ (firm_at (declare t r) i ≡ firm_at t i)
  unfolding declare
  firm_after end i = inr refl
  firm_after (rules m) i = inr refl
  firm_after (firm f class) i =
      ⊎_elim (λ e. inl (class, rw e)) (λ d. inr (get_or-set_other t.firms f i _ no_firm d)) (same_or_other i f)
  firm_after (person s level) i = inr refl
  firm_after (folder o f kind level) i = inr refl
  firm_after (role k rights) i = inr refl
  firm_after (pair p q) i = inr refl
  firm_after (public o) i = inr refl

  pub person_after : (r : Record) (i : ℕ) → ((level : ℕ) × (r ≡ person i level)) ⊎ (person_at (declare t r) i ≡ person_at t i)
  unfolding declare
  person_after end i = inr refl
  person_after (rules m) i = inr refl
  person_after (firm f class) i = inr refl
  person_after (person s level) i =
      ⊎_elim (λ e. inl (level, rw e)) (λ d. inr (get_or-set_other t.persons s i _ no_person d)) (same_or_other i s)
  person_after (folder o f kind level) i = inr refl
  person_after (role k rights) i = inr refl
  person_after (pair p q) i = inr refl
  person_after (public o) i = inr refl

  pub role_after : (r : Record) (i : ℕ) → ((rights : ℕ) × (r ≡ role i rights)) ⊎ (role_at (declare t r) i ≡ role_at t i)
  unfolding declare
  role_after end i = inr refl
  role_after (rules m) i = inr refl
  role_after (firm f class) i = inr refl
  role_after (person s level) i = inr refl
  role_after (folder o f kind level) i = inr refl
  role_after (role k rights) i =
      ⊎_elim (λ e. inl (rights, rw e)) (λ d. inr (get_or-set_other t.roles k i _ no_role d)) (same_or_other i k)
  role_after (pair p q) i = inr refl
  role_after (public o) i = inr refl

  -- a pair changes one set, and puts one member into it
  other_member : (a b q : ℕ) → q ≢ b → bit (enabled_by (declare t (pair a b)) a) q ≡ bit (enabled_by t a) q
  unfolding declare
  other_member a b q d =
      let new : bit (with_bit (enabled_by t a) b) q ≡ bit (enabled_by t a) q = bit_with (enabled_by t a) b q ∙ rw (ne_eqb q b d) in
      set_keeps (λ (x : ℕ). bit x q ≡ bit (enabled_by t a) q) 0 t.steps a (with_bit (enabled_by t a) b) new a refl

  pub pair_after : (r : Record) (p q : ℕ) → (r ≡ pair p q) ⊎ (enables (declare t r) p q ≡ enables t p q)
  unfolding declare enables
  pair_after end p q = inr refl
  pair_after (rules m) p q = inr refl
  pair_after (firm f class) p q = inr refl
  pair_after (person s level) p q = inr refl
  pair_after (folder o f kind level) p q = inr refl
  pair_after (role k rights) p q = inr refl
  pair_after (public o) p q = inr refl
  pair_after (pair a b) p q =
      ⊎_elim
      (λ (e : p ≡ a). ⊎_elim (λ (f : q ≡ b). inl (rw (e, f))) (λ d. inr (rw e (other_member a b q d))) (same_or_other q b))
      (λ d. inr (ap (λ (x : ℕ). bit x q) (get_or-set_other t.steps a p _ 0 d)))
      (same_or_other p a)

-- ---- a record gives its entry, which was not declared before

pub now_second : (a b : Bool) → a ≡ true → a && b ≡ false → b ≡ false
now_second true b e h = h
now_second false b e h = absurd (false≢true e)

module _ (t : Tables) where
  firm_below : (f class : ℕ) → Passes t (firm f class) → f < 64
  unfolding in_range
  firm_below f class p = let l = leb-true f 63 (and_left (leb f 63) _ p.range) in omega arith

  person_below_lem : (s level : ℕ) → Passes t (person s level) → s < 64
  unfolding in_range
  person_below_lem s level p = let l = leb-true s 63 p.range in omega arith

  role_below : (k rights : ℕ) → Passes t (role k rights) → k < 32
  unfolding in_range
  role_below k rights p = let l = leb-true k 31 p.range in omega arith

  pair_below : (p q : ℕ) → Passes t (pair p q) → p < 16
  unfolding in_range
  pair_below p q h = let l = leb-true p 15 (and_left (leb p 15) _ h.range) in omega arith

  pub firm_fresh : (f class : ℕ) → Passes t (firm f class) → (firm_at t f).declared ≡ false
  unfolding declared_before firm_declared
  firm_fresh f class p = now_second (ltb f 64) _ (lt-ltb f 64 (firm_below f class p)) p.fresh

  pub person_fresh : (s level : ℕ) → Passes t (person s level) → (person_at t s).declared ≡ false
  unfolding declared_before person_declared
  person_fresh s level p = now_second (ltb s 64) _ (lt-ltb s 64 (person_below_lem s level p)) p.fresh

  pub role_fresh : (k rights : ℕ) → Passes t (role k rights) → (role_at t k).declared ≡ false
  unfolding declared_before role_declared
  role_fresh k rights p = now_second (ltb k 32) _ (lt-ltb k 32 (role_below k rights p)) p.fresh

  pub pair_fresh : (p q : ℕ) → Passes t (pair p q) → enables t p q ≡ false
  unfolding declared_before
  pair_fresh p q h = h.fresh

  pub firm_given_lem : (f class : ℕ) → Sound AnyWidth t → Passes t (firm f class)
      → firm_at (declare t (firm f class)) f ≡ record { declared = true; class = class }
  unfolding declare
  firm_given_lem f class s p = get_or-set_same t.firms f _ no_firm (rw s.firms.size (firm_below f class p))

  pub person_given_lem : (n level : ℕ) → Sound AnyWidth t → Passes t (person n level)
      → person_at (declare t (person n level)) n ≡ record { declared = true; level = record { 0 = level } }
  unfolding declare
  person_given_lem n level s p = get_or-set_same t.persons n _ no_person (rw s.persons.size (person_below_lem n level p))

  pub role_given_lem : (k rights : ℕ) → Sound AnyWidth t → Passes t (role k rights)
      → role_at (declare t (role k rights)) k ≡ record { declared = true; rights = rights }
  unfolding declare
  role_given_lem k rights s p = get_or-set_same t.roles k _ no_role (rw s.roles.size (role_below k rights p))

  pub pair_given : (p q : ℕ) → Sound AnyWidth t → Passes t (pair p q) → enables (declare t (pair p q)) p q ≡ true
  unfolding declare enables
  pair_given p q s h =
      ap (λ (x : ℕ). bit x q) (get_or-set_same t.steps p _ 0 (rw s.steps.size (pair_below p q h)))
      ∙ bit_with (enabled_by t p) q q ∙ or_left (eqb q q) _ (eq-eqb q q refl)

-- ---- the empty tables declare nothing

pub firm_blank : (i : ℕ) → (firm_at empty_tables i).declared ≡ false
unfolding empty_tables
firm_blank = blank_each (λ f. f.declared ≡ false) no_firm 64 refl

pub person_blank : (i : ℕ) → (person_at empty_tables i).declared ≡ false
unfolding empty_tables
person_blank = blank_each (λ s. s.declared ≡ false) no_person 64 refl

pub role_blank : (i : ℕ) → (role_at empty_tables i).declared ≡ false
unfolding empty_tables
role_blank = blank_each (λ k. k.declared ≡ false) no_role 32 refl

pub pair_blank : (p q : ℕ) → enables empty_tables p q ≡ false
unfolding empty_tables enables
pair_blank p q = blank_each (λ (x : ℕ). bit x q ≡ false) 0 16 (bit_zero q) p

-- ---- the parts

abbrev pub firm_part : Part
firm_part =
    record {
      Index = ℕ;
      Value = ℕ;
      Entry = Firm;
      records = firm;
      value = λ class. record { declared = true; class = class };
      entry = firm_at;
      is_declared = λ f. f.declared;
      marked = λ v. refl;
      fresh = firm_fresh;
      given = firm_given_lem;
      after = λ t r i s p. firm_after t r i;
      blank = firm_blank;
    }

abbrev pub person_part : Part
person_part =
    record {
      Index = ℕ;
      Value = ℕ;
      Entry = Person;
      records = person;
      value = λ level. record { declared = true; level = record { 0 = level } };
      entry = person_at;
      is_declared = λ s. s.declared;
      marked = λ v. refl;
      fresh = person_fresh;
      given = person_given_lem;
      after = λ t r i s p. person_after t r i;
      blank = person_blank;
    }

abbrev pub role_part : Part
role_part =
    record {
      Index = ℕ;
      Value = ℕ;
      Entry = Role;
      records = role;
      value = λ rights. record { declared = true; rights = rights };
      entry = role_at;
      is_declared = λ k. k.declared;
      marked = λ v. refl;
      fresh = role_fresh;
      given = role_given_lem;
      after = λ t r i s p. role_after t r i;
      blank = role_blank;
    }

abbrev pub pair_part : Part
pair_part =
    record {
      Index = ℕ × ℕ;
      Value = Unit {0};
      Entry = Bool;
      records = λ i v. pair i.0 i.1;
      value = λ v. true;
      entry = λ t i. enables t i.0 i.1;
      is_declared = λ b. b;
      marked = λ v. refl;
      fresh = λ t i v. pair_fresh t i.0 i.1;
      given = λ t i v. pair_given t i.0 i.1;
      after = λ t r i s p. ⊎_elim (λ e. inl (tt, e)) (λ same. inr same) (pair_after t r i.0 i.1);
      blank = λ i. pair_blank i.0 i.1;
    }

-- ---- what a record leaves, and what it gives, in every part

module _ (part : Part) (t : Tables) where
  pub left : (r : Record) (i : part.Index) → Sound AnyWidth t → Passes t r → ((v : part.Value) → r ≡ part.records i v → ⊥)
      → part.entry (declare t r) i ≡ part.entry t i
  left r i s p h = ⊎_elim (λ w. absurd (h w.0 w.1)) (λ same. same) (part.after t r i s p)

  -- a record that passes its checks leaves a declared entry
  pub declared_left : (r : Record) (i : part.Index) → Sound AnyWidth t → Passes t r → part.is_declared (part.entry t i) ≡ true
      → part.entry (declare t r) i ≡ part.entry t i
  declared_left r i s p h = left r i s p (λ v e. false_elim _ (part.fresh t i v (rw e at p)) h)

  pub entry_of : (r : Record) (i : part.Index) (v : part.Value) → part.records i v ≡ r → Sound AnyWidth t → Passes t r
      → part.entry (declare t r) i ≡ part.value v
  entry_of r i v e s p = rw (← e) (part.given t i v s (rw e p))
