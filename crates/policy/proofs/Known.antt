-- The tables after some records of a book know exactly these records: an entry is marked exactly where a record of it was read. It holds of
-- the empty tables and no record, and a record that passes its checks keeps it, since it gives one entry and leaves the others.
use Prim.Native.Nat.{ℕ, ◌^◌, ◌<◌}
use mathlib.Core.Path.{◌≡◌, refl, sym, ap, ◌∙◌}
use mathlib.Core.Logic.Iff
use mathlib.Core.Logic.{⊎_elim, ◌↔◌, ◌≢◌}
use mathlib.Core.Bool.{Bool, true, false, ◌&&◌, false≢true}
use mathlib.Core.List.Memᴰ
use mathlib.Core.List.{List, [], ◌∷◌, Memᴰ}
use lib.Dec.{ltb, lit≤}
use lib.ListN.{length, get_or, get_or-eq_default}
use borrow.Author.Tests.{ltb-false}
use Rattle.bits.proofs.Booleans.{and_right, and_both, decide, false_elim}
use Rattle.policy.specs.declared.Tables.{Tables}
use Rattle.policy.specs.Tables.{
  no_firm,
  no_person,
  no_folder,
  no_role,
  empty_tables,
  enabled_by,
  enables,
  firm_declared,
  person_declared,
  folder_declared,
  role_declared,
  is_public,
}
use Rattle.policy.specs.Rulebook.{
  Record,
  end,
  rules,
  firm,
  person,
  folder,
  role,
  pair,
  public,
  declared_before,
  firm_stands,
  folder_stands,
  declare,
  has_circle,
  has_loose,
}
use Rattle.policy.specs.Loading.{DeclaredBefore, NoFirmBefore, NoFolderBefore, Pair, Circle, Loose}
use Rattle.policy.proofs.Declaring.{Passes}
use Rattle.policy.proofs.Answers.{Refuses, refuses_not}
use Rattle.policy.proofs.Sound.{Sound, start_sound, declare_sound}
use Rattle.policy.proofs.Loads.{AnyWidth, any_fits, sound_sets}
use Rattle.policy.proofs.Circles.{way_map, circle_way, way_circle}
use Rattle.policy.proofs.Loose.{loose_map, loose_some, some_loose}
use Rattle.policy.proofs.Parts.{Part, firm_part, person_part, role_part, pair_part, declared_left, entry_of}
use Rattle.policy.proofs.FolderParts.{folder_part, public_part}

pub record Known (at : ℕ) (before : List Record) (t : Tables) : Type 1 where
  -- the offset is 0 before the first record alone
  pub first : (at ≡ 0) ↔ (before ≡ [])
  pub sound : Sound AnyWidth t
  pub entries :
      (part : Part) (i : part.Index)
      → (part.is_declared (part.entry t i) ≡ true) ↔ ((v : part.Value) × Memᴰ (part.records i v) before)

pub known_start : Known 0 [] empty_tables
unfolding declare empty_tables
known_start =
    record {
      first = (λ e. refl, λ e. refl);
      sound = start_sound AnyWidth (λ w. tt) 0 (lit≤ tt);
      entries = λ part i. (λ e. absurd (false_elim _ (part.blank i) e), λ w. absurd (Memᴰ.not-nil w.1));
    }

pub known_next : {at : ℕ} {before : List Record} {t : Tables} → Known at before t → (r : Record) → Passes t r
    → (next : ℕ) → next ≢ 0 → Known next (r ∷ before) (declare t r)
known_next {at} {before} {t} k r p next z =
    record {
      first = (λ e. absurd (z e), λ (e : r ∷ before ≡ []). cc);
      sound = declare_sound AnyWidth t r k.sound p (any_fits r);
      entries = λ part i. (
        λ e.
            ⊎_elim (λ w. (w.0, Memᴰ.head (sym w.1)))
            (λ same. let w = (k.entries part i).0 (ap part.is_declared (sym same) ∙ e) in (w.0, Memᴰ.tail w.1))
            (part.after t r i k.sound p),
        λ w.
            ⊎_elim (λ e. ap part.is_declared (entry_of part t r i w.0 e k.sound p) ∙ part.marked w.0)
            (λ m. let h = (k.entries part i).1 (w.0, m) in ap part.is_declared (declared_left part t r i k.sound p h) ∙ h)
            (Memᴰ.cases_cons w.1),
      );
    }

-- ---- what the tests of the tables say of the records read

-- a number whose entry is marked is in range
within : {A : Type 0} (l : List A) (n : ℕ) (d : A) (test : A → Bool) → length l ≡ n → test d ≡ false → (i : ℕ)
    → (ltb i n && test (get_or l i d) ≡ true) ↔ (test (get_or l i d) ≡ true)
within l n d test size none i = (
  and_right (ltb i n) _,
  λ h.
      ⊎_elim (λ below. and_both _ _ below h)
      (λ f. absurd (false_elim _ none (rw (get_or-eq_default l d {n = i} (rw size (ltb-false i n f))) at h)))
      (decide (ltb i n)),
)

module _ {at : ℕ} {before : List Record} {t : Tables} (k : Known at before t) where
  firm_known : (f : ℕ) → (firm_declared t f ≡ true) ↔ ((class : ℕ) × Memᴰ (firm f class) before)
  unfolding firm_declared
  firm_known f = Iff.trans (within t.firms 64 no_firm (λ e. e.declared) k.sound.firms.size refl f) (k.entries firm_part f)

  person_known : (s : ℕ) → (person_declared t s ≡ true) ↔ ((level : ℕ) × Memᴰ (person s level) before)
  unfolding person_declared
  person_known s = Iff.trans (within t.persons 64 no_person (λ e. e.declared) k.sound.persons.size refl s) (k.entries person_part s)

  folder_known : (o : ℕ) → (folder_declared t o ≡ true) ↔ ((v : ℕ × ℕ × ℕ) × Memᴰ (folder o v.0 v.1 v.2) before)
  unfolding folder_declared
  folder_known o =
      Iff.trans (within t.folders 128 no_folder (λ e. e.declared) k.sound.folders.size refl o) (k.entries folder_part o)

  role_known : (n : ℕ) → (role_declared t n ≡ true) ↔ ((rights : ℕ) × Memᴰ (role n rights) before)
  unfolding role_declared
  role_known n = Iff.trans (within t.roles 32 no_role (λ e. e.declared) k.sound.roles.size refl n) (k.entries role_part n)

  pair_known : (p q : ℕ) → (enables t p q ≡ true) ↔ Pair before p q
  pair_known p q = (λ e. ((k.entries pair_part (p, q)).0 e).1, λ m. (k.entries pair_part (p, q)).1 (tt, m))

  public_known : (o : ℕ) → (is_public t o ≡ true) ↔ Memᴰ (public o) before
  public_known o = (λ e. ((k.entries public_part o).0 e).1, λ m. (k.entries public_part o).1 (tt, m))

  pub before_known : (r : Record) → (declared_before t r ≡ true) ↔ DeclaredBefore before r
  unfolding declared_before
  before_known end = (false≢true, absurd)
  before_known (rules mask) = (false≢true, absurd)
  before_known (firm f class) = firm_known f
  before_known (person s level) = person_known s
  before_known (folder o f kind level) =
      Iff.trans (folder_known o) (λ w. (w.0.0, w.0.1, w.0.2, w.1), λ w. ((w.0, w.1, w.2), w.3))
  before_known (role n rights) = role_known n
  before_known (pair p q) = pair_known p q
  before_known (public o) = public_known o

  pub firm_stood : (r : Record) → Refuses (firm_stands t r) (NoFirmBefore before r)
  unfolding firm_stands
  firm_stood end = (λ e. false≢true (sym e), absurd)
  firm_stood (rules mask) = (λ e. false≢true (sym e), absurd)
  firm_stood (firm f class) = (λ e. false≢true (sym e), absurd)
  firm_stood (person s level) = (λ e. false≢true (sym e), absurd)
  firm_stood (folder o f kind level) =
      let w = refuses_not (firm_known f) in (λ e class m. w.0 e (class, m), λ none. w.1 (λ m. none m.0 m.1))
  firm_stood (role n rights) = (λ e. false≢true (sym e), absurd)
  firm_stood (pair p q) = (λ e. false≢true (sym e), absurd)
  firm_stood (public o) = (λ e. false≢true (sym e), absurd)

  pub folder_stood : (r : Record) → Refuses (folder_stands t r) (NoFolderBefore before r)
  unfolding folder_stands
  folder_stood end = (λ e. absurd (false≢true (sym e)), λ w. cc w.1)
  folder_stood (rules mask) = (λ e. absurd (false≢true (sym e)), λ w. cc w.1)
  folder_stood (firm f class) = (λ e. absurd (false≢true (sym e)), λ w. cc w.1)
  folder_stood (person s level) = (λ e. absurd (false≢true (sym e)), λ w. cc w.1)
  folder_stood (folder o f kind level) = (λ e. absurd (false≢true (sym e)), λ w. cc w.1)
  folder_stood (role n rights) = (λ e. absurd (false≢true (sym e)), λ w. cc w.1)
  folder_stood (pair p q) = (λ e. absurd (false≢true (sym e)), λ w. cc w.1)
  folder_stood (public o) =
      let known = refuses_not (folder_known o) in (
        λ e. (o, refl, λ f kind level m. known.0 e ((f, kind, level), m)),
        λ w.
            let same : o ≡ w.0 = cc w.1 in
            known.1 (λ m. w.2 m.0.0 m.0.1 m.0.2 (rw same at m.1)),
      )

  pub circle_known : (has_circle t ≡ true) ↔ Circle before
  circle_known = (
    λ c. let (p, w) = circle_way t c in (p, way_map (λ p q. (pair_known p q).0) w),
    λ c. way_circle t (sound_sets AnyWidth t k.sound) c.0 (way_map (λ p q. (pair_known p q).1) c.1),
  )

  pub loose_known : (has_loose t ≡ true) ↔ Loose before
  loose_known =
      let sets : (p : ℕ) → enabled_by t p < 2 ^ 16 = λ p. (k.sound.steps.each p).1 in
      let small = sound_sets AnyWidth t k.sound in (
        λ c. loose_map pair_known (loose_some t sets small c),
        λ w. some_loose t sets small (loose_map (λ p q. Iff.symm (pair_known p q)) w),
      )
