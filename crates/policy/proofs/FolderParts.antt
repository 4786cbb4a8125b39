-- Two parts of the tables more: the folders without their mark, and the marks of public folders. A record of a folder leaves every mark,
-- since only a declared folder is marked, and a mark leaves every entry but for the mark.
use Prim.Native.Nat.{ℕ, ◌<◌}
use native.Mathlib.Omega.{arith}
use mathlib.Core.Path.{◌≡◌, refl, sym, ap}
use mathlib.Core.Logic.{◌⊎◌, inl, inr, ⊎_elim}
use mathlib.Core.Bool.{Bool, true, false, ◌&&◌}
use lib.Dec.{leb, ltb}
use lib.ListN.{get_or, set}
use lib.Seq.{get_or-set_same, get_or-set_other}
use borrow.Author.Tests.{leb-true, lt-ltb}
use Rattle.bits.proofs.Booleans.{and_left}
use Rattle.policy.specs.declared.Folder.{Folder}
use Rattle.policy.specs.declared.Tables.{Tables}
use Rattle.policy.specs.Tables.{empty_tables, no_folder, folder_at, folder_declared, is_public}
use Rattle.policy.specs.Rulebook.{
  Record,
  end,
  rules,
  firm,
  person,
  folder,
  role,
  pair,
  public,
  in_range,
  declared_before,
  made_public,
  declare,
}
use Rattle.policy.proofs.Declaring.{Passes}
use Rattle.policy.proofs.Sound.{set_keeps, blank_each, Sound}
use Rattle.policy.proofs.Loads.{AnyWidth}
use Rattle.policy.proofs.GivenEntries.{undeclared_unmarked}
use Rattle.policy.proofs.Parts.{Part, same_or_other, now_second}

-- a folder's entry without its mark
abbrev pub unmarked : Folder → Folder
unmarked e = record { declared = e.declared; firm = e.firm; kind = e.kind; level = e.level; public = false }

module _ (t : Tables) where
  -- ---- folders without their mark

  -- one folder gets an entry that has the same in what `f` takes of it
  folder_set_lem : {A : Type 0} (f : Folder → A) (o i : ℕ) (e : Folder) → f e ≡ f (folder_at t o)
      → f (get_or (set t.folders o e) i no_folder) ≡ f (folder_at t i)
  folder_set_lem f o i e same =
      ⊎_elim
      (λ (q : i ≡ o). rw q (set_keeps (λ (x : Folder). f x ≡ f (folder_at t o)) no_folder t.folders o e same o refl))
      (λ d. ap f (get_or-set_other t.folders o i e no_folder d)) (same_or_other i o)

  pub folder_after : (r : Record) (i : ℕ)
      → ((v : ℕ × ℕ × ℕ) × (r ≡ folder i v.0 v.1 v.2)) ⊎ (unmarked (folder_at (declare t r) i) ≡ unmarked (folder_at t i))
  unfolding declare made_public
  folder_after end i = inr refl
  folder_after (rules m) i = inr refl
  folder_after (firm f class) i = inr refl
  folder_after (person s level) i = inr refl
  folder_after (folder o f kind level) i =
      ⊎_elim (λ e. inl ((f, kind, level), rw e)) (λ d. inr (ap unmarked (get_or-set_other t.folders o i _ no_folder d)))
      (same_or_other i o)
  folder_after (role k rights) i = inr refl
  folder_after (pair p q) i = inr refl
  folder_after (public o) i = inr (folder_set_lem unmarked o i (made_public (folder_at t o)) refl)

  folder_below : (o f kind level : ℕ) → Passes t (folder o f kind level) → o < 128
  unfolding in_range
  folder_below o f kind level p =
      let l = leb-true o 127 (and_left (leb o 127) _ (and_left (leb o 127 && leb f 63) _ p.range)) in omega arith

  pub folder_fresh : (o f kind level : ℕ) → Passes t (folder o f kind level) → (folder_at t o).declared ≡ false
  unfolding declared_before folder_declared
  folder_fresh o f kind level p = now_second (ltb o 128) _ (lt-ltb o 128 (folder_below o f kind level p)) p.fresh

  pub folder_given_lem : (o f kind level : ℕ) → Sound AnyWidth t → Passes t (folder o f kind level)
      → unmarked (folder_at (declare t (folder o f kind level)) o)
      ≡ record { declared = true; firm = f; kind = kind; level = record { 0 = level }; public = false }
  unfolding declare
  folder_given_lem o f kind level s p =
      ap unmarked (get_or-set_same t.folders o _ no_folder (rw s.folders.size (folder_below o f kind level p)))

  -- ---- marks

  pub public_below : (o : ℕ) → Passes t (public o) → o < 128
  unfolding in_range
  public_below o p = let l = leb-true o 127 p.range in omega arith

  pub public_fresh : (o : ℕ) → Passes t (public o) → is_public t o ≡ false
  unfolding declared_before
  public_fresh o p = p.fresh

  pub public_given : (o : ℕ) → Sound AnyWidth t → Passes t (public o) → is_public (declare t (public o)) o ≡ true
  unfolding declare made_public
  public_given o s p =
      ap (λ (e : Folder). e.public) (get_or-set_same t.folders o _ no_folder (rw s.folders.size (public_below o p)))

  -- a folder's mark: a new folder has none, as before, since it was not declared
  pub public_after : (r : Record) (i : ℕ) → Sound AnyWidth t → Passes t r
      → (r ≡ public i) ⊎ (is_public (declare t r) i ≡ is_public t i)
  unfolding declare
  public_after end i s p = inr refl
  public_after (rules m) i s p = inr refl
  public_after (firm f class) i s p = inr refl
  public_after (person n level) i s p = inr refl
  public_after (folder o f kind level) i s p =
      inr (folder_set_lem (λ e. e.public) o i _
      (sym (undeclared_unmarked t (folder_at t o) (s.folders.each o).0 (folder_fresh o f kind level p))))
  public_after (role k rights) i s p = inr refl
  public_after (pair n q) i s p = inr refl
  public_after (public o) i s p =
      ⊎_elim (λ e. inl (rw e)) (λ d. inr (ap (λ (e : Folder). e.public) (get_or-set_other t.folders o i _ no_folder d)))
      (same_or_other i o)

-- ---- the empty tables declare no folder, and mark none

pub folder_blank : (i : ℕ) → (folder_at empty_tables i).declared ≡ false
unfolding empty_tables
folder_blank = blank_each (λ o. o.declared ≡ false) no_folder 128 refl

pub public_blank : (i : ℕ) → is_public empty_tables i ≡ false
unfolding empty_tables
public_blank = blank_each (λ o. o.public ≡ false) no_folder 128 refl

-- ---- the two parts

abbrev pub folder_part : Part
folder_part =
    record {
      Index = ℕ;
      Value = ℕ × ℕ × ℕ;
      Entry = Folder;
      records = λ o v. folder o v.0 v.1 v.2;
      value = λ v. record { declared = true; firm = v.0; kind = v.1; level = record { 0 = v.2 }; public = false };
      entry = λ t o. unmarked (folder_at t o);
      is_declared = λ o. o.declared;
      marked = λ v. refl;
      fresh = λ t o v. folder_fresh t o v.0 v.1 v.2;
      given = λ t o v. folder_given_lem t o v.0 v.1 v.2;
      after = λ t r i s p. folder_after t r i;
      blank = folder_blank;
    }

abbrev pub public_part : Part
public_part =
    record {
      Index = ℕ;
      Value = Unit {0};
      Entry = Bool;
      records = λ o v. public o;
      value = λ v. true;
      entry = is_public;
      is_declared = λ b. b;
      marked = λ v. refl;
      fresh = λ t o v. public_fresh t o;
      given = λ t o v. public_given t o;
      after = λ t r o s p. ⊎_elim (λ e. inl (tt, e)) (λ same. inr same) (public_after t r o s p);
      blank = public_blank;
    }
