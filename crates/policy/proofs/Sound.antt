-- What holds of the tables after every record: arrays of their lengths, entries in range that are zero where undeclared, folders of
-- declared firms, only declared folders public, sets of steps below 16 without step 0. It holds of the empty tables, and a record that
-- passes its checks keeps it. How wide levels and rights are is left open, since the checks do not say it: `Width w n` is what is asked of
-- a number n of w bits.
use Prim.Native.Nat.{ℕ, zero, suc, ◌^◌, ◌≤◌, ◌<◌}
use native.Mathlib.Omega.{arith}
use mathlib.Core.Path.{◌≡◌, refl, sym, ◌∙◌}
use mathlib.Core.Bool.{Bool, true, false, cond, ◌&&◌}
use mathlib.Core.List.{List, [], ◌∷◌, Memᴰ}
use lib.Dec.{eqb, leb, ltb, lit<}
use lib.ListN.{length, get_or, set, replicate, length-set, length-replicate}
use borrow.Author.Tests.{leb-true, ne_eqb, eqb-false}
use Rattle.bits.specs.Bits.{bit, with_bit}
use Rattle.bits.proofs.Booleans.{and_left, and_right, and_both}
use Rattle.bits.proofs.BitLaws.{bit_zero, bit_with, with_lt}
use Rattle.policy.specs.declared.Firm.{Firm}
use Rattle.policy.specs.declared.Person.{Person}
use Rattle.policy.specs.declared.Folder.{Folder}
use Rattle.policy.specs.declared.Role.{Role}
use Rattle.policy.specs.declared.Tables.{Tables}
use Rattle.policy.specs.Tables.{no_firm, no_person, no_folder, no_role, empty_tables, folder_at, enabled_by, firm_declared, folder_declared}
use Rattle.policy.specs.Rulebook.{
  Record,
  end,
  rules,
  firm,
  person,
  folder,
  role,
  pair,
  public,
  in_range,
  firm_stands,
  folder_stands,
  enters_create,
  made_public,
  declare,
  firm_given,
  person_given,
  folder_given,
  role_given,
}
use Rattle.policy.proofs.Declaring.{Passes, Declares, no_record, more_records}

-- ---- arrays all of whose entries have a property

pub record Array {A : Type 0} (n : ℕ) (d : A) (P : A → Type 0) (l : List A) : Type 0 where
  pub size : length l ≡ n
  pub each : (i : ℕ) → P (get_or l i d)

pub set_keeps : {A : Type 0} (P : A → Type 0) (d : A) (l : List A) (k : ℕ) (v : A) → P v
    → (i : ℕ) → P (get_or l i d) → P (get_or (set l k v) i d)
set_keeps P d [] k v p i h = h
set_keeps P d (x ∷ l) zero v p zero h = p
set_keeps P d (x ∷ l) zero v p (suc i) h = h
set_keeps P d (x ∷ l) (suc k) v p zero h = h
set_keeps P d (x ∷ l) (suc k) v p (suc i) h = set_keeps P d l k v p i h

pub blank_each : {A : Type 0} (P : A → Type 0) (d : A) (n : ℕ) → P d → (i : ℕ) → P (get_or (replicate n d) i d)
blank_each P d zero p i = p
blank_each P d (suc n) p zero = p
blank_each P d (suc n) p (suc i) = blank_each P d n p i

array_set : {A : Type 0} {n : ℕ} {d : A} {P : A → Type 0} (l : List A) (k : ℕ) (v : A) → Array n d P l → P v → Array n d P (set l k v)
array_set {d = d} {P = P} l k v a p = record { size = length-set l k v ∙ a.size; each = λ i. set_keeps P d l k v p i (a.each i) }

array_blank : {A : Type 0} (n : ℕ) (d : A) (P : A → Type 0) → P d → Array n d P (replicate n d)
array_blank n d P p = record { size = length-replicate n d; each = blank_each P d n p }

array_weaken : {A : Type 0} {n : ℕ} {d : A} {P Q : A → Type 0} {l : List A} → ((x : A) → P x → Q x) → Array n d P l → Array n d Q l
array_weaken {d = d} {l = l} f a = record { size = a.size; each = λ i. f (get_or l i d) (a.each i) }

-- ---- what a new firm and a new pair leave as it was

pub firm_kept : (t : Tables) (f class g : ℕ) → firm_declared t g ≡ true → firm_declared (declare t (firm f class)) g ≡ true
unfolding declare firm_declared
firm_kept t f class g d =
    and_both _ _ (and_left (ltb g 64) _ d)
    (set_keeps (λ (e : Firm). e.declared ≡ true) no_firm t.firms f (record { declared = true; class = class }) refl g
    (and_right (ltb g 64) _ d))

folder_kept : (t t' : Tables) → ((g : ℕ) → firm_declared t g ≡ true → firm_declared t' g ≡ true)
    → (o : Folder) → folder_given t o ≡ true → folder_given t' o ≡ true
unfolding folder_given
folder_kept t t' h o = go o.declared _
  where
    go : (b blank : Bool) → cond b (firm_declared t o.firm && leb o.kind 15) blank ≡ true
        → cond b (firm_declared t' o.firm && leb o.kind 15) blank ≡ true
    go true blank e = and_both _ _ (h o.firm (and_left (firm_declared t o.firm) _ e)) (and_right (firm_declared t o.firm) _ e)
    go false blank e = e

-- a declared folder stays as a load leaves it, once it is marked public
public_kept : (t : Tables) (e : Folder) → e.declared ≡ true → folder_given t e ≡ true → folder_given t (made_public e) ≡ true
unfolding folder_given made_public
public_kept t e d g = rw d (rw d at g)

set_sound : (x q : ℕ) → leb q 15 ≡ true → eqb q 0 ≡ false → (bit x 0 ≡ false) × (x < 2 ^ 16)
    → (bit (with_bit x q) 0 ≡ false) × (with_bit x q < 2 ^ 16)
set_sound x q l z h =
    let below = leb-true q 15 l in
    (bit_with x q 0 ∙ rw (ne_eqb 0 q (λ e. eqb-false q 0 z (sym e))) h.0, with_lt 16 x q h.1 (omega arith))

-- ---- the tables

module _ (Width : ℕ → ℕ → Type 0) where
  pub record Sound (t : Tables) : Type 0 where
    pub mask : t.mask ≤ 15
    pub firms : Array 64 no_firm (λ (f : Firm). firm_given f ≡ true) t.firms
    pub persons : Array 64 no_person (λ (s : Person). (person_given s ≡ true) × Width 16 s.level.0) t.persons
    pub folders : Array 128 no_folder (λ (o : Folder). (folder_given t o ≡ true) × Width 16 o.level.0) t.folders
    pub roles : Array 32 no_role (λ (k : Role). (role_given k ≡ true) × Width 64 k.rights) t.roles
    pub steps : Array 16 0 (λ (x : ℕ). (bit x 0 ≡ false) × (x < 2 ^ 16)) t.steps

  -- the numbers of a record are so wide
  unfoldable pub Fits : Record → Type 0
  Fits end = Unit {0}
  Fits (rules mask) = Unit {0}
  Fits (firm f class) = Unit {0}
  Fits (person s level) = Width 16 level
  Fits (folder o f kind level) = Width 16 level
  Fits (role k rights) = Width 64 rights
  Fits (pair p q) = Unit {0}
  Fits (public o) = Unit {0}

  pub start_sound : ((w : ℕ) → Width w 0) → (m : ℕ) → m ≤ 15 → Sound (declare empty_tables (rules m))
  unfolding empty_tables declare firm_given person_given folder_given role_given
  start_sound z m h =
      record {
        mask = h;
        firms = array_blank 64 no_firm (λ f. firm_given f ≡ true) refl;
        persons = array_blank 64 no_person (λ s. (person_given s ≡ true) × Width 16 s.level.0) (refl, z 16);
        folders =
            array_blank 128 no_folder (λ o. (folder_given (declare empty_tables (rules m)) o ≡ true) × Width 16 o.level.0) (refl, z 16);
        roles = array_blank 32 no_role (λ k. (role_given k ≡ true) × Width 64 k.rights) (refl, z 64);
        steps = array_blank 16 0 (λ x. (bit x 0 ≡ false) × (x < 2 ^ 16)) (bit_zero 0, lit< tt);
      }

  pub declare_sound : (t : Tables) (r : Record) → Sound t → Passes t r → Fits r → Sound (declare t r)
  unfolding declare in_range Fits firm_given person_given folder_given role_given firm_stands folder_stands enters_create firm_declared
      folder_declared made_public
  declare_sound t end s p w = s
  declare_sound t (rules m) s p w =
      record {
        mask = leb-true m 15 p.range;
        firms = s.firms;
        persons = s.persons;
        folders = s.folders;
        roles = s.roles;
        steps = s.steps;
      }
  declare_sound t (firm f class) s p w =
      record {
        mask = s.mask;
        firms = array_set t.firms f _ s.firms (and_right (leb f 63) _ p.range);
        persons = s.persons;
        folders = array_weaken (λ o h. (folder_kept t (declare t (firm f class)) (firm_kept t f class) o h.0, h.1)) s.folders;
        roles = s.roles;
        steps = s.steps;
      }
  declare_sound t (person n level) s p w =
      record {
        mask = s.mask;
        firms = s.firms;
        persons = array_set t.persons n _ s.persons (refl, w);
        folders = s.folders;
        roles = s.roles;
        steps = s.steps;
      }
  declare_sound t (folder o f kind level) s p w =
      record {
        mask = s.mask;
        firms = s.firms;
        persons = s.persons;
        folders =
            array_set t.folders o _ s.folders (and_both _ _ p.firm_earlier (and_right (leb o 127 && leb f 63) _ p.range), w);
        roles = s.roles;
        steps = s.steps;
      }
  declare_sound t (role k rights) s p w =
      record {
        mask = s.mask;
        firms = s.firms;
        persons = s.persons;
        folders = s.folders;
        roles = array_set t.roles k _ s.roles (refl, w);
        steps = s.steps;
      }
  declare_sound t (pair n q) s p w =
      record {
        mask = s.mask;
        firms = s.firms;
        persons = s.persons;
        folders = s.folders;
        roles = s.roles;
        steps =
            array_set t.steps n _ s.steps
            (set_sound (enabled_by t n) q (and_right (leb n 15) _ p.range) p.not_create (s.steps.each n));
      }
  declare_sound t (public o) s p w =
      let (given, width) = s.folders.each o in
      record {
        mask = s.mask;
        firms = s.firms;
        persons = s.persons;
        folders =
            array_set t.folders o _ s.folders
            (public_kept t (folder_at t o) (and_right (ltb o 128) (folder_at t o).declared p.folder_earlier) given, width);
        roles = s.roles;
        steps = s.steps;
      }

  pub declares_sound : {t t' : Tables} {rs : List Record} → Declares t rs t' → Sound t → ((r : Record) → Memᴰ r rs → Fits r)
      → Sound t'
  declares_sound no_record s w = s
  declares_sound (more_records {t = t} {r = r} p n d) s w =
      declares_sound d (declare_sound t r s p (w r (Memᴰ.head refl))) (λ q m. w q (Memᴰ.tail m))
