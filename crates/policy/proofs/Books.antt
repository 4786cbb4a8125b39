-- Tables of their type that pass the test are exactly those that some rulebook of bytes loads to. A book for such tables is written entry
-- by entry: the rules, then each declared firm, person and folder, each mark of a public folder, each declared role, then each pair; each
-- of these records passes its checks.
use Prim.Native.Nat.{ℕ, ◌^◌, ◌<◌}
use native.Mathlib.Omega.{arith}
use mathlib.Core.Path.{◌≡◌, refl, sym, ap, ◌∙◌}
use mathlib.Core.Logic.{⊎_elim, ◌≢◌}
use mathlib.Core.Bool.{Bool, true, false, ◌&&◌}
use mathlib.Core.List.{List, map}
use lib.Dec.{leb, ltb}
use lib.ListN.{length, get_or, set, replicate, length-map, get_or-map}
use lib.Seq.{set-get_or, set-set, get_or-set_same}
use borrow.Author.Tests.{le-leb, lt-ltb, ltb-true, ne_eqb}
use Rattle.bits.specs.Bits.{bit, with_bit}
use Rattle.bits.proofs.Booleans.{and_left, and_both, decide, false_elim}
use Rattle.policy.specs.declared.Firm.{Firm}
use Rattle.policy.specs.declared.Person.{Person}
use Rattle.policy.specs.declared.Folder.{Folder}
use Rattle.policy.specs.declared.Role.{Role}
use Rattle.policy.specs.declared.Tables.{Tables}
use Rattle.policy.specs.Tables.{
  no_firm,
  no_person,
  no_folder,
  no_role,
  empty_tables,
  firm_at,
  person_at,
  folder_at,
  role_at,
  enabled_by,
  enables,
  firm_declared,
  person_declared,
  folder_declared,
  role_declared,
}
use Rattle.policy.specs.Rulebook.{
  firm,
  person,
  folder,
  role,
  pair,
  public,
  in_range,
  declared_before,
  firm_stands,
  folder_stands,
  enters_create,
  made_public,
  declare,
  firm_given,
  person_given,
  folder_given,
  role_given,
}
use Rattle.policy.specs.Given.{OfType, Gives}
use Rattle.policy.proofs.Sound.{Fits}
use Rattle.policy.proofs.FolderParts.{unmarked}
use Rattle.policy.proofs.Loads.{loaded_given}
use Rattle.policy.proofs.Circles.{member_at}
use Rattle.policy.proofs.GivenEntries.{Given, given_entries, firm_cases, person_cases, folder_cases, role_cases, undeclared_unmarked}
use Rattle.policy.proofs.Filling.{fill, change, fill_set}
use Rattle.policy.proofs.Writing.{kind_of}
use Rattle.policy.proofs.Reached.{Reached, reached_first, reached_next, reached_loads}
use Rattle.policy.proofs.Widths.{loaded_type}

-- ---- one entry more is reached

abbrev tables : ℕ → List Firm → List Person → List Folder → List Role → List ℕ → Tables
tables mask firms persons folders roles steps =
    record { mask = mask; firms = firms; persons = persons; folders = folders; roles = roles; steps = steps }

no_change : {A : Type 0} (done : List A) (k : ℕ) (e d : A) → get_or done k d ≡ d → e ≡ d → set done k e ≡ done
no_change done k e d b q = ap (set done k) (q ∙ sym b) ∙ set-get_or done k d

not_second : (a b : Bool) → b ≡ false → a && b ≡ false
not_second true b h = h
not_second false b h = refl

firm_next : (m : ℕ) (done : List Firm) (ps : List Person) (os : List Folder) (ks : List Role) (ss : List ℕ)
    → Reached (tables m done ps os ks ss) → (k : ℕ) → k < 64 → get_or done k no_firm ≡ no_firm
    → (e : Firm) → firm_given e ≡ true → Reached (tables m (set done k e) ps os ks ss)
unfolding declare in_range declared_before firm_stands folder_stands enters_create Fits kind_of firm_declared
firm_next m done ps os ks ss r k l b e g =
    ⊎_elim (λ blank. rw (no_change done k e no_firm b blank) r)
    (λ c.
    rw c.0
    (reached_next (tables m done ps os ks ss) (firm k e.class) r (omega arith) tt
    (record {
      range = and_both (leb k 63) _ (le-leb k 63 (omega arith)) c.1;
      fresh = not_second (ltb k 64) _ (ap (λ (f : Firm). f.declared) b);
      firm_earlier = refl;
      folder_earlier = refl;
      not_create = refl;
    })))
    (firm_cases e g)

person_next : (m : ℕ) (fs : List Firm) (done : List Person) (os : List Folder) (ks : List Role) (ss : List ℕ)
    → Reached (tables m fs done os ks ss) → (k : ℕ) → k < 64 → get_or done k no_person ≡ no_person
    → (e : Person) → person_given e ≡ true → e.level.0 < 2 ^ 16 → Reached (tables m fs (set done k e) os ks ss)
unfolding declare in_range declared_before firm_stands folder_stands enters_create Fits kind_of person_declared
person_next m fs done os ks ss r k l b e g w =
    ⊎_elim (λ blank. rw (no_change done k e no_person b blank) r)
    (λ (c : e ≡ record { declared = true; level = e.level }).
    rw c
    (reached_next (tables m fs done os ks ss) (person k e.level.0) r (omega arith) w
    (record {
      range = le-leb k 63 (omega arith);
      fresh = not_second (ltb k 64) _ (ap (λ (f : Person). f.declared) b);
      firm_earlier = refl;
      folder_earlier = refl;
      not_create = refl;
    })))
    (person_cases e g)

-- the entry without its mark; the mark has a record of its own
folder_next : (t : Tables) (m : ℕ) (ps : List Person) (done : List Folder) (ks : List Role) (ss : List ℕ)
    → Reached (tables m t.firms ps done ks ss) → (k : ℕ) → k < 128 → get_or done k no_folder ≡ no_folder
    → (e : Folder) → folder_given t e ≡ true → e.level.0 < 2 ^ 16 → Reached (tables m t.firms ps (set done k (unmarked e)) ks ss)
unfolding declare in_range declared_before firm_stands folder_stands enters_create Fits kind_of folder_declared firm_declared
folder_next t m ps done ks ss r k l b e g w =
    ⊎_elim
    (λ (blank : e ≡ no_folder).
    let bare : unmarked e ≡ no_folder = ap (λ (x : Folder). unmarked x) blank in
    rw (no_change done k (unmarked e) no_folder b bare) r)
    (λ c.
    let f = ltb-true e.firm 64 (and_left (ltb e.firm 64) _ c.1) in
    rw (ap unmarked c.0)
    (reached_next (tables m t.firms ps done ks ss) (folder k e.firm e.kind e.level.0) r (omega arith) w
    (record {
      range =
          and_both (leb k 127 && leb e.firm 63) _
          (and_both (leb k 127) _ (le-leb k 127 (omega arith)) (le-leb e.firm 63 (omega arith))) c.2;
      fresh = not_second (ltb k 128) _ (ap (λ (f : Folder). f.declared) b);
      firm_earlier = c.1;
      folder_earlier = refl;
      not_create = refl;
    })))
    (folder_cases t e g)

-- the mark of a folder whose entry stands without it
public_next : (t : Tables) (m : ℕ) (ps : List Person) (done : List Folder) (ks : List Role) (ss : List ℕ)
    → Reached (tables m t.firms ps done ks ss) → (k : ℕ) → k < 128 → (e : Folder) → get_or done k no_folder ≡ unmarked e
    → folder_given t e ≡ true → Reached (tables m t.firms ps (set done k e) ks ss)
unfolding declare in_range declared_before firm_stands folder_stands enters_create Fits kind_of folder_declared made_public
public_next t m ps done ks ss r k l e b g =
    ⊎_elim
    (λ (mark : e.public ≡ true).
    let new : made_public (get_or done k no_folder) ≡ e = ap made_public b ∙ rw (← mark) in
    let known : e.declared ≡ true =
    ⊎_elim (λ y. y) (λ n. absurd (false_elim _ (undeclared_unmarked t e g n) mark)) (decide e.declared) in
    rw (ap (set done k) new) at
    (reached_next (tables m t.firms ps done ks ss) (public k) r (omega arith) tt
    (record {
      range = le-leb k 127 (omega arith);
      fresh = ap (λ (x : Folder). x.public) b;
      firm_earlier = refl;
      folder_earlier = and_both (ltb k 128) _ (lt-ltb k 128 l) (ap (λ (x : Folder). x.declared) b ∙ known);
      not_create = refl;
    })))
    (λ (none : e.public ≡ false).
    let same : e ≡ get_or done k no_folder = rw (b, ← none) in
    rw (ap (set done k) same ∙ set-get_or done k no_folder) r)
    (decide e.public)

role_next : (m : ℕ) (fs : List Firm) (ps : List Person) (os : List Folder) (done : List Role) (ss : List ℕ)
    → Reached (tables m fs ps os done ss) → (k : ℕ) → k < 32 → get_or done k no_role ≡ no_role
    → (e : Role) → role_given e ≡ true → e.rights < 2 ^ 64 → Reached (tables m fs ps os (set done k e) ss)
unfolding declare in_range declared_before firm_stands folder_stands enters_create Fits kind_of role_declared
role_next m fs ps os done ss r k l b e g w =
    ⊎_elim (λ blank. rw (no_change done k e no_role b blank) r)
    (λ (c : e ≡ record { declared = true; rights = e.rights }).
    rw c
    (reached_next (tables m fs ps os done ss) (role k e.rights) r (omega arith) w
    (record {
      range = le-leb k 31 (omega arith);
      fresh = not_second (ltb k 32) _ (ap (λ (f : Role). f.declared) b);
      firm_earlier = refl;
      folder_earlier = refl;
      not_create = refl;
    })))
    (role_cases e g)

pair_next : (m : ℕ) (fs : List Firm) (ps : List Person) (os : List Folder) (ks : List Role) (done : List ℕ)
    → (p q x : ℕ) → p < 16 → q < 16 → length done ≡ 16 → q ≢ 0 → bit x q ≡ false
    → Reached (tables m fs ps os ks (set done p x)) → Reached (tables m fs ps os ks (set done p (with_bit x q)))
unfolding declare in_range declared_before firm_stands folder_stands enters_create Fits kind_of enables
pair_next m fs ps os ks done p q x l h n z b r =
    let here : get_or (set done p x) p 0 ≡ x = get_or-set_same done p x 0 (omega arith) in
    let same : set (set done p x) p (with_bit (get_or (set done p x) p 0) q) ≡ set done p (with_bit x q) =
    ap (λ (y : ℕ). set (set done p x) p (with_bit y q)) here ∙ set-set done p x (with_bit x q) in
    rw same at
    (reached_next (tables m fs ps os ks (set done p x)) (pair p q) r (omega arith) tt
    (record {
      range = and_both (leb p 15) _ (le-leb p 15 (omega arith)) (le-leb q 15 (omega arith));
      fresh = rw here b;
      firm_earlier = refl;
      folder_earlier = refl;
      not_create = ne_eqb q 0 z;
    }))

-- ---- the tables are reached

module _ (t : Tables) (o : OfType t) (g : Given t) where
  firms_reached : (ps : List Person) (os : List Folder) (ks : List Role) (ss : List ℕ)
      → Reached (tables t.mask (replicate 64 no_firm) ps os ks ss) → Reached (tables t.mask t.firms ps os ks ss)
  firms_reached ps os ks ss =
      fill no_firm (λ l. Reached (tables t.mask l ps os ks ss)) t.firms
      (λ k done l n b r.
      let m : k < 64 = omega (arith, o.firms) in firm_next t.mask done ps os ks ss r k m b (firm_at t k) (g.firms k m))
      64 o.firms

  persons_reached : (fs : List Firm) (os : List Folder) (ks : List Role) (ss : List ℕ)
      → Reached (tables t.mask fs (replicate 64 no_person) os ks ss) → Reached (tables t.mask fs t.persons os ks ss)
  persons_reached fs os ks ss =
      fill no_person (λ l. Reached (tables t.mask fs l os ks ss)) t.persons
      (λ k done l n b r.
      let m : k < 64 = omega (arith, o.persons) in
      person_next t.mask fs done os ks ss r k m b (person_at t k) (g.persons k m)
      (o.person_levels _ (member_at t.persons k no_person l)))
      64 o.persons

  -- the folders, each without its mark
  abbrev bare : List Folder
  bare = map unmarked t.folders

  bare_at : (k : ℕ) → get_or bare k no_folder ≡ unmarked (folder_at t k)
  bare_at k = get_or-map unmarked t.folders k no_folder

  folders_reached : (ps : List Person) (ks : List Role) (ss : List ℕ)
      → Reached (tables t.mask t.firms ps (replicate 128 no_folder) ks ss)
      → Reached (tables t.mask t.firms ps bare ks ss)
  folders_reached ps ks ss =
      fill no_folder (λ l. Reached (tables t.mask t.firms ps l ks ss)) bare
      (λ k done l n b r.
      let size : k < length t.folders = rw (length-map t.folders unmarked) at l in
      let m : k < 128 = omega (arith, o.folders) in
      rw (bare_at k)
      (folder_next t t.mask ps done ks ss r k m b (folder_at t k) (g.folders k m)
      (o.folder_levels _ (member_at t.folders k no_folder size))))
      128 (length-map t.folders unmarked ∙ o.folders)

  marks_reached : (ps : List Person) (ks : List Role) (ss : List ℕ)
      → Reached (tables t.mask t.firms ps bare ks ss) → Reached (tables t.mask t.firms ps t.folders ks ss)
  marks_reached ps ks ss =
      change no_folder (λ l. Reached (tables t.mask t.firms ps l ks ss)) bare t.folders
      (λ k done l n b r.
      let m : k < 128 = omega (arith, o.folders) in
      public_next t t.mask ps done ks ss r k m (folder_at t k) (b ∙ bare_at k) (g.folders k m))
      (length-map t.folders unmarked)

  roles_reached : (fs : List Firm) (ps : List Person) (os : List Folder) (ss : List ℕ)
      → Reached (tables t.mask fs ps os (replicate 32 no_role) ss) → Reached (tables t.mask fs ps os t.roles ss)
  roles_reached fs ps os ss =
      fill no_role (λ l. Reached (tables t.mask fs ps os l ss)) t.roles
      (λ k done l n b r.
      let m : k < 32 = omega (arith, o.roles) in
      role_next t.mask fs ps os done ss r k m b (role_at t k) (g.roles k m) (o.rights _ (member_at t.roles k no_role l)))
      32 o.roles

  steps_reached : (fs : List Firm) (ps : List Person) (os : List Folder) (ks : List Role)
      → Reached (tables t.mask fs ps os ks (replicate 16 0)) → Reached (tables t.mask fs ps os ks t.steps)
  unfolding enables
  steps_reached fs ps os ks =
      fill 0 (λ l. Reached (tables t.mask fs ps os ks l)) t.steps
      (λ k done l n b r.
      let m : k < 16 = omega (arith, o.steps) in
      fill_set 16 (enabled_by t k) (λ x. Reached (tables t.mask fs ps os ks (set done k x))) (rw (no_change done k 0 0 b refl) r)
      (λ q x h member other s.
      pair_next t.mask fs ps os ks done k q x m h (n ∙ o.steps)
      (λ (z : q ≡ 0). false_elim _ (g.steps k m) (rw z at member)) other s)
      (o.sets _ (member_at t.steps k 0 l)))
      16 o.steps

  pub given_reached : Reached t
  unfolding declare empty_tables
  given_reached =
      steps_reached t.firms t.persons t.folders t.roles
      (roles_reached t.firms t.persons t.folders (replicate 16 0)
      (marks_reached t.persons (replicate 32 no_role) (replicate 16 0)
      (folders_reached t.persons (replicate 32 no_role) (replicate 16 0)
      (persons_reached t.firms (replicate 128 no_folder) (replicate 32 no_role) (replicate 16 0)
      (firms_reached (replicate 64 no_person) (replicate 128 no_folder) (replicate 32 no_role) (replicate 16 0)
      (reached_first t.mask g.mask))))))

pub gives : Gives
gives t = (
  λ w. let g = given_entries t w.1 in reached_loads t (given_reached t w.0 g) g.no_circle g.no_loose,
  λ w. (rw w.3 at (loaded_type w.0 w.1 w.2), rw w.3 at (loaded_given w.0 w.2)),
)
