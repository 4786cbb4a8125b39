-- What the test for tables that a load gives says of each entry: it is blank, or declared and in range. The test joins eight others by
-- "and"; they are taken apart, and then each entry's own test by whether it is declared.
use Prim.Native.Nat.{ℕ, ◌≤◌, ◌<◌}
use mathlib.Core.Path.{◌≡◌, ap}
use mathlib.Core.Logic.{◌⊎◌, inl, inr, ⊎_elim}
use mathlib.Core.Bool.{Bool, true, false, not, ◌&&◌}
use native.Mathlib.Omega.{arith}
use lib.Dec.{eqb, leb, ltb}
use borrow.Author.Tests.{leb-true, ltb-true, lt-ltb, eqb-true, not-true}
use Rattle.bits.proofs.Booleans.{and_left, and_right, and_both, decide, false_elim}
use Rattle.bits.specs.Bounded.{all_below}
use Rattle.bits.proofs.Bounds.{all_at}
use Rattle.policy.specs.declared.Firm.{Firm}
use Rattle.policy.specs.declared.Person.{Person}
use Rattle.policy.specs.declared.Folder.{Folder}
use Rattle.policy.specs.declared.Role.{Role}
use Rattle.policy.specs.declared.Tables.{Tables}
use Rattle.policy.specs.Tables.{
  no_firm,
  no_person,
  no_folder,
  no_role,
  firm_at,
  person_at,
  folder_at,
  role_at,
  enables,
  firm_declared,
  person_declared,
  folder_declared,
}
use Rattle.policy.specs.Rulebook.{
  has_circle,
  has_loose,
  firm_given,
  person_given,
  folder_given,
  role_given,
  given,
}

-- ---- what the test says of each entry

pub record Given (t : Tables) : Type 0 where
  pub mask : t.mask ≤ 15
  pub firms : (f : ℕ) → f < 64 → firm_given (firm_at t f) ≡ true
  pub persons : (s : ℕ) → s < 64 → person_given (person_at t s) ≡ true
  pub folders : (o : ℕ) → o < 128 → folder_given t (folder_at t o) ≡ true
  pub roles : (k : ℕ) → k < 32 → role_given (role_at t k) ≡ true
  pub steps : (p : ℕ) → p < 16 → enables t p 0 ≡ false
  pub no_circle : has_circle t ≡ false
  pub no_loose : has_loose t ≡ false

eight_tests : (a b c d e f g h : Bool) → a && b && c && d && e && f && g && h ≡ true
    → (a ≡ true) × (b ≡ true) × (c ≡ true) × (d ≡ true) × (e ≡ true) × (f ≡ true) × (g ≡ true) × (h ≡ true)
eight_tests a b c d e f g h all =
    let seven = and_left (a && b && c && d && e && f && g) h all in
    let six = and_left (a && b && c && d && e && f) g seven in
    let five = and_left (a && b && c && d && e) f six in
    let four = and_left (a && b && c && d) e five in
    let three = and_left (a && b && c) d four in
    let two = and_left (a && b) c three in (
      and_left a b two,
      and_right a b two,
      and_right (a && b) c three,
      and_right (a && b && c) d four,
      and_right (a && b && c && d) e five,
      and_right (a && b && c && d && e) f six,
      and_right (a && b && c && d && e && f) g seven,
      and_right (a && b && c && d && e && f && g) h all,
    )

pub given_entries : (t : Tables) → given t ≡ true → Given t
unfolding given
given_entries t g =
    let (mask, firms, persons, folders, roles, steps, circle, loose) =
    eight_tests (leb t.mask 15) (all_below 64 (λ f. firm_given (firm_at t f))) (all_below 64 (λ s. person_given (person_at t s)))
    (all_below 128 (λ o. folder_given t (folder_at t o))) (all_below 32 (λ k. role_given (role_at t k)))
    (all_below 16 (λ p. not (enables t p 0))) (not (has_circle t)) (not (has_loose t)) g in
    record {
      mask = leb-true t.mask 15 mask;
      firms = all_at 64 (λ f. firm_given (firm_at t f)) firms;
      persons = all_at 64 (λ s. person_given (person_at t s)) persons;
      folders = all_at 128 (λ o. folder_given t (folder_at t o)) folders;
      roles = all_at 32 (λ k. role_given (role_at t k)) roles;
      steps = λ p l. not-true _ (all_at 16 (λ p. not (enables t p 0)) steps p l);
      no_circle = not-true _ circle;
      no_loose = not-true _ loose;
    }

-- ---- a declared folder

module _ (t : Tables) (ok : given t ≡ true) (o : ℕ) (known : folder_declared t o ≡ true) where
  folder_given_lem : firm_declared t (folder_at t o).firm && leb (folder_at t o).kind 15 ≡ true
  unfolding folder_declared folder_given
  folder_given_lem =
      let below = ltb-true o 128 (and_left (ltb o 128) _ known) in
      let marked = and_right (ltb o 128) (folder_at t o).declared known in
      rw marked at ((given_entries t ok).folders o below)

  -- its firm is declared, and its kind at most 15
  pub folder_firm : (folder_at t o).firm < 64
  unfolding firm_declared
  folder_firm =
      ltb-true (folder_at t o).firm 64
      (and_left (ltb (folder_at t o).firm 64) _ (and_left (firm_declared t (folder_at t o).firm) _ folder_given_lem))

  pub folder_kind : (folder_at t o).kind < 16
  folder_kind =
      let l = leb-true (folder_at t o).kind 15 (and_right (firm_declared t (folder_at t o).firm) _ folder_given_lem) in omega arith

-- ---- an undeclared folder is not public

pub undeclared_unmarked : (t : Tables) (e : Folder) → folder_given t e ≡ true → e.declared ≡ false → e.public ≡ false
unfolding folder_given
undeclared_unmarked t e g d =
    let h : eqb e.firm 0 && eqb e.kind 0 && eqb e.level.0 0 && not e.public ≡ true = rw d at g in
    not-true e.public (and_right (eqb e.firm 0 && eqb e.kind 0 && eqb e.level.0 0) _ h)

-- ---- an entry is blank, or declared and in range

pub firm_cases : (e : Firm) → firm_given e ≡ true
    → (e ≡ no_firm) ⊎ ((e ≡ record { declared = true; class = e.class }) × (leb e.class 31 ≡ true))
unfolding firm_given
firm_cases e g =
    ⊎_elim (λ d. let h : leb e.class 31 ≡ true = rw d at g in inr (rw (← d), h))
    (λ d.
    let h : eqb e.class 0 ≡ true = rw d at g in
    let z = eqb-true e.class 0 h in
    let q : record { declared = e.declared; class = e.class } ≡ no_firm = cc in
    inl q)
    (decide e.declared)

pub person_cases : (e : Person) → person_given e ≡ true → (e ≡ no_person) ⊎ (e ≡ record { declared = true; level = e.level })
unfolding person_given
person_cases e g =
    ⊎_elim (λ d. inr (rw (← d)))
    (λ d.
    let h : eqb e.level.0 0 ≡ true = rw d at g in
    let z = eqb-true e.level.0 0 h in
    let q : record { declared = e.declared; level = record { 0 = e.level.0 } } ≡ no_person = cc in
    inl q)
    (decide e.declared)

-- the first level of an undeclared person is zero
pub undeclared_person : (t : Tables) (s : ℕ) → given t ≡ true → s < 64 → person_declared t s ≡ false → (person_at t s).level.0 ≡ 0
unfolding person_declared
undeclared_person t s ok below none-declared =
    ⊎_elim (λ e. ap (λ (x : Person). x.level.0) e)
    (λ e.
    let marked : (person_at t s).declared ≡ true = ap (λ (x : Person). x.declared) e in
    absurd (false_elim (ltb s 64 && (person_at t s).declared) none-declared (and_both _ _ (lt-ltb s 64 below) marked)))
    (person_cases (person_at t s) ((given_entries t ok).persons s below))

pub folder_cases : (t : Tables) (e : Folder) → folder_given t e ≡ true
    → (e ≡ no_folder)
    ⊎ ((e ≡ record { declared = true; firm = e.firm; kind = e.kind; level = e.level; public = e.public })
    × (firm_declared t e.firm ≡ true) × (leb e.kind 15 ≡ true))
unfolding folder_given
folder_cases t e g =
    ⊎_elim
    (λ d.
    let h : firm_declared t e.firm && leb e.kind 15 ≡ true = rw d at g in
    inr (rw (← d), and_left (firm_declared t e.firm) _ h, and_right (firm_declared t e.firm) _ h))
    (λ d.
    let h : eqb e.firm 0 && eqb e.kind 0 && eqb e.level.0 0 && not e.public ≡ true = rw d at g in
    let three = and_left (eqb e.firm 0 && eqb e.kind 0 && eqb e.level.0 0) _ h in
    let two = and_left (eqb e.firm 0 && eqb e.kind 0) _ three in
    let x = eqb-true e.firm 0 (and_left (eqb e.firm 0) _ two) in
    let y = eqb-true e.kind 0 (and_right (eqb e.firm 0) _ two) in
    let z = eqb-true e.level.0 0 (and_right (eqb e.firm 0 && eqb e.kind 0) _ three) in
    let m = undeclared_unmarked t e g d in
    let q :
    record { declared = e.declared; firm = e.firm; kind = e.kind; level = record { 0 = e.level.0 }; public = e.public } ≡ no_folder =
    cc in
    inl q)
    (decide e.declared)

pub role_cases : (e : Role) → role_given e ≡ true → (e ≡ no_role) ⊎ (e ≡ record { declared = true; rights = e.rights })
unfolding role_given
role_cases e g =
    ⊎_elim (λ d. inr (rw (← d)))
    (λ d.
    let h : eqb e.rights 0 ≡ true = rw d at g in
    let z = eqb-true e.rights 0 h in
    let q : record { declared = e.declared; rights = e.rights } ≡ no_role = cc in
    inl q)
    (decide e.declared)
