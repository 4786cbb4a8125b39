-- What the entries at a request's numbers say is what the tables say of its parties: a number in range is its own rest by the length of its
-- array, and one that is out of range is not declared.
use Prim.Native.Nat.{ℕ, ◌%◌, ◌<◌}
use native.Mathlib.Omega.{arith}
use mathlib.Core.Path.{◌≡◌, sym, ap, ap₂, ◌∙◌}
use mathlib.Core.Logic.{⊎_elim}
use mathlib.Core.Bool.{Bool, true, false, ◌&&◌}
use lib.Dec.{ltb}
use borrow.Author.Tests.{ltb-true}
use Rattle.bits.proofs.Booleans.{and_left, and_right, decide}
use Rattle.policy.specs.declared.Tables.{Tables}
use Rattle.policy.specs.Tables.{person_at, folder_at, person_declared, folder_declared}
use Rattle.request.specs.declared.Parsed.{Parsed}
use Rattle.questions.specs.declared.asking.Asked.{Asked}
use Rattle.questions.specs.Asking.{asked_of, InRange, Knows}

-- a test of a number in range and of what stands at its rest is one of what stands at the number
at_rest : (n width : ℕ) (test : ℕ → Bool) → (n < width → n % width ≡ n) → ltb n width && test (n % width) ≡ ltb n width && test n
at_rest n width test own =
    ⊎_elim (λ (y : ltb n width ≡ true). rw (own (ltb-true n width y))) (λ (f : ltb n width ≡ false). rw f) (decide (ltb n width))

pub same_person : (t : Tables) (n : ℕ) → ltb n 64 && (person_at t (n % 64)).declared ≡ person_declared t n
unfolding person_declared
same_person t n = at_rest n 64 (λ i. (person_at t i).declared) (λ l. omega arith)

pub same_folder : (t : Tables) (n : ℕ) → ltb n 128 && (folder_at t (n % 128)).declared ≡ folder_declared t n
unfolding folder_declared
same_folder t n = at_rest n 128 (λ i. (folder_at t i).declared) (λ l. omega arith)

module _ (t : Tables) (r : Parsed) {s o : ℕ} (person : s ≡ r.person) (target : o ≡ r.target) where
  known_is : (ltb s 64 && (person_at t (s % 64)).declared) && (ltb o 128 && (folder_at t (o % 128)).declared)
      ≡ person_declared t r.person && folder_declared t r.target
  known_is = ap₂ ◌&&◌ (same_person t s ∙ ap (person_declared t) person) (same_folder t o ∙ ap (folder_declared t) target)

  pub asked_in_range : InRange (asked_of s o (person_at t (s % 64)) (person_at t (o % 64)) (folder_at t (o % 128))) r
  unfolding asked_of
  asked_in_range =
      record {
        both =
            λ e.
            let a = ltb-true s 64 (and_left (ltb s 64) _ (and_left (ltb s 64 && (person_at t (s % 64)).declared) _ e)) in
            let b = ltb-true o 128 (and_left (ltb o 128) _ (and_right (ltb s 64 && (person_at t (s % 64)).declared) _ e)) in
            (omega (arith, person), omega (arith, target));
        two =
            λ e.
            let a = ltb-true s 64 (and_left (ltb s 64) _ (and_left (ltb s 64 && (person_at t (s % 64)).declared) _ e)) in
            let b = ltb-true o 64 (and_left (ltb o 64) _ (and_right (ltb s 64 && (person_at t (s % 64)).declared) _ e)) in
            (omega (arith, person), omega (arith, target));
      }

  pub asked_knows : Knows t (asked_of s o (person_at t (s % 64)) (person_at t (o % 64)) (folder_at t (o % 128))) r
  unfolding asked_of
  asked_knows =
      record {
        both = known_is;
        entry =
            λ e.
            let b = ltb-true o 128 (and_left (ltb o 128) _ (and_right (ltb s 64 && (person_at t (s % 64)).declared) _ e)) in
            let own : o % 128 ≡ r.target = omega (arith, target) in
            rw own;
        two = ap₂ ◌&&◌ (same_person t s ∙ ap (person_declared t) person) (same_person t o ∙ ap (person_declared t) target);
      }

-- ---- the parties, by what was asked

module _ {t : Tables} {asked : Asked} {r : Parsed} {s o : ℕ} (knows : Knows t asked r) (person : s ≡ r.person) (target : o ≡ r.target)
  where
    pub both_known : asked.known ≡ true → (person_declared t s ≡ true) × (folder_declared t o ≡ true)
    both_known declares =
        let all = sym knows.both ∙ declares in
        (rw person (and_left (person_declared t r.person) _ all), rw target (and_right (person_declared t r.person) _ all))

    pub entry_known : asked.known ≡ true → asked.folder ≡ folder_at t o
    entry_known declares = rw target (knows.entry declares)

    pub not_both : asked.known ≡ false → person_declared t s && folder_declared t o ≡ false
    not_both n = rw (person, target) (sym knows.both ∙ n)

    pub two_known : asked.persons ≡ true → (person_declared t s ≡ true) × (person_declared t o ≡ true)
    two_known declares =
        let all = sym knows.two ∙ declares in
        (rw person (and_left (person_declared t r.person) _ all), rw target (and_right (person_declared t r.person) _ all))

    pub not_two : asked.persons ≡ false → person_declared t s && person_declared t o ≡ false
    not_two n = rw (person, target) (sym knows.two ∙ n)
