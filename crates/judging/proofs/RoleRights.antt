-- The roles over the rights that a person used: those of reads and writes, of steps and of starts. A role that holds more rights holds
-- fewer, so that the steps need not be known where no role holds the rights found without steps, or one holds them with all; and where one
-- holds those found, they are the whole.
use Prim.Native.Nat.{ℕ, zero, suc, ◌+◌, ◌*◌, ◌-◌, ◌%◌, ◌^◌, ◌<◌}
use native.Mathlib.Nat.{mul_comm, pow-suc}
use native.Mathlib.Omega.{arith}
use mathlib.Core.Path.{◌≡◌, refl, sym, ap, ap₂, ◌∙◌}
use mathlib.Core.Logic.{⊎_elim}
use mathlib.Core.Bool.{Bool, true, false, cond}
use mathlib.Core.List.{List}
use lib.Bits.{bit_or}
use lib.Dec.{eqb, ltb, lit<}
use lib.ListN.{get_or}
use lib.Pow.{pow_pos}
use borrow.Author.Tests.{eqb-true, eq-eqb}
use Rattle.bits.specs.Bits.{bit, with_bit, mask_below}
use Rattle.bits.proofs.Booleans.{or_cases, or_left, or_right, false_elim, false_intro}
use Rattle.bits.proofs.Bounds.{any_some, some_any}
use Rattle.bits.proofs.BitLaws.{bit_or_lem, bit_with, bit_zero, bit_below, bit_above, subset_bit, bit_subset}
use Rattle.bits.proofs.Masks.{mask_lt, bit_mask_below}
use Rattle.policy.specs.declared.Tables.{Tables}
use Rattle.policy.specs.Tables.{person_declared}
use Rattle.policy.specs.Rulebook.{given}
use Rattle.policy.specs.Request.{Request, subject, set_of}
use Rattle.policy.specs.Rules.{declared, right, used, roles}
use Rattle.past.specs.Found.{Within, FoundOf}
use Rattle.recorded.specs.Gathering.{applied_at}
use Rattle.past.specs.Past.{rights_below}
use Rattle.recorded.specs.Recorded.{with_bit_if, started}
use Rattle.past.specs.Turns.{rights_with}
use Rattle.past.proofs.FoundLaws.{within_self, within_trans, within_added, found_held}
use Rattle.past.proofs.Gathered.{rights_whole}
use Rattle.recorded.proofs.GatheringLaws.{sixteen}
use Rattle.rules.specs.Sets.{HasRoles, covers, roles_in}
use Rattle.rules.proofs.SetLaws.{roles_in_lem}
use Rattle.questions.specs.Judging.{RolesPermit}

-- ---- sets within sets

-- some width holds n
power_above : (n : ℕ) → n < 2 ^ n
power_above zero = lit< tt
power_above (suc n) = let h = power_above n in omega (arith, pow-suc 2 n)

module _ {a b : ℕ} (sub : Within a b) where
  within_with : (x : ℕ) → Within (with_bit a x) (with_bit b x)
  within_with x =
      record {
        member =
            λ k e.
            bit_with b x k
            ∙ ⊎_elim (λ own. or_left (eqb k x) _ own) (λ old. or_right (eqb k x) _ (sub.member k old))
            (or_cases (eqb k x) _ (sym (bit_with a x k) ∙ e));
      }

  within_with_if : (add : Bool) (x : ℕ) → Within (with_bit_if add a x) (with_bit_if add b x)
  within_with_if true x = within_with x
  within_with_if false x = sub

  within_or : {c d : ℕ} → Within c d → Within (bit_or a c) (bit_or b d)
  within_or {c} {d} other =
      record {
        member =
            λ k e.
            bit_or_lem b d k
            ∙ ⊎_elim (λ one. or_left (bit b k) _ (sub.member k one)) (λ two. or_right (bit b k) _ (other.member k two))
            (or_cases (bit a k) _ (sym (bit_or_lem a c k) ∙ e));
      }

  within_shifted : (w : ℕ) → Within (a * 2 ^ w) (b * 2 ^ w)
  within_shifted w = record { member = λ k e. sym (shifted b k) ∙ go k (ltb k w) (shifted a k ∙ e) }
    where
      shifted : (n k : ℕ) → cond (ltb k w) (bit 0 k) (bit n (k - w)) ≡ bit (n * 2 ^ w) k
      shifted n k =
          let same : 0 + 2 ^ w * n ≡ n * 2 ^ w = omega (arith, mul_comm n (2 ^ w)) in
          sym (bit_above w 0 n k (pow_pos w)) ∙ ap (λ (m : ℕ). bit m k) same

      go : (k : ℕ) (low : Bool) → cond low (bit 0 k) (bit a (k - w)) ≡ true → cond low (bit 0 k) (bit b (k - w)) ≡ true
      go k true e = e
      go k false e = sub.member (k - w) e

  -- rights that hold the larger set hold the smaller one
  fewer_held : (own : List ℕ) → roles_in own b ≡ true → roles_in own a ≡ true
  unfolding roles_in covers
  fewer_held own e =
      let (k, l, c) = any_some 32 (λ k. covers (get_or own k 0) b) e in
      let rights = get_or own k 0 in
      some_any 32 (λ k. covers (get_or own k 0) a) k l
      (eq-eqb _ _ (bit_subset a a rights (power_above a) (λ j m s. subset_bit b rights j (eqb-true _ _ c) (sub.member j s))))

within_none : (n : ℕ) → Within 0 n
within_none n = record { member = λ k e. absurd (false_elim (bit 0 k) (bit_zero k) e) }

within_all : (p : ℕ → Bool) → Within (mask_below 16 p) 65535
within_all p =
    record {
      member =
          λ k e.
          let l = bit_below 16 (mask_below 16 p) k (mask_lt 16 p) e in ap (λ (n : ℕ). bit n k) sixteen ∙ bit_mask_below 16 (λ p. true) k l;
    }

-- ---- the rights of a person and a new one

module _ (t : Tables) (h : List ℕ) (s : ℕ) (ok : given t ≡ true) (person : person_declared t s ≡ true) {own : List ℕ}
    (has : HasRoles t own) {persons : ℕ} {starts : Bool} (all : persons ≡ mask_below 64 (person_declared t))
    (begins : starts ≡ started persons h s) (x : ℕ) where
  -- the rights of reads and writes
  abbrev whole : ℕ
  whole = rights_below t (set_of h) s 128

  abbrev wanted : ℕ → ℕ → ℕ
  wanted rights steps = with_bit (rights_with rights steps starts) (x % 64)

  wanted_within : {a b c d : ℕ} → Within a b → Within c d → Within (wanted a c) (wanted b d)
  unfolding rights_with
  wanted_within fewer earlier = within_with (within_with_if (within_or fewer (within_shifted earlier 48)) starts 32) (x % 64)

  -- with all of them and the steps that the person applied, the roles are those of the definitions
  roles_say_lem : {accesses steps : ℕ} → accesses ≡ whole → steps ≡ mask_below 16 (applied_at t h s)
      → (r : Request) → declared t r ≡ true → subject r ≡ s → x ≡ right t r → roles_in own (wanted accesses steps) ≡ roles t (set_of h) r
  roles_say_lem {accesses} {steps} reads applied r d e f =
      let sum : rights_with accesses steps starts ≡ mask_below 64 (used t (set_of h) s) =
      rw (reads, begins) (rights_whole t h s person all applied) in
      roles_in_lem t (set_of h) s ok r d e own _ has (ap₂ (λ (u v : ℕ). with_bit u (v % 64)) sum f)

  -- no role holds those found without steps
  pub least_refused : {accesses : ℕ} → Within accesses whole → roles_in own (wanted accesses 0) ≡ false
      → RolesPermit t (set_of h) s x false
  least_refused {accesses} found none r d e f =
      sym
      (false_intro (roles t (set_of h) r) (λ y.
      false_elim (roles_in own (wanted accesses 0)) none
      (fewer_held (wanted_within found (within_none (mask_below 16 (applied_at t h s)))) own (roles_say_lem refl refl r d e f ∙ y))))

  -- a role holds them without steps: they are the whole
  least_held : {accesses : ℕ} → FoundOf own (x % 64) whole accesses → roles_in own (wanted accesses 0) ≡ true → accesses ≡ whole
  unfolding rights_with
  least_held {accesses} found some =
      let joined : Within accesses (bit_or accesses (0 * 2 ^ 48)) =
      record { member = λ k e. bit_or_lem accesses (0 * 2 ^ 48) k ∙ or_left (bit accesses k) _ e } in
      found_held found (fewer_held (within_with (within_trans joined (within_added starts _ 32)) (x % 64)) own some)

  -- and one holds them with all steps
  pub most_held : {accesses : ℕ} → FoundOf own (x % 64) whole accesses → roles_in own (wanted accesses 0) ≡ true
      → roles_in own (wanted accesses 65535) ≡ true → RolesPermit t (set_of h) s x true
  most_held {accesses} found least most r d e f =
      sym (fewer_held (wanted_within (within_self accesses) (within_all (applied_at t h s))) own most)
      ∙ roles_say_lem (least_held found least) refl r d e f

  -- or it depends on the steps that the person applied
  pub applied_decide : {accesses steps : ℕ} {answer : Bool} → FoundOf own (x % 64) whole accesses → roles_in own (wanted accesses 0) ≡ true
      → steps ≡ mask_below 16 (applied_at t h s) → answer ≡ roles_in own (wanted accesses steps) → RolesPermit t (set_of h) s x answer
  applied_decide found least applied asked r d e f = asked ∙ roles_say_lem (least_held found least) applied r d e f
