-- The steps that may be next, as one set: a step that leads to others adds all that it enables, and "create", step 0, is in the set exactly
-- where no step is done.
use Prim.Native.Nat.{ℕ, zero, suc, ◌+◌, ◌%◌, ◌^◌, ◌<◌}
use native.Mathlib.Nat.{lt_of_le_of_lt}
use native.Mathlib.Omega.{arith}
use mathlib.Core.Path.{◌≡◌, refl, sym, ap, ap₂, ◌∙◌}
use mathlib.Core.Bool.{Bool, true, false, ◌&&◌, and-true, and-false}
use mathlib.Core.List.{List}
use lib.Bits.{bit_and, bit_or, and_le_l}
use lib.Dec.{eqb, lit<}
use lib.ListN.{get_or}
use borrow.Author.Tests.{ne_eqb}
use Rattle.bits.specs.Bits.{bit, mask_below}
use Rattle.bits.specs.Bounded.{any_below, all_below}
use Rattle.bits.proofs.BitLaws.{bit_and_lem, bit_zero, bit_pow}
use Rattle.bits.proofs.Booleans.{and_left, and_right}
use Rattle.bits.proofs.Bounds.{any_start, any_more, none_any, all_at}
use Rattle.bits.proofs.Masks.{mask_lt, mask_none, mask_of_bits, mask_ext, mask_or, bit_mask_below}
use Rattle.pipeline.specs.Steps.{leads, leads_among, pipeline_in}

-- ---- one step

module _ (enabled done p : ℕ) where
  pub led_some : enabled < 2 ^ 16 → bit done (p % 16) && eqb (bit_and enabled done) 0 ≡ true → enabled ≡ mask_below 16 (leads enabled done p)
  unfolding leads
  led_some fits t =
      mask_of_bits 16 enabled _ fits (λ q l.
      let own : q % 16 ≡ q = omega arith in
      rw (own, and_left (bit done (p % 16)) _ t, and_right (bit done (p % 16)) _ t) (sym (and-true (bit enabled q))))

  pub led_none : bit done (p % 16) && eqb (bit_and enabled done) 0 ≡ false → 0 ≡ mask_below 16 (leads enabled done p)
  unfolding leads
  led_none t = sym (mask_none 16 _ (λ q l. neither (bit done (p % 16)) (bit enabled (q % 16)) (eqb (bit_and enabled done) 0) t))
    where
      neither : (a b e : Bool) → a && e ≡ false → a && b && e ≡ false
      neither true true e h = h
      neither true false e h = refl
      neither false b e h = refl

-- ---- all steps

-- the mask has the steps from 1 on, and not step 0
lowest_out : bit 65534 0 ≡ false
unfolding bit
lowest_out = refl

others_in : all_below 15 (λ q. bit 65534 (suc q)) ≡ true
unfolding all_below bit
others_in = refl

module _ (steps : List ℕ) (done : ℕ) where
  -- the steps to which one of the steps below p leads
  unfoldable pub next_below : ℕ → ℕ
  next_below p = mask_below 16 (λ q. any_below p (leads_among steps done q))

  pub next_start : 0 ≡ next_below 0
  unfolding next_below
  next_start = sym (mask_none 16 _ (λ q l. any_start (leads_among steps done q)))

  pub next_more : (p : ℕ) {next led : ℕ} → next ≡ next_below p → led ≡ mask_below 16 (leads (get_or steps p 0) done p)
      → bit_or next led ≡ next_below (p + 1)
  unfolding next_below leads_among
  next_more p before here =
      ap₂ bit_or before here ∙ mask_or 16 _ _ ∙ mask_ext 16 _ _ (λ q l. sym (any_more p (leads_among steps done q)))

  none_each : done ≡ 0 → (q : ℕ) → q < 16 → bit 1 q ≡ pipeline_in steps done q
  unfolding pipeline_in leads_among leads
  none_each none zero l = bit_pow 0 0 ∙ rw none
  none_each none (suc q) l =
      bit_pow 0 (suc q) ∙ rw (ne_eqb (suc q) 0 (omega arith)) (sym (none_any 16 _ (λ p m. rw (none, bit_zero (p % 16)))))

  pub next_none : done ≡ 0 → 1 ≡ mask_below 16 (pipeline_in steps done)
  next_none none = mask_of_bits 16 1 _ (lit< tt) (none_each none)

  some_each : (done ≡ 0 → ⊥) → (q : ℕ) → q < 16 → any_below 16 (leads_among steps done q) && bit 65534 q ≡ pipeline_in steps done q
  unfolding pipeline_in
  some_each some zero l = rw (lowest_out, ne_eqb done 0 some) (and-false (any_below 16 (leads_among steps done 0)))
  some_each some (suc q) l =
      rw (all_at 15 (λ q. bit 65534 (suc q)) others_in q (omega arith), ne_eqb (suc q) 0 (omega arith))
      (and-true (any_below 16 (leads_among steps done (suc q))))

  pub next_all : {next : ℕ} → (done ≡ 0 → ⊥) → next ≡ next_below 16 → bit_and next 65534 ≡ mask_below 16 (pipeline_in steps done)
  unfolding next_below
  next_all {next} some found =
      mask_of_bits 16 _ _ (lt_of_le_of_lt (and_le_l next 65534) (rw found (mask_lt 16 _))) (λ q l.
      bit_and_lem next 65534 q ∙ ap (λ (n : ℕ). bit n q && bit 65534 q) found
      ∙ ap (λ (b : Bool). b && bit 65534 q) (bit_mask_below 16 (λ q. any_below 16 (leads_among steps done q)) q l) ∙ some_each some q l)
