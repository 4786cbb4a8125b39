-- The digits of a number: those of a tenth of it and the last one. A number below a power of ten has at most so many digits, so that one
-- of 64 bits has at most 20 and a byte at most 3.
use Prim.Native.Nat.{ℕ, zero, suc, ◌+◌, ◌/◌, ◌%◌, ◌^◌, ◌≤◌, ◌<◌}
use native.Mathlib.Nat.{pow-succ', lt_trans}
use native.Mathlib.Omega.{arith}
use mathlib.Core.Path.{◌≡◌, refl, sym, ap, ◌∙◌}
use mathlib.Core.Logic.{◌⊎◌, inl, inr, ⊎_elim}
use mathlib.Core.List.{List, [], ◌∷◌, ◌++◌}
use mathlib.Core.Bool.{Bool, true, false}
use lib.Dec.{ltb, lit<}
use lib.ListN.{length, length-append}
use borrow.Author.Tests.{lt-ltb, le-ltb, ltb-true, ltb-false}
use Rattle.std.specs.Fmt as Printed
use Rattle.std.proofs.lemmas.Fmt.{decimal_by_steps}
use Rattle.report.specs.Text.{digits, decimal}

tested : (n : ℕ) (b : Bool) → ltb n 10 ≡ b → (n < 10) ⊎ (10 ≤ n)
tested n true e = inl (ltb-true n 10 e)
tested n false e = inr (ltb-false n 10 e)

one_digit_or_more : (n : ℕ) → (n < 10) ⊎ (10 ≤ n)
one_digit_or_more n = tested n (ltb n 10) refl

digits_small : (turns n : ℕ) → n < 10 → digits turns n ≡ (48 + n) ∷ []
unfolding digits
digits_small zero n l = refl
digits_small (suc turns) n l = rw (lt-ltb n 10 l)

digits_more : (turns n : ℕ) → 10 ≤ n → digits (suc turns) n ≡ digits turns (n / 10) ++ ((48 + n % 10) ∷ [])
unfolding digits
digits_more turns n l = rw (le-ltb n 10 l)

-- n turns are enough: more of them change nothing
digits_same : (f g n : ℕ) → n ≤ f → n ≤ g → digits f n ≡ digits g n
digits_same zero g n a b = digits_small zero n (omega arith) ∙ sym (digits_small g n (omega arith))
digits_same (suc f) zero n a b = digits_small (suc f) n (omega arith) ∙ sym (digits_small zero n (omega arith))
digits_same (suc f) (suc g) n a b =
    ⊎_elim (λ l. digits_small (suc f) n l ∙ sym (digits_small (suc g) n l))
    (λ l. digits_more f n l
    ∙ ap (λ (s : List ℕ). s ++ ((48 + n % 10) ∷ [])) (digits_same f g (n / 10) (omega arith) (omega arith))
    ∙ sym (digits_more g n l)) (one_digit_or_more n)

pub decimal_small : (n : ℕ) → n < 10 → decimal n ≡ (48 + n) ∷ []
unfolding decimal
decimal_small n l = digits_small n n l

pub decimal_more : (n : ℕ) → 10 ≤ n → decimal n ≡ decimal (n / 10) ++ ((48 + n % 10) ∷ [])
unfolding decimal
decimal_more n l =
    digits_same n (suc n) n (omega arith) (omega arith) ∙ digits_more n n l
    ∙ ap (λ (s : List ℕ). s ++ ((48 + n % 10) ∷ [])) (digits_same n (n / 10) (n / 10) (omega arith) (omega arith))

pub decimal_more_length : (n : ℕ) → 10 ≤ n → length (decimal n) ≡ length (decimal (n / 10)) + 1
decimal_more_length n l = ap length (decimal_more n l) ∙ length-append (decimal (n / 10)) _

-- ---- how many digits

digits_longer : (k turns n : ℕ) → 10 ≤ n → length (digits turns (n / 10)) ≤ k → length (digits (suc turns) n) ≤ suc k
digits_longer k turns n m fewer =
    rw (digits_more turns n m, length-append (digits turns (n / 10)) ((48 + n % 10) ∷ [])) (omega arith)

digits_length : (k turns n : ℕ) → n < 10 ^ suc k → length (digits turns n) ≤ suc k
unfolding digits
digits_length k zero n l = omega arith
digits_length zero (suc turns) n l = rw (digits_small (suc turns) n (omega arith)) (omega arith)
digits_length (suc k) (suc turns) n l =
    ⊎_elim (λ s. rw (digits_small (suc turns) n s) (omega arith))
    (λ m. digits_longer (suc k) turns n m (digits_length k turns (n / 10) (omega (arith, pow-succ' 10 (suc k)))))
    (one_digit_or_more n)

pub decimal_length : (n : ℕ) → n < 2 ^ 64 → length (decimal n) ≤ 20
unfolding decimal
decimal_length n l = digits_length 19 n n (lt_trans l (lit< tt))

pub byte_length : (n : ℕ) → n < 256 → length (decimal n) ≤ 3
unfolding decimal
byte_length n l = digits_length 2 n n (lt_trans l (lit< tt))

-- ---- what a format prints of a number

pub printed : (n : ℕ) → n < 2 ^ 64 → Printed.decimal n ≡ decimal n
printed n l =
    decimal_by_steps (λ (k : ℕ) (ds : List ℕ). ds ≡ decimal k) (λ k small. sym (decimal_small k small))
    (λ k ds more front. ap (λ (s : List ℕ). s ++ ((48 + k % 10) ∷ [])) front ∙ sym (decimal_more k more)) n l
