-- How long a text of numbers is, from the lengths of the numbers: the line of a request has at most 32 bytes. And what a format prints of two
-- numbers is their text.
use Prim.Native.Nat.{ℕ, ◌+◌, ◌^◌, ◌≤◌, ◌<◌}
use native.Mathlib.Omega.{arith}
use mathlib.Core.Path.{◌≡◌, sym}
use mathlib.Core.List.{List, [], ◌∷◌, ◌++◌, append_assoc}
use Rattle.std.specs.Fmt as Printed
use lib.ListN.{length, length-append}
use Rattle.report.specs.Text.{decimal, line_feed, space, number_then, two_numbers, line}
use Rattle.report.proofs.DecimalLaws.{decimal_length, byte_length, printed}

pub number_then_length : (n : ℕ) (after : List ℕ) → length (number_then n after) ≡ length (decimal n) + length after
unfolding number_then
number_then_length n after = length-append (decimal n) after

pub two_numbers_parts : (a : ℕ) (between : List ℕ) (b : ℕ)
    → length (two_numbers a between b) ≡ length (number_then a between) + length (number_then b line_feed)
unfolding two_numbers
two_numbers_parts a between b = length-append (number_then a between) (number_then b line_feed)

pub two_numbers_length : (a : ℕ) (between : List ℕ) (b : ℕ)
    → length (two_numbers a between b) ≡ length (decimal a) + length between + length (decimal b) + 1
unfolding line_feed
two_numbers_length a between b =
    omega (arith, two_numbers_parts a between b, number_then_length a between, number_then_length b line_feed)

pub line_length : (place number : ℕ) → place < 2 ^ 64 → number < 256 → length (line place number) ≤ 32
unfolding line space
line_length place number p n =
    omega (arith, two_numbers_length place space number, decimal_length place p, byte_length number n)

-- two numbers as a format prints them, with what stands between them
pub two_printed : (a : ℕ) (between : List ℕ) (b : ℕ) → a < 2 ^ 64 → b < 2 ^ 64
    → Printed.decimal a ++ (between ++ (Printed.decimal b ++ 10 ∷ [])) ≡ two_numbers a between b
unfolding two_numbers number_then line_feed
two_printed a between b l m =
    rw (printed a l, printed b m) (sym (append_assoc (decimal a) between (decimal b ++ 10 ∷ [])))
