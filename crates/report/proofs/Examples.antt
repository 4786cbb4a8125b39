-- The text, computed: what each line looks like, and how a buffer that is full leaves the rest of the lines for the next call.
use mathlib.Core.Path.{◌≡◌, refl}
use mathlib.Core.List.{[], ◌∷◌}
use lib.ListN.{length}
use Rattle.report.specs.Text.{digits, decimal, space, line_feed, number_then, two_numbers, line, lines, written}
use Rattle.report.specs.Text.{granted_word, refused_word, totals, book_word, at_word, book_refused, too_long_words, too_long}
use Rattle.report.specs.Put.{fitting}

-- 0, and 1024
zero_is_one_digit : decimal 0 ≡ 48 ∷ []
unfolding decimal digits
zero_is_one_digit = refl

four_digits : decimal 1024 ≡ 49 ∷ 48 ∷ 50 ∷ 52 ∷ []
unfolding decimal digits
four_digits = refl

largest : length (decimal 18446744073709551615) ≡ 20
unfolding decimal digits
largest = refl

-- 1 0, and 2 14
two_lines : lines 1 (0 ∷ 14 ∷ []) ≡ 49 ∷ 32 ∷ 48 ∷ 10 ∷ 50 ∷ 32 ∷ 49 ∷ 52 ∷ 10 ∷ []
unfolding lines line two_numbers number_then decimal digits space line_feed
two_lines = refl

-- granted 1 refused 10
one_granted : totals 1 10
    ≡ 103 ∷ 114 ∷ 97 ∷ 110 ∷ 116 ∷ 101 ∷ 100 ∷ 32 ∷ 49 ∷ 32
    ∷ 114 ∷ 101 ∷ 102 ∷ 117 ∷ 115 ∷ 101 ∷ 100 ∷ 32 ∷ 49 ∷ 48 ∷ 10 ∷ []
unfolding totals granted_word refused_word two_numbers number_then decimal digits line_feed
one_granted = refl

-- book 3 at 25
book_three : book_refused 3 25 ≡ 98 ∷ 111 ∷ 111 ∷ 107 ∷ 32 ∷ 51 ∷ 32 ∷ 97 ∷ 116 ∷ 32 ∷ 50 ∷ 53 ∷ 10 ∷ []
unfolding book_refused book_word at_word two_numbers number_then decimal digits line_feed
book_three = refl

-- too long
input_too_long : too_long ≡ 116 ∷ 111 ∷ 111 ∷ 32 ∷ 108 ∷ 111 ∷ 110 ∷ 103 ∷ 10 ∷ []
unfolding too_long too_long_words line_feed
input_too_long = refl

-- of three lines of four bytes two fit 36 bytes: 36 and 32 bytes are left before them, and 28 before the third
two_fit : fitting 36 1 (0 ∷ 0 ∷ 0 ∷ []) ≡ 2
unfolding fitting line two_numbers number_then decimal digits space line_feed
two_fit = refl

-- 7 in place at 1
in_place : written (1 ∷ 2 ∷ 3 ∷ []) 1 (7 ∷ []) ≡ 1 ∷ 7 ∷ 3 ∷ []
unfolding written
in_place = refl
