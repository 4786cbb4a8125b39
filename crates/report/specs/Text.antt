-- The text that reports the answers, as ASCII bytes: a line for each request, the totals, the refusal of a book, and that of an input that
-- is too long. Each line ends with a line feed, 10.
use Rattle.std.specs.Prelude.{ℕ, zero, suc, ◌+◌, ◌/◌, ◌%◌, cond, List, [], ◌∷◌, ◌++◌, ltb, length, take, drop}

-- the digits of n: one if n is below ten or no turn is left, and else those of n / 10 and the last one
unfoldable pub digits : ℕ → ℕ → List ℕ
digits zero n = (48 + n) ∷ []
digits (suc turns) n =
    let front = digits turns (n / 10) in
    cond (ltb n 10) ((48 + n) ∷ []) (front ++ ((48 + n % 10) ∷ []))

-- n in decimal, with no leading zeros: n turns are always enough
unfoldable pub decimal : ℕ → List ℕ
decimal n = digits n n

-- a space, and the line feed
unfoldable pub space : List ℕ
space = 32 ∷ []

unfoldable pub line_feed : List ℕ
line_feed = 10 ∷ []

-- a number and what follows it
unfoldable pub number_then : ℕ → List ℕ → List ℕ
number_then n after = decimal n ++ after

-- the end of a line: two numbers and what stands between them
unfoldable pub two_numbers : ℕ → List ℕ → ℕ → List ℕ
two_numbers a between b = number_then a between ++ number_then b line_feed

-- the line of the request at a place, counted from 1: the place and the number that answers it
unfoldable pub line : ℕ → ℕ → List ℕ
line place number = two_numbers place space number

-- the lines of numbers, the first of which has this place
unfoldable pub lines : ℕ → List ℕ → List ℕ
lines place [] = []
lines place (number ∷ rest) = line place number ++ lines (suc place) rest

-- "granted ", " refused ", "book ", " at " and "too long"
unfoldable pub granted_word : List ℕ
granted_word = 103 ∷ 114 ∷ 97 ∷ 110 ∷ 116 ∷ 101 ∷ 100 ∷ 32 ∷ []

unfoldable pub refused_word : List ℕ
refused_word = 32 ∷ 114 ∷ 101 ∷ 102 ∷ 117 ∷ 115 ∷ 101 ∷ 100 ∷ 32 ∷ []

unfoldable pub book_word : List ℕ
book_word = 98 ∷ 111 ∷ 111 ∷ 107 ∷ 32 ∷ []

unfoldable pub at_word : List ℕ
at_word = 32 ∷ 97 ∷ 116 ∷ 32 ∷ []

unfoldable pub too_long_words : List ℕ
too_long_words = 116 ∷ 111 ∷ 111 ∷ 32 ∷ 108 ∷ 111 ∷ 110 ∷ 103 ∷ []

-- granted G refused R
unfoldable pub totals : ℕ → ℕ → List ℕ
totals granted refused = granted_word ++ two_numbers granted refused_word refused

-- book N at OFFSET
unfoldable pub book_refused : ℕ → ℕ → List ℕ
book_refused number offset = book_word ++ two_numbers number at_word offset

-- too long
unfoldable pub too_long : List ℕ
too_long = too_long_words ++ line_feed

-- a buffer with the text in place from `at` on
unfoldable pub written : List ℕ → ℕ → List ℕ → List ℕ
written out at text = take at out ++ text ++ drop (at + length text) out
