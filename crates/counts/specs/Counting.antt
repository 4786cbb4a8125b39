-- What the code on the counts of a tally computes (document 02, Point 7): one more at a firm and a number, and one more for each request
-- that is read.
use Rattle.std.specs.Prelude.{ℕ, ◌+◌, ◌*◌, cond, List, [], ◌∷◌, ltb, get_or, set}
use Rattle.policy.specs.declared.Tables.{Tables}
use Rattle.policy.specs.Request.{request_of}
use Rattle.policy.specs.Tallies.{counted_under, raised}

-- the counts with the one of firm f and number n raised, which stands at 32 * f + n
unfoldable pub raised_at : List ℕ → ℕ → ℕ → List ℕ
raised_at counts f n = set counts (32 * f + n) (raised (get_or counts (32 * f + n) 0))

-- the same, and nothing changes for a firm above 64 or a number above 31
unfoldable pub with_one : List ℕ → ℕ → ℕ → List ℕ
with_one counts f n = cond (ltb 64 f) counts (cond (ltb 31 n) counts (raised_at counts f n))

-- the counts with one more for each of the requests read, which have these numbers
unfoldable pub with_requests : Tables → List (List ℕ) → List ℕ → List ℕ → List ℕ
with_requests t [] numbers counts = counts
with_requests t (bytes ∷ calls) [] counts = counts
with_requests t (bytes ∷ calls) (number ∷ numbers) counts =
    with_requests t calls numbers (with_one counts (counted_under t (request_of bytes)) number)
