-- The month's tally (document 02, Point 7): a run over 2,080 counts, one for each of the firms 0 to 63 and no firm, 64, and each number from
-- 0 to 31. What the call returns, and every lent byte and count afterwards.
use Rattle.std.specs.Prelude.{ℕ, zero, suc, ◌+◌, ◌/◌, ◌%◌, cond, ◌&&◌, List, [], ◌∷◌, ◌++◌, eqb, length}
use Rattle.std.proofs.Math.Option.{Option, none, some}
use Rattle.policy.specs.declared.Tables.{Tables}
use Rattle.policy.specs.declared.Ran.{Ran}
use Rattle.policy.specs.Checks.{◌else◌, ladder}
use Rattle.policy.specs.Tables.{folder_at, folder_declared}
use Rattle.policy.specs.Request.{Request, read, write, start, step, request_of}
use Rattle.policy.specs.Calls.{State, call_checks, put_numbers, put_states, calls_of, granted_in, refused_in}

-- the counts of a tally; the count of firm f and number n stands at 32 * f + n
abbrev pub tally_cells : ℕ
tally_cells = 2080

-- the number of "no firm"
abbrev pub without_firm : ℕ
without_firm = 64

-- the firm of a declared folder; none of an undeclared one
unfoldable pub firm_of : Tables → ℕ → ℕ
firm_of t o = cond (folder_declared t o) (folder_at t o).firm without_firm

-- the firm that a request read is counted under, whoever makes it; none for a start and for an unknown or cut record
unfoldable pub counted_under : Tables → Option Request → ℕ
counted_under t none = without_firm
counted_under t (some (read s o)) = firm_of t o
counted_under t (some (write s o)) = firm_of t o
counted_under t (some (start s u)) = without_firm
counted_under t (some (step s p o)) = firm_of t o

-- how many of the requests read, which have these numbers, are of a firm with an answer
unfoldable pub count_in : Tables → List (List ℕ) → List ℕ → ℕ → ℕ → ℕ
count_in t [] numbers f n = 0
count_in t (bytes ∷ calls) [] f n = 0
count_in t (bytes ∷ calls) (number ∷ numbers) f n =
    cond (eqb (counted_under t (request_of bytes)) f && eqb number n) 1 0 + count_in t calls numbers f n

-- a count with one more, and with m more: at its largest, 2 ^ 64 - 1, it stays
abbrev pub largest_count : ℕ
largest_count = 18446744073709551615

unfoldable pub raised : ℕ → ℕ
raised count = cond (eqb count largest_count) count (count + 1)

unfoldable pub raised_by : ℕ → ℕ → ℕ
raised_by count zero = count
raised_by count (suc m) = raised (raised_by count m)

-- each of the counts, the first of which stands at k, with as many more as its firm and number have
unfoldable pub with_raised : (ℕ → ℕ → ℕ) → ℕ → List ℕ → List ℕ
with_raised of k [] = []
with_raised of k (count ∷ counts) = raised_by count (of (k / 32) (k % 32)) ∷ with_raised of (suc k) counts

-- tally: its own number; 18 where other than 2,080 counts are lent, which one tally record always has
unfoldable pub tally_number : Tables → State → List ℕ → ℕ
tally_number t a counts = ladder (call_checks t a ++ (eqb (length counts) tally_cells else 18) ∷ [])

-- what it returns, which is as of a run
unfoldable pub tallied : Tables → State → List ℕ → List ℕ → Ran
tallied t a requests counts =
    let numbers = put_numbers t a (calls_of requests) in
    cond (eqb (tally_number t a counts) 0)
    (record { number = 0; granted = granted_in numbers; refused = refused_in numbers })
    (record { number = tally_number t a counts; granted = 0; refused = 0 })

-- the state afterwards, and the counts afterwards
unfoldable pub tally_state : Tables → State → List ℕ → List ℕ → State
tally_state t a requests counts = cond (eqb (tally_number t a counts) 0) (put_states t a (calls_of requests)) a

unfoldable pub tally_counts : Tables → State → List ℕ → List ℕ → List ℕ
tally_counts t a requests counts =
    cond (eqb (tally_number t a counts) 0)
    (with_raised (count_in t (calls_of requests) (put_numbers t a (calls_of requests))) 0 counts)
    counts
