-- What the functions of this crate compute from bytes and sets: the steps done on a folder, and the steps that lead to another.
use Rattle.std.specs.Prelude.{ℕ, ◌+◌, ◌*◌, ◌%◌, Bool, cond, not, ◌&&◌, List, eqb, get_or}
use Rattle.std.specs.Int.Bits.{bit_and}
use Rattle.bits.specs.Bits.{bit}
use Rattle.bits.specs.Bounded.{any_below}
use Rattle.history.specs.Words.{word_at}

-- some person of the set did step p on folder o
unfoldable pub done_by : List ℕ → ℕ → ℕ → ℕ → Bool
done_by h persons o p = not (eqb (bit_and (word_at h (2560 + 128 * o + 8 * p)) persons) 0)

-- step p, which enables a set of steps, is in the set of those done, enables q, and enables none of those done
unfoldable pub leads : ℕ → ℕ → ℕ → ℕ → Bool
leads enabled done p q = bit done (p % 16) && bit enabled (q % 16) && eqb (bit_and enabled done) 0

unfoldable pub leads_among : List ℕ → ℕ → ℕ → ℕ → Bool
leads_among steps done q p = leads (get_or steps p 0) done p q

-- the step rule for step q, over the sets of the steps that each step enables and the set of those done
unfoldable pub pipeline_in : List ℕ → ℕ → ℕ → Bool
pipeline_in steps done q = cond (eqb q 0) (eqb done 0) (any_below 16 (leads_among steps done q))
