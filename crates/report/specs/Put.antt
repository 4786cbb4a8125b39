-- What is written into a buffer: a text at a place, a line if there is room for it, and as many lines as there is room for.
use Rattle.std.specs.Prelude.{ℕ, suc, ◌+◌, ◌-◌, ◌≤◌, ◌<◌, ◌≡◌, cond, List, [], ◌∷◌, ltb, length, take, drop}
use Rattle.report.specs.Text.{line, lines, written}
use Rattle.report.specs.declared.Filled.{Filled}

-- the text stands in the buffer from `at` on, and ends at `next`
pub record Put (before : List ℕ) (at : ℕ) (text after : List ℕ) (next : ℕ) : Type 0 where
  pub end : next ≡ at + length text
  pub there : after ≡ written before at text

-- what a buffer takes of one line: all of it if it has at least 64 bytes, and else nothing
unfoldable pub taken : List ℕ → List ℕ → List ℕ
taken out text = cond (ltb (length out) 64) [] text

-- the line stands at the start of the buffer if that takes it, and else nothing changes
pub record LinePut (before text after : List ℕ) (returned : ℕ) : Type 0 where
  pub len : returned ≡ length (taken before text)
  pub there : after ≡ written before 0 (taken before text)
  pub within : returned ≤ length before

-- how many lines of the numbers are written into so many bytes: one more as long as 32 bytes are left
unfoldable pub fitting : ℕ → ℕ → List ℕ → ℕ
fitting room place [] = 0
fitting room place (number ∷ rest) =
    let more = fitting (room - length (line place number)) (suc place) rest in
    cond (ltb room 32) 0 (suc more)

-- the lines of numbers[first] up to, not including, numbers[next]; numbers[k] has the place k + 1
unfoldable pub lines_between : List ℕ → ℕ → ℕ → List ℕ
lines_between numbers first next = lines (suc first) (take (next - first) (drop first numbers))

-- the lines from `first` on stand at the start of the buffer, as many as there was room for
pub record LinesPut (numbers : List ℕ) (first : ℕ) (before after : List ℕ) (filled : Filled) : Type 0 where
  pub next : filled.next ≡ first + fitting (length before) (suc first) (drop first numbers)
  pub len : filled.len ≡ length (lines_between numbers first filled.next)
  pub there : after ≡ written before 0 (lines_between numbers first filled.next)
  pub within : filled.len ≤ length before
  pub further : first < length numbers → 32 ≤ length before → first < filled.next
