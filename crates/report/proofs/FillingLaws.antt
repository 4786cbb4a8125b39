-- What a loop that puts one line after another has reached: the lines so far stand in the buffer, and the lines that fit from here on make
-- up, with those, all that fit. One line more keeps this, and where no line fits any more it is what is asked for.
use Prim.Native.Nat.{ℕ, suc, ◌+◌, ◌-◌, ◌≤◌, ◌<◌}
use native.Mathlib.Omega.{arith}
use mathlib.Core.Path.{◌≡◌, refl, sym, ap, ◌∙◌}
use mathlib.Core.List.{List, [], ◌∷◌, ◌++◌, append_assoc, append-nil}
use lib.ListN.{length, take, drop, get_or, length-drop, drop_of_length-le}
use lib.Seq.{take-suc, drop-cons, get_or-drop, length-take-le}
use borrow.Author.Tests.{lt-ltb, le-ltb}
use Rattle.report.specs.Text.{line, lines}
use Rattle.report.specs.Put.{Put, fitting, lines_between, LinesPut}
use Rattle.report.proofs.PutLaws.{put_more, written_none}

-- ---- lines

-- the last line's place
lines_last : (place number : ℕ) (front : List ℕ)
    → lines place (front ++ (number ∷ [])) ≡ lines place front ++ line (place + length front) number
unfolding lines
lines_last place number [] =
    let here : place ≡ place + 0 = omega arith in
    append-nil (line place number) ∙ ap (λ (n : ℕ). line n number) here
lines_last place number (x ∷ front) =
    let there : suc place + length front ≡ place + suc (length front) = omega arith in
    ap (λ (l : List ℕ). line place x ++ l) (lines_last (suc place) number front)
    ∙ sym (append_assoc (line place x) (lines (suc place) front) (line (suc place + length front) number))
    ∙ ap (λ (n : ℕ). line place x ++ lines (suc place) front ++ line n number) there

between_none : (numbers : List ℕ) (first : ℕ) → lines_between numbers first first ≡ []
unfolding lines_between lines
between_none numbers first = let none : first - first ≡ 0 = omega arith in rw none

between_more : (numbers : List ℕ) (first next : ℕ) → first ≤ next → next < length numbers
    → lines_between numbers first next ++ line (next + 1) (get_or numbers next 0) ≡ lines_between numbers first (next + 1)
unfolding lines_between
between_more numbers first next f l =
    let rest = drop first numbers in
    let k = next - first in
    let below : k < length rest = omega (arith, length-drop first numbers) in
    let size : length (take k rest) ≡ k = length-take-le k rest (omega arith) in
    let place : suc first + length (take k rest) ≡ next + 1 = omega arith in
    let here : first + k ≡ next = omega arith in
    let more : suc k ≡ next + 1 - first = omega arith in
    let number : get_or rest k 0 ≡ get_or numbers next 0 = get_or-drop first numbers k 0 ∙ ap (λ (n : ℕ). get_or numbers n 0) here in
    sym
    (ap (λ (n : ℕ). lines (suc first) (take n rest)) (sym more) ∙ ap (lines (suc first)) (take-suc rest k 0 below)
    ∙ lines_last (suc first) (get_or rest k 0) (take k rest)
    ∙ ap (λ (n : ℕ). lines (suc first) (take k rest) ++ line n (get_or rest k 0)) place
    ∙ ap (λ (n : ℕ). lines (suc first) (take k rest) ++ line (next + 1) n) number)

-- ---- how many lines fit

pub fitting_full : (room place : ℕ) (numbers : List ℕ) → room < 32 → fitting room place numbers ≡ 0
unfolding fitting
fitting_full room place [] l = refl
fitting_full room place (number ∷ rest) l = rw (lt-ltb room 32 l)

pub fitting_end : (room next : ℕ) (numbers : List ℕ) → length numbers ≤ next → fitting room (suc next) (drop next numbers) ≡ 0
unfolding fitting
fitting_end room next numbers l = rw (drop_of_length-le numbers {i = next} l)

fitting_more : (room place number : ℕ) (rest : List ℕ) → 32 ≤ room
    → fitting room place (number ∷ rest) ≡ suc (fitting (room - length (line place number)) (suc place) rest)
unfolding fitting
fitting_more room place number rest l = rw (le-ltb room 32 l)

fitting_next : (numbers : List ℕ) (next room : ℕ) → next < length numbers → 32 ≤ room
    → fitting room (suc next) (drop next numbers)
    ≡ suc (fitting (room - length (line (next + 1) (get_or numbers next 0))) (suc (next + 1)) (drop (next + 1) numbers))
fitting_next numbers next room l m =
    let number = get_or numbers next 0 in
    let up : suc next ≡ next + 1 = omega arith in
    ap (fitting room (suc next)) (drop-cons numbers next 0 l) ∙ fitting_more room (suc next) number (drop (suc next) numbers) m
    ∙ ap (λ (n : ℕ). suc (fitting (room - length (line n number)) (suc n) (drop n numbers))) up

-- ---- the loop

pub record Reached (numbers : List ℕ) (first : ℕ) (before after : List ℕ) (next len : ℕ) : Type 0 where
  pub start : first ≤ next
  pub within : len ≤ length before
  pub same : length after ≡ length before
  pub left : next + fitting (length before - len) (suc next) (drop next numbers)
      ≡ first + fitting (length before) (suc first) (drop first numbers)
  pub text : Put before 0 (lines_between numbers first next) after len

pub reached_start : (numbers : List ℕ) (first : ℕ) (before : List ℕ) → Reached numbers first before before first 0
reached_start numbers first before =
    let none : length before - 0 ≡ length before = omega arith in
    record {
      start = omega arith;
      within = omega arith;
      same = refl;
      left = rw none;
      text = rw (between_none numbers first) (record { end = refl; there = written_none before 0 });
    }

pub reached_more : {numbers before after later : List ℕ} {first next len end : ℕ} → Reached numbers first before after next len
    → next < length numbers → 32 ≤ length before - len → length (line (next + 1) (get_or numbers next 0)) ≤ 32
    → length later ≡ length after → Put after len (line (next + 1) (get_or numbers next 0)) later end
    → Reached numbers first before later (next + 1) end
reached_more {numbers} {before} {after} {later} {first} {next} {len} {end} r below room short same p =
    let number = get_or numbers next 0 in
    let less : length before - end ≡ length before - len - length (line (next + 1) number) = omega (arith, p.end) in
    record {
      start = omega arith;
      within = omega (arith, p.end);
      same = same ∙ r.same;
      left = rw less (omega (arith, r.left, fitting_next numbers next (length before - len) below room));
      text = rw (← between_more numbers first next r.start below) (put_more (omega arith) r.text p);
    }

pub reached_all : {numbers before after : List ℕ} {first next len : ℕ} → Reached numbers first before after next len
    → fitting (length before - len) (suc next) (drop next numbers) ≡ 0
    → LinesPut numbers first before after (record { next = next; len = len })
reached_all {numbers} {before} {after} {first} {next} {len} r none =
    record {
      next = omega (arith, r.left);
      len = omega (arith, r.text.end);
      there = r.text.there;
      within = r.within;
      further = λ below room. omega (arith, r.left, fitting_next numbers first (length before) below room);
    }
