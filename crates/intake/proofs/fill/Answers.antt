-- `intake::fill`: what a read put after the bytes that stand at the start of the buffer was the reader's next.
use Rattle.std.proofs.Common.{◌≡◌, ℕ, ◌+◌, ◌-◌, ◌≤◌, List, ◌++◌, arith, length, take, drop}
use Rattle.std.proofs.Common.{sym, ap, ◌∙◌, subst, le_refl, drop_at, length-take-le}
use Rattle.std.proofs.lemmas.Slice.{take-put_mid_below}
use Rattle.std.specs.Io.KnownBytes.{Consumes}
use Rattle.std.proofs.KnownBytes.{Consumes-trans}
use borrow.Rule.Slice.PartMut.{put_mid, post_of}
use lib.Seq.{take-add, take-append-le}
use Rattle.intake.proofs.fill.Goals as goal

-- the first a + n numbers, after a write to the part from a on of which n numbers are meant
take_written : (a k n : ℕ) (xs ys : List ℕ) → a ≤ length xs → n ≤ length ys
    → take a xs ++ take n ys ≡ take (a + n) (put_mid a k xs ys)
take_written a k n xs ys within fits =
    let after = ys ++ post_of a k xs in
    let back : drop a (put_mid a k xs ys) ≡ after = drop_at (take a xs) after a (length-take-le a xs within) in
    let front : take a (put_mid a k xs ys) ≡ take a xs = take-put_mid_below a k xs ys a (le_refl a) within in
    sym
    (take-add a n (put_mid a k xs ys)
    ∙ ap (λ (l : List ℕ). l ++ take n (drop a (put_mid a k xs ys))) front
    ∙ ap (λ (l : List ℕ). take a xs ++ take n l) back
    ∙ ap (λ (l : List ℕ). take a xs ++ l) (take-append-le n ys (post_of a k xs) fits))

pub loop-done-preserved : goal.loop-done-preserved
loop-done-preserved g c =
    let a = c.loop-done.done in
    let n = c.in_ok-n.n in
    let before = c.loop-done.buf in
    let read = c.read.new.buf in
    let within = c.loop-done.invariant.0 in
    let same = take_written a (length before - a) n before read within c.in_ok-n.ensures.bound.0 in
    let more = Consumes-trans _ _ _ _ _ c.loop-done.invariant.1 c.in_ok-n.ensures.bytes.0 in
    (omega (arith, c.in_ok-n.ensures.bound.0), subst (Consumes _ _) same more)
