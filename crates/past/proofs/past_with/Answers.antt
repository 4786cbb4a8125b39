-- `past::past_with` answers what a person did after a folder: an undeclared one changes nothing, any other adds its rights and its firm.
use Prim.Native.Nat.{◌+◌, ◌%◌}
use native.Mathlib.Nat.{mod-eq_of_lt}
use native.Mathlib.Omega.{arith}
use mathlib.Core.Path.{◌≡◌}
use borrow.Author.Tests.{not-true, not-false}
use Rattle.past.specs.Turns.{past_with}
use Rattle.past.proofs.past_with.Goals as goal

pub returns-then-not-folder : goal.returns-then-not-folder
unfolding past_with
returns-then-not-folder c = rw (not-true c.args.folder.declared c.if-not-folder.true)

pub returns : goal.returns
unfolding past_with
returns c =
    let opens = c.with_bit in
    let writes = c.with_bit64_if-2 in
    let reads = c.with_bit64_if in
    let tested = c in
    let start = c in
    let folder = c.args.folder in
    let declared = not-false folder.declared c.if-not-folder.false in
    let small = c.requires.kind declared in
    let kind : folder.kind % 64 ≡ folder.kind = omega arith in
    let above : (16 + folder.kind) % 64 ≡ 16 + folder.kind = omega arith in
    let firm = mod-eq_of_lt (c.requires.firm declared) in
    rw (declared, opens.ensures, writes.ensures, reads.ensures, c.from-kind.ensures, c.from-firm.ensures, kind, above, firm)
