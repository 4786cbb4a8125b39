-- `rights::rights_after` answers the rights after a folder: an undeclared one adds none, any other those of its read and its write.
use Prim.Native.Nat.{◌+◌, ◌%◌}
use native.Mathlib.Omega.{arith}
use mathlib.Core.Path.{◌≡◌}
use borrow.Author.Tests.{not-true, not-false}
use Rattle.past.specs.Turns.{rights_after}
use Rattle.past.proofs.rights.rights_after.Goals as goal

pub returns-then-not-folder : goal.returns-then-not-folder
unfolding rights_after
returns-then-not-folder c = rw (not-true c.args.folder.declared c.if-not-folder.true)

pub returns : goal.returns
unfolding rights_after
returns c =
    let start = c in
    let folder = c.args.folder in
    let declared = not-false folder.declared c.if-not-folder.false in
    let small = c.requires.kind declared in
    let same = c.from-kind.ensures in
    let kind : folder.kind % 64 ≡ folder.kind = omega arith in
    let above : (16 + folder.kind) % 64 ≡ 16 + folder.kind = omega arith in
    rw (declared, c.with_bit64_if-2.ensures, c.with_bit64_if.ensures, same, kind, above)
