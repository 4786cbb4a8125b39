-- `person` reads the level of its place and the mark in the set of declared persons.
use native.Mathlib.Omega.{arith}
use Prim.Native.Nat.{◌%◌}
use mathlib.Core.Path.{◌≡◌, sym}
use Rattle.packed.specs.Packed.{level_in, person_of}
use Rattle.packed.proofs.PackedLaws.{person_at_lem}
use Rattle.packed.proofs.person.Goals as goal

pub returns : goal.returns
unfolding level_in person_of
returns c =
    let start = c in
    let s = c.args.s in
    let own : s % 64 ≡ s = omega (arith, c.requires) in
    rw (c.bit.ensures, own) (sym (person_at_lem _ s c.requires))
