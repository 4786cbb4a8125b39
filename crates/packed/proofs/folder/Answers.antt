-- `folder` reads the entry of its place: the parts of the number are the fields.
use mathlib.Core.Path.{sym}
use Rattle.packed.specs.Packed.{level_in, folder_of}
use Rattle.packed.proofs.PackedLaws.{folder_at_lem}
use Rattle.packed.proofs.folder.Goals as goal

pub returns : goal.returns
unfolding level_in folder_of
returns c = rw c.bit.ensures (sym (folder_at_lem _ _ c.requires))
