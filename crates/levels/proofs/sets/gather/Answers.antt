-- `sets::gather` puts together the sets of the persons and those of the folders; what it reads in the buffer are bytes.
use mathlib.Core.Path.{refl}
use Rattle.levels.proofs.SetLaws.{gathered}
use Rattle.levels.proofs.sets.gather.Goals as goal

pub returns : goal.returns
returns c =
    gathered _ _ _ _ _ refl (record { size = c.told-l; bytes = c.fits-l })
    c.put_persons.ensures c.put_folders.ensures
