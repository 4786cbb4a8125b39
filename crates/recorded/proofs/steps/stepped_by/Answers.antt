-- `steps::stepped_by` answers the set of the folders whose steppers have a person among them: the first 64, and the next 64.
use lib.ListN.{get_or}
use Rattle.bits.specs.Bits.{bit}
use Rattle.recorded.proofs.FolderSets.{folders_are}
use Rattle.recorded.proofs.steps.stepped_by.Goals as goal

pub returns : goal.returns
returns c =
    let args = c.args in
    folders_are (λ o. bit (get_or args.steppers.now o 0) args.s) c.stepped_over.ensures c.stepped_over-2.ensures
