-- `levels::lower` stores the meet of the stored level and the other one.
use mathlib.Core.Path.{◌∙◌}
use Rattle.levels.proofs.lower.Goals as goal

pub returns : goal.returns
returns c =
    c.set_entry.ensures
    ∙ rw (c.meet.ensures, c.entry-stored.ensures)
