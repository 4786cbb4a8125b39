-- `levels::current_level` answers a person's current level, from the folders stepped on that are found first.
use mathlib.Core.Path.{◌∙◌}
use Rattle.policy.proofs.Requests.{person_below_lem}
use Rattle.packed.specs.Packed.{tables_of}
use Rattle.recorded.proofs.GatheringLaws.{stepped_among}
use Rattle.recorded.proofs.levels.current_level.Goals as goal

pub stepped_by-requires : goal.stepped_by-requires
stepped_by-requires c =
    let start = c in
    person_below_lem (tables_of c.args.t.now) c.args.s c.requires

pub level_with-requires : goal.level_with-requires
level_with-requires c =
    let start = c in
    let args = c.args in
    let person = person_below_lem (tables_of args.t.now) args.s c.requires in
    let gathered = c.all_steppers-steppers.ensures in
    (c.requires, c.stepped_by.ensures ∙ stepped_among args.h.now _ args.s gathered person)
