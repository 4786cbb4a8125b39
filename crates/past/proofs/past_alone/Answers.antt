-- `past_alone` finds the folders that the person stepped on and the steps applied, and then what the person did.
use mathlib.Core.Path.{◌∙◌}
use Rattle.policy.proofs.Requests.{person_below_lem}
use Rattle.recorded.proofs.GatheringLaws.{stepped_among}
use Rattle.past.proofs.past_alone.Goals as goal

pub stepped_by-stepped-requires : goal.stepped_by-stepped-requires
stepped_by-stepped-requires c = person_below_lem _ _ c.requires

pub applied_by-requires : goal.applied_by-requires
applied_by-requires c =
    let at-all-steppers = c in
    let start = c in
    let below = person_below_lem _ _ c.requires in (
      below,
      c.stepped_by-stepped.ensures ∙ stepped_among _ _ c.args.s c.all_steppers-steppers.ensures
          below,
    )

pub past_of-requires : goal.past_of-requires
past_of-requires c =
    let at-all-steppers = c in
    let start = c in
    let below = person_below_lem _ _ c.requires in (
      c.requires,
      c.persons.ensures,
      c.stepped_by-stepped.ensures ∙ stepped_among _ _ c.args.s c.all_steppers-steppers.ensures below,
      c.applied_by.ensures,
    )
