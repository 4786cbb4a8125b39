-- `given` joins the tests of the parts in the order of the definition; each goes over its list, one entry after another.
use borrow.Author.Rules.{rules}
use mathlib.Core.Path.{◌∙◌}
use Rattle.policy.specs.Tables.{no_firm, no_person, no_folder, no_role}
use Rattle.policy.specs.Rulebook.{firm_given, person_given, role_given}
use Rattle.rulebook.specs.Entries.{folder_given_among, folders_given}
use Rattle.rulebook.proofs.ListLaws.{all_listed}
use Rattle.rulebook.proofs.StepLaws.{circle_listed, loose_listed}
use Rattle.rulebook.proofs.EntryLaws.{given_is}
use Rattle.rulebook.proofs.given.Goals as goal

pub returns : goal.returns
unfolding folders_given
returns c =
    let t = c.args.t in
    rw (
      c.all_given.ensures ∙ all_listed firm_given no_firm t.firms 64 (search rules),
      c.all_given-2.ensures ∙ all_listed person_given no_person t.persons 64 (search rules),
      c.folders_given.ensures ∙ all_listed (folder_given_among t.firms) no_folder t.folders 128 (search rules),
      c.all_given-3.ensures ∙ all_listed role_given no_role t.roles 32 (search rules),
      c.enters_create.ensures,
      c.has_circle.ensures ∙ circle_listed t.steps (search rules),
      c.has_loose.ensures ∙ loose_listed t.steps (search rules),
    )
    (given_is t)
