-- `applied::applied_on` answers the steps that a person applied to a folder: none to an undeclared one, else those of the history.
use mathlib.Core.Path.{sym, ◌∙◌}
use borrow.Author.Tests.{not-true, not-false}
use Rattle.bits.proofs.Masks.{mask_none, mask_ext}
use Rattle.recorded.specs.Gathering.{applied_on}
use Rattle.recorded.proofs.applied.applied_on.Goals as goal

pub returns-then-not-folder : goal.returns-then-not-folder
unfolding applied_on
returns-then-not-folder c = sym (mask_none 16 _ (λ p l. rw (not-true c.args.folder.declared c.if-not-folder.true)))

pub returns : goal.returns
unfolding applied_on
returns c =
    let args = c.args in
    c.steps_of.ensures ∙ mask_ext 16 _ _ (λ p l. rw (not-false c.args.folder.declared c.if-not-folder.false))
