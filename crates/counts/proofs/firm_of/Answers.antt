-- `firm_of` gives the firm that the definition counts a request under: the tests of the code are those of the law `counted`.
use mathlib.Core.Bool.{Bool, cond}
use mathlib.Core.Path.{refl, sym, ap, ◌∙◌}
use Rattle.counts.proofs.FirmLaws.{counted}
use Rattle.counts.proofs.firm_of.Goals as goal

pub returns-then-names_folder-found : goal.returns-then-names_folder-found
returns-then-names_folder-found c t same =
    let start = c in
    c.from.ensures
    ∙ sym (counted t _ _ _ _ c.names_folder.ensures refl same
    ∙ ap (λ (b : Bool). cond b c.args.folder.firm 64) c.if-names_folder-found.true)

pub returns : goal.returns
returns c t same =
    let start = c in
    sym (counted t _ _ _ _ c.names_folder.ensures refl same
    ∙ ap (λ (b : Bool). cond b c.args.folder.firm 64) c.if-names_folder-found.false)
