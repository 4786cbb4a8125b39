-- `some_role_covers` asks each role in turn: that some element covers the rights is that one at some place below 32 does.
use mathlib.Core.Path.{◌∙◌}
use Rattle.std.proofs.Common.{rules, tests, ℕ, Bool}
use Rattle.std.proofs.lemmas.Iterator.{YieldsList-from_slice}
use Rattle.std.proofs.lemmas.Iterator.Search.{any_from_yields_List}
use Rattle.rules.specs.Sets.{covers, roles_in}
use Rattle.rules.proofs.RoleLaws.{any_elements}
use Rattle.rules.proofs.some_role_covers.Goals as goal

pub returns : goal.returns
unfolding roles_in
returns c =
    let roles = c.args.roles.now in
    let test : ℕ → Bool = λ x. covers x c.args.wanted in
    let found = any_from_yields_List test _ _ _ c.any.ensures.ran (YieldsList-from_slice roles cc) (λ x b q k. search (rules, tests)) in
    found ∙ any_elements test roles ∙ rw c.told-roles
