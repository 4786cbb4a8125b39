-- `users` adds the reads, the writes, the steps and the starts to empty sets.
use mathlib.Core.Path.{refl}
use Rattle.gathering.proofs.UserLaws.{users_are}
use Rattle.gathering.proofs.users.Goals as goal

pub returns : goal.returns
returns c =
    users_are _ _ _ _ c.add_recorded.ensures c.add_recorded-2.ensures c.add_steps.ensures
    c.starters.ensures refl
