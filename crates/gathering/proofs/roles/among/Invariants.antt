-- `among` joins the sets of the numbers, the lowest first: those that are left lead from what is joined to the whole.
use Rattle.bits.specs.Bits.{fold_set}
use Rattle.recorded.specs.Visits.{Leads}
use Rattle.gathering.specs.Users.{join_set}
use Rattle.gathering.proofs.roles.among.Given as goal

abbrev pub invariant-loop-x : goal.invariant-loop-x
invariant-loop-x l =
    Leads (join_set l.sets) (fold_set 64 l.numbers (join_set l.sets) 0) l.x-iterator.0 l.joined
