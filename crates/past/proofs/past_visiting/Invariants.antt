-- `past::past_visiting` answers what a person did after the folders of a set: before each turn the folders that are left lead to it.
use Rattle.past.specs.Turns.{past_turn, past_visiting}
use Rattle.recorded.specs.Visits.{Leads}
use Rattle.past.proofs.past_visiting.Given as goal

abbrev pub invariant-loop-i : goal.invariant-loop-i
invariant-loop-i l =
    Leads (past_turn l.t.tables l.first l.read l.wrote) (past_visiting l.t.tables l.first l.read l.wrote l.set l.initial.past) l.i-iterator.0 l.past
