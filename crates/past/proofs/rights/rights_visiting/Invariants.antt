-- `rights::rights_visiting` answers the rights after the folders of two words, or those found once no role holds them and the new right:
-- before each turn the folders that are left lead to the whole.
use Rattle.past.specs.Turns.{rights_turn, rights_visiting}
use Rattle.recorded.specs.Visits.{Leads}
use Rattle.past.proofs.rights.rights_visiting.Given as goal

abbrev pub invariant-loop-i : goal.invariant-loop-i
invariant-loop-i l =
    Leads (rights_turn l.t.tables l.first l.read l.wrote) (rights_visiting l.t.tables l.first l.read l.wrote l.before) l.i-iterator.0 l.rights
