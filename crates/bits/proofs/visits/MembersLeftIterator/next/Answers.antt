-- `MembersLeft::next` takes the lowest member out of the set, which so falls as a number.
use native.Mathlib.Omega.{arith}
use borrow.Author.Rules.{rules}
use Rattle.bits.proofs.LowestBit.{lowest_set, without_lt}
use Rattle.bits.proofs.visits.MembersLeftIterator.next.Goals as goal

pub returns-clause-goes : goal.returns-clause-goes
returns-clause-goes c =
    let set = c.args.self.now.0 in
    let fewer = without_lt set _ (lowest_set 64 set (omega arith) (search rules)) in
    record { on = λ _. (search rules, search rules, rw c.without_lowest64-self.ensures fewer); keeps = search rules; rests = search rules }
