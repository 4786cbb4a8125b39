-- `declare` stores what a record declares at the record's numbers, which are inside the tables where the record is in its ranges. Each of
-- its arms asks of the tables, as they were before, what the checks of a record of its kind ask.
use Rattle.std.proofs.Common.{◌∙◌, arith}
use Rattle.bits.specs.Bits.{with_bit}
use Rattle.policy.specs.Rulebook.{declare}
use Rattle.rulebook.proofs.ListLaws.{within}
use Rattle.rulebook.proofs.NumberLaws as laws
use Rattle.rulebook.proofs.declare.Goals as goal

-- ---- the places of the arrays

pub bounds-t-from : goal.bounds-t-from
bounds-t-from c = omega (arith, laws.firm_inside _ _ (rw c.in-Firm.is at c.requires), c.from.ensures)

pub bounds-t-from-in-Person : goal.bounds-t-from-in-Person
bounds-t-from-in-Person c = omega (arith, laws.person_inside _ _ (rw c.in-Person.is at c.requires), c.from-in-Person.ensures)

pub bounds-t-from-in-Folder : goal.bounds-t-from-in-Folder
bounds-t-from-in-Folder c = omega (arith, laws.folder_inside _ _ _ _ (rw c.in-Folder.is at c.requires), c.from-in-Folder.ensures)

pub bounds-t-from-in-Folder-2 : goal.bounds-t-from-in-Folder-2
bounds-t-from-in-Folder-2 c = omega (arith, laws.owner_inside _ _ _ _ (rw c.in-Folder.is at c.requires), c.from-in-Folder-2.ensures)

pub bounds-t-from-in-Role : goal.bounds-t-from-in-Role
bounds-t-from-in-Role c = omega (arith, laws.role_inside _ _ (rw c.in-Role.is at c.requires), c.from-in-Role.ensures)

pub bounds-t-from-in-Pair : goal.bounds-t-from-in-Pair
bounds-t-from-in-Pair c = omega (arith, laws.step_inside _ _ (rw c.in-Pair.is at c.requires), c.from-in-Pair.ensures)

pub bounds-t-from-in-Mark : goal.bounds-t-from-in-Mark
bounds-t-from-in-Mark c = omega (arith, laws.public_inside _ (rw c.in-Mark.is at c.requires), c.from-in-Mark.ensures)

-- ---- what is stored

pub returns-in-Pair-clause-stores : goal.returns-in-Pair-clause-stores
unfolding declare
returns-in-Pair-clause-stores c =
    let inside = rw c.in-Pair.is at c.requires in
    rw (c.in-Pair.is, c.enable.ensures.stores, c.from-in-Pair.ensures, within (with_bit _) _ 16 (laws.enabled_inside _ _ inside))

-- ---- what the answer is

pub returns-in-End-clause-answers : goal.returns-in-End-clause-answers
returns-in-End-clause-answers c = rw c.in-End.is (laws.end_number _)

pub returns-in-Rules-clause-answers : goal.returns-in-Rules-clause-answers
returns-in-Rules-clause-answers c = rw c.in-Rules.is (laws.rules_number _ _)

pub returns-in-Firm-clause-answers : goal.returns-in-Firm-clause-answers
returns-in-Firm-clause-answers c =
    let inside = rw c.in-Firm.is at c.requires in
    let answers = rw (c.replace-before.ensures.value, c.from.ensures) at c.new_answer.ensures in
    rw c.in-Firm.is (answers ∙ laws.firm_number _ _ _ inside)

pub returns-in-Person-clause-answers : goal.returns-in-Person-clause-answers
returns-in-Person-clause-answers c =
    let inside = rw c.in-Person.is at c.requires in
    let answers = rw (c.replace-before-in-Person.ensures.value, c.from-in-Person.ensures) at c.new_answer-in-Person.ensures in
    rw c.in-Person.is (answers ∙ laws.person_number _ _ _ inside)

pub returns-in-Folder-clause-answers : goal.returns-in-Folder-clause-answers
returns-in-Folder-clause-answers c =
    let inside = rw c.in-Folder.is at c.requires in
    let before = c.replace-before-in-Folder.ensures.value in
    let answers = rw (before, c.from-in-Folder.ensures, c.from-in-Folder-2.ensures) at c.folder_answer.ensures in
    rw c.in-Folder.is (answers ∙ laws.folder_number _ _ _ _ _ inside)

pub returns-in-Role-clause-answers : goal.returns-in-Role-clause-answers
returns-in-Role-clause-answers c =
    let inside = rw c.in-Role.is at c.requires in
    let answers = rw (c.replace-before-in-Role.ensures.value, c.from-in-Role.ensures) at c.new_answer-in-Role.ensures in
    rw c.in-Role.is (answers ∙ laws.role_number _ _ _ inside)

pub returns-in-Pair-clause-answers : goal.returns-in-Pair-clause-answers
returns-in-Pair-clause-answers c =
    let inside = rw c.in-Pair.is at c.requires in
    rw c.in-Pair.is (rw c.from-in-Pair.ensures at c.enable.ensures.answers ∙ laws.pair_number _ _ _ inside)

pub returns-in-Mark-clause-answers : goal.returns-in-Mark-clause-answers
returns-in-Mark-clause-answers c =
    let inside = rw c.in-Mark.is at c.requires in
    rw c.in-Mark.is (rw c.from-in-Mark.ensures at c.mark.ensures.answers ∙ laws.mark_number _ _ inside)
