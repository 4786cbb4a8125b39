-- `timed_level_by_reads` is `recorded`'s function of the reads; a history of another length and a number above 63 are refused before it.
use native.Mathlib.Omega.{arith}
use borrow.Author.Tests.{eq-eqb, ne_eqb, lt-ltb, le-ltb}
use Rattle.timed.specs.Timed.{level_by_reads}
use Rattle.timed.proofs.timed_level_by_reads.Goals as goal

pub returns-in_default : goal.returns-in_default
unfolding level_by_reads
returns-in_default c = rw (ne_eqb _ _ c.in_default.ensures.cases)

pub returns-then-person-ge-PERSONS : goal.returns-then-person-ge-PERSONS
unfolding level_by_reads
returns-then-person-ge-PERSONS c =
    let person = c.args.person in
    rw (eq-eqb _ _ c.in-Some.ensures.cases.long, le-ltb person 64 (omega arith))

pub returns : goal.returns
unfolding level_by_reads
returns c =
    let h = c.in-Some.ensures.cases in
    rw (eq-eqb _ _ h.long, lt-ltb c.args.person 64 c.if-person-ge-PERSONS.false) (rw h.same at c.level_by_reads-level.ensures)
