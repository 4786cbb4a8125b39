-- `level_check` has the bits of the rank and of the compartments where low-water is in force and asks about the request.
use mathlib.Core.Path.{sym, ◌∙◌}
use lib.Dec.{lit<}
use Rattle.branchfree.specs.Failing.{rank_lacks, compartment_lacks}
use Rattle.branchfree.proofs.FailingLaws.{as_one, two_checks, shifted}
use Rattle.branchfree.proofs.checks.level_check.Goals as goal

pub returns-then-in_force : goal.returns-then-in_force
unfolding rank_lacks compartment_lacks
returns-then-in_force c =
    λ a b m n asks l k rules has e.
    let on = sym c.in_force.ensures ∙ c.if-in_force.true in
    let rank = as_one (rank_lacks a b) (rw (c.rank_too_low.ensures a b m n l k rules has) at c.from-rank.ensures) in
    let compartment = as_one (compartment_lacks a b)
    (rw (c.compartment_missing.ensures a b m n l k rules has) at c.from-compartment.ensures) in
    two_checks (rank_lacks a b) (compartment_lacks a b) asks
    (shifted 4 (rank_lacks a b) (lit< tt) rank)
    (shifted 8 (compartment_lacks a b) (lit< tt) compartment) e
    ∙ rw on

pub returns : goal.returns
returns c = λ a b m n asks l k rules has e. rw (sym c.in_force.ensures ∙ c.if-in_force.false)
