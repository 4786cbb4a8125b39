-- `Level::compare` gives the outcome of `compare_of`: where the rank suffices and the common compartments are all its own it is "at most",
-- and otherwise the rank decides.
use native.Mathlib.Omega.{arith}
use borrow.Author.Tests.{eq-eqb, ne_eqb, le-leb, lt-leb}
use Rattle.level.specs.Levels.{compare_of}
use Rattle.level.proofs.Level.compare.Goals as goal
use Rattle.level.proofs.Level.compare.Goals.{else-suffices-via-then-suffices+else-own-others, else-suffices-via-else-suffices}

pub returns-then-own-others : goal.returns-then-own-others
unfolding compare_of
returns-then-own-others c =
    rw (
      ← c.rank.ensures,
      ← c.rank-2.ensures,
      ← c.compartments-others.ensures,
      ← c.compartments-own.ensures,
      le-leb _ _ c.if-suffices.true,
      eq-eqb _ _ c.if-own-others.true,
    )

pub returns-then-suffices-2 : goal.returns-then-suffices-2
unfolding compare_of
returns-then-suffices-2 c =
    elim c.else-suffices.branch [
      | else-suffices-via-then-suffices+else-own-others w ↦
          rw (
            ← c.rank.ensures,
            ← c.rank-2.ensures,
            ← c.compartments-others.ensures,
            ← c.compartments-own.ensures,
            le-leb _ _ c.if-suffices-2.true,
            ne_eqb _ _ w.if-own-others.false,
          )
      | else-suffices-via-else-suffices w ↦ let z : ⊥ = omega (arith, c.if-suffices-2.true, w.if-suffices.false) in absurd z
    ]

pub returns : goal.returns
unfolding compare_of
returns c = rw (← c.rank.ensures, ← c.rank-2.ensures, lt-leb _ _ c.if-suffices-2.false)
