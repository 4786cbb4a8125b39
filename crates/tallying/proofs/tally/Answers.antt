-- `tally` returns `tallied` and leaves `tally_state` and `tally_counts`: nothing changes where a length is wrong or other than 2,080 counts
-- are lent, and otherwise `run` says all three.
use native.Mathlib.Omega.{arith}
use mathlib.Core.Path.{sym}
use Rattle.loaded.proofs.CallLaws.{wrong_length, wrong_levels, all_pass}
use Rattle.tallying.proofs.TallyLaws.{tally_stopped, tally_misfit, tally_done}
use Rattle.tallying.proofs.tally.Goals as goal

pub returns-in_default : goal.returns-in_default
returns-in_default c =
    rw (c.no_run.ensures, c.from.ensures) (tally_stopped _ _ _ _ 10 (sym (wrong_length _ _ c.in_default.ensures.cases)) (omega arith))

pub returns-in_default-as_mut_array : goal.returns-in_default-as_mut_array
returns-in_default-as_mut_array c =
    let h = c.in-Some.ensures.cases in
    rw (c.no_run-in_default-as_mut_array.ensures, c.from-in_default-as_mut_array.ensures, h.same)
    (tally_stopped _ _ _ _ 20 (sym (wrong_levels _ _ h.long c.in_default-as_mut_array.ensures.cases)) (omega arith))

pub returns-then-counts-ne-COUNTS : goal.returns-then-counts-ne-COUNTS
returns-then-counts-ne-COUNTS c =
    let h = c.in-Some.ensures.cases in
    let l = c.in-Some-as_mut_array.ensures.cases in
    rw (c.no_run-then-counts-ne-COUNTS.ensures, c.from-then-counts-ne-COUNTS.ensures, h.same, l.same)
    (tally_misfit _ _ _ _ (all_pass _ _ h.long l.long c.args.t.now.given) c.if-counts-ne-COUNTS.true)

pub returns : goal.returns
returns c =
    let h = c.in-Some.ensures.cases in
    let l = c.in-Some-as_mut_array.ensures.cases in
    let done = rw (h.same, l.same) at c.run-ran.ensures in
    tally_done _ _ _ _ (all_pass _ _ h.long l.long c.args.t.now.given) c.if-counts-ne-COUNTS.false done
