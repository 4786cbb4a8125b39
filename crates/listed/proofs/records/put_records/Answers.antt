-- `put_records` writes one record behind the other: before turn k those of the first k positions are written.
use native.Mathlib.Omega.{arith}
use mathlib.Core.Path.{◌≡◌}
use Rattle.listed.proofs.RecordLaws.{reached_none, reached_more, reached_all}
use borrow.Author.Rules.{rules}
use Rattle.listed.proofs.records.put_records.Goals as goal

pub loop-k-init : goal.loop-k-init
loop-k-init c = (search rules, reached_none _ _ _)

pub job_at-job-requires : goal.job_at-job-requires
job_at-job-requires c =
    let place = c.requires.2.each c.loop-k.k (search rules) in
    omega (arith, c.from.ensures, place, c.requires.1)

pub put_record-at-requires : goal.put_record-at-requires
put_record-at-requires c =
    omega (arith, c.loop-k.invariant.1.within, c.loop-k.invariant.1.size, c.requires.3, c.requires.0)

pub loop-k-preserved : goal.loop-k-preserved
loop-k-preserved c =
    let turn = c in
    let start = c in (
      search rules,
      reached_more _ _ _ _ _ _ _ _ (omega (arith, c.requires.2.size)) c.loop-k.invariant.1
          (rw (c.job_at-job.ensures, c.from.ensures) at c.put_record-at.ensures),
    )

pub shape_of-out : goal.shape_of-out
shape_of-out c = c.loop-k.invariant.1.size

pub returns : goal.returns
returns c =
    let start = c in
    let all : c.loop-k.k ≡ c.args.n = omega arith in
    reached_all _ _ _ _ _ _ c.requires.0 (rw all at c.loop-k.invariant.1)
