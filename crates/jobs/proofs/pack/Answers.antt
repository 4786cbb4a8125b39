-- `pack` gives its list packed: a turn stores job i after the i jobs before it, and after the last turn all jobs of the list are packed.
use Rattle.std.proofs.Common.{arith, ap, ◌∙◌, ◌≡◌, length, get_or}
use Rattle.policy.specs.Plans.{no_job}
use Rattle.jobs.specs.declared.Packed.{Packed}
use Rattle.jobs.specs.Packing.{stored}
use Rattle.jobs.proofs.PackingLaws.{up_to, none, more, all}
use Rattle.jobs.proofs.pack.Goals as goal

pub loop-i-init : goal.loop-i-init
loop-i-init c = (omega arith, c.start-p.ensures ∙ none _)

pub loop-i-preserved : goal.loop-i-preserved
loop-i-preserved c = (
  omega arith,
  c.store-p.ensures
      ∙ ap (λ (p : Packed). stored p c.loop-i.i (get_or c.args.jobs.now c.loop-i.i no_job)) c.loop-i.invariant.1
      ∙ more c.args.jobs.now c.loop-i.i c.loop-i-test.true,
)

pub returns : goal.returns
returns c =
    let end : c.loop-i.i ≡ length c.args.jobs.now = omega arith in
    c.loop-i.invariant.1 ∙ ap (up_to c.args.jobs.now) end ∙ all c.args.jobs.now
