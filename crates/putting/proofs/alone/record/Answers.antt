-- `record` does for each kind of request what its kind asks for.
use mathlib.Core.Path.{◌≡◌, refl, ap, ◌∙◌}
use mathlib.Core.Logic.{⊎_elim}
use lib.Dec.{eqb}
use Rattle.policy.specs.Kinds.{kind_number}
use Rattle.request.proofs.KindLaws.{by_access_kind, kind_start, kind_step}
use Rattle.putting.proofs.PutAlone.{access_fits, start_fits, step_fits, access_recorded, start_recorded, step_recorded}
use Rattle.putting.proofs.alone.record.Goals as goal

pub record_start-requires : goal.record_start-requires
record_start-requires c =
    start_fits _ c.requires _ _ (kind_start c.args.parsed c.from-s.ensures c.from-o.ensures (c.in-Ok.ensures ∙ ap kind_number c.in-Start.is))

pub record_step-requires : goal.record_step-requires
record_step-requires c =
    let fits =
    step_fits _ c.requires _ _ _ (kind_step c.args.parsed c.from-s.ensures c.from-o.ensures c.from-p.ensures (c.in-Ok.ensures ∙ ap kind_number c.in-Step.is)) in
    (fits.0, fits.1, fits.2)

pub record_access-requires : goal.record_access-requires
record_access-requires c =
    let fits =
    access_fits _ c.requires _ _ _ (by_access_kind c.args.parsed c.from-s.ensures c.from-o.ensures c.in-Ok.ensures c.in-Read.is) in
    (fits.0, fits.1)

pub returns-in-Start : goal.returns-in-Start
returns-in-Start c =
    start_recorded _ _ (kind_start c.args.parsed c.from-s.ensures c.from-o.ensures (c.in-Ok.ensures ∙ ap kind_number c.in-Start.is)) c.record_start.ensures refl

pub returns-in-Step : goal.returns-in-Step
returns-in-Step c =
    let target = c.from-o.ensures in
    let is = kind_step c.args.parsed c.from-s.ensures target c.from-p.ensures (c.in-Ok.ensures ∙ ap kind_number c.in-Step.is) in
    step_recorded _ _ _ is target (step_fits _ c.requires _ _ _ is).2 c.record_step.ensures.0 c.record_step.ensures.1

pub returns-in-Read : goal.returns-in-Read
returns-in-Read c =
    let r = c.args.parsed in
    let target = c.from-o.ensures in
    let is = by_access_kind r c.from-s.ensures target c.in-Ok.ensures c.in-Read.is in
    let write : c.eq.result ≡ eqb r.kind 17 = rw (c.eq.ensures, c.in-Ok.ensures) (⊎_elim (λ e. rw e) (λ e. rw e) c.in-Read.is) in
    let done = rw write at c.record_access.ensures in
    access_recorded _ _ _ is target (access_fits _ c.requires _ _ _ is).1 done.0 done.1
