-- `put_by` judges the request by what is asked about and changes what is kept by what was found, as the definitions do (Puts): each change
-- is made by the function of its own, and what is not asked about does not change, since its rule is not in force.
use Prim.Native.Nat.{ℕ, ◌%◌}
use mathlib.Core.Path.{◌≡◌, refl, ap, ap₂, ◌∙◌}
use mathlib.Core.Bool.{cond, ◌&&◌}
use mathlib.Core.List.{List}
use lib.Bits.{bit_and}
use lib.ListN.{get_or, set}
use Rattle.bits.specs.Bits.{bit, with_bit, mask_below}
use Rattle.policy.specs.Tables.{wall_rule, roles_rule, pipeline_rule}
use Rattle.branchfree.specs.Kinds.{asked_by, right_by, is_access, is_step, lowers}
use Rattle.branchfree.specs.Failing.{first_failing}
use Rattle.branchfree.proofs.KindLaws.{row_of_lem}
use Rattle.branchfree.proofs.FailingLaws.{unasked}
use Rattle.branchfree.proofs.UpdateLaws.{masked_one, masked_all, either_way}
use Rattle.pipeline.specs.Steps.{pipeline_in}
use Rattle.keeping.specs.declared.Kept.{Kept}
use Rattle.keeping.specs.Keeping.{kept}
use Rattle.keeping.proofs.FewerLaws.{asked_about, fewer_failing}
use Rattle.keeping.proofs.Puts.{found_at}
use Rattle.keeping.proofs.put_by.Goals as goal
use Rattle.keeping.proofs.put_by.Goals.{
  then-this-ne0,
  else-this-ne0,
  then-this-ne0-2,
  else-this-ne0-2,
  then-this-ne0-3,
  else-this-ne0-3,
}

abbrev with_holding : Kept → List ℕ → Kept
with_holding k holding = kept k.firms holding k.done k.next k.sets

abbrev with_steps : Kept → List ℕ → List ℕ → Kept
with_steps k done next = kept k.firms k.holding done next k.sets

pub returns : goal.returns
returns g c =
    λ t l serves keeps.
    let args = c.args in
    let r = args.r in
    let e = args.folder in
    let k = args.kept.now in
    let fixed = args.fixed.now in
    let placed = c.place-at in
    let at = placed.result in
    let q = asked_by r.kind r.person r.target r.step in
    let x = right_by r.kind e.kind at.step in
    let row = row_of_lem r.kind r.person r.target r.step c.requires.0 c.requires.1 in
    let enough = c.requires.2 in
    let told = c.asked-asked.ensures in
    found_at t args.h.now l c.told-h fixed.mask r.kind r.person r.target r.step c.requires.0 c.requires.1 placed.ensures.1 k
    fixed.holders fixed.steps e args.class serves keeps at c.from-firm.result x placed.ensures.0 c.from-firm.ensures refl
    (c.counts-counts.ensures (is_access q) (c.row.ensures ∙ row.access))
    (λ p a b m n asked shape out counted la lb needed own.
    (rw told at c.judge-first.ensures.1) p a b m n asked shape out counted la lb needed own
    ∙ ap first_failing
    (fewer_failing _ _ _ p fixed.mask a b m n asked (get_or k.firms at.person 0) args.class c.from-firm.result
    (get_or k.holding at.person 0) (get_or fixed.holders x 0) (get_or k.next at.place 0) at.step enough))
    (λ p g' asked shape all counted.
    let firms =
    cond (bit fixed.mask wall_rule)
    (set k.firms at.person
    (cond (g' && asked) (with_bit (get_or k.firms at.person 0) (c.from-firm.result % 64)) (get_or k.firms at.person 0))) k.firms in
    let holding =
    cond (bit fixed.mask roles_rule)
    (set k.holding at.person
    (cond g' (bit_and (get_or k.holding at.person 0) (get_or fixed.holders x 0)) (get_or k.holding at.person 0))) k.holding in
    let sets = set k.sets at.person c.narrowed.result in
    let walls : c.if-this-ne0.kept ≡ kept firms k.holding k.done k.next sets =
    elim c.if-this-ne0.branch [
      | then-this-ne0 w ↦ w.kept-is ∙ ap (λ (f : List ℕ). kept f k.holding k.done k.next sets) (w.keep_firm.ensures g' asked all counted)
      | else-this-ne0 w ↦ w.kept-is ∙ rw (unasked _ _ enough.walls w.if-this-ne0.false) refl
    ] in
    let rights : c.if-this-ne0-2.kept ≡ kept firms holding k.done k.next sets =
    elim c.if-this-ne0-2.branch [
      | then-this-ne0-2 w ↦
          w.kept-is ∙ ap (with_holding c.if-this-ne0.kept) (w.keep_roles.ensures g' all)
          ∙ rw (walls, told, asked_about _ (get_or fixed.holders x 0) 0 w.if-this-ne0-2.true) refl
      | else-this-ne0-2 w ↦ w.kept-is ∙ walls ∙ rw (unasked _ _ enough.rights w.if-this-ne0-2.false) refl
    ] in
    let b = g' && is_step p in
    let done =
    cond b
    (cond (bit fixed.mask pipeline_rule) (set k.done at.place (with_bit (get_or k.done at.place 0) (at.step % 64))) k.done) k.done in
    let next =
    cond b
    (cond (bit fixed.mask pipeline_rule)
    (set k.next at.place
    (mask_below 16 (pipeline_in fixed.steps (with_bit (get_or k.done at.place 0) (at.step % 64) % 65536)))) k.next) k.next in
    let steps : c.if-this-ne0-3.kept ≡ kept firms holding done next sets =
    elim c.if-this-ne0-3.branch [
      | then-this-ne0-3 w ↦
          let (more, then) = w.keep_step.ensures b (masked_one g' (is_step p) all (w.row-then-this-ne0-3.ensures ∙ shape.step)) in
          w.kept-is ∙ ap₂ (with_steps c.if-this-ne0-2.kept) more then ∙ rw rights refl
      | else-this-ne0-3 w ↦
          w.kept-is ∙ rights
          ∙ rw (unasked _ _ enough.steps w.if-this-ne0-3.false)
          (ap₂ (with_steps (kept firms holding k.done k.next sets)) (either_way b _) (either_way b _))
    ] in
    record {
      history = c.set_bit.ensures g' all;
      added = rw steps (record { firms = refl; holding = refl; done = refl; next = refl });
      levels =
          ap (λ (y : Kept). y.sets) steps
          ∙ ap (set k.sets at.person)
          ((rw told at c.narrowed.ensures) (g' && lowers p) (masked_all g' (lowers p) all (c.row-2.ensures ∙ shape.low)));
    })
    c.judge-first.ensures.0 c.grant-all.ensures c.number.ensures
