-- What a plan by a book comes to, with its positions over the first bytes of those lent for them.
use Prim.Native.Nat.{ℕ, ◌≤◌, ◌<◌}
use native.Mathlib.Omega.{arith}
use mathlib.Core.Path.{◌≡◌, refl, sym, ap, ◌∙◌}
use mathlib.Core.Logic.{◌≢◌}
use mathlib.Core.List.{List, ◌++◌}
use lib.ListN.{length, drop}
use borrow.Author.Tests.{eq-eqb, ne_eqb, le-leb, lt-leb}
use Rattle.policy.specs.declared.Loaded.{Loaded}
use Rattle.policy.specs.declared.Job.{Job}
use Rattle.policy.specs.declared.Plan.{Plan}
use Rattle.policy.specs.Checks.{ladder}
use Rattle.policy.specs.Calls.{State, call_checks}
use Rattle.policy.specs.Plans.{IsPlan}
use Rattle.policy.proofs.CallChecks.{taken, ready_then, refused_first}
use Rattle.exports.specs.Packed.{room_by, positions_by, PlanBy}

-- ---- the number

module _ {l m : Loaded} (same : l ≡ m) (a : State) (jobs : List Job) (lent : List ℕ) where
  room_by_lem : (n : ℕ) → room_by l a lent ≡ n → room_by m a lent ≡ n
  room_by_lem n e = ap (λ (x : Loaded). room_by x a lent) (sym same) ∙ e

  -- a check before the plan's own refuses
  before : (n : ℕ) → room_by l a lent ≡ n → n ≢ 0 → PlanBy m a jobs lent n lent
  before n e other =
      let is = room_by_lem n e in
      record { refused = λ k. (sym is, refl); planned = λ z. absurd (other (sym is ∙ z)) }

  pub book_refused_lem : l.number ≢ 0 → PlanBy m a jobs lent l.number lent
  unfolding room_by
  book_refused_lem bad = before l.number (rw (ne_eqb l.number 0 bad)) bad

  module _ (good : l.number ≡ 0) where
    pub lengths_refused : (n : ℕ) → n ≡ ladder (call_checks l.tables a) → n ≢ 0 → PlanBy m a jobs lent n lent
    unfolding room_by
    lengths_refused n e other =
        before n (rw (eq-eqb l.number 0 good) (refused_first l.tables a _ (λ z. other (e ∙ z)) ∙ sym e)) other

    module _ (passed : ladder (call_checks l.tables a) ≡ 0) where
      pub few_positions : length lent < 64 → PlanBy m a jobs lent 18 lent
      unfolding room_by ladder
      few_positions few =
          before 18
          (rw (eq-eqb l.number 0 good) (ready_then l.tables a _ (taken l.tables a passed) ∙ rw (lt-leb 64 (length lent) few)))
          (λ z. omega arith)

      module _ (room : 64 ≤ length lent) (p : Plan) (is : IsPlan l.tables a jobs p) where
        no_check : room_by l a lent ≡ 0
        unfolding room_by ladder
        no_check =
            rw (eq-eqb l.number 0 good) (ready_then l.tables a _ (taken l.tables a passed) ∙ rw (le-leb 64 (length lent) room))

        answered : (n : ℕ) (written : List ℕ) → n ≡ p.number → written ≡ positions_by p lent → PlanBy m a jobs lent n written
        answered n written e f =
            record {
              refused = λ k. absurd (k (room_by_lem 0 no_check));
              planned = λ z. (p, rw (ap (λ (x : Loaded). x.tables) same) at is, e, f);
            }

        pub plan_refused : p.number ≢ 0 → PlanBy m a jobs lent p.number lent
        unfolding positions_by
        plan_refused other = answered p.number lent refl (rw (ne_eqb p.number 0 other))

        pub plan_found : p.number ≡ 0 → {written : List ℕ} → written ≡ p.positions ++ drop 64 lent → PlanBy m a jobs lent 0 written
        unfolding positions_by
        plan_found zero e = answered 0 _ (sym zero) (rw (eq-eqb p.number 0 zero) e)
