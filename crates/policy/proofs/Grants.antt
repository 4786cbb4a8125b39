-- The second demand: a request of declared parties is granted exactly where every rule in force permits it by its published form, low-water
-- with the levels in the buffer; then put adds it to the set and lowers its person's entry, and nothing else. Each rule is its published
-- form, and a rule not in force refuses nothing.
use Prim.Native.Nat.{ℕ, ◌<◌}
use mathlib.Core.Path.{◌≡◌, sym, ◌∙◌}
use mathlib.Core.Logic.{◌↔◌}
use mathlib.Core.Bool.{Bool, true}
use mathlib.Core.Option.{some}
use Rattle.bits.proofs.Booleans.{and_left, implies_elim, implies_intro}
use Rattle.policy.specs.declared.Tables.{Tables}
use Rattle.policy.specs.Checks.{ladder}
use Rattle.policy.specs.Tables.{in_force, person_declared}
use Rattle.policy.specs.Request.{Request, read, write, start, step, set_of}
use Rattle.policy.specs.Levels.{level_at}
use Rattle.policy.specs.Rules.{declared, low_water}
use Rattle.policy.specs.Calls.{request_checks}
use Rattle.policy.specs.Published.{Observes}
use Rattle.policy.specs.Demands.{Permitted, Grants}
use Rattle.policy.proofs.Requests.{person_below_lem, declared_person}
use Rattle.policy.proofs.Published.{wall_published, roles_published, pipeline_published}
use Rattle.policy.proofs.Granted.{Passed, checks_passed, passed_checks}
use Rattle.policy.proofs.Places.{size_recorded}
use Rattle.policy.proofs.LevelBytes.{size_lowered, lowered_own, lowered_other}
use Rattle.policy.proofs.Held.{low_water_held, low_water_by_set, held_levels}
use Rattle.policy.proofs.Histories.{judge_request, put_state_lem, added}
use Rattle.policy.proofs.Fronts.{front_request, parties_declared}
use Rattle.policy.proofs.Books.{gives}

-- the checks pass exactly where every rule in force permits
module _ (t : Tables) (H : Request → Bool) (levels : ℕ → ℕ) (r : Request) (LowWater : Type 0)
    (level : (low_water t levels r ≡ true) ↔ LowWater)
  where
    permitted_passed : declared t r ≡ true → Permitted t H LowWater r → Passed t H levels r
    unfolding in_force
    permitted_passed d p =
        record {
          parties = d;
          walled = implies_intro _ _ (λ on. (wall_published t H r).1 (p.wall on));
          levelled = implies_intro _ _ (λ on. level.1 (p.low_water on));
          covered = implies_intro _ _ (λ on. (roles_published t H r).1 (p.roles on));
          piped = implies_intro _ _ (λ on. (pipeline_published t H r).1 (p.pipeline on));
        }

    passed_permitted : Passed t H levels r → Permitted t H LowWater r
    unfolding in_force
    passed_permitted p =
        record {
          wall = λ on. (wall_published t H r).0 (implies_elim _ _ p.walled on);
          low_water = λ on. level.0 (implies_elim _ _ p.levelled on);
          roles = λ on. (roles_published t H r).0 (implies_elim _ _ p.covered on);
          pipeline = λ on. (pipeline_published t H r).0 (implies_elim _ _ p.piped on);
        }

    pub granted_exactly : (n : ℕ) → n ≡ ladder (request_checks t H levels (some r)) → declared t r ≡ true
        → (n ≡ 0) ↔ Permitted t H LowWater r
    granted_exactly n same known = (
      λ e. passed_permitted (checks_passed t H levels r (sym same ∙ e)),
      λ p. same ∙ passed_checks t H levels r (permitted_passed known p),
    )

-- the person of a declared read or step is one of the 64
observer_below : (t : Tables) (r : Request) (s o : ℕ) → declared t r ≡ true → Observes r s o → s < 64
unfolding declared
observer_below t (read s' o') s o d w = rw (← w.0) (person_below_lem t s' (and_left (person_declared t s') _ d))
observer_below t (write s' o') s o d w = absurd w
observer_below t (start s' u) s o d w = absurd w
observer_below t (step s' p o') s o d w = rw (← w.0) (person_below_lem t s' (declared_person t s' p o' d))

pub grants : Grants
unfolding level_at
grants t a bytes rest r loads size held front parties =
    let ok = ((gives t).1 loads).1 in
    let is = front_request r rest front in
    let known = (parties_declared t r).1 parties in
    let same = judge_request t a bytes r (record { size = size; held = held; tables = ok }) is in
    let H = set_of a.history in
    let levels = level_at a.levels in
    record {
      exactly = granted_exactly t H levels r _ (low_water_held t a.levels r) _ same known;
      by_set = λ current. granted_exactly t H levels r _ (low_water_by_set t H levels (held_levels t a current) r known) _ same known;
      added = added t a bytes r size is known;
      lowers = λ e s o w. rw (put_state_lem t a bytes r is e) (lowered_own t a.levels r s o held (observer_below t r s o known w) w);
      leaves = λ e i other. rw (put_state_lem t a bytes r is e) (lowered_other t a.levels r i other);
      lengths = λ e. (
        rw (put_state_lem t a bytes r is e) (size_recorded a.history r ∙ size),
        rw (put_state_lem t a bytes r is e) (size_lowered t a.levels r ∙ held),
      );
    }
