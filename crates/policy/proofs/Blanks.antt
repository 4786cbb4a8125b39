-- A blank that answers 0 leaves 18,944 bytes, all zero, and 128 bytes of levels: the first ones, and zero for the undeclared. Any two
-- buffers of these lengths can be blanked with a load's tables, so there are lists from blank.
use Prim.Native.Nat.{ℕ, zero, suc, ◌<◌}
use mathlib.Core.Path.{◌≡◌, refl, ap, ◌∙◌}
use mathlib.Core.Logic.{⊎_elim}
use mathlib.Core.Bool.{true, false}
use mathlib.Core.List.Memᴰ
use mathlib.Core.List.{Memᴰ}
use lib.ListN.{length}
use Rattle.bits.proofs.Booleans.{false_intro}
use Rattle.policy.specs.declared.Tables.{Tables}
use Rattle.policy.specs.Tables.{person_at, person_declared}
use Rattle.policy.specs.Rulebook.{given}
use Rattle.policy.specs.History.{history_bytes, zeros}
use Rattle.policy.specs.Levels.{levels_bytes, level_at, first_level, first_levels}
use Rattle.policy.specs.Calls.{State, state, blank_number, blank_state}
use Rattle.policy.specs.Demands.{Blanks}
use Rattle.policy.proofs.CallChecks.{taken, ready_passes}
use Rattle.policy.proofs.Places.{sized_zeros}
use Rattle.policy.proofs.LevelBytes.{holding_level, holding_first}
use Rattle.policy.proofs.Requests.{person_below_lem}
use Rattle.policy.proofs.Fronts.{is_person}
use Rattle.policy.proofs.Loads.{loaded_given}

all_zero : (n b : ℕ) → Memᴰ b (zeros n) → b ≡ 0
unfolding zeros
all_zero zero b m = absurd (Memᴰ.not-nil m)
all_zero (suc n) b m = ⊎_elim (λ e. e) (λ later. all_zero n b later) (Memᴰ.cases_cons m)

module _ (t : Tables) (a : State) (e : blank_number t a ≡ 0) where
  pub blanked : blank_state t a ≡ state (zeros history_bytes) (first_levels t a.levels)
  unfolding blank_state
  blanked = rw e

  pub blank_held : length a.levels ≡ levels_bytes
  unfolding blank_number
  blank_held = (taken t a e).held

  -- the entry of each of the 64 persons: the first level of a declared one, and zero
  first_level_lem : (s : ℕ) → s < 64 → level_at (blank_state t a).levels s ≡ first_level t s
  first_level_lem s below =
      ap (λ (x : State). level_at x.levels s) blanked
      ∙ holding_level (first_level t) (first_levels t a.levels) s (holding_first t a.levels blank_held) below

  pub first_declared : (s : ℕ) → person_declared t s ≡ true → level_at (blank_state t a).levels s ≡ (person_at t s).level.0
  unfolding first_level
  first_declared s d = first_level_lem s (person_below_lem t s d) ∙ rw d

  first_undeclared : (s : ℕ) → s < 64 → person_declared t s ≡ false → level_at (blank_state t a).levels s ≡ 0
  unfolding first_level
  first_undeclared s below d = first_level_lem s below ∙ rw d

blank_right : (t : Tables) (a : State) → given t ≡ true → length a.history ≡ history_bytes → length a.levels ≡ levels_bytes
    → blank_number t a ≡ 0
unfolding blank_number
blank_right t a ok size held = ready_passes t a (record { size = size; held = held; tables = ok })

pub blanks : Blanks
unfolding level_at
blanks =
    record {
      zeros = λ t a e. (rw (blanked t a e) sized_zeros.size, λ b m. all_zero history_bytes b (rw (blanked t a e) at m));
      size = λ t a e. rw (blanked t a e) (holding_first t a.levels (blank_held t a e)).size;
      first = λ t a s e person. first_declared t a e s ((is_person t s).1 person);
      others = λ t a e s below nobody. first_undeclared t a e s below (false_intro _ (λ d. nobody ((is_person t s).0 d)));
      starts = λ book loads a size held. (a, blank_right _ a (loaded_given book loads) size held, refl);
    }
