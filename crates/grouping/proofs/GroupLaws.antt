-- The groups of folders are below 64, or 64, since given tables have every declared folder's firm and kind in range.
use Prim.Native.Nat.{ℕ, ◌<◌}
use native.Mathlib.Omega.{arith}
use mathlib.Core.Path.{◌≡◌}
use mathlib.Core.Bool.{true, not, ◌&&◌}
use mathlib.Core.List.{List}
use Rattle.bits.proofs.Booleans.{and_left, by_test}
use Rattle.policy.specs.declared.Tables.{Tables}
use Rattle.policy.specs.Tables.{folder_at}
use Rattle.policy.specs.Rulebook.{given}
use Rattle.recorded.specs.Gathering.{FirstAre}
use Rattle.recorded.proofs.Recorded.{entry_below}
use Rattle.grouping.specs.Groups.{Grouped, group_of, firm_group, kind_group}

grouped_all : (f : ℕ → ℕ) {groups : List ℕ} → ((o : ℕ) → o < 128 → f o < 65) → FirstAre 128 128 f groups → Grouped f groups
grouped_all f fits all = record { each = all.each; fit = λ o l. rw (all.each o l) (fits o l) }

module _ (t : Tables) (ok : given t ≡ true) where
  pub firms_grouped : {groups : List ℕ} → FirstAre 128 128 (firm_group t) groups → Grouped (firm_group t) groups
  unfolding firm_group group_of
  firms_grouped =
      grouped_all (firm_group t) (λ o l.
      by_test (λ (n : ℕ). n < 65) ((folder_at t o).declared && not (folder_at t o).public) _ _
      (λ d. let small = (entry_below t ok o l).firm (and_left (folder_at t o).declared _ d) in omega arith) (λ d. omega arith))

  pub kinds_grouped : {groups : List ℕ} → FirstAre 128 128 (kind_group t) groups → Grouped (kind_group t) groups
  unfolding kind_group group_of
  kinds_grouped =
      grouped_all (kind_group t) (λ o l.
      by_test (λ (n : ℕ). n < 65) (folder_at t o).declared _ _
      (λ d. let small = (entry_below t ok o l).kind d in omega arith) (λ d. omega arith))
