-- What a folder's and a person's place in the array say of the tables that it holds: the entry at a place is the one that is read there,
-- since the values of a function at the numbers below n are read back one by one.
use Prim.Native.Nat.{ℕ, zero, suc, ◌+◌, ◌<◌}
use native.Mathlib.Nat.{le_of_suc-le-suc, not-suc-le-zero}
use native.Mathlib.Omega.{arith}
use mathlib.Core.Path.{◌≡◌, ap, ◌∙◌}
use mathlib.Core.List.{List}
use lib.ListN.{get_or}
use Rattle.policy.specs.Tables.{no_person, no_folder, person_at, folder_at}
use Rattle.packed.specs.Packed.{folder_of, person_of, values_from, tables_of}

-- ---- the values of a function

values_from_lem : {A : Type 0} (n at : ℕ) (f : ℕ → A) (k : ℕ) (d : A) → k < n → get_or (values_from n at f) k d ≡ f (at + k)
unfolding values_from
values_from_lem zero at f k d l = absurd (not-suc-le-zero l)
values_from_lem (suc n) at f zero d l =
    let same : at ≡ at + 0 = omega arith in
    ap f same
values_from_lem (suc n) at f (suc k) d l =
    let next : suc at + k ≡ at + suc k = omega arith in
    values_from_lem n (suc at) f k d (le_of_suc-le-suc l) ∙ ap f next

pub values_at : {A : Type 0} (n : ℕ) (f : ℕ → A) (k : ℕ) (d : A) → k < n → get_or (values_from n 0 f) k d ≡ f k
values_at n f k d l =
    let same : 0 + k ≡ k = omega arith in
    values_from_lem n 0 f k d l ∙ ap f same

-- ---- the entries

module _ (w : List ℕ) where
  pub folder_at_lem : (o : ℕ) → o < 128 → folder_at (tables_of w) o ≡ folder_of (get_or w o 0)
  unfolding tables_of
  folder_at_lem o l = values_at 128 (λ o. folder_of (get_or w o 0)) o no_folder l

  pub person_at_lem : (s : ℕ) → s < 64 → person_at (tables_of w) s ≡ person_of (get_or w 305 0) s (get_or w (128 + s) 0)
  unfolding tables_of
  person_at_lem s l = values_at 64 (λ s. person_of (get_or w 305 0) s (get_or w (128 + s) 0)) s no_person l
