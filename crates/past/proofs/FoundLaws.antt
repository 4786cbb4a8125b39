-- The rights that a walk found, wherever it stopped: each folder only adds rights, so that those found are among the whole; and they are
-- the whole if a role still holds them and the new right.
use Prim.Native.Nat.{ℕ, zero, suc, ◌+◌, ◌≤◌}
use native.Mathlib.Omega.{arith}
use mathlib.Core.Path.{◌≡◌, sym, ap, ◌∙◌}
use mathlib.Core.Logic.{inl, inr, ⊎_elim}
use mathlib.Core.Bool.{Bool, true, false, cond}
use mathlib.Core.List.{List}
use lib.Dec.{eqb}
use Rattle.bits.specs.Bits.{bit, with_bit, fold_set}
use Rattle.bits.specs.Bounded.{fold_below}
use Rattle.bits.proofs.BitLaws.{bit_with, bit_below}
use Rattle.bits.proofs.Booleans.{or_right, false_elim}
use Rattle.bits.proofs.Bounds.{any_some, some_any}
use Rattle.bits.proofs.Masks.{mask_lt, bit_mask_below}
use Rattle.policy.specs.declared.Folder.{Folder}
use Rattle.policy.specs.declared.Tables.{Tables}
use Rattle.policy.specs.Tables.{folder_at}
use Rattle.policy.specs.Request.{Request}
use Rattle.rules.specs.Sets.{roles_in}
use Rattle.past.specs.Found.{Within, FoundOf}
use Rattle.past.specs.Past.{used_on, rights_below}
use Rattle.recorded.specs.Recorded.{with_bit_if}
use Rattle.past.specs.Turns.{rights_after, rights_turn}
use Rattle.recorded.specs.Visits.{Leads}

-- ---- sets within sets

pub within_self : (n : ℕ) → Within n n
within_self n = record { member = λ k e. e }

pub within_trans : {a b c : ℕ} → Within a b → Within b c → Within a c
within_trans one other = record { member = λ k e. other.member k (one.member k e) }

pub within_added : (add : Bool) (n x : ℕ) → Within n (with_bit_if add n x)
within_added true n x = record { member = λ k e. bit_with n x k ∙ or_right (eqb k x) _ e }
within_added false n x = within_self n

-- one folder, and those of a set
within_after : (e : Folder) (was_read was_written : Bool) (n : ℕ) → Within n (rights_after e was_read was_written n)
unfolding rights_after
within_after e was_read was_written n = go e.declared
  where
    go : (declared : Bool) → Within n (cond declared (with_bit_if was_written (with_bit_if was_read n e.kind) (16 + e.kind)) n)
    go true = within_trans (within_added was_read n e.kind) (within_added was_written _ (16 + e.kind))
    go false = within_self n

module _ (turn : ℕ → ℕ → ℕ) (adds : (i n : ℕ) → Within n (turn i n)) (set : ℕ) where
  within_turn : (i : ℕ) (member : Bool) (n : ℕ) → Within n (cond member (turn i n) n)
  within_turn i true n = adds i n
  within_turn i false n = within_self n

  within_fold : (w n : ℕ) → Within n (fold_below w (λ i x. cond (bit set i) (turn i x) x) n)
  unfolding fold_below
  within_fold zero n = within_self n
  within_fold (suc w) n = within_trans (within_fold w n) (within_turn w (bit set w) _)

-- what leads to the whole is within it
pub leads_within : (t : Tables) (first reads writes : ℕ) {whole rest found : ℕ}
    → Leads (rights_turn t first reads writes) whole rest found → Within found whole
unfolding fold_set rights_turn
leads_within t first reads writes {whole} {rest} {found} left =
    let turned = within_fold (rights_turn t first reads writes)
    (λ i n. within_after (folder_at t (first + i)) (bit reads i) (bit writes i) n) rest 64 found in
    record { member = λ k e. ap (λ (n : ℕ). bit n k) (sym left.same) ∙ turned.member k e }

-- the rights of fewer folders are among those of more
within_below : (t : Tables) (H : Request → Bool) (s n m : ℕ) → n ≤ m → Within (rights_below t H s n) (rights_below t H s m)
within_below t H s n m fewer =
    record {
      member =
          λ k e.
          let l = bit_below 64 _ k (mask_lt 64 _) e in
          let (o, below, uses) = any_some n (used_on t H s k) (sym (bit_mask_below 64 _ k l) ∙ e) in
          bit_mask_below 64 _ k l ∙ some_any m (used_on t H s k) o (omega arith) uses;
    }

-- ---- the rights found

module _ {roles : List ℕ} {x whole found : ℕ} where
  pub found_whole : found ≡ whole → FoundOf roles x whole found
  found_whole all = record { within = rw all (within_self whole); enough = inl all }

  pub found_stopped : Within found whole → roles_in roles (with_bit found x) ≡ false → FoundOf roles x whole found
  found_stopped sub none = record { within = sub; enough = inr none }

  -- a walk after which a role holds the rights was not stopped
  pub found_held : FoundOf roles x whole found → roles_in roles (with_bit found x) ≡ true → found ≡ whole
  found_held out some = ⊎_elim (λ all. all) (λ none. absurd (false_elim _ none some)) out.enough

-- a walk that was stopped need not go on
pub found_further : (t : Tables) (H : Request → Bool) (s n m : ℕ) {roles : List ℕ} {x found : ℕ} → n ≤ m
    → FoundOf roles x (rights_below t H s n) found → roles_in roles (with_bit found x) ≡ false → FoundOf roles x (rights_below t H s m) found
found_further t H s n m fewer out none = found_stopped (within_trans out.within (within_below t H s n m fewer)) none
