-- The checks of the end record on the 16 sets of the steps that each step enables: circles by closing the sets, and steps that enable but
-- are in no set. That they are the checks of document 01 is proved in proofs/StepLaws.antt.
use Rattle.std.specs.Prelude.{ℕ, zero, suc, Bool, cond, not, ◌&&◌, List, map, eqb, get_or}
use Rattle.std.specs.Int.Bits.{bit_or}
use Rattle.bits.specs.Bits.{bit}
use Rattle.bits.specs.Bounded.{any_below, fold_below}

-- a set, with the members of row, the set of step k, where k is in it
unfoldable pub joined : ℕ → ℕ → ℕ → ℕ
joined k row set = cond (bit set k) (bit_or set row) set

-- the sets with the ways through step k
unfoldable pub through : ℕ → List ℕ → List ℕ
through k sets = map (joined k (get_or sets k 0)) sets

-- the sets with the ways through steps below k
unfoldable pub closed : ℕ → List ℕ → List ℕ
closed zero sets = sets
closed (suc k) sets = through k (closed k sets)

-- step p is in its own set
unfoldable pub on_itself : List ℕ → ℕ → Bool
on_itself sets p = bit (get_or sets p 0) p

unfoldable pub circle_in : List ℕ → Bool
circle_in sets = any_below 16 (on_itself (closed 16 sets))

-- the steps that a step below n enables
unfoldable pub enabled_below : ℕ → List ℕ → ℕ
enabled_below n sets = fold_below n (λ p union. bit_or union (get_or sets p 0)) 0

-- step p, other than 0, has a set that is not empty and is not in the set of the enabled steps
unfoldable pub loose_among : ℕ → ℕ → ℕ → Bool
loose_among enabled set p = not (eqb p 0) && not (eqb set 0) && not (bit enabled p)

unfoldable pub loose_in : List ℕ → Bool
loose_in sets = any_below 16 (λ p. loose_among (enabled_below 16 sets) (get_or sets p 0) p)
