-- A list that a loop maps in place: the first p elements are mapped, and the others are as they were. Each turn maps one more, and after
-- the last the list is the mapped one.
use Prim.Native.Nat.{ℕ, suc, ◌+◌, ◌<◌}
use native.Mathlib.Numerals.{add-one}
use native.Mathlib.Nat.{le_of_lt}
use mathlib.Core.List.{List, ◌++◌, map, append-nil}
use mathlib.Core.Path.{◌≡◌, refl, ◌∙◌}
use lib.ListN.{length, get_or, take, drop, set, length-map, get_or-map}
use lib.Seq.{drop-cons, take-suc, append_snoc, set_at, get_or_at, length-take-le, take-length, drop-length}

unfoldable pub mapped : (ℕ → ℕ) → List ℕ → ℕ → List ℕ
mapped f l p = take p (map f l) ++ drop p l

pub mapped_none : (f : ℕ → ℕ) (l : List ℕ) → l ≡ mapped f l 0
unfolding mapped
mapped_none f l = refl

pub mapped_all : (f : ℕ → ℕ) (l : List ℕ) → mapped f l (length l) ≡ map f l
unfolding mapped
mapped_all f l = rw (drop-length l, ← length-map l f) (append-nil _ ∙ take-length (map f l))

module _ (f : ℕ → ℕ) (l : List ℕ) (p : ℕ) (h : p < length l) where
  front : length (take p (map f l)) ≡ p
  front = length-take-le p (map f l) (rw (length-map l f) (le_of_lt h))

  pub mapped_at : get_or (mapped f l p) p 0 ≡ get_or l p 0
  unfolding mapped
  mapped_at = rw (drop-cons l p 0 h) (get_or_at (take p (map f l)) (get_or l p 0) (drop (suc p) l) 0 p front)

  pub mapped_more : set (mapped f l p) p (f (get_or l p 0)) ≡ mapped f l (p + 1)
  unfolding mapped
  mapped_more =
      rw (drop-cons l p 0 h, add-one, take-suc (map f l) p (f 0) (rw (length-map l f) h), get_or-map f l p 0, append_snoc)
      (set_at (take p (map f l)) (get_or l p 0) (drop (suc p) l) (f (get_or l p 0)) p front)
