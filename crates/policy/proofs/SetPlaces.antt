-- The set of a history is by the place of each request's bit: the definitions of the index, of a bit's byte and of a request that has a
-- place say together what document 01 says of each kind of request.
use Prim.Native.Nat.{ℕ, ◌<◌}
use mathlib.Core.Path.{◌≡◌}
use mathlib.Core.Logic.{◌↔◌}
use mathlib.Core.Bool.{Bool, true, ◌&&◌}
use lib.Dec.{ltb}
use borrow.Author.Tests.{ltb-true, lt-ltb}
use Rattle.bits.proofs.Booleans.{and_left, and_right, and_both}
use Rattle.policy.specs.History.{bit_at}
use Rattle.policy.specs.Request.{index, has_place, set_of}
use Rattle.policy.specs.Demands.{Places}

two_below : (a b n m : ℕ) (c : Bool) → ((ltb a n && ltb b m) && c ≡ true) ↔ ((a < n) × (b < m) × (c ≡ true))
two_below a b n m c = (
  λ e.
      let both = and_left (ltb a n && ltb b m) c e in
      (ltb-true a n (and_left (ltb a n) _ both), ltb-true b m (and_right (ltb a n) _ both), and_right (ltb a n && ltb b m) c e),
  λ w. and_both _ _ (and_both _ _ (lt-ltb a n w.0) (lt-ltb b m w.1)) w.2,
)

three_below : (a b d n m k : ℕ) (c : Bool)
    → ((ltb a n && ltb b m && ltb d k) && c ≡ true) ↔ ((a < n) × (b < m) × (d < k) × (c ≡ true))
three_below a b d n m k c =
    let w = two_below a b n m (ltb d k) in (
      λ e.
          let x = w.0 (and_left (ltb a n && ltb b m && ltb d k) c e) in
          (x.0, x.1, ltb-true d k x.2, and_right (ltb a n && ltb b m && ltb d k) c e),
      λ x. and_both _ _ (w.1 (x.0, x.1, lt-ltb d k x.2)) x.3,
    )

pub places : Places
unfolding set_of has_place index bit_at
places =
    record {
      read = λ h s o. two_below s o 64 128 _;
      write = λ h s o. two_below s o 64 128 _;
      start = λ h s u. two_below s u 64 64 _;
      step = λ h s p o. three_below s p o 64 16 128 _;
    }
