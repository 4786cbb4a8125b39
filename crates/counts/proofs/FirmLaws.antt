-- The firm that a request is counted under, from its kind and its folder's entry: that of a declared folder, and none where no folder is
-- named. It holds kind by kind; a folder below 128 is its own remainder, so the entry at hand is its own, and any other is undeclared.
use Prim.Native.Nat.{ℕ, ◌%◌}
use native.Mathlib.Omega.{arith}
use mathlib.Core.Path.{◌≡◌, refl, sym, ◌∙◌}
use mathlib.Core.Bool.{Bool, true, false, cond, ◌&&◌, ◌||◌}
use lib.Dec.{eqb, ltb}
use borrow.Author.Tests.{ltb-true, eqb-true, ne_eqb}
use Rattle.policy.specs.declared.Tables.{Tables}
use Rattle.policy.specs.declared.Folder.{Folder}
use Rattle.policy.specs.Tables.{folder_at, folder_declared}
use Rattle.policy.specs.Tallies.{firm_of, counted_under}
use Rattle.request.specs.declared.Parsed.{Parsed}
use Rattle.request.specs.Parsed.{request_for, as_request}

-- the firm of a folder, from the entry at its remainder
firm_from : (t : Tables) (o : ℕ) (f : Folder) (b : Bool) → ltb o 128 ≡ b → f ≡ folder_at t (o % 128)
    → firm_of t o ≡ cond (b && f.declared) f.firm 64
unfolding firm_of folder_declared
firm_from t o f true e same =
    let l = ltb-true o 128 e in
    let its : o % 128 ≡ o = omega arith in
    rw (e, same, its)
firm_from t o f false e same = rw e

-- the tests of the kind are given as Booleans, so that each kind is a case
by_kind : (t : Tables) (k s o p : ℕ) (firm : ℕ) (a b c d : Bool) → eqb k 16 ≡ a → eqb k 17 ≡ b → eqb k 18 ≡ c → eqb k 19 ≡ d
    → firm_of t o ≡ firm → counted_under t (request_for k s o p) ≡ cond (a || b || d) firm 64
unfolding counted_under request_for
by_kind t k s o p firm true b c d ea eb ec ed e = rw ea e
by_kind t k s o p firm false true c d ea eb ec ed e = rw (ea, eb) e
by_kind t k s o p firm false false true d ea eb ec ed e =
    let is : k ≡ 18 = eqb-true k 18 ec in
    let no_step : d ≡ false = sym ed ∙ ne_eqb k 19 (omega arith) in
    rw (ea, eb, ec, no_step)
by_kind t k s o p firm false false false true ea eb ec ed e = rw (ea, eb, ec, ed) e
by_kind t k s o p firm false false false false ea eb ec ed e = rw (ea, eb, ec, ed)

cond_and : (a b : Bool) (x y : ℕ) → cond a (cond b x y) y ≡ cond (a && b) x y
cond_and true b x y = refl
cond_and false b x y = refl

-- by the tests of the code: the kind names a folder, and its entry is found and declared
pub counted : (t : Tables) (r : Parsed) (f : Folder) (named found : Bool)
    → named ≡ (eqb r.kind 16 || eqb r.kind 17 || eqb r.kind 19) → found ≡ (ltb r.target 128 && f.declared)
    → f ≡ folder_at t (r.target % 128) → counted_under t (as_request r) ≡ cond (named && found) f.firm 64
unfolding as_request
counted t r f named found en ef same =
    let k : ℕ = r.kind in
    let a : Bool = eqb k 16 || eqb k 17 || eqb k 19 in
    let b : Bool = ltb r.target 128 && f.declared in
    rw (en, ef) (by_kind t k r.person r.target r.step _ _ _ _ _ refl refl refl refl (firm_from t r.target f _ refl same)
    ∙ cond_and a b f.firm 64)
