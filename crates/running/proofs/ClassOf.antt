-- The class that the loop looks up is that of the entry of the request's folder, also of an undeclared one, whose firm is 0: the numbers of
-- a folder's firm and of its class are in range, so each is its own rest by the length of its array.
use Prim.Native.Nat.{ℕ, ◌%◌, ◌<◌}
use native.Mathlib.Nat.{mod-lt}
use native.Mathlib.Omega.{arith}
use mathlib.Core.Path.{◌≡◌, ap, ◌∙◌}
use mathlib.Core.Logic.{⊎_elim}
use mathlib.Core.Bool.{true}
use mathlib.Core.List.{List}
use lib.ListN.{get_or}
use borrow.Author.Tests.{lt-ltb}
use Rattle.bits.proofs.Booleans.{and_both}
use Rattle.policy.specs.declared.Folder.{Folder}
use Rattle.policy.specs.declared.Tables.{Tables}
use Rattle.policy.specs.Tables.{firm_at, folder_at, folder_declared, class_of}
use Rattle.policy.specs.Rulebook.{given}
use Rattle.policy.proofs.GivenEntries.{given_entries, folder_firm, folder_cases}
use Rattle.rules.specs.Sets.{firms_of, HasClasses}
use Rattle.rules.proofs.ClassLaws.{class_below}

any_firm : (t : Tables) (o : ℕ) → given t ≡ true → o < 128 → (folder_at t o).firm < 64
unfolding folder_declared
any_firm t o ok below =
    ⊎_elim (λ e. rw e (omega arith)) (λ e. folder_firm t ok o (and_both _ _ (lt-ltb o 128 below) (ap (λ (x : Folder). x.declared) e.0)))
    (folder_cases t (folder_at t o) ((given_entries t ok).folders o below))

pub class_is : (t : Tables) (o : ℕ) (classes : List ℕ) {f c class : ℕ} → given t ≡ true → HasClasses t classes
    → f ≡ (folder_at t (o % 128)).firm → c ≡ (firm_at t (f % 64)).class → class ≡ get_or classes (c % 32) 0
    → class ≡ firms_of t (class_of t (o % 128))
unfolding class_of
class_is t o classes {f} {c} ok has firm of-class found =
    let small = any_firm t (o % 128) ok (mod-lt o (omega arith)) in
    let rest : f % 64 ≡ (folder_at t (o % 128)).firm = omega (arith, firm, small) in
    let own : c ≡ (firm_at t (folder_at t (o % 128)).firm).class = of-class ∙ rw rest in
    let below = class_below t (folder_at t (o % 128)).firm ok small in
    let modulo : c % 32 ≡ (firm_at t (folder_at t (o % 128)).firm).class = omega (arith, own, below) in
    found ∙ rw modulo (has.at _ below)
