-- The record of each kind: its kind is the one that it is looked up by, and a kind other than 1 to 7 has no fields.
use Prim.Native.Nat.{ℕ, zero, suc, ◌≤◌}
use native.Mathlib.Nat.{add-zero}
use native.Mathlib.Omega.{arith}
use mathlib.Core.List.{List}
use mathlib.Core.Path.{◌≡◌, refl, sym}
use Rattle.policy.specs.Rulebook.{last_kind, body_length, record_of}
use Rattle.rulebook.specs.declared.records.Record.{Record}
use Rattle.rulebook.specs.declared.records.Record.TheVariants.{End, Rules, Firm, Person, Folder, Role, Pair, Mark}
use Rattle.rulebook.specs.Readings.{record_read, kind_of, FieldsRead}

-- the kind of the record of a known kind
pub kind_of_record : (k : ℕ) (body : List ℕ) → k ≤ last_kind → kind_of (record_of k body) ≡ k
unfolding record_of
kind_of_record zero body l = refl
kind_of_record (suc zero) body l = refl
kind_of_record (suc (suc zero)) body l = refl
kind_of_record (suc (suc (suc zero))) body l = refl
kind_of_record (suc (suc (suc (suc zero)))) body l = refl
kind_of_record (suc (suc (suc (suc (suc zero))))) body l = refl
kind_of_record (suc (suc (suc (suc (suc (suc zero)))))) body l = refl
kind_of_record (suc (suc (suc (suc (suc (suc (suc zero))))))) body l = refl
kind_of_record (suc (suc (suc (suc (suc (suc (suc (suc k)))))))) body l = absurd (omega arith)

-- a kind other than 1 to 7 is read as the end record
pub no_fields : {s : List ℕ} {at : ℕ} (k : ℕ) → (k ≡ 1 → ⊥) → (k ≡ 2 → ⊥) → (k ≡ 3 → ⊥) → (k ≡ 4 → ⊥) → (k ≡ 5 → ⊥)
    → (k ≡ 6 → ⊥) → (k ≡ 7 → ⊥) → FieldsRead k s at End at
unfolding body_length record_of
no_fields {at = at} zero n1 n2 n3 n4 n5 n6 n7 = record { same = refl; next = sym (add-zero at) }
no_fields (suc zero) n1 n2 n3 n4 n5 n6 n7 = absurd (n1 refl)
no_fields (suc (suc zero)) n1 n2 n3 n4 n5 n6 n7 = absurd (n2 refl)
no_fields (suc (suc (suc zero))) n1 n2 n3 n4 n5 n6 n7 = absurd (n3 refl)
no_fields (suc (suc (suc (suc zero)))) n1 n2 n3 n4 n5 n6 n7 = absurd (n4 refl)
no_fields (suc (suc (suc (suc (suc zero))))) n1 n2 n3 n4 n5 n6 n7 = absurd (n5 refl)
no_fields (suc (suc (suc (suc (suc (suc zero)))))) n1 n2 n3 n4 n5 n6 n7 = absurd (n6 refl)
no_fields (suc (suc (suc (suc (suc (suc (suc zero))))))) n1 n2 n3 n4 n5 n6 n7 = absurd (n7 refl)
no_fields {at = at} (suc (suc (suc (suc (suc (suc (suc (suc k)))))))) n1 n2 n3 n4 n5 n6 n7 =
    record { same = refl; next = sym (add-zero at) }

-- only the end record has the kind 0
pub not_end : (x : Record) → (x ≡ End → ⊥) → kind_of (record_read x) ≡ 0 → ⊥
not_end End other e = other refl
not_end (Rules mask) other e = omega (arith, e)
not_end (Firm number class) other e = omega (arith, e)
not_end (Person number level) other e = omega (arith, e)
not_end (Folder number firm kind level) other e = omega (arith, e)
not_end (Role number rights) other e = omega (arith, e)
not_end (Pair step enabled) other e = omega (arith, e)
not_end (Mark folder) other e = omega (arith, e)
