-- A book that loads is a record of the rules in force and then records that each pass the checks over the tables declared before them; its
-- tables are what these records declare, without a circle and without a loose step. By induction on the outcome of loading.
use Prim.Native.Nat.{ℕ, zero, suc, ◌≤◌}
use native.Mathlib.Omega.{arith}
use mathlib.Core.Path.{◌≡◌, refl, sym, ap, ◌∙◌}
use mathlib.Core.Logic.{◌≢◌}
use mathlib.Core.Bool.{Bool, true, false, not, beq}
use mathlib.Core.List.{List, [], ◌∷◌}
use lib.Dec.{eqb}
use lib.ListN.{length, get_or, drop}
use borrow.Author.Tests.{not-true, leb-true, le-leb, eqb-true, eq-eqb, ne_eqb}
use Rattle.policy.specs.declared.Tables.{Tables}
use Rattle.policy.specs.declared.Loaded.{Loaded}
use Rattle.policy.specs.Tables.{empty_tables}
use Rattle.policy.specs.Rulebook.{
  Record,
  end,
  rules,
  firm,
  person,
  folder,
  role,
  pair,
  public,
  last_kind,
  body_length,
  record_of,
  in_range,
  declared_before,
  firm_stands,
  folder_stands,
  enters_create,
  record_checks,
  declare,
  has_circle,
  has_loose,
  end_checks,
  refused_book,
  load_book,
  records_from,
  records_of,
}
use Rattle.policy.proofs.Ladders.{AllPermit, permit_none, permit_more, permit_first, permit_rest}
use Rattle.policy.proofs.Outcomes.{Outcome, no_byte, refused, next, end_refused, loaded, refusal_not_zero, fewer_bytes, loading}

-- ---- the checks of one record

-- a record passes its checks over the tables declared before it
pub record Passes (t : Tables) (r : Record) : Type 0 where
  pub range : in_range r ≡ true
  pub fresh : declared_before t r ≡ false
  pub firm_earlier : firm_stands t r ≡ true
  pub folder_earlier : folder_stands t r ≡ true
  pub not_create : enters_create r ≡ false

pub permitted_passes : (at : ℕ) (t : Tables) (kind : ℕ) (body : List ℕ) → AllPermit (record_checks at t kind body)
    → Passes t (record_of kind body)
unfolding record_checks
permitted_passes at t kind body a =
    let four = permit_rest (permit_rest (permit_rest a)) in
    record {
      range = permit_first four;
      fresh = not-true _ (permit_first (permit_rest four));
      firm_earlier = permit_first (permit_rest (permit_rest four));
      folder_earlier = permit_first (permit_rest (permit_rest (permit_rest four)));
      not_create = not-true _ (permit_first (permit_rest (permit_rest (permit_rest (permit_rest four)))));
    }

test_self : (b : Bool) → beq b b ≡ true
test_self true = refl
test_self false = refl

same_test : (a b : Bool) → beq a b ≡ true → a ≡ b
same_test true true e = refl
same_test true false e = sym e
same_test false true e = e
same_test false false e = refl

pub passes_permitted : (at : ℕ) (t : Tables) (kind : ℕ) (body : List ℕ) → kind ≤ last_kind → eqb kind 1 ≡ eqb at 0
    → body_length kind ≤ length body → Passes t (record_of kind body) → AllPermit (record_checks at t kind body)
unfolding record_checks
passes_permitted at t kind body k first long p =
    permit_more (le-leb kind last_kind k)
    (permit_more (rw first (test_self (eqb at 0)))
    (permit_more (le-leb (body_length kind) (length body) long)
    (permit_more p.range
    (permit_more (ap not p.fresh)
    (permit_more p.firm_earlier (permit_more p.folder_earlier (permit_more (ap not p.not_create) permit_none)))))))

-- ---- the record of the rules stands first, and only there

unfoldable pub is_rules : Record → Bool
is_rules end = false
is_rules (rules mask) = true
is_rules (firm f class) = false
is_rules (person s level) = false
is_rules (folder o f kind level) = false
is_rules (role k rights) = false
is_rules (pair p q) = false
is_rules (public o) = false

rules_kind : (kind : ℕ) (body : List ℕ) → is_rules (record_of kind body) ≡ eqb kind 1
unfolding record_of is_rules
rules_kind zero body = refl
rules_kind (suc zero) body = refl
rules_kind (suc (suc zero)) body = refl
rules_kind (suc (suc (suc zero))) body = refl
rules_kind (suc (suc (suc (suc zero)))) body = refl
rules_kind (suc (suc (suc (suc (suc zero))))) body = refl
rules_kind (suc (suc (suc (suc (suc (suc zero)))))) body = refl
rules_kind (suc (suc (suc (suc (suc (suc (suc zero))))))) body = refl
rules_kind (suc (suc (suc (suc (suc (suc (suc (suc kind)))))))) body =
    sym (ne_eqb (suc (suc (suc (suc (suc (suc (suc (suc kind)))))))) 1 (omega arith))

kind_first : (at : ℕ) (t : Tables) (kind : ℕ) (body : List ℕ) → AllPermit (record_checks at t kind body) → eqb kind 1 ≡ eqb at 0
unfolding record_checks
kind_first at t kind body a = same_test (eqb kind 1) (eqb at 0) (permit_first (permit_rest a))

rules_first : (at : ℕ) (t : Tables) (kind : ℕ) (body : List ℕ) → AllPermit (record_checks at t kind body) → at ≢ 0
    → is_rules (record_of kind body) ≡ false
rules_first at t kind body a z = rules_kind kind body ∙ kind_first at t kind body a ∙ ne_eqb at 0 z

-- ---- records one after another

-- the records, each of which passes its checks and none of which is the record of the rules, lead from t to t'
pub data Declares : Tables → List Record → Tables → Type 0 where
  no_record : {t : Tables} → Declares t [] t
  more_records :
      {t t' : Tables} {r : Record} {rs : List Record} → Passes t r → is_rules r ≡ false
      → Declares (declare t r) rs t' → Declares t (r ∷ rs) t'

pub records_end : (n : ℕ) (body : List ℕ) → records_from (suc n) (0 ∷ body) ≡ []
unfolding records_from
records_end n body = refl

pub records_next : (n kind : ℕ) (body : List ℕ) → kind ≢ 0
    → records_from (suc n) (kind ∷ body) ≡ record_of kind body ∷ records_from n (drop (body_length kind) body)
unfolding records_from
records_next n kind body z = rw (ne_eqb kind 0 z)

-- the records left lead to the tables of the load, which pass the checks of the end
pub record Finishes (t : Tables) (records : List Record) (t' : Tables) : Type 0 where
  pub declares : Declares t records t'
  pub ends : AllPermit (end_checks t')

more_finishes : {t t' : Tables} {r : Record} {rs : List Record} → Passes t r → is_rules r ≡ false → Finishes (declare t r) rs t'
    → Finishes t (r ∷ rs) t'
more_finishes p q f = record { declares = more_records p q f.declares; ends = f.ends }

outcome_finishes : {at : ℕ} {bytes : List ℕ} {t : Tables} {l : Loaded} → Outcome at bytes t l → at ≢ 0 → l.number ≡ 0
    → (n : ℕ) → length bytes ≤ n → Finishes t (records_from n bytes) l.tables
unfolding refused_book record_checks end_checks
outcome_finishes no_byte z e n h = absurd (omega arith)
outcome_finishes (refused r) z e n h = absurd (refusal_not_zero refl r e)
outcome_finishes (end_refused a r) z e n h = absurd (refusal_not_zero refl r e)
outcome_finishes (next a k o) z e zero h = absurd (omega arith)
outcome_finishes (next {at = at} {kind = kind} {body = body} {t = t} a k o) z e (suc n) h =
    rw (records_next n kind body k)
    (more_finishes (permitted_passes at t kind body a) (rules_first at t kind body a z)
    (outcome_finishes o (omega arith) e n (fewer_bytes n kind body h)))
outcome_finishes (loaded a p) z e zero h = absurd (omega arith)
outcome_finishes (loaded {body = body} a p) z e (suc n) h =
    rw (records_end n body) (record { declares = no_record; ends = p })

-- ---- a book that loads

pub record Loads (records : List Record) (t : Tables) : Type 0 where
  pub mask : ℕ
  pub low : mask ≤ 15
  pub rest : List Record
  pub first : records ≡ rules mask ∷ rest
  pub finishes : Finishes (declare empty_tables (rules mask)) rest t

one_kind : (body : List ℕ) → record_of 1 body ≡ rules (get_or body 0 0)
unfolding record_of
one_kind body = refl

rules_low : (t : Tables) (m : ℕ) → Passes t (rules m) → m ≤ 15
unfolding in_range
rules_low t m p = leb-true m 15 p.range

outcome_loads : {at : ℕ} {bytes : List ℕ} {t : Tables} {l : Loaded} → Outcome at bytes t l → at ≡ 0 → t ≡ empty_tables
    → l.number ≡ 0 → (n : ℕ) → length bytes ≤ n → Loads (records_from n bytes) l.tables
unfolding refused_book record_checks end_checks
outcome_loads no_byte z q e n h = absurd (omega arith)
outcome_loads (refused r) z q e n h = absurd (refusal_not_zero refl r e)
outcome_loads (end_refused a r) z q e n h = absurd (refusal_not_zero refl r e)
outcome_loads (next a k o) z q e zero h = absurd (omega arith)
outcome_loads (next {at = at} {kind = kind} {body = body} {t = t} {l = l} a k o) z q e (suc n) h =
    let one : kind ≡ 1 = eqb-true kind 1 (kind_first at t kind body a ∙ eq-eqb at 0 z) in
    let same : record_of kind body ≡ rules (get_or body 0 0) = rw one (one_kind body) in
    let passes : Passes t (rules (get_or body 0 0)) = rw same at (permitted_passes at t kind body a) in
    let finishes = outcome_finishes o (omega arith) e n (fewer_bytes n kind body h) in
    record {
      mask = get_or body 0 0;
      low = rules_low t (get_or body 0 0) passes;
      rest = records_from n (drop (body_length kind) body);
      first = records_next n kind body k ∙ rw same;
      finishes = rw (same, q) at finishes;
    }
outcome_loads (loaded {at = at} {body = body} {t = t} a p) z q e n h =
    let one : ◌≡◌ {A = ℕ} 0 1 = eqb-true 0 1 (kind_first at t 0 body a ∙ eq-eqb at 0 z) in absurd (omega arith)

pub book_loads : (book : List ℕ) → (load_book book).number ≡ 0 → Loads (records_of book) (load_book book).tables
unfolding records_of
book_loads book e = outcome_loads ((loading book (load_book book)).0 refl) refl refl e (length book) (omega arith)

pub finishes_circle : {t t' : Tables} {rs : List Record} → Finishes t rs t' → has_circle t' ≡ false
unfolding end_checks
finishes_circle f = not-true _ (permit_first f.ends)

pub finishes_loose : {t t' : Tables} {rs : List Record} → Finishes t rs t' → has_loose t' ≡ false
unfolding end_checks
finishes_loose f = not-true _ (permit_first (permit_rest f.ends))
