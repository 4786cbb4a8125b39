-- Tables are reached where some bytes, at the start of a book, declare them: what the bytes after these come to, the book comes to. The
-- record of the rules reaches the first tables, and a record that passes its checks the next ones, since its bytes pass them too.
use Prim.Native.Nat.{ℕ, ◌+◌, ◌≤◌}
use native.Mathlib.Omega.{arith}
use mathlib.Core.Path.{◌≡◌, refl, sym, ap, ◌∙◌}
use mathlib.Core.Logic.{◌≢◌}
use mathlib.Core.Bool.{false, not}
use mathlib.Core.List.{List, [], ◌∷◌, ◌++◌, append_assoc}
use lib.Dec.{eqb}
use borrow.Author.Tests.{le-leb, ne_eqb}
use Rattle.policy.specs.declared.Tables.{Tables}
use Rattle.policy.specs.declared.Loaded.{Loaded}
use Rattle.policy.specs.Tables.{empty_tables}
use Rattle.policy.specs.Rulebook.{
  Record,
  end,
  rules,
  body_length,
  in_range,
  declared_before,
  firm_stands,
  folder_stands,
  enters_create,
  record_checks,
  declare,
  has_circle,
  has_loose,
  end_checks,
  load_book,
}
use Rattle.policy.specs.Given.{Bytes}
use Rattle.policy.proofs.Ladders.{AllPermit}
use Rattle.policy.proofs.Outcomes.{Outcome, next, loaded}
use Rattle.policy.proofs.Ladders.{permit_none, permit_more}
use Rattle.policy.proofs.Outcomes.{loading}
use Rattle.policy.proofs.Declaring.{Passes}
use Rattle.policy.proofs.Sound.{Fits}
use Rattle.policy.proofs.Writing.{
  Bits,
  bytes_none,
  bytes_more,
  bytes_join,
  kind_of,
  body_of,
  read_back,
  body_left,
  body_bytes,
  written_permitted,
}

pub record Reached (t : Tables) : Type 0 where
  pub bytes : List ℕ
  pub small : Bytes bytes
  pub at : ℕ
  pub later : at ≢ 0
  pub leads : (rest : List ℕ) (l : Loaded) → Outcome at rest t l → Outcome 0 (bytes ++ rest) empty_tables l

-- what follows a written record is what follows its book
written_next : (at : ℕ) (t : Tables) (r : Record) (rest : List ℕ) (l : Loaded) → Fits Bits r → Passes t r
    → eqb (kind_of r) 1 ≡ eqb at 0 → kind_of r ≢ 0 → Outcome (at + 1 + body_length (kind_of r)) rest (declare t r) l
    → Outcome at (kind_of r ∷ body_of r ++ rest) t l
written_next at t r rest l f p first k o =
    next {l = l} (written_permitted at t r rest f p first) k (rw (body_left r rest, read_back r rest f) o)

rules_pass : (t : Tables) (m : ℕ) → m ≤ 15 → Passes t (rules m)
unfolding in_range declared_before firm_stands folder_stands enters_create
rules_pass t m h = record { range = le-leb m 15 h; fresh = refl; firm_earlier = refl; folder_earlier = refl; not_create = refl }

rules_fit : (m : ℕ) → Fits Bits (rules m)
unfolding Fits
rules_fit m = tt

rules_written : (m : ℕ) → kind_of (rules m) ≡ 1
unfolding kind_of
rules_written m = refl

pub reached_first : (m : ℕ) → m ≤ 15 → Reached (declare empty_tables (rules m))
reached_first m h =
    let p = rules_pass empty_tables m h in
    record {
      bytes = kind_of (rules m) ∷ body_of (rules m);
      small = body_bytes (rules m) p.range;
      at = 0 + 1 + body_length (kind_of (rules m));
      later = omega arith;
      leads = λ rest l o.
          written_next 0 empty_tables (rules m) rest l (rules_fit m) p (rw (rules_written m)) (omega (arith, rules_written m)) o;
    }

pub reached_next : (t : Tables) (r : Record) → Reached t → 2 ≤ kind_of r → Fits Bits r → Passes t r → Reached (declare t r)
reached_next t r b k f p =
    record {
      bytes = b.bytes ++ kind_of r ∷ body_of r;
      small = bytes_join b.bytes (kind_of r ∷ body_of r) b.small (body_bytes r p.range);
      at = b.at + 1 + body_length (kind_of r);
      later = omega arith;
      leads = λ rest l o.
          rw (append_assoc b.bytes (kind_of r ∷ body_of r) rest)
          (b.leads (kind_of r ∷ body_of r ++ rest) l
          (written_next b.at t r rest l f p (ne_eqb (kind_of r) 1 (omega arith) ∙ sym (ne_eqb b.at 0 b.later)) (omega arith) o));
    }

-- ---- the end record

end_passes : (t : Tables) → Passes t end
unfolding in_range declared_before firm_stands folder_stands enters_create
end_passes t = record { range = refl; fresh = refl; firm_earlier = refl; folder_earlier = refl; not_create = refl }

end_permitted : (at : ℕ) (t : Tables) → at ≢ 0 → AllPermit (record_checks at t 0 [])
unfolding kind_of body_of Fits
end_permitted at t z = written_permitted at t end [] tt (end_passes t) (sym (ne_eqb at 0 z))

ends_permitted : (t : Tables) → has_circle t ≡ false → has_loose t ≡ false → AllPermit (end_checks t)
unfolding end_checks
ends_permitted t c l = permit_more (ap not c) (permit_more (ap not l) permit_none)

pub reached_loads : (t : Tables) → Reached t → has_circle t ≡ false → has_loose t ≡ false
    → (book : List ℕ) × Bytes book × ((load_book book).number ≡ 0) × ((load_book book).tables ≡ t)
reached_loads t b c l =
    let book = b.bytes ++ 0 ∷ [] in
    let e : load_book book ≡ record { number = 0; offset = b.at; tables = t } =
    (loading book _).1 (b.leads (0 ∷ []) _ (loaded (end_permitted b.at t b.later) (ends_permitted t c l))) in (
      book,
      bytes_join b.bytes (0 ∷ []) b.small (bytes_more 0 [] (omega arith) bytes_none),
      ap (λ (x : Loaded). x.number) e,
      ap (λ (x : Loaded). x.tables) e,
    )
