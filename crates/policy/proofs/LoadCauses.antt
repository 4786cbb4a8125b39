-- A load's number and offset are those that its book comes to, by the causes of its records alone. Each turn of loading stops with the
-- number of the record's first cause, or goes on behind a record that has none. One direction takes turn after turn; the other follows the
-- records read, with the tables that know them, and each turn must be the one that they say.
use Prim.Native.Nat.{ℕ, zero, suc, ◌+◌, ◌≤◌, ◌<◌}
use native.Mathlib.Omega.{arith}
use mathlib.Core.Path.{◌≡◌, refl, sym, ap, ◌∙◌, subst₂}
use mathlib.Core.Logic.{◌⊎◌, inl, inr, ⊎_elim, ◌≢◌}
use mathlib.Core.List.{List, [], ◌∷◌, ◌++◌, append_assoc, reverse_aux}
use lib.ListN.{length, drop, length-append, length-drop}
use lib.Seq.{drop-append-add}
use borrow.Author.Tests.{leb-true, ne_eqb}
use Rattle.policy.specs.declared.Tables.{Tables}
use Rattle.policy.specs.declared.Loaded.{Loaded}
use Rattle.policy.specs.Checks.{ladder}
use Rattle.policy.specs.Tables.{empty_tables}
use Rattle.policy.specs.Rulebook.{
  Record,
  end,
  last_kind,
  body_length,
  record_of,
  record_checks,
  declare,
  end_checks,
  refused_book,
  load_book,
  records_from,
  records_of,
}
use Rattle.policy.specs.Calls.{rest_of}
use Rattle.policy.specs.Causes.{Answer}
use Rattle.policy.specs.Loading.{
  Stands,
  kind_0,
  RecordAtFront,
  record_causes,
  Reads,
  no_record,
  one_more,
  ComesTo,
  LoadCauses,
  Records,
}
use Rattle.policy.proofs.Ladders.{
  AllPermit,
  FirstRefusal,
  permit_first,
  permit_rest,
  ladder_after,
  zero_ladder,
  first_ladder,
  refusal_front,
}
use Rattle.policy.proofs.Answers.{answer_once}
use Rattle.policy.proofs.PublishedNumbers.{record_numbered, end_numbered}
use Rattle.policy.proofs.Outcomes.{Outcome, no_byte, refused, next, end_refused, loaded, refusal_not_zero, loading}
use Rattle.policy.proofs.Declaring.{Passes, permitted_passes, records_end}
use Rattle.policy.proofs.StandsLaws.{whole_stands, stands_once, end_bytes, stands_front, stands_records}
use Rattle.policy.proofs.Known.{Known, known_start, known_next}
use Rattle.policy.proofs.RecordCauses.{front_checks, front_numbered}

-- ---- one turn

-- loading stops at the record at the front of the bytes
record Stops (before : List Record) (bytes : List ℕ) (at : ℕ) (l : Loaded) : Type 0 where
  number : Answer (record_causes before bytes) l.number
  offset : l.offset ≡ at
  last : l.number ≡ 0 → RecordAtFront bytes (λ r. r ≡ end)

-- loading goes on behind that record
record Goes (before : List Record) (bytes : List ℕ) (at : ℕ) (t : Tables) (l : Loaded) : Type 0 where
  read : Record
  rest : List ℕ
  then : ℕ
  none : Answer (record_causes before bytes) 0
  stands : Stands read bytes rest
  not_end : read ≢ end
  passes : Passes t read
  later : then ≢ 0
  place : then + length rest ≡ at + length bytes
  shorter : length rest < length bytes
  onward : Outcome then rest (declare t read) l

module _ (at : ℕ) (t : Tables) (body : List ℕ) where
  front_refused : (kind n : ℕ) → FirstRefusal (record_checks at t kind body) n → ladder (front_checks at t kind body) ≡ n
  unfolding ladder
  front_refused kind n r = first_ladder _ n (refusal_front _ r)

  front_end : AllPermit (record_checks at t 0 body) → ladder (front_checks at t 0 body) ≡ ladder (end_checks t)
  unfolding ladder end_checks
  front_end a = ladder_after (record_checks at t 0 body) _ a

  front_none : (kind : ℕ) → AllPermit (record_checks at t kind body) → kind ≢ 0 → ladder (front_checks at t kind body) ≡ 0
  unfolding ladder
  front_none kind a z = ladder_after (record_checks at t kind body) _ a ∙ rw (ne_eqb kind 0 z)

turn : {at : ℕ} {bytes : List ℕ} {t : Tables} {l : Loaded} → Outcome at bytes t l → {before : List Record} → Known at before t
    → Stops before bytes at l ⊎ Goes before bytes at t l
unfolding refused_book record_causes Answer record_checks
turn no_byte k = inl (record { number = inl (refl, refl); offset = refl; last = λ z. absurd (omega arith) })
turn (refused {at = at} {kind = kind} {n = n} {body = body} {t = t} r) k =
    inl (record {
      number = ((front_numbered k kind body).number n).0 (front_refused at t body kind n r);
      offset = refl;
      last = λ z. absurd (refusal_not_zero (record_numbered at t kind body) r z);
    })
turn (next {at = at} {kind = kind} {body = body} {t = t} a z o) k =
    let l = leb-true (body_length kind) (length body) (permit_first (permit_rest (permit_rest a))) in
    let here = whole_stands kind body (leb-true kind last_kind (permit_first a)) l in
    inr (record {
      read = record_of kind body;
      rest = drop (body_length kind) body;
      then = at + 1 + body_length kind;
      none = ((front_numbered k kind body).number 0).0 (front_none at t body kind a z);
      stands = here;
      not_end = λ e. z (cc (end_bytes (rw e at here)));
      passes = permitted_passes at t kind body a;
      later = omega arith;
      place = simp length-drop (omega arith);
      shorter = rw length-drop (omega arith);
      onward = o;
    })
turn (end_refused {at = at} {n = n} {body = body} {t = t} a r) k =
    inl (record {
      number = ((front_numbered k 0 body).number n).0 (front_end at t body a ∙ first_ladder (end_checks t) n r);
      offset = refl;
      last = λ z. absurd (refusal_not_zero (end_numbered t) r z);
    })
turn (loaded {at = at} {body = body} {t = t} a p) k =
    inl (record {
      number = ((front_numbered k 0 body).number 0).0 (front_end at t body a ∙ zero_ladder (end_checks t) p);
      offset = refl;
      last = λ z. (end, body, kind_0, refl);
    })

-- ---- the whole book

-- where the end record stands, no other does
ends : {bytes rest : List ℕ} {r : Record} → RecordAtFront bytes (λ r. r ≡ end) → Stands r bytes rest → r ≡ end
ends w s = (stands_once s w.2).0 ∙ w.3

module _ (book : List ℕ) where
  -- the load after some records were read: at their offset, with tables that know them
  record Stage (before : List Record) (bytes : List ℕ) : Type 1 where
    at : ℕ
    tables : Tables
    known : Known at before tables
    place : at + length bytes ≡ length book
    onward : Outcome at bytes tables (load_book book)

  first_stage : Stage [] book
  first_stage =
      record { at = 0; tables = empty_tables; known = known_start; place = omega arith; onward = (loading book (load_book book)).0 refl }

  module _ (before : List Record) (bytes : List ℕ) (s : Stage before bytes) where
    stops_or_goes : Stops before bytes s.at (load_book book) ⊎ Goes before bytes s.at s.tables (load_book book)
    stops_or_goes = turn s.onward s.known

    next_stage : (g : Goes before bytes s.at s.tables (load_book book)) → Stage (g.read ∷ before) g.rest
    next_stage g =
        record {
          at = g.then;
          tables = declare s.tables g.read;
          known = known_next s.known g.read g.passes g.then g.later;
          place = g.place ∙ s.place;
          onward = g.onward;
        }

    comes_here : Reads book before bytes → Stops before bytes s.at (load_book book)
        → ComesTo book (load_book book).number (load_book book).offset
    comes_here reads stop = (before, bytes, reads, rw stop.offset s.place, stop.number, stop.last)

  comes : (n : ℕ) (before : List Record) (bytes : List ℕ) → length bytes ≤ n → Reads book before bytes → Stage before bytes
      → ComesTo book (load_book book).number (load_book book).offset
  comes zero before bytes h reads s =
      ⊎_elim (λ stop. comes_here before bytes s reads stop) (λ g. absurd (omega arith)) (stops_or_goes before bytes s)
  comes (suc n) before bytes h reads s =
      ⊎_elim (λ stop. comes_here before bytes s reads stop)
      (λ g.
      comes n (g.read ∷ before) g.rest (omega arith) (one_more reads g.none g.stands g.not_end) (next_stage before bytes s g))
      (stops_or_goes before bytes s)

  stage : {before : List Record} {bytes : List ℕ} → Reads book before bytes → Stage before bytes
  stage no_record = first_stage
  stage (one_more {before = before} {bytes = bytes} reads none stands not_end) =
      ⊎_elim (λ stop. absurd (not_end (ends (stop.last (answer_once _ stop.number none)) stands)))
      (λ g.
      let (same, left) = stands_once g.stands stands in
      subst₂ (λ (r : Record) (l : List ℕ). Stage (r ∷ before) l) same left (next_stage before bytes (stage reads) g))
      (stops_or_goes before bytes (stage reads))

  load_of : (n at : ℕ) → ComesTo book n at → ((load_book book).number ≡ n) × ((load_book book).offset ≡ at)
  load_of n at (before, bytes, reads, place, answer, last) =
      let s = stage reads in
      let here : s.at ≡ at = omega (arith, s.place) in
      ⊎_elim (λ stop. (answer_once _ stop.number answer, stop.offset ∙ here))
      (λ g. absurd (g.not_end (ends (last (answer_once _ answer g.none)) g.stands)))
      (stops_or_goes before bytes s)

pub load_causes : LoadCauses
load_causes book n at = (
  λ e. subst₂ (ComesTo book) e.0 e.1 (comes book (length book) [] book (omega arith) no_record (first_stage book)),
  load_of book n at,
)

-- ---- what follows the end record

reads_front : {book : List ℕ} {before : List Record} {bytes : List ℕ} → Reads book before bytes
    → (front : List ℕ) × (book ≡ front ++ bytes)
reads_front no_record = ([], refl)
reads_front (one_more {rest = rest} reads none stands not_end) =
    let (front, e) = reads_front reads in
    let (piece, f) = stands_front stands in
    (front ++ piece, e ∙ ap (λ (l : List ℕ). front ++ l) f ∙ sym (append_assoc front piece rest))

-- the bytes behind the end record, by the offset at which it stands
behind : (book front rest : List ℕ) (at : ℕ) → book ≡ front ++ (0 ∷ rest) → at + length (0 ∷ rest) ≡ length book
    → (length front ≡ at) × (drop (at + 1) book ≡ rest)
behind book front rest at e place =
    let long : length front ≡ at = omega (arith, simp length-append at (ap length e)) in
    (long, rw (e, ← long) (drop-append-add front (0 ∷ rest) 1))

-- ---- the records of a book that loads

module _ (book : List ℕ) (loads : (load_book book).number ≡ 0) where
  -- loading stops at the end record, whose rest is that of the book
  end_here : (before : List Record) (bytes : List ℕ) → Reads book before bytes → (s : Stage book before bytes)
      → Stops before bytes s.at (load_book book) → bytes ≡ 0 ∷ rest_of book
  unfolding rest_of
  end_here before bytes reads s stop =
      let (r, rest, stands, same) = stop.last loads in
      let (front, split) = reads_front reads in
      let ended : bytes ≡ 0 ∷ rest = end_bytes (rw same at stands) in
      let place : (load_book book).offset + length bytes ≡ length book = rw stop.offset s.place in
      let whole : book ≡ front ++ (0 ∷ rest) = split ∙ ap (λ (l : List ℕ). front ++ l) ended in
      let left = (behind book front rest (load_book book).offset whole (rw ended at place)).1 in
      ended ∙ rw (loads, left)

  records_read : (n : ℕ) (before : List Record) (bytes : List ℕ) → length bytes ≤ n → Reads book before bytes → Stage book before bytes
      → Reads book (reverse_aux (records_from n bytes) before) (0 ∷ rest_of book)
  records_read zero before bytes h reads s =
      ⊎_elim (λ stop. let e = end_here before bytes reads s stop in absurd (omega (arith, ap length e)))
      (λ g. absurd (omega arith)) (stops_or_goes book before bytes s)
  records_read (suc n) before bytes h reads s =
      ⊎_elim
      (λ stop.
      let e = end_here before bytes reads s stop in
      rw (e, records_end n (rest_of book)) (rw e at reads))
      (λ g.
      rw (stands_records n g.stands g.not_end)
      (records_read n (g.read ∷ before) g.rest (omega arith) (one_more reads g.none g.stands g.not_end)
      (next_stage book before bytes s g)))
      (stops_or_goes book before bytes s)

pub load_records : Records
unfolding records_of
load_records book loads = records_read book loads (length book) [] book (omega arith) no_record (first_stage book)
