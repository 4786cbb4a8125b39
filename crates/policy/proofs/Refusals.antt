-- A refused call leaves what was lent to it, because each call chooses by its number; a refused book gives the tables of the empty book,
-- because every way to refuse a book does.
use Prim.Native.Nat.{ℕ}
use mathlib.Core.Path.{◌≡◌, refl, sym, ◌∙◌}
use mathlib.Core.Logic.{◌≢◌}
use mathlib.Core.List.{List, [], ◌∷◌}
use lib.ListN.{length}
use borrow.Author.Tests.{ne_eqb}
use Rattle.bits.specs.Bits.{bit, with_bit}
use Rattle.bits.specs.Bounded.{any_below}
use Rattle.policy.specs.declared.Tables.{Tables}
use Rattle.policy.specs.Checks.{ladder}
use Rattle.policy.specs.Tables.{empty_tables, enables}
use Rattle.policy.specs.Rulebook.{
  body_length,
  record_of,
  in_range,
  declared_before,
  firm_stands,
  folder_stands,
  enters_create,
  record_checks,
  declare,
  reaches,
  has_circle,
  is_loose,
  has_loose,
  end_checks,
  refused_book,
  ended,
  load_from,
  load_book,
}
use Rattle.policy.specs.Calls.{
  State,
  blank_number,
  blank_state,
  rest_of,
  recorded_if,
  judge_number,
  put_state,
  run_number,
  ran,
  run_state,
  run_answers,
  standing_number,
  standing,
}
use Rattle.policy.specs.Demands.{Refusals}
use Rattle.policy.proofs.PublishedNumbers.{load_cases, ran_number, standing_number_lem}

-- the empty book loads, to its tables
empty_book : (load_book (1 ∷ 0 ∷ 0 ∷ [])).tables ≡ empty_tables
unfolding
    bit with_bit any_below ladder empty_tables enables body_length record_of in_range declared_before firm_stands folder_stands enters_create
    record_checks declare reaches has_circle is_loose has_loose end_checks refused_book ended load_from load_book
empty_book = refl

pub refused_tables : (book : List ℕ) → (load_book book).number ≢ 0 → (load_book book).tables ≡ empty_tables
unfolding load_book refused_book
refused_tables book =
    load_cases (λ l. l.number ≢ 0 → l.tables ≡ empty_tables) (λ n at i e. refl) (λ at t e. absurd (e refl))
    (length book) 0 book empty_tables

pub put_refused : (t : Tables) (a : State) (bytes : List ℕ) → judge_number t a bytes ≢ 0 → put_state t a bytes ≡ a
unfolding put_state recorded_if
put_refused t a bytes n = rw (ne_eqb (judge_number t a bytes) 0 n)

pub refusals : Refusals
unfolding blank_state ran run_state run_answers standing rest_of
refusals =
    record {
      blank = λ t a n. rw (ne_eqb (blank_number t a) 0 n);
      put = put_refused;
      run =
          λ t a requests answers n.
          let e = ne_eqb (run_number t a requests answers) 0 (λ z. n (ran_number t a requests answers ∙ z)) in
          (rw e, rw e, rw e, rw e);
      standing = λ t a s n. let e = ne_eqb (standing_number t a s) 0 (λ z. n (standing_number_lem t a s ∙ z)) in (rw e, rw e, rw e);
      load = λ book n. (refused_tables book n ∙ sym empty_book, rw (ne_eqb (load_book book).number 0 n));
    }
