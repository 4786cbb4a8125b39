-- What a call by a book comes to, once the book is refused or loaded. `l` is what loading returned, and `m` what the definition says.
use Prim.Native.Nat.{ℕ}
use mathlib.Core.Path.{◌≡◌, sym, ap, ◌∙◌}
use mathlib.Core.Bool.{true}
use mathlib.Core.Logic.{◌≢◌}
use mathlib.Core.List.{List}
use borrow.Author.Tests.{eq-eqb, ne_eqb}
use Rattle.policy.specs.declared.Loaded.{Loaded}
use Rattle.policy.specs.declared.Ran.{Ran}
use Rattle.policy.specs.declared.Standing.{Standing}
use Rattle.policy.specs.Rulebook.{given, load_book}
use Rattle.policy.proofs.Loads.{loaded_given}
use Rattle.policy.specs.Calls.{State, blank_number, blank_state, judge_number, put_state, standing}
use Rattle.loaded.specs.Refused.{no_run, no_standing, RunIs}
use Rattle.tallying.specs.TallyIs.{TallyIs}
use Rattle.exports.specs.Packed.{
  packed_load,
  packed_run,
  packed_standing,
  load_packed,
  blank_by,
  blanked_by,
  judge_by,
  put_by,
  ran_packed,
  ran_by,
  state_by,
  answers_by,
  RunBy,
  TallyBy,
  standing_packed,
  standing_by,
}

module _ {l m : Loaded} (same : l ≡ m) where
  pub load_packed_lem : packed_load l.number l.offset ≡ load_packed m
  unfolding load_packed
  load_packed_lem = rw (← same)

  module _ (bad : l.number ≢ 0) where
    pub blank_refused : (a : State) → (l.number ≡ blank_by m a) × (a ≡ blanked_by m a)
    unfolding blank_by blanked_by
    blank_refused a = (rw (← same, ne_eqb l.number 0 bad), rw (← same, ne_eqb l.number 0 bad))

    pub judge_refused : (a : State) (request : List ℕ) → l.number ≡ judge_by m a request
    unfolding judge_by
    judge_refused a request = rw (← same, ne_eqb l.number 0 bad)

    pub put_refused : (a : State) (request : List ℕ) → a ≡ put_by m a request
    unfolding put_by
    put_refused a request = rw (← same, ne_eqb l.number 0 bad)

    pub run_refused : (a : State) (requests lent : List ℕ) (r : ℕ) → r ≡ packed_run l.number 0 0 → RunBy m a requests lent r a lent
    unfolding ran_packed ran_by state_by answers_by no_run
    run_refused a requests lent r packed = record {
      returned = packed ∙ rw (← same, ne_eqb l.number 0 bad);
      after = rw (← same, ne_eqb l.number 0 bad);
      answers = rw (← same, ne_eqb l.number 0 bad);
    }

    pub tally_refused : (a : State) (requests counts : List ℕ) (r : ℕ) → r ≡ packed_run l.number 0 0
        → TallyBy m a requests counts r a counts
    unfolding ran_packed no_run
    tally_refused a requests counts r packed = record {
      returned = packed ∙ rw (← same, ne_eqb l.number 0 bad);
      after = rw (← same, ne_eqb l.number 0 bad);
      others = rw (← same, ne_eqb l.number 0 bad);
    }

    pub standing_refused : (a : State) (person : ℕ) → packed_standing l.number 0 0 0 ≡ standing_packed (standing_by m a person)
    unfolding standing_packed standing_by no_standing
    standing_refused a person = rw (← same, ne_eqb l.number 0 bad)

  module _ (good : l.number ≡ 0) where
    pub blank_loaded : (a b : State) (n : ℕ) → (n ≡ blank_number l.tables a) × (b ≡ blank_state l.tables a)
        → (n ≡ blank_by m a) × (b ≡ blanked_by m a)
    unfolding blank_by blanked_by
    blank_loaded a b n (e, f) = (e ∙ rw (← same, eq-eqb l.number 0 good), f ∙ rw (← same, eq-eqb l.number 0 good))

    pub judge_loaded : (a : State) (request : List ℕ) → judge_number l.tables a request ≡ judge_by m a request
    unfolding judge_by
    judge_loaded a request = rw (← same, eq-eqb l.number 0 good)

    pub put_loaded : (a : State) (request : List ℕ) → put_state l.tables a request ≡ put_by m a request
    unfolding put_by
    put_loaded a request = rw (← same, eq-eqb l.number 0 good)

    pub run_loaded :
        (a : State) (requests lent : List ℕ) (x : Ran) (r : ℕ) (left : State) (written : List ℕ)
        → RunIs l.tables a requests lent x left written
        → r ≡ packed_run x.number x.granted x.refused
        → RunBy m a requests lent r left written
    unfolding ran_packed ran_by state_by answers_by
    run_loaded a requests lent x r left written is packed = record {
      returned = packed ∙ rw (← same, eq-eqb l.number 0 good, is.returned);
      after = is.after ∙ rw (← same, eq-eqb l.number 0 good);
      answers = is.answers ∙ rw (← same, eq-eqb l.number 0 good);
    }

    pub tally_loaded :
        (a : State) (requests counts : List ℕ) (x : Ran) (r : ℕ) (left : State) (written : List ℕ)
        → TallyIs l.tables a requests counts x left written
        → r ≡ packed_run x.number x.granted x.refused
        → TallyBy m a requests counts r left written
    unfolding ran_packed
    tally_loaded a requests counts x r left written is packed = record {
      returned = packed ∙ rw (← same, eq-eqb l.number 0 good, is.returned);
      after = is.state ∙ rw (← same, eq-eqb l.number 0 good);
      others = is.counts ∙ rw (← same, eq-eqb l.number 0 good);
    }

    pub standing_loaded :
        (a : State) (person : ℕ) (x : Standing)
        → x ≡ standing l.tables a person
        → packed_standing x.number x.level.0 x.rights x.firms ≡ standing_packed (standing_by m a person)
    unfolding standing_packed standing_by
    standing_loaded a person x is = rw (← same, eq-eqb l.number 0 good, is)

-- the tables of a book that was loaded are given
pub loaded_tables : {l : Loaded} (book : List ℕ) → l ≡ load_book book → l.number ≡ 0 → given l.tables ≡ true
loaded_tables book e zero = rw e (loaded_given book (ap (λ (l : Loaded). l.number) (sym e) ∙ zero))
