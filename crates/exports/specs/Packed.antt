-- What the exported calls return, packed in one number, and the lent bytes afterwards. A call that takes a book loads it first: the
-- number of a refused book is the call's own, and nothing changes.
use Rattle.std.specs.Prelude.{ℕ, ◌+◌, ◌*◌, ◌%◌, ◌≡◌, cond, ◌≢◌, List, [], ◌∷◌, ◌++◌, eqb, leb, length, drop}
use Rattle.policy.specs.declared.Job.{Job}
use Rattle.policy.specs.declared.Loaded.{Loaded}
use Rattle.policy.specs.declared.Plan.{Plan}
use Rattle.policy.specs.declared.Ran.{Ran}
use Rattle.policy.specs.declared.Standing.{Standing}
use Rattle.policy.specs.Checks.{◌else◌, ladder}
use Rattle.policy.specs.Calls.{
  State,
  call_checks,
  blank_number,
  blank_state,
  judge_number,
  put_state,
  ran,
  run_state,
  run_answers,
  standing,
}
use Rattle.policy.specs.Plans.{IsPlan}
use Rattle.policy.specs.Tallies.{tallied, tally_state, tally_counts}
use Rattle.loaded.specs.Refused.{no_run, no_standing}

-- number in bits 0 to 7, offset modulo 2^56 in bits 8 to 63
unfoldable pub packed_load : ℕ → ℕ → ℕ
packed_load number offset = number + 256 * (offset % 72057594037927936)

-- number in bits 0 to 7, the counts modulo 2^24 in bits 8 to 31 and 32 to 55
unfoldable pub packed_run : ℕ → ℕ → ℕ → ℕ
packed_run number granted refused = number + 256 * (granted % 16777216) + 4294967296 * (refused % 16777216)

-- number in bits 0 to 7, level in bits 8 to 23, the counts modulo 2^8 in bits 24 to 31 and 32 to 39
unfoldable pub packed_standing : ℕ → ℕ → ℕ → ℕ → ℕ
packed_standing number level rights firms = number + 256 * level + 16777216 * (rights % 256) + 4294967296 * (firms % 256)

unfoldable pub load_packed : Loaded → ℕ
load_packed l = packed_load l.number l.offset

unfoldable pub blank_by : Loaded → State → ℕ
blank_by l a = cond (eqb l.number 0) (blank_number l.tables a) l.number

unfoldable pub blanked_by : Loaded → State → State
blanked_by l a = cond (eqb l.number 0) (blank_state l.tables a) a

unfoldable pub judge_by : Loaded → State → List ℕ → ℕ
judge_by l a request = cond (eqb l.number 0) (judge_number l.tables a request) l.number

unfoldable pub put_by : Loaded → State → List ℕ → State
put_by l a request = cond (eqb l.number 0) (put_state l.tables a request) a

unfoldable pub ran_packed : Ran → ℕ
ran_packed r = packed_run r.number r.granted r.refused

unfoldable pub ran_by : Loaded → State → List ℕ → List ℕ → Ran
ran_by l a requests lent = cond (eqb l.number 0) (ran l.tables a requests lent) (no_run l.number)

unfoldable pub state_by : Loaded → State → List ℕ → List ℕ → State
state_by l a requests lent = cond (eqb l.number 0) (run_state l.tables a requests lent) a

unfoldable pub answers_by : Loaded → State → List ℕ → List ℕ → List ℕ
answers_by l a requests lent = cond (eqb l.number 0) (run_answers l.tables a requests lent) lent

-- what a run by a book returns, and the history, the levels and the answer bytes afterwards
pub record RunBy (l : Loaded) (a : State) (requests lent : List ℕ) (r : ℕ) (left : State) (written : List ℕ) : Type 0 where
  pub returned : r ≡ ran_packed (ran_by l a requests lent)
  pub after : left ≡ state_by l a requests lent
  pub answers : written ≡ answers_by l a requests lent

-- what a tally by a book returns, and the history, the levels and the counts afterwards: what it does with the tables of a book that loads,
-- and nothing with a refused one
pub record TallyBy (l : Loaded) (a : State) (requests counts : List ℕ) (r : ℕ) (left : State) (written : List ℕ) : Type 0 where
  pub returned : r ≡ ran_packed (cond (eqb l.number 0) (tallied l.tables a requests counts) (no_run l.number))
  pub after : left ≡ cond (eqb l.number 0) (tally_state l.tables a requests counts) a
  pub others : written ≡ cond (eqb l.number 0) (tally_counts l.tables a requests counts) counts

unfoldable pub standing_packed : Standing → ℕ
standing_packed s = packed_standing s.number s.level.0 s.rights s.firms

unfoldable pub standing_by : Loaded → State → ℕ → Standing
standing_by l a person = cond (eqb l.number 0) (standing l.tables a person) (no_standing l.number)

-- the number of a plan's checks before its own: of a refused book, of the lengths, and 18 where fewer than 64 positions are lent
unfoldable pub room_by : Loaded → State → List ℕ → ℕ
room_by l a lent =
    cond (eqb l.number 0) (ladder (call_checks l.tables a ++ (leb 64 (length lent) else 18) ∷ [])) l.number

-- the positions afterwards: the first 64 are those of a plan with the number 0, and otherwise nothing changes
unfoldable pub positions_by : Plan → List ℕ → List ℕ
positions_by p lent = cond (eqb p.number 0) (p.positions ++ drop 64 lent) lent

-- what a plan by a book returns, and the positions afterwards
pub record PlanBy (l : Loaded) (a : State) (jobs : List Job) (lent : List ℕ) (r : ℕ) (written : List ℕ) : Type 0 where
  pub refused : room_by l a lent ≢ 0 → (r ≡ room_by l a lent) × (written ≡ lent)
  pub planned : room_by l a lent ≡ 0 → (p : Plan) × IsPlan l.tables a jobs p × (r ≡ p.number) × (written ≡ positions_by p lent)
