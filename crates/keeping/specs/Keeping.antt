-- What a run keeps: the sets that the rules in force ask about, each as the set of the requests granted so far gives it, and every level as
-- a set; and a put by it, after which it keeps the same of the set with the granted request.
use Rattle.std.specs.Prelude.{ℕ, ◌%◌, ◌≡◌, Bool, true, cond, ◌&&◌, List, eqb, get_or, set}
use Rattle.std.proofs.Math.Option.{some}
use Rattle.std.specs.Int.Bits.{bit_and}
use Rattle.bits.specs.Bits.{bit, with_bit, mask_below}
use Rattle.policy.specs.declared.Folder.{Folder}
use Rattle.policy.specs.declared.Tables.{Tables}
use Rattle.policy.specs.Checks.{ladder}
use Rattle.policy.specs.Tables.{folder_at, class_of, wall_rule, roles_rule, pipeline_rule}
use Rattle.policy.specs.History.{with_bit_at}
use Rattle.policy.specs.Rulebook.{given}
use Rattle.policy.specs.Request.{Request, set_of}
use Rattle.policy.specs.Levels.{level_at}
use Rattle.policy.specs.Calls.{State, state, request_checks, recorded_if}
use Rattle.levels.specs.Sets.{LevelSets}
use Rattle.rules.specs.Sets.{firms_of, HasClasses}
use Rattle.request.specs.declared.Parsed.{Parsed}
use Rattle.pipeline.specs.Steps.{pipeline_in}
use Rattle.branchfree.specs.declared.first.Asked.{Asked}
use Rattle.branchfree.specs.declared.kinds.Placed.{Placed}
use Rattle.branchfree.specs.Kinds.{asked_by, right_by, lowers, is_step}
use Rattle.keeping.specs.declared.Fixed.{Fixed}
use Rattle.keeping.specs.declared.Kept.{Kept}
use Rattle.rules.specs.Kept.{HasFirms, HasHolding, HasHolders, HasDone, HasNext}

-- what is kept, part by part
abbrev pub kept : List ℕ → List ℕ → List ℕ → List ℕ → List ℕ → Kept
kept firms holding done next sets = record { firms = firms; holding = holding; done = done; next = next; sets = sets }

-- what is kept is what the set H of the requests granted so far and the level buffer l give
pub record Keeps (t : Tables) (H : Request → Bool) (l : List ℕ) (k : Kept) : Type 0 where
  pub firms : HasFirms t H k.firms
  pub holding : HasHolding t H k.holding
  pub done : HasDone t H k.done
  pub next : HasNext t H k.next
  pub levels : LevelSets t l k.sets

-- what stays as it is during a run is that of the tables
pub record FixedBy (t : Tables) (f : Fixed) : Type 0 where
  pub rules : f.mask ≡ t.mask
  pub enabling : f.steps ≡ t.steps
  pub rights : HasHolders t f.holders
  pub firms : HasClasses t f.classes

-- the numbers at hand are those of the tables, which a load gives: the mask, for each right the roles that hold it, the steps that each
-- step enables, and the entry of folder o, taken modulo 128, with the firms of its class
pub record Serves (t : Tables) (mask : ℕ) (holders steps : List ℕ) (e : Folder) (class o : ℕ) : Type 0 where
  pub tables : given t ≡ true
  pub rules : mask ≡ t.mask
  pub rights : HasHolders t holders
  pub enabling : steps ≡ t.steps
  pub entry : e ≡ folder_at t (o % 128)
  pub firms : class ≡ firms_of t (class_of t (o % 128))

-- a put of a request: its number, the history after it, and what is kept then, of the history's set and the levels after the put
pub record PutKept (t : Tables) (before : State) (q : Request) (number : ℕ) (history : List ℕ) (k : Kept) : Type 0 where
  pub judged_as : number ≡ ladder (request_checks t (set_of before.history) (level_at before.levels) (some q))
  pub left : history ≡ (recorded_if t (eqb number 0) before (some q)).history
  pub keeps : Keeps t (set_of history) (recorded_if t (eqb number 0) before (some q)).levels k

-- what is kept of persons and folders after a request, granted or not, which the wall asks about or not, and which is a granted step or not
pub record Added (g c b : Bool) (mask : ℕ) (steps : List ℕ) (at : Placed) (firm holders : ℕ) (before after : Kept) : Type 0 where
  pub firms : after.firms
      ≡ cond (bit mask wall_rule)
      (set before.firms at.person
      (cond (g && c) (with_bit (get_or before.firms at.person 0) (firm % 64)) (get_or before.firms at.person 0)))
      before.firms
  pub holding : after.holding
      ≡ cond (bit mask roles_rule)
      (set before.holding at.person
      (cond g (bit_and (get_or before.holding at.person 0) holders) (get_or before.holding at.person 0)))
      before.holding
  pub done : after.done
      ≡ cond b
      (cond (bit mask pipeline_rule)
      (set before.done at.place (with_bit (get_or before.done at.place 0) (at.step % 64))) before.done)
      before.done
  pub next : after.next
      ≡ cond b
      (cond (bit mask pipeline_rule)
      (set before.next at.place
      (mask_below 16 (pipeline_in steps (with_bit (get_or before.done at.place 0) (at.step % 64) % 65536))))
      before.next)
      before.next

-- what is lent and kept after a request, granted or not, which the wall asks about or not
pub record Changed (q : Request) (g c : Bool) (mask : ℕ) (steps : List ℕ) (at : Placed) (firm : ℕ) (asked : Asked) (h : List ℕ) (before :
    Kept)
    (h' : List ℕ) (after : Kept) : Type 0
  where
    pub history : h' ≡ cond g (with_bit_at h at.index) h
    pub added :
        Added g c (g && is_step q) mask steps at firm asked.holders before after
    pub levels : after.sets
        ≡ set before.sets at.person (cond (g && lowers q) (bit_and asked.own asked.needed) asked.own)

-- the sets that a request is judged by; of the wall, the roles and the pipeline what is not asked about is told as 0
abbrev pub asked_of : Bool → Bool → Bool → List ℕ → ℕ → ℕ → Kept → ℕ → Placed → Asked
asked_of wall roles pipeline holders class folder k kind at =
    record {
      needed = get_or k.sets at.set 0;
      own = get_or k.sets at.person 0;
      class = class;
      counted = cond wall (get_or k.firms at.person 0) 0;
      holding = cond roles (get_or k.holding at.person 0) 0;
      holders = cond roles (get_or holders (right_by kind folder at.step) 0) 0;
      next = cond pipeline (get_or k.next at.place 0) 0;
    }

-- a put of a request that was parsed, for all tables that the numbers at hand are those of and every level buffer of which the levels are
-- kept
abbrev pub Puts : ℕ → List ℕ → List ℕ → Folder → ℕ → List ℕ → Kept → Parsed → ℕ → List ℕ → Kept → Type 0
Puts mask holders steps e class h before r number h' after =
    (t : Tables) (l : List ℕ) → Serves t mask holders steps e class r.target → Keeps t (set_of h) l before
    → PutKept t (state h l) (asked_by r.kind r.person r.target r.step) number h' after
