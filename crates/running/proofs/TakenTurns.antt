-- A run that keeps and takes the number of each request, turn by turn: by the laws a put's number may be taken, and what is lent is then as
-- it has to be after the request.
use Prim.Native.Nat.{ℕ, ◌+◌, ◌%◌, ◌≤◌, ◌<◌}
use mathlib.Core.Path.{◌≡◌}
use mathlib.Core.Bool.{cond}
use mathlib.Core.List.{List}
use lib.Dec.{eqb}
use lib.ListN.{length, set, drop}
use Rattle.policy.specs.declared.Folder.{Folder}
use Rattle.policy.specs.declared.Tables.{Tables}
use Rattle.policy.specs.Tables.{folder_at}
use Rattle.policy.specs.Request.{set_of}
use Rattle.policy.specs.Calls.{State, state, answers_due}
use Rattle.request.specs.declared.Parsed.{Parsed}
use Rattle.request.specs.Parsed.{ParsedFrom}
use Rattle.questions.specs.Judging.{Ready}
use Rattle.branchfree.specs.Kinds.{asked_by}
use Rattle.keeping.specs.declared.Kept.{Kept as Keeping}
use Rattle.keeping.specs.Keeping.{Keeps, PutKept}
use Rattle.running.specs.Taking.{Taken, TakenTo, TakingLaws}
use Rattle.running.proofs.KeptTurns.{kept_none, kept_room, kept_turned, kept_more, kept_stored}

module _ {A : Type 0} {Room : List ℕ → List A → List ℕ} {Told : Tables → State → List ℕ → List A → ℕ → State → List ℕ → List A → Type 0}
    {Lent : List ℕ → List A → Type 0} {May : List A → ℕ → Folder → Parsed → ℕ → Type 0}
    {Takes : List A → ℕ → Folder → Parsed → ℕ → List A → Type 0} (laws : TakingLaws Room Told Lent May Takes)
  where
    pub taken_none : {t : Tables} {h l requests : List ℕ} {lent : List A} {k : Keeping} → Ready t h l → Keeps t (set_of h) l k
        → Lent requests lent → Taken Room Told t (state h l) requests lent 0 0 0 h lent k
    unfolding kept_none
    taken_none ready keeps may =
        record { written = _; kept = kept_none ready keeps; left = laws.none _ _ _ _ may }

    module _ {t : Tables} {a₀ : State} {requests : List ℕ} {lent : List A} {at i granted : ℕ} {h : List ℕ} {told : List A} {k : Keeping}
        (so_far : Taken Room Told t a₀ requests lent at i granted h told k) (below : at < length requests) (may : Lent requests lent)
        {r : Parsed} (parsed : ParsedFrom (drop at requests) r) {e : Folder} (entry : e ≡ folder_at t (r.target % 128))
        {n : ℕ} {h' : List ℕ} {k' : Keeping} (low : 15 < r.kind) (high : r.kind < 20)
        (put : PutKept t (state h so_far.kept.levels) (asked_by r.kind r.person r.target r.step) n h' k')
      where
        due : answers_due requests ≤ length (Room requests lent)
        due = laws.room requests lent may

        pub taken_may : May told i e r n
        taken_may =
            laws.may t a₀ _ _ requests lent at i so_far.written told r e n so_far.kept.begun.done.ready.tables so_far.left below
            (kept_room so_far.kept below due) parsed entry (kept_turned so_far.kept below due parsed low high put)

        pub taken_more : {later : List A} {g : ℕ} → Takes told i e r n later → g ≡ cond (eqb n 0) 1 0
            → Taken Room Told t a₀ requests lent (at + r.next) (i + 1) (granted + g) h' later k'
        unfolding kept_more
        taken_more {later} made one =
            record {
              written = set so_far.written i n;
              kept = kept_more so_far.kept below due parsed low high put one;
              left =
                  laws.more t a₀ _ _ requests lent at i so_far.written told later r e n so_far.kept.begun.done.ready.tables so_far.left
                  below parsed entry (kept_turned so_far.kept below due parsed low high put) made;
            }

-- the levels kept, once they are stored
pub taken_stored : {A : Type 0} {Room : List ℕ → List A → List ℕ}
    {Told : Tables → State → List ℕ → List A → ℕ → State → List ℕ → List A → Type 0} {t : Tables} {a₀ : State} {requests : List ℕ}
    {lent : List A} {at i granted : ℕ} {h : List ℕ} {told : List A} {k : Keeping}
    (so_far : Taken Room Told t a₀ requests lent at i granted h told k) {l : List ℕ} → l ≡ so_far.kept.levels
    → TakenTo Room Told t a₀ requests lent at i granted (state h l) told
taken_stored so_far e =
    record { written = so_far.written; begun = kept_stored so_far.kept e; left = rw e so_far.left }
