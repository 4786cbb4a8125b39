-- What a run does with the number of each request that it puts, and a run so far that does so.
use Rattle.std.specs.Prelude.{ℕ, ◌+◌, ◌%◌, ◌<◌, ◌≤◌, ◌≡◌, true, List, length, drop, set}
use Rattle.policy.specs.declared.Folder.{Folder}
use Rattle.policy.specs.declared.Tables.{Tables}
use Rattle.policy.specs.Tables.{folder_at}
use Rattle.policy.specs.Rulebook.{given}
use Rattle.policy.specs.Calls.{State, state, answers_due}
use Rattle.request.specs.declared.Parsed.{Parsed}
use Rattle.request.specs.Parsed.{ParsedFrom}
use Rattle.keeping.specs.declared.Kept.{Kept as Keeping}
use Rattle.putting.specs.Running.{Turned, Begun}
use Rattle.running.specs.Kept.{Kept}

-- a run so far is told as one that writes answers, into the bytes `Room requests lent`; `Told t a₀ requests lent at a written told` is
-- what has become of what is lent, where the run has written these answers
module _ {A : Type 0} (Room : List ℕ → List A → List ℕ) (Told : Tables → State → List ℕ → List A → ℕ → State → List ℕ → List A → Type 0)
  where
    -- a run so far, of one that keeps: no buffer holds the levels yet
    pub record Taken (t : Tables) (a₀ : State) (requests : List ℕ) (lent : List A) (at i granted : ℕ) (h : List ℕ) (told : List A)
        (k : Keeping) : Type 0
      where
        pub written : List ℕ
        pub kept : Kept t a₀ requests (Room requests lent) at i granted h written k
        pub left : Told t a₀ requests lent at (state h kept.levels) written told

    -- a run so far
    pub record TakenTo (t : Tables) (a₀ : State) (requests : List ℕ) (lent : List A) (at i granted : ℕ) (a : State)
        (told : List A) : Type 0
      where
        pub written : List ℕ
        pub begun : Begun t a₀ requests (Room requests lent) at i granted a written
        pub left : Told t a₀ requests lent at a written told

    -- with `Lent` of what is lent a run may begin; after each put its number may be taken, and what is lent is then as it has to be
    pub record TakingLaws (Lent : List ℕ → List A → Type 0) (May : List A → ℕ → Folder → Parsed → ℕ → Type 0)
        (Takes : List A → ℕ → Folder → Parsed → ℕ → List A → Type 0) : Type 0
      where
        pub room : (requests : List ℕ) (lent : List A) → Lent requests lent → answers_due requests ≤ length (Room requests lent)
        pub none : (t : Tables) (a : State) (requests : List ℕ) (lent : List A) → Lent requests lent
            → Told t a requests lent 0 a (Room requests lent) lent
        pub may : (t : Tables) (a₀ a after : State) (requests : List ℕ) (lent : List A) (at i : ℕ) (written : List ℕ) (told : List A)
            (r : Parsed) (e : Folder) (n : ℕ)
            → given t ≡ true → Told t a₀ requests lent at a written told → at < length requests → i < length written
            → ParsedFrom (drop at requests) r → e ≡ folder_at t (r.target % 128) → Turned t a (drop at requests) n r.next after
            → May told i e r n
        pub more : (t : Tables) (a₀ a after : State) (requests : List ℕ) (lent : List A) (at i : ℕ) (written : List ℕ) (told later : List A)
            (r : Parsed) (e : Folder) (n : ℕ)
            → given t ≡ true → Told t a₀ requests lent at a written told → at < length requests
            → ParsedFrom (drop at requests) r → e ≡ folder_at t (r.target % 128) → Turned t a (drop at requests) n r.next after
            → Takes told i e r n later → Told t a₀ requests lent (at + r.next) after (set written i n) later
