-- Document 02, Point 1, as claims about what the calls return: the wall, whose number is 14, passes public folders over, and nothing else
-- looks at a mark. They hold on every history and level buffer and under every mask.
use Rattle.std.specs.Prelude.{ℕ, ◌≡◌, ◌↔◌, ◌≢◌, true, List, length}
use Rattle.policy.specs.declared.Folder.{Folder}
use Rattle.policy.specs.declared.Tables.{Tables}
use Rattle.policy.specs.Tables.{folder_at}
use Rattle.policy.specs.Request.{Request, set_of}
use Rattle.policy.specs.Rules.{current_level}
use Rattle.policy.specs.Calls.{State, judge_number, put_state, standing}
use Rattle.policy.specs.Published.{NotPublic, Access, Accessed}
use Rattle.policy.specs.Given.{LoadGives}
use Rattle.policy.specs.Causes.{AtFront}

-- two histories that hold the same accesses to the folders that are not public; the level buffers may hold anything
pub record SameButPublic (t : Tables) (a b : State) : Type 0 where
  pub histories : length a.history ≡ length b.history
  pub levels : length a.levels ≡ length b.levels
  pub accesses : (q : Request) (s o : ℕ) → Access q s o → NotPublic t o → set_of a.history q ≡ set_of b.history q

-- two entries of a folder that are the same but for the mark
pub record SameEntry (e e' : Folder) : Type 0 where
  pub declared : e.declared ≡ e'.declared
  pub firm : e.firm ≡ e'.firm
  pub kind : e.kind ≡ e'.kind
  pub level : e.level.0 ≡ e'.level.0

-- two tables that loads give, and that are the same but for the marks
pub record SameButMarks (t t' : Tables) : Type 0 where
  pub one : LoadGives t
  pub other : LoadGives t'
  pub mask : t.mask ≡ t'.mask
  pub firms : t.firms ≡ t'.firms
  pub persons : t.persons ≡ t'.persons
  pub folders : (o : ℕ) → SameEntry (folder_at t o) (folder_at t' o)
  pub roles : t.roles ≡ t'.roles
  pub steps : t.steps ≡ t'.steps

-- the folder has the same mark in both tables
abbrev pub SameMark : Tables → Tables → ℕ → Type 0
SameMark t t' o = (folder_at t o).public ≡ (folder_at t' o).public

pub record PublicFolders : Type 0 where
  -- "the wall passes a request for a public folder"
  pub passed :
      (t : Tables) (a : State) (bytes rest : List ℕ) (r : Request) (s o : ℕ) → AtFront r bytes rest → Access r s o
      → (folder_at t o).public ≡ true → judge_number t a bytes ≢ 14
  -- "public folders already opened don't count in its test": whatever was done on them, the wall refuses the same requests
  pub uncounted :
      (t : Tables) (a b : State) (bytes : List ℕ) → SameButPublic t a b → (judge_number t a bytes ≡ 14) ↔ (judge_number t b bytes ≡ 14)
  -- a mark counts where the folder is asked for or was accessed by the person, and nowhere else
  pub others :
      (t t' : Tables) (a : State) (bytes rest : List ℕ) (r : Request) (s o : ℕ) → SameButMarks t t' → AtFront r bytes rest
      → Access r s o → SameMark t t' o → ((i : ℕ) → Accessed t (set_of a.history) s i → SameMark t t' i)
      → judge_number t a bytes ≡ judge_number t' a bytes
  -- marks change the answers of the wall alone: where neither answer is 14, both are the same
  pub elsewhere :
      (t t' : Tables) (a : State) (bytes : List ℕ) → SameButMarks t t' → judge_number t a bytes ≢ 14 → judge_number t' a bytes ≢ 14
      → judge_number t a bytes ≡ judge_number t' a bytes
  -- and no standing: rights used and firms opened take public folders as any other
  pub standings : (t t' : Tables) (a : State) (s : ℕ) → SameButMarks t t' → standing t a s ≡ standing t' a s
  -- and no level: a public folder lowers as any other, where it is put and in what a history gives
  pub puts :
      (t t' : Tables) (a : State) (bytes : List ℕ) → SameButMarks t t' → judge_number t a bytes ≡ 0 → judge_number t' a bytes ≡ 0
      → put_state t a bytes ≡ put_state t' a bytes
  pub levels : (t t' : Tables) (h : List ℕ) (s : ℕ) → SameButMarks t t' → current_level t (set_of h) s ≡ current_level t' (set_of h) s
