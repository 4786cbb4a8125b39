-- What persons did, and what was done on folders, over the set of the requests granted so far with one request more: what it was before,
-- and beside it the request's own right, firm or step. What other persons did, and the steps on other folders, stay as they were. By this
-- law a run keeps what it has gathered.
use Rattle.std.specs.Prelude.{ℕ, ◌≡◌, Bool, true, false, not, ◌&&◌, ◌||◌, eqb}
use Rattle.policy.specs.declared.Tables.{Tables}
use Rattle.policy.specs.Tables.{folder_at, is_public}
use Rattle.policy.specs.Request.{Request, read, write, start, step, subject, same}
use Rattle.policy.specs.Rules.{declared, right, used, opened, counted, done}

-- the set H with request r
unfoldable pub with_request : (Request → Bool) → Request → Request → Bool
with_request H r q = same r q || H q

-- the request is an access of person s: a read, a write or a step
unfoldable pub access_of : Request → ℕ → Bool
access_of (read s o) s' = eqb s s'
access_of (write s o) s' = eqb s s'
access_of (start s u) s' = false
access_of (step s p o) s' = eqb s s'

-- the folder of an access
unfoldable pub folder_of : Request → ℕ
folder_of (read s o) = o
folder_of (write s o) = o
folder_of (start s u) = 0
folder_of (step s p o) = o

-- the request is a step on folder o
unfoldable pub step_on : Request → ℕ → Bool
step_on (read s o) o' = false
step_on (write s o) o' = false
step_on (start s u) o' = false
step_on (step s p o) o' = eqb o o'

-- the number of a step
unfoldable pub step_of : Request → ℕ
step_of (read s o) = 0
step_of (write s o) = 0
step_of (start s u) = 0
step_of (step s p o) = p

pub record OneMore : Type 0 where
  -- the rights used by person s
  pub rights :
      (t : Tables) (H : Request → Bool) (r : Request) (s x : ℕ) → declared t r ≡ true
      → used t (with_request H r) s x ≡ eqb (subject r) s && eqb (right t r) x || used t H s x
  -- the firms that person s opened
  pub firms :
      (t : Tables) (H : Request → Bool) (r : Request) (s f : ℕ) → declared t r ≡ true
      → opened t (with_request H r) s f ≡ access_of r s && eqb (folder_at t (folder_of r)).firm f || opened t H s f
  -- the firms that the wall counts for person s
  pub counts :
      (t : Tables) (H : Request → Bool) (r : Request) (s f : ℕ) → declared t r ≡ true
      → counted t (with_request H r) s f
      ≡ (access_of r s && not (is_public t (folder_of r))) && eqb (folder_at t (folder_of r)).firm f || counted t H s f
  -- the steps done on folder o
  pub steps :
      (t : Tables) (H : Request → Bool) (r : Request) (o p : ℕ) → declared t r ≡ true
      → done t (with_request H r) o p ≡ step_on r o && eqb (step_of r) p || done t H o p
