-- The wall for one request, over the folders of one class: which folders bear on it, and what a search through them has found.
use Rattle.std.specs.Prelude.{ℕ, ◌≡◌, Bool, false, not, ◌&&◌, List, eqb}
use Rattle.bits.specs.Bounded.{any_below}
use Rattle.policy.specs.declared.Firm.{Firm}
use Rattle.policy.specs.declared.Folder.{Folder}
use Rattle.policy.specs.declared.Tables.{Tables}
use Rattle.policy.specs.Tables.{firm_at, folder_at}
use Rattle.recorded.specs.Recorded.{touched_at}

-- folder o, whose entry is e and whose firm's entry is f, bears on an access in a class by person s
unfoldable pub bears : Folder → Firm → ℕ → List ℕ → ℕ → ℕ → Bool
bears e f class h s o = e.declared && not e.public && eqb f.class class && touched_at h s o

-- the same of folder o of the tables
unfoldable pub bears_at : Tables → List ℕ → ℕ → ℕ → ℕ → Bool
bears_at t h s class o = bears (folder_at t o) (firm_at t (folder_at t o).firm) class h s o

-- it bears on the access, and is of this firm
unfoldable pub own_at : Tables → List ℕ → ℕ → ℕ → ℕ → ℕ → Bool
own_at t h s class firm o = bears_at t h s class o && eqb (folder_at t o).firm firm

-- of the folders below n that bear on the access none is of the firm, and whether there is one is known
pub record Searched (t : Tables) (h : List ℕ) (s class firm n : ℕ) (rival : Bool) : Type 0 where
  pub own : any_below n (own_at t h s class firm) ≡ false
  pub others : rival ≡ any_below n (bears_at t h s class)
