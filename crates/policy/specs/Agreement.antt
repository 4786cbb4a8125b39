-- The agreement, as one claim about whole lists of put calls, for a rulebook that loads. Each call may have any bytes, and each gets the
-- history and the levels as the call before left them.
-- Its sentences are document 01's third demand; what they speak of is defined first.
use Rattle.std.specs.Prelude.{ℕ, ◌≡◌, ◌↔◌, true, false, cond, eqb, length, get_or}
use mathlib.Core.List.{List, [], ◌∷◌, Memᴰ, Perm}
use Rattle.bits.specs.Bits.{bit}
use Rattle.policy.specs.declared.Tables.{Tables}
use Rattle.policy.specs.Tables.{no_firm, no_person, no_folder, no_role, in_force, low_water_rule, pipeline_rule}
use Rattle.policy.specs.Rulebook.{Record, rules, firm, person, folder, role, pair, public, load_book, records_of}
use Rattle.policy.specs.Request.{Request, read, write, start, step, request_of}
use Rattle.policy.specs.Calls.{State, blank_number, blank_state, added_if, judge_list, put_numbers, put_states}
use Rattle.policy.specs.Held.{HoldsEach, HoldsZero}

-- the tables hold what the records declare, all of it and nothing else: what no record declares is zero and marked undeclared; a folder is
-- marked public exactly where a record says so, and the rest of its entry is as its own record declares it
pub record Holds (t : Tables) (records : List Record) : Type 0 where
  pub mask : (m : ℕ) → (Memᴰ (rules m) records) ↔ (t.mask ≡ m)
  pub firms :
      (f class : ℕ) → Memᴰ (firm f class) records
      → get_or t.firms f no_firm ≡ record { declared = true; class = class }
  pub no_firms :
      (f : ℕ) → ((class : ℕ) → Memᴰ (firm f class) records → ⊥)
      → get_or t.firms f no_firm ≡ record { declared = false; class = 0 }
  pub persons :
      (s level : ℕ) → Memᴰ (person s level) records
      → get_or t.persons s no_person ≡ record { declared = true; level = record { 0 = level } }
  pub no_persons :
      (s : ℕ) → ((level : ℕ) → Memᴰ (person s level) records → ⊥)
      → get_or t.persons s no_person ≡ record { declared = false; level = record { 0 = 0 } }
  pub folders :
      (o f kind level : ℕ) → Memᴰ (folder o f kind level) records
      → get_or t.folders o no_folder
      ≡ record { declared = true; firm = f; kind = kind; level = record { 0 = level }; public = (get_or t.folders o no_folder).public }
  pub no_folders :
      (o : ℕ) → ((f kind level : ℕ) → Memᴰ (folder o f kind level) records → ⊥)
      → get_or t.folders o no_folder ≡ record { declared = false; firm = 0; kind = 0; level = record { 0 = 0 }; public = false }
  pub publics : (o : ℕ) → (Memᴰ (public o) records) ↔ ((get_or t.folders o no_folder).public ≡ true)
  pub roles :
      (k rights : ℕ) → Memᴰ (role k rights) records
      → get_or t.roles k no_role ≡ record { declared = true; rights = rights }
  pub no_roles :
      (k : ℕ) → ((rights : ℕ) → Memᴰ (role k rights) records → ⊥)
      → get_or t.roles k no_role ≡ record { declared = false; rights = 0 }
  pub pairs : (p q : ℕ) → (Memᴰ (pair p q) records) ↔ (bit (get_or t.steps p 0) q ≡ true)

-- from blank: right after a blanking of both buffers with these tables that answered 0
abbrev pub FromBlank : Tables → State → Type 0
FromBlank t a = (before : State) × (blank_number t before ≡ 0) × (a ≡ blank_state t before)

-- the requests, kind and fields, of the calls answered 0, in the order of the calls
unfoldable pub answered_zero : List (List ℕ) → List ℕ → List Request
answered_zero [] numbers = []
answered_zero (bytes ∷ calls) [] = []
answered_zero (bytes ∷ calls) (n ∷ numbers) = added_if (eqb n 0) (request_of bytes) (answered_zero calls numbers)

unfoldable pub granted : Tables → State → List (List ℕ) → List Request
granted t a calls = answered_zero calls (put_numbers t a calls)

-- the same set was granted: without order or repeats
abbrev pub SameSet : List Request → List Request → Type 0
SameSet g g' = (r : Request) → (Memᴰ r g) ↔ (Memᴰ r g')

-- the person and the step of each granted step on a folder, in the order of the calls
pub record Done : Type 0 where
  pub person : ℕ
  pub number : ℕ

unfoldable pub steps_on : ℕ → List Request → List Done
steps_on o [] = []
steps_on o (read s f ∷ g) = steps_on o g
steps_on o (write s f ∷ g) = steps_on o g
steps_on o (start s u ∷ g) = steps_on o g
steps_on o (step s p f ∷ g) = cond (eqb f o) (record { person = s; number = p } ∷ steps_on o g) (steps_on o g)

-- granted throughout: every call answers 0
abbrev pub Throughout : Tables → State → List (List ℕ) → Type 0
Throughout t a calls = (n : ℕ) → Memᴰ n (put_numbers t a calls) → n ≡ 0

-- the agreement on tables and the records of their book, for any two lists from blank
pub record Agreement (t : Tables) (records : List Record) (a b : State) (xs ys : List (List ℕ)) : Type 0 where
  -- tables hold what the records declare
  pub tables : Holds t records
  -- numbers are those of the definitions over the set granted so far, with no stored level in them
  pub numbers : put_numbers t a xs ≡ judge_list t [] xs
  -- histories are equal byte for byte exactly where the granted sets are
  pub histories : ((put_states t a xs).history ≡ (put_states t b ys).history) ↔ SameSet (granted t a xs) (granted t b ys)
  -- and then the levels are equal byte for byte too
  pub levels : SameSet (granted t a xs) (granted t b ys) → (put_states t a xs).levels ≡ (put_states t b ys).levels
  -- the levels are 128 bytes, and each of the 64 entries is the level that the history gives, zero for the undeclared
  pub size : length (put_states t a xs).levels ≡ 128
  pub held : HoldsEach t (put_states t a xs)
  pub others : HoldsZero t (put_states t a xs)
  -- the same set has the same future: the same numbers place by place, and equal histories and levels
  pub future :
      SameSet (granted t a xs) (granted t b ys) → (zs : List (List ℕ))
      → (put_numbers t (put_states t a xs) zs ≡ put_numbers t (put_states t b ys) zs)
      × (put_states t (put_states t a xs) zs ≡ put_states t (put_states t b ys) zs)
  -- under the pipeline the granted steps on a folder came in the same order
  pub steps :
      in_force t pipeline_rule ≡ true → SameSet (granted t a xs) (granted t b ys)
      → (o : ℕ) → steps_on o (granted t a xs) ≡ steps_on o (granted t b ys)
  -- without low-water and pipeline every reordering of a granted list is granted
  pub orders : in_force t low_water_rule ≡ false → in_force t pipeline_rule ≡ false → Perm xs ys → Throughout t a xs → Throughout t b ys

-- the claim: every rulebook that loads, every two lists from blank
abbrev pub Claim : Type 0
Claim =
    (book : List ℕ) → (load_book book).number ≡ 0
    → (a b : State) → FromBlank (load_book book).tables a → FromBlank (load_book book).tables b
    → (xs ys : List (List ℕ)) → Agreement (load_book book).tables (records_of book) a b xs ys
