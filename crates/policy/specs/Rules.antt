-- The four rules (document 01, "Four rules", and document 02, Points 1, 2 and 5) over the tables and the set H of the requests granted so
-- far.
use Rattle.std.specs.Prelude.{ℕ, zero, suc, ◌+◌, Bool, true, cond, not, ◌&&◌, ◌||◌, eqb, leb}
use Rattle.bits.specs.Bits.{bit}
use Rattle.bits.specs.Bounded.{any_below, all_below, fold_below, ◌implies◌}
use Rattle.level.specs.declared.Comparison.{Comparison}
use Rattle.level.specs.declared.Comparison.TheVariants.{AtMost}
use Rattle.level.specs.Levels.{compare_of, is_at_most, meet_of}
use Rattle.policy.specs.declared.Tables.{Tables}
use Rattle.policy.specs.Request.{Request, read, write, start, step, subject}
use Rattle.policy.specs.Tables.{
  person_at,
  folder_at,
  role_at,
  enables,
  person_declared,
  folder_declared,
  role_declared,
  class_of,
  is_public,
}

-- the persons and folder of a request are declared, and its step is at most 15
unfoldable pub declared : Tables → Request → Bool
declared t (read s o) = person_declared t s && folder_declared t o
declared t (write s o) = person_declared t s && folder_declared t o
declared t (start s u) = person_declared t s && person_declared t u
declared t (step s p o) = person_declared t s && leb p 15 && folder_declared t o

-- a request's right
unfoldable pub right : Tables → Request → ℕ
right t (read s o) = (folder_at t o).kind
right t (write s o) = 16 + (folder_at t o).kind
right t (start s u) = 32
right t (step s p o) = 48 + p

-- p holds of some request that person s can make: on one of 128 folders, with one of 16 steps, or of one of 64 persons
unfoldable pub some_request : (Request → Bool) → ℕ → Bool
some_request p s =
    any_below 128 (λ o. p (read s o) || p (write s o) || any_below 16 (λ q. p (step s q o)))
    || any_below 64 (λ u. p (start s u))

-- firm f has a folder of which p holds
unfoldable pub firm_of_some : Tables → (ℕ → Bool) → ℕ → Bool
firm_of_some t p f = any_below 128 (λ o. p o && eqb (folder_at t o).firm f)

module _ (t : Tables) (H : Request → Bool) where
  -- r is in the set; a request of an undeclared person or folder is passed over, by every rule and by standing
  unfoldable pub did : Request → Bool
  did r = H r && declared t r

  -- person s stepped on folder o: applied some step to it
  unfoldable pub stepped : ℕ → ℕ → Bool
  stepped s o = any_below 16 (λ p. did (step s p o))

  -- person s accessed folder o: by a read, a write or a step
  unfoldable pub accessed : ℕ → ℕ → Bool
  accessed s o = did (read s o) || did (write s o) || stepped s o

  -- person s accessed some folder of firm f, public or not: the firms opened, of standing
  unfoldable pub opened : ℕ → ℕ → Bool
  opened s f = firm_of_some t (accessed s) f

  -- folder o counts in the wall's test of person s: the person accessed it, and it is not public. Public folders are the sanitized data of
  -- the model that 001 cites for the wall (its reference 7); 001 itself has no term for them: such a pair ⟨s, o⟩ is no event of 4.1
  unfoldable pub counts : ℕ → ℕ → Bool
  counts s o = accessed s o && not (is_public t o)

  -- the wall counts firm f for person s: some folder of it counts
  unfoldable pub counted : ℕ → ℕ → Bool
  counted s f = firm_of_some t (counts s) f

  -- every folder that counts is in another class
  unfoldable pub other_class : ℕ → ℕ → Bool
  other_class s class = all_below 128 (λ o. counts s o implies not (eqb (class_of t o) class))

  -- an access to a public folder passes; to another one, by the folders that count
  unfoldable pub wall_access : ℕ → ℕ → Bool
  wall_access s o = is_public t o || (counted s (folder_at t o).firm || other_class s (class_of t o))

  -- the wall
  unfoldable pub wall : Request → Bool
  wall (read s o) = wall_access s o
  wall (write s o) = wall_access s o
  wall (start s u) = true
  wall (step s p o) = wall_access s o

  -- person s observed folder o: has read it or stepped on it
  unfoldable pub observed : ℕ → ℕ → Bool
  observed s o = did (read s o) || stepped s o

  -- the level l after folder o, if person s observed it
  unfoldable pub lowered_by : ℕ → ℕ → ℕ → ℕ
  lowered_by s o l = cond (observed s o) (meet_of 12 l (folder_at t o).level.0) l

  -- a person's current level
  unfoldable pub current_level : ℕ → ℕ
  current_level s = fold_below 128 (lowered_by s) (person_at t s).level.0

  -- person s used right x
  unfoldable pub used : ℕ → ℕ → Bool
  used s x = some_request (λ q. did q && eqb (right t q) x) s

  -- the rights that the requester used, with the new one, lie in role k: no request of that person has a right outside it
  unfoldable pub role_covers : Request → ℕ → Bool
  role_covers r k =
      bit (role_at t k).rights (right t r)
      && not (some_request (λ q. did q && not (bit (role_at t k).rights (right t q))) (subject r))

  -- roles
  unfoldable pub roles : Request → Bool
  roles r = any_below 32 (λ k. role_declared t k && role_covers r k)

  -- step p is done on folder o, by anyone
  unfoldable pub done : ℕ → ℕ → Bool
  done o p = any_below 64 (λ s. did (step s p o))

  -- step p is done on folder o, enables q, and enables no step done on o
  unfoldable pub leads_to : ℕ → ℕ → ℕ → Bool
  leads_to o q p = done o p && enables t p q && not (any_below 16 (λ d. done o d && enables t p d))

  unfoldable pub pipeline_step : ℕ → ℕ → Bool
  pipeline_step zero o = not (any_below 16 (done o))
  pipeline_step (suc q) o = any_below 16 (leads_to o (suc q))

  -- the pipeline; step 0 is "create"
  unfoldable pub pipeline : Request → Bool
  pipeline (read s o) = true
  pipeline (write s o) = true
  pipeline (start s u) = true
  pipeline (step s p o) = pipeline_step p o

-- how the level of folder o compares with that of person s, whose current level is `levels s`, and who is to modify o: by a write, or by a
-- step, which alters the folder too
unfoldable pub modify_outcome : Tables → (ℕ → ℕ) → ℕ → ℕ → Comparison
modify_outcome t levels s o = compare_of 12 (folder_at t o).level.0 (levels s)

-- the outcome of low-water's comparison, over a current level for each person; a read needs none
unfoldable pub level_outcome : Tables → (ℕ → ℕ) → Request → Comparison
level_outcome t levels (read s o) = AtMost
level_outcome t levels (write s o) = modify_outcome t levels s o
level_outcome t levels (start s u) = compare_of 12 (levels u) (levels s)
level_outcome t levels (step s p o) = modify_outcome t levels s o

-- low-water
unfoldable pub low_water : Tables → (ℕ → ℕ) → Request → Bool
low_water t levels r = is_at_most (level_outcome t levels r)
