-- A put by what is kept: it gives the number that the definitions give, and leaves a history and kept sets that agree again. Where the
-- request is refused, every update leaves what it is made on; where it is granted, each is the one that the request makes to what the set
-- gives.
use Prim.Native.Nat.{ℕ, ◌+◌, ◌%◌, ◌<◌}
use native.Mathlib.Omega.{arith}
use mathlib.Core.Path.{◌≡◌, refl, sym, ap, ◌∙◌, fun_ext, subst, subst₂}
use mathlib.Core.Logic.{⊎_elim}
use mathlib.Core.Bool.{Bool, true, false, cond, not, ◌&&◌}
use mathlib.Core.List.{List}
use lib.Dec.{ltb, leb}
use lib.Bits.{bit_and}
use lib.ListN.{length, get_or, set}
use lib.Seq.{set-get_or}
use borrow.Author.Tests.{leb-true}
use Rattle.bits.specs.Bits.{bit, with_bit, mask_below}
use Rattle.bits.proofs.Booleans.{decide, and_left, and_right, false_elim}
use Rattle.policy.specs.declared.Folder.{Folder}
use Rattle.policy.specs.declared.Tables.{Tables}
use Rattle.policy.specs.Tables.{folder_at, person_at, person_declared, folder_declared, is_public, in_force, wall_rule, roles_rule, pipeline_rule}
use Rattle.policy.specs.Rulebook.{given}
use Rattle.policy.specs.History.{history_bytes}
use Rattle.policy.specs.Request.{Request, read, write, start, step, subject, set_of, recorded}
use Rattle.policy.specs.Levels.{met_with, lowered}
use Rattle.policy.specs.Rules.{declared, right}
use Rattle.policy.specs.OneMore.{with_request, folder_of, step_of}
use Rattle.policy.proofs.Requests.{declared_place, person_below_lem, folder_below}
use Rattle.policy.proofs.GivenEntries.{folder_firm}
use Rattle.policy.proofs.Places.{set_recorded}
use Rattle.pipeline.specs.Steps.{pipeline_in}
use Rattle.rules.specs.Kept.{holds_right, HasFirms, HasHolding, HasDone, HasNext}
use Rattle.levels.specs.Sets.{LevelSets}
use Rattle.levels.proofs.SetLaws.{sets_met}
use Rattle.branchfree.specs.Kinds.{place_of, target_of, lowers, is_access, is_step}
use Rattle.keeping.specs.declared.Kept.{Kept}
use Rattle.keeping.specs.Keeping.{kept, Keeps}
use Rattle.keeping.proofs.KeptLaws.{holding_more}
use Rattle.keeping.proofs.GrantLaws.{firms_more, done_same, next_same, done_more, next_more}

-- ---- declared parties

module _ (t : Tables) where
  pub subject_declared : (q : Request) → declared t q ≡ true → person_declared t (subject q) ≡ true
  unfolding declared subject
  subject_declared (read s o) d = and_left (person_declared t s) (folder_declared t o) d
  subject_declared (write s o) d = and_left (person_declared t s) (folder_declared t o) d
  subject_declared (start s u) d = and_left (person_declared t s) (person_declared t u) d
  subject_declared (step s p o) d =
      and_left (person_declared t s) (leb p 15) (and_left (person_declared t s && leb p 15) (folder_declared t o) d)

  pub folder_declared_lem : (q : Request) → declared t q ≡ true → is_access q ≡ true → folder_declared t (folder_of q) ≡ true
  unfolding declared is_access folder_of
  folder_declared_lem (read s o) d e = and_right (person_declared t s) (folder_declared t o) d
  folder_declared_lem (write s o) d e = and_right (person_declared t s) (folder_declared t o) d
  folder_declared_lem (start s u) d e = absurd (false_elim false refl e)
  folder_declared_lem (step s p o) d e = and_right (person_declared t s && leb p 15) (folder_declared t o) d

-- the step and the folder of a step
pub step_access : (q : Request) → is_step q ≡ true → is_access q ≡ true
unfolding is_step is_access
step_access (read s o) e = refl
step_access (write s o) e = refl
step_access (start s u) e = e
step_access (step s p o) e = refl

lowers_access : (q : Request) → lowers q ≡ true → is_access q ≡ true
unfolding lowers is_access
lowers_access (read s o) e = refl
lowers_access (write s o) e = refl
lowers_access (start s u) e = e
lowers_access (step s p o) e = refl

pub access_place : (q : Request) → is_access q ≡ true → place_of q ≡ folder_of q
unfolding place_of is_access folder_of
access_place (read s o) e = refl
access_place (write s o) e = refl
access_place (start s u) e = absurd (false_elim false refl e)
access_place (step s p o) e = refl

access_target : (q : Request) → is_access q ≡ true → target_of q ≡ 64 + folder_of q
unfolding target_of is_access folder_of
access_target (read s o) e = refl
access_target (write s o) e = refl
access_target (start s u) e = absurd (false_elim false refl e)
access_target (step s p o) e = refl

step_small : (t : Tables) (q : Request) → declared t q ≡ true → step_of q < 16
unfolding declared step_of
step_small t (read s o) d = omega arith
step_small t (write s o) d = omega arith
step_small t (start s u) d = omega arith
step_small t (step s p o) d =
    let l = leb-true p 15 (and_right (person_declared t s) (leb p 15) (and_left (person_declared t s && leb p 15) (folder_declared t o) d)) in
    omega arith

-- ---- levels

met_by : (t : Tables) (l : List ℕ) (r : Request) → lowers r ≡ true → lowered t l r ≡ met_with t l (subject r) (folder_of r)
unfolding lowers lowered subject folder_of
met_by t l (read s o) e = refl
met_by t l (write s o) e = absurd (false_elim false refl e)
met_by t l (start s u) e = absurd (false_elim false refl e)
met_by t l (step s p o) e = refl

left_by : (t : Tables) (l : List ℕ) (r : Request) → lowers r ≡ false → lowered t l r ≡ l
unfolding lowers lowered
left_by t l (read s o) e = absurd (false_elim true e refl)
left_by t l (write s o) e = refl
left_by t l (start s u) e = refl
left_by t l (step s p o) e = absurd (false_elim true e refl)

module _ (t : Tables) (l sets : List ℕ) (has : LevelSets t l sets) (q : Request) (d : declared t q ≡ true) where
  person : (person_at t (subject q)).declared ≡ true
  unfolding person_declared
  person = and_right (ltb (subject q) 64) (person_at t (subject q)).declared (subject_declared t q d)

  folder : is_access q ≡ true → (folder_at t (folder_of q)).declared ≡ true
  unfolding folder_declared
  folder e = and_right (ltb (folder_of q) 128) (folder_at t (folder_of q)).declared (folder_declared_lem t q d e)

  pub levels_more : LevelSets t (lowered t l q)
      (set sets (subject q)
      (cond (lowers q) (bit_and (get_or sets (subject q) 0) (get_or sets (target_of q) 0)) (get_or sets (subject q) 0)))
  levels_more =
      ⊎_elim
      (λ e.
      let access = lowers_access q e in
      rw (e, access_target q access, met_by t l q e)
      (sets_met t l sets (subject q) (folder_of q) (person_below_lem t (subject q) (subject_declared t q d))
      (folder_below t (folder_of q) (folder_declared_lem t q d access)) person (folder access) has))
      (λ e.
      subst₂ (LevelSets t) (sym (left_by t l q e))
      (sym
      (ap (λ (b : Bool). set sets (subject q) (cond b (bit_and (get_or sets (subject q) 0) (get_or sets (target_of q) 0)) (get_or sets (subject
      q) 0))) e
      ∙ set-get_or sets (subject q) 0)) has)
      (decide (lowers q))

-- ---- what is kept after a granted request

no_and : (b : Bool) → b && false ≡ false
no_and true = refl
no_and false = refl

module _ (t : Tables) (h l : List ℕ) (ok : given t ≡ true) (size : length h ≡ history_bytes) {mask : ℕ} (rules : mask ≡ t.mask) (k : Kept)
    (keeps : Keeps t (set_of h) l k) (q : Request) (d : declared t q ≡ true) (e : Folder) (holders : ℕ) (steps : List ℕ)
    (entry : is_access q ≡ true → e ≡ folder_at t (folder_of q))
    (rights : in_force t roles_rule ≡ true → holders ≡ mask_below 32 (holds_right t (right t q))) (enabling : steps ≡ t.steps) where
  on : (n : ℕ) → bit mask n ≡ in_force t n
  unfolding in_force
  on n = ap (λ (m : ℕ). bit m n) rules

  known : person_declared t (subject q) ≡ true
  known = subject_declared t q d

  within : subject q < 64
  within = person_below_lem t (subject q) known

  abbrev pub firms_after : List ℕ
  firms_after =
      cond (bit mask wall_rule)
      (set k.firms (subject q)
      (cond (not e.public && is_access q) (with_bit (get_or k.firms (subject q) 0) (e.firm % 64)) (get_or k.firms (subject q) 0)))
      k.firms

  has_firms : HasFirms t (with_request (set_of h) q) firms_after
  has_firms =
      firms_more t (set_of h) ok q d (bit mask wall_rule) (not e.public && is_access q) k.firms e.firm (on wall_rule) within known
      (counts (is_access q) refl)
      (λ a.
      let named = entry a in
      let firm : e.firm ≡ (folder_at t (folder_of q)).firm = ap (λ (x : Folder). x.firm) named in
      (firm, (let m = folder_firm t ok (folder_of q) (folder_declared_lem t q d a) in let z : e.firm < 64 = omega (arith, m, firm) in z)))
      keeps.firms
    where
      counts : (a : Bool) → a ≡ is_access q → not e.public && is_access q ≡ not (is_public t (folder_of q)) && is_access q
      counts true i = ap (λ (x : Folder). not x.public && is_access q) (entry (sym i))
      counts false i = rw (← i) (no_and (not e.public) ∙ sym (no_and (not (is_public t (folder_of q)))))

  has_holding : HasHolding t (with_request (set_of h) q)
      (cond (bit mask roles_rule) (set k.holding (subject q) (bit_and (get_or k.holding (subject q) 0) holders)) k.holding)
  has_holding =
      holding_more t (set_of h) ok q d (bit mask roles_rule) k.holding holders (on roles_rule) within known rights keeps.holding

  -- the steps: those of a step's folder change, and those of any other request stay
  abbrev pub done_after : List ℕ
  done_after =
      cond (is_step q)
      (cond (bit mask pipeline_rule) (set k.done (folder_of q) (with_bit (get_or k.done (folder_of q) 0) (step_of q % 64))) k.done)
      k.done

  abbrev pub next_after_lem : List ℕ
  next_after_lem =
      cond (is_step q)
      (cond (bit mask pipeline_rule)
      (set k.next (folder_of q)
      (mask_below 16 (pipeline_in steps (with_bit (get_or k.done (folder_of q) 0) (step_of q % 64) % 65536)))) k.next)
      k.next

  has_done : HasDone t (with_request (set_of h) q) done_after
  has_done =
      ⊎_elim
      (λ s.
      let folder = folder_declared_lem t q d (step_access q s) in
      rw s
      (done_more t (set_of h) ok q d s (folder_below t (folder_of q) folder) (step_small t q d) folder (bit mask pipeline_rule) k.done
      (on pipeline_rule) keeps.done))
      (λ s. rw s (done_same t (set_of h) ok q d s keeps.done))
      (decide (is_step q))

  has_next : HasNext t (with_request (set_of h) q) next_after_lem
  has_next =
      ⊎_elim
      (λ s.
      let folder = folder_declared_lem t q d (step_access q s) in
      rw s
      (next_more t (set_of h) ok q d s (folder_below t (folder_of q) folder) (step_small t q d) folder (bit mask pipeline_rule) k.done
      k.next steps (on pipeline_rule) enabling keeps.done keeps.next))
      (λ s. rw s (next_same t (set_of h) ok q d s keeps.next))
      (decide (is_step q))

  -- the set of the history with the request
  recorded_set : with_request (set_of h) q ≡ set_of (recorded h q)
  unfolding with_request
  recorded_set = sym (fun_ext (λ r. set_recorded h size q r (declared_place t q d)))

  abbrev pub kept_after : Kept
  kept_after =
      kept firms_after
      (cond (bit mask roles_rule) (set k.holding (subject q) (bit_and (get_or k.holding (subject q) 0) holders)) k.holding)
      done_after next_after_lem
      (set k.sets (subject q)
      (cond (lowers q) (bit_and (get_or k.sets (subject q) 0) (get_or k.sets (target_of q) 0)) (get_or k.sets (subject q) 0)))

  pub granted_keeps : Keeps t (set_of (recorded h q)) (lowered t l q) kept_after
  granted_keeps =
      subst (λ (H : Request → Bool). Keeps t H (lowered t l q) kept_after) recorded_set
      (record {
        firms = has_firms;
        holding = has_holding;
        done = has_done;
        next = has_next;
        levels = levels_more t l k.sets keeps.levels q d;
      })
