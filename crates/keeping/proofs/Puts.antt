-- A put by what is kept, of a request of any kind, placed by the row of its kind: the first check that fails has the number that the
-- definitions give, and what is lent and kept afterwards is what they give.
use Prim.Native.Nat.{ℕ, ◌%◌, ◌<◌}
use native.Mathlib.Nat.{mod-eq_of_lt}
use native.Mathlib.Omega.{arith}
use mathlib.Core.Path.{◌≡◌, refl, sym, ap, ◌∙◌, subst, subst₂}
use mathlib.Core.Logic.{⊎_elim}
use mathlib.Core.Bool.{Bool, true, false, cond, not, ◌&&◌}
use mathlib.Core.List.{List}
use mathlib.Core.Option.{some}
use lib.Dec.{eqb}
use lib.Bits.{bit_and}
use lib.ListN.{length, get_or, set}
use lib.Seq.{set-get_or}
use borrow.Author.Tests.{lt-ltb, eqb-true}
use Rattle.bits.specs.Bits.{bit, with_bit, mask_below}
use Rattle.bits.proofs.Booleans.{decide}
use Rattle.policy.specs.declared.Folder.{Folder}
use Rattle.policy.specs.declared.Tables.{Tables}
use Rattle.policy.specs.Checks.{ladder}
use Rattle.policy.specs.Tables.{folder_at, person_at, in_force, class_of, wall_rule, roles_rule, pipeline_rule}
use Rattle.policy.specs.History.{history_bytes, with_bit_at}
use Rattle.policy.specs.Request.{Request, subject, has_place, set_of, recorded}
use Rattle.policy.specs.Levels.{level_at, lowered}
use Rattle.policy.specs.Rules.{declared, right}
use Rattle.policy.specs.Calls.{state, request_checks, recorded_if}
use Rattle.policy.specs.OneMore.{folder_of, step_of}
use Rattle.policy.proofs.Requests.{declared_place, folder_below}
use Rattle.policy.proofs.GivenEntries.{folder_kind}
use Rattle.pipeline.specs.Steps.{pipeline_in}
use Rattle.rules.specs.Sets.{firms_of}
use Rattle.rules.specs.Kept.{holds_right}
use Rattle.level.specs.Sets.{level_set}
use Rattle.levels.proofs.SetLaws.{level_lt}
use Rattle.branchfree.specs.declared.first.Asked.{Asked}
use Rattle.branchfree.specs.declared.kinds.Placed.{Placed}
use Rattle.branchfree.specs.Kinds.{placed_by, right_by, asked_by, lowers, is_access, is_step, Exact, PlacedAs, RowOf}
use Rattle.branchfree.specs.Failing.{Failing, first_failing, number_at, grant_at, failing_of}
use Rattle.keeping.specs.declared.Kept.{Kept}
use Rattle.keeping.specs.Keeping.{kept, Keeps, Serves, PutKept, Changed}
use Rattle.branchfree.proofs.KindLaws.{placed_as, row_of_lem, right_small, right_is, folder_number}
use Rattle.branchfree.proofs.FailingLaws.{granted_at}
use Rattle.keeping.proofs.KeptLaws.{roles_kept}
use Rattle.keeping.proofs.Deciding.{decided, not_declared}
use Rattle.keeping.proofs.Known.{level_in, mark_in, set_at, level_small, parties_known, outcome_known, wall_known, pipeline_known}
use Rattle.keeping.proofs.PutLaws.{
  subject_declared,
  folder_declared_lem,
  step_access,
  access_place,
  granted_keeps,
  kept_after as own-kept,
}

-- what is kept, part by part
parts : {firms firms' holding holding' done done' next next' sets sets' : List ℕ} → firms ≡ firms' → holding ≡ holding'
    → done ≡ done' → next ≡ next' → sets ≡ sets' → kept firms holding done next sets ≡ kept firms' holding' done' next' sets'
parts a b c d e = rw (a, b, c, d, e)

module _ (t : Tables) (h l : List ℕ) (size : length h ≡ history_bytes) (mask kind s o p : ℕ) (low : 15 < kind) (high : kind < 20)
    (small : p < 256) (k : Kept) (holders steps : List ℕ) (e : Folder) (class : ℕ) (serves : Serves t mask holders steps e class o)
    (keeps : Keeps t (set_of h) l k) where
  -- the request, and its numbers
  abbrev pub q : Request
  q = asked_by kind s o p

  abbrev pub x : Placed
  x = placed_by kind s o p

  placed : PlacedAs q x
  placed = placed_as kind s o p low high small

  module _ (d : declared t q ≡ true) where
    is : Exact q x
    is = placed.exact (declared_place t q d)

    -- the folder's own number, and its entry
    folder : is_access q ≡ true → o ≡ folder_of q
    folder a = folder_number kind s o p a

    entry : is_access q ≡ true → (e ≡ folder_at t (folder_of q)) × (class ≡ firms_of t (class_of t (folder_of q)))
    entry a =
        let own = folder a in
        let below = folder_below t (folder_of q) (folder_declared_lem t q d a) in
        let same : o % 128 ≡ folder_of q = ap (λ (n : ℕ). n % 128) own ∙ mod-eq_of_lt below in
        (serves.entry ∙ ap (folder_at t) same, serves.firms ∙ ap (λ (n : ℕ). firms_of t (class_of t n)) same)

    right_known : right_by kind e.kind x.step ≡ right t q
    right_known =
        right_is t kind s o p e.kind low high (declared_place t q d) (λ a.
        let named = ap (λ (y : Folder). y.kind) (entry a).0 in
        let m = folder_kind t serves.tables (folder_of q) (folder_declared_lem t q d a) in
        (named, (let z : e.kind < 16 = omega (arith, m, named) in z)))

    rights : in_force t roles_rule ≡ true → get_or holders (right_by kind e.kind x.step) 0 ≡ mask_below 32 (holds_right t (right t q))
    rights on =
        serves.rights.at on _ (lt-ltb _ 64 (right_small kind e.kind x.step low high placed.step_below))
        ∙ ap (λ (n : ℕ). mask_below 32 (holds_right t n)) right_known

  -- what the request is judged by
  abbrev pub failing : Failing
  failing =
      failing_of q mask (level_in t l x.set) (level_at l x.person) (mark_in t x.set) (not (person_at t x.person).declared)
      (not e.public && is_access q) (get_or k.firms x.person 0) class e.firm (get_or k.holding x.person 0)
      (get_or holders (right_by kind e.kind x.step) 0) (get_or k.next x.place 0) x.step

  pub number_is : ladder (request_checks t (set_of h) (level_at l) (some q)) ≡ get_or number_at (first_failing failing) 0
  number_is =
      decided t (set_of h) (level_at l) q mask serves.rules (level_in t l x.set) (level_at l x.person) (mark_in t x.set)
      (not (person_at t x.person).declared) (not e.public && is_access q) (get_or k.firms x.person 0) class e.firm
      (get_or k.holding x.person 0) (get_or holders (right_by kind e.kind x.step) 0) (get_or k.next x.place 0) x.step
      (parties_known t q x.set x.person (λ place. ((placed.exact place).set, (placed.exact place).person)))
      (λ d on.
      wall_known t (set_of h) l serves.tables e (get_or k.firms x.person 0) class q d (entry d)
      (ap (λ (n : ℕ). get_or k.firms n 0) (is d).person ∙ keeps.firms.at on (subject q) (subject_declared t q d)))
      (λ d.
      rw ((is d).set, (is d).person)
      (outcome_known t (set_of h) l q (declared_place t q d)))
      (λ d on.
      roles_kept t (set_of h) serves.tables q d (get_or k.holding x.person 0) _
      (ap (λ (n : ℕ). get_or k.holding n 0) (is d).person ∙ keeps.holding.at on (subject q) (subject_declared t q d))
      (rights d on))
      (λ d on.
      rw (is d).step
      (pipeline_known t (set_of h) l q (get_or k.next x.place 0) (declared_place t q d) (λ taken.
      let a = step_access q taken in
      ap (λ (n : ℕ). get_or k.next n 0) ((is d).place ∙ access_place q a)
      ∙ keeps.next.at on (folder_of q) (folder_declared_lem t q d a))))

  -- ---- what is lent and kept afterwards

  -- after a put that is granted or not
  abbrev pub history_after : Bool → List ℕ
  history_after g = cond g (with_bit_at h x.index) h

  abbrev pub kept_after : Bool → Kept
  kept_after g =
      kept
      (cond (bit mask wall_rule)
      (set k.firms x.person
      (cond (g && (not e.public && is_access q)) (with_bit (get_or k.firms x.person 0) (e.firm % 64))
      (get_or k.firms x.person 0)))
      k.firms)
      (cond (bit mask roles_rule)
      (set k.holding x.person
      (cond g (bit_and (get_or k.holding x.person 0) (get_or holders (right_by kind e.kind x.step) 0))
      (get_or k.holding x.person 0)))
      k.holding)
      (cond (g && is_step q)
      (cond (bit mask pipeline_rule) (set k.done x.place (with_bit (get_or k.done x.place 0) (x.step % 64))) k.done)
      k.done)
      (cond (g && is_step q)
      (cond (bit mask pipeline_rule)
      (set k.next x.place (mask_below 16 (pipeline_in steps (with_bit (get_or k.done x.place 0) (x.step % 64) % 65536))))
      k.next)
      k.next)
      (set k.sets x.person
      (cond (g && lowers q) (bit_and (get_or k.sets x.person 0) (get_or k.sets x.set 0)) (get_or k.sets x.person 0)))

  -- nothing changes where the request is refused
  unchanged : (on : Bool) (list : List ℕ) (i : ℕ) → cond on (set list i (get_or list i 0)) list ≡ list
  unchanged true list i = set-get_or list i 0
  unchanged false list i = refl

  refused_same : kept_after false ≡ k
  refused_same =
      parts (unchanged (bit mask wall_rule) k.firms x.person) (unchanged (bit mask roles_rule) k.holding x.person) refl refl
      (set-get_or k.sets x.person 0)

  pub put_refused : {n : ℕ} → n ≡ ladder (request_checks t (set_of h) (level_at l) (some q)) → eqb n 0 ≡ false
      → PutKept t (state h l) q n (history_after false) (kept_after false)
  unfolding recorded_if
  put_refused judged other =
      record { judged_as = judged; left = rw other; keeps = rw other (subst (Keeps t (set_of h) l) (sym refused_same) keeps) }

  module _ (d : declared t q ≡ true) where
    -- what PutLaws has of the request's own numbers is what the code has of those that were placed
    abbrev own_after : Kept
    own_after =
        own-kept t h l serves.tables size serves.rules k keeps q d e (get_or holders (right_by kind e.kind x.step) 0) steps
        (λ a. (entry d a).0) (rights d) serves.enabling

    steps_same : {A : Type 0} (f : ℕ → ℕ → A) (y : A) → cond (is_step q) (f x.place x.step) y ≡ cond (is_step q) (f (folder_of q)
        (step_of q)) y
    steps_same f y =
        ⊎_elim
        (λ taken. rw ((is d).place ∙ access_place q (step_access q taken), (is d).step))
        (λ none. rw none)
        (decide (is_step q))

    kept_same : kept_after true ≡ own_after
    kept_same =
        parts (rw (is d).person) (rw (is d).person)
        (steps_same (λ i j.
        cond (bit mask pipeline_rule) (set k.done i (with_bit (get_or k.done i 0) (j % 64))) k.done) k.done)
        (steps_same (λ i j.
        cond (bit mask pipeline_rule)
        (set k.next i (mask_below 16 (pipeline_in steps (with_bit (get_or k.done i 0) (j % 64) % 65536)))) k.next) k.next)
        (rw ((is d).person, (is d).set))

    granted : {n : ℕ} → n ≡ ladder (request_checks t (set_of h) (level_at l) (some q)) → eqb n 0 ≡ true
        → PutKept t (state h l) q n (history_after true) (kept_after true)
    unfolding recorded_if recorded
    granted judged zero =
        let history : with_bit_at h x.index ≡ recorded h q = ap (with_bit_at h) (is d).index in
        record {
          judged_as = judged;
          left = rw zero history;
          keeps =
              rw (zero, history)
              (subst (Keeps t (set_of (recorded h q)) (lowered t l q)) (sym kept_same)
              (granted_keeps t h l serves.tables size serves.rules k keeps q d e (get_or holders (right_by kind e.kind x.step) 0)
              steps (λ a. (entry d a).0) (rights d) serves.enabling));
        }

  pub put_granted : {n : ℕ} → n ≡ ladder (request_checks t (set_of h) (level_at l) (some q)) → eqb n 0 ≡ true
      → PutKept t (state h l) q n (history_after true) (kept_after true)
  put_granted {n} judged zero =
      ⊎_elim (λ d. granted d judged zero)
      (λ d.
      let refused : n ≡ 13 = judged ∙ not_declared t (set_of h) (level_at l) q mask serves.rules d in
      let z : n ≡ 0 = eqb-true n 0 zero in
      let w : ⊥ = omega (arith, refused, z) in absurd w)
      (decide (declared t q))

  -- granted or not
  pub put_is : (g : Bool) {n : ℕ} → n ≡ ladder (request_checks t (set_of h) (level_at l) (some q)) → eqb n 0 ≡ g
      → PutKept t (state h l) q n (history_after g) (kept_after g)
  put_is true judged flag = put_granted judged flag
  put_is false judged flag = put_refused judged flag

  -- ---- what the code finds and does

  -- the sets that the request is judged by
  abbrev pub asked_at : Placed → ℕ → Asked
  asked_at at x' =
      record {
        needed = get_or k.sets at.set 0;
        own = get_or k.sets at.person 0;
        class = class;
        counted = get_or k.firms at.person 0;
        holding = get_or k.holding at.person 0;
        holders = get_or holders x' 0;
        next = get_or k.next at.place 0;
      }

  -- the first check that fails, found as `judge` finds it
  abbrev pub Judges : Placed → ℕ → ℕ → ℕ → ℕ → Type 0
  Judges at firm x' counts first =
      (r : Request) (a b : ℕ) (m n c : Bool) → RowOf r kind → at.outside ≡ cond (has_place r) 0 1 → counts ≡ cond c 1 0 → a < 65536
      → b < 65536 → get_or k.sets at.set 0 ≡ level_set a m → get_or k.sets at.person 0 ≡ level_set b n
      → first
      ≡ first_failing
      (failing_of r mask a b m n c (get_or k.firms at.person 0) class firm (get_or k.holding at.person 0) (get_or holders x' 0)
      (get_or k.next at.place 0) at.step)

  -- the changes, made as `change` makes them
  abbrev pub Changes : Placed → ℕ → ℕ → ℕ → ℕ → List ℕ → Kept → Type 0
  Changes at firm x' counts all h' k' =
      (r : Request) (g c : Bool) → RowOf r kind → all ≡ cond g 18446744073709551615 0 → counts ≡ cond c 1 0
      → Changed r g c mask steps at firm (asked_at at x') h k h' k'

  found : {counts first number all : ℕ} {h' : List ℕ} {k' : Kept} → counts ≡ cond (not e.public && is_access q) 1 0
      → Judges x e.firm (right_by kind e.kind x.step) counts first
      → Changes x e.firm (right_by kind e.kind x.step) counts all h' k' → first < 7 → all ≡ get_or grant_at first 0
      → number ≡ get_or number_at first 0 → PutKept t (state h l) q number h' k'
  found {counts} {first} {number} {all} {h'} {k'} counted judges changes below every is_number =
      let row = row_of_lem kind s o p low high in
      let (grants, zero) = granted_at first below in
      let first_is : first ≡ first_failing failing =
      judges q (level_in t l x.set) (level_at l x.person) (mark_in t x.set) (not (person_at t x.person).declared)
      (not e.public && is_access q) row placed.outside counted (level_small t l k.sets keeps.levels x.set placed.set_below)
      (level_lt l x.person keeps.levels.buffer) (set_at t l k.sets keeps.levels x.set placed.set_below)
      (keeps.levels.persons x.person placed.person_below) in
      let changed = changes q (eqb first 6) (not e.public && is_access q) row (every ∙ grants) counted in
      let judged : number ≡ ladder (request_checks t (set_of h) (level_at l) (some q)) =
      is_number ∙ ap (λ (n : ℕ). get_or number_at n 0) first_is ∙ sym number_is in
      subst₂ (PutKept t (state h l) q number) (sym changed.history)
      (sym
      (parts changed.added.firms changed.added.holding changed.added.done changed.added.next changed.levels))
      (put_is (eqb first 6) judged (ap (λ (n : ℕ). eqb n 0) is_number ∙ zero))

  -- the same of the numbers as the code has them
  pub found_at : (at : Placed) (firm x' : ℕ) {counts first number all : ℕ} {h' : List ℕ} {k' : Kept} → at ≡ x → firm ≡ e.firm
      → x' ≡ right_by kind e.kind at.step → counts ≡ cond (not e.public && is_access q) 1 0 → Judges at firm x' counts first
      → Changes at firm x' counts all h' k' → first < 7 → all ≡ get_or grant_at first 0 → number ≡ get_or number_at first 0
      → PutKept t (state h l) q number h' k'
  found_at at firm x' {counts} {first} {number} {all} {h'} {k'} is_at is_firm is_right counted judges changes =
      let right : x' ≡ right_by kind e.kind x.step = is_right ∙ ap (λ (y : Placed). right_by kind e.kind y.step) is_at in
      let judges' : Judges x e.firm (right_by kind e.kind x.step) counts first =
      subst (λ (y : Placed). Judges y e.firm (right_by kind e.kind x.step) counts first) is_at
      (subst₂ (λ (f n : ℕ). Judges at f n counts first) is_firm right judges) in
      let changes' : Changes x e.firm (right_by kind e.kind x.step) counts all h' k' =
      subst (λ (y : Placed). Changes y e.firm (right_by kind e.kind x.step) counts all h' k') is_at
      (subst₂ (λ (f n : ℕ). Changes at f n counts all h' k') is_firm right changes) in
      found counted judges' changes'
