-- Reorderings of lists, by induction on how one is made: a member of a list can be taken out of each reordering of it, and leaves a
-- reordering of the others; and a reordering of the records of jobs is the records of a reordering of the jobs.
use Prim.Native.Nat.{ℕ}
use mathlib.Core.Path.{◌≡◌, refl, ◌∙◌}
use mathlib.Core.List.Permᴰ
use mathlib.Core.List.{
  List,
  [],
  ◌∷◌,
  nil≢cons,
  Permᴰ,
}
use Rattle.policy.specs.declared.Job.{Job}
use Rattle.policy.specs.Plans.{records}

-- the second list is the first with x put in at some place
pub data Inserted {A : Type 0} (x : A) : List A → List A → Type 0 where
  here : {y : A} {l : List A} → x ≡ y → Inserted x l (y ∷ l)
  there : {y : A} {l m : List A} → Inserted x l m → Inserted x (y ∷ l) (y ∷ m)

pub taken_out : {A : Type 0} {x : A} {l m n : List A} → Inserted x l m → Permᴰ m n
    → (k : List A) × Inserted x k n × Permᴰ l k
taken_out {A = A} {l = l} i Permᴰ.nil = elim i [ ]
taken_out (here p) (Permᴰ.cons e d) = (_, here (p ∙ e), d)
taken_out {A = A} {x = x} (there {y = y} {l = l} i) (Permᴰ.cons {b = b} {l₁ = l₁} {l₂ = l₂} e d) =
    let (k, j, d') = taken_out {l = l} i d in
    (_, there j, Permᴰ.cons e d')
taken_out (here p) (Permᴰ.swap e f) = (_, there (here (p ∙ e)), Permᴰ.cons f (Permᴰ.refl _))
taken_out (there (here p)) (Permᴰ.swap e f) = (_, here (p ∙ f), Permᴰ.cons e (Permᴰ.refl _))
taken_out (there (there i)) (Permᴰ.swap e f) = (_, there (there i), Permᴰ.swap e f)
taken_out {l = l} i (Permᴰ.trans d d') =
    let (k, j, c) = taken_out {l = l} i d in
    let (k', j', c') = taken_out {l = k} j d' in
    (k', j', Permᴰ.trans c c')

pub jobs_reordered : {l m : List (List ℕ)} → Permᴰ l m → (jobs : List Job) → records jobs ≡ l
    → (order : List Job) × Permᴰ jobs order × (records order ≡ m)
unfolding records
jobs_reordered Permᴰ.nil jobs e = (jobs, Permᴰ.refl jobs, e)
jobs_reordered (Permᴰ.cons p d) [] e = absurd (nil≢cons e)
jobs_reordered (Permᴰ.cons p d) (x ∷ jobs) e =
    let (order, c, i) = jobs_reordered d jobs (cc) in
    (x ∷ order, Permᴰ.cons refl c, cc)
jobs_reordered (Permᴰ.swap p q) [] e = absurd (nil≢cons e)
jobs_reordered (Permᴰ.swap {b = b} {l = l} p q) (x ∷ []) e = let z : [] ≡ b ∷ l = cc in absurd (nil≢cons z)
jobs_reordered (Permᴰ.swap p q) (x ∷ y ∷ jobs) e = (y ∷ x ∷ jobs, Permᴰ.swap refl refl, cc)
jobs_reordered (Permᴰ.trans d d') jobs e =
    let (order, c, i) = jobs_reordered d jobs e in
    let (order', c', i') = jobs_reordered d' order i in
    (order', Permᴰ.trans c c', i')
