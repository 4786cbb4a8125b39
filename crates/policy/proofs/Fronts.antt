-- The request that some bytes hold is the one whose record stands at their front, and it passes check 13 exactly where its parties are
-- declared. For each kind of record by computation, and back by the number of bytes that the body has.
use Prim.Native.Nat.{ℕ}
use native.Mathlib.Omega.{arith}
use mathlib.Core.Path.{◌≡◌, refl, sym, ap, ◌∙◌}
use mathlib.Core.Logic.{◌↔◌}
use mathlib.Core.Bool.{Bool, true, cond, ◌&&◌}
use mathlib.Core.List.{List, [], ◌∷◌, ◌++◌}
use mathlib.Core.Option.{Option, none, some}
use lib.Dec.{eqb, ltb}
use lib.ListN.{drop}
use borrow.Author.Tests.{eqb-true, ltb-true, lt-ltb, leb-true, le-leb}
use Rattle.bits.proofs.Booleans.{and_left, and_right, and_both, by_test}
use Rattle.policy.specs.declared.Tables.{Tables}
use Rattle.policy.specs.Tables.{person_declared, folder_declared}
use Rattle.policy.specs.Request.{Request, read, write, start, step, two, three, request_of, record_length}
use Rattle.policy.specs.Rules.{declared}
use Rattle.policy.specs.Causes.{record_bytes, AtFront, RequestAtFront, NoRequest, IsPerson, IsFolder, PartiesDeclared}

-- ---- the record at the front

front_read : (r : Request) (rest : List ℕ) → request_of (record_bytes r ++ rest) ≡ some r
unfolding request_of two three
front_read (read s o) rest = refl
front_read (write s o) rest = refl
front_read (start s u) rest = refl
front_read (step s p o) rest = refl

pub front_request : (r : Request) (rest : List ℕ) {bytes : List ℕ} → AtFront r bytes rest → request_of bytes ≡ some r
front_request r rest f = rw f (front_read r rest)

left_after : (r : Request) (rest : List ℕ) → drop (record_length r) (record_bytes r ++ rest) ≡ rest
unfolding record_length
left_after (read s o) rest = refl
left_after (write s o) rest = refl
left_after (start s u) rest = refl
left_after (step s p o) rest = refl

pub front_left : (r : Request) {bytes rest : List ℕ} → AtFront r bytes rest → drop (record_length r) bytes ≡ rest
front_left r {bytes} {rest} f = rw f (left_after r rest)

-- the record of r stands at the front, whatever follows
abbrev pub Front : Request → List ℕ → Type 0
Front r bytes = (rest : List ℕ) × AtFront r bytes rest

two_front : (kind : ℕ) (f : ℕ → ℕ → Request) → ((a b : ℕ) → record_bytes (f a b) ≡ kind ∷ a ∷ b ∷ [])
    → (body : List ℕ) (r : Request) → two f body ≡ some r → Front r (kind ∷ body)
unfolding two
two_front kind f is [] r e = let z : ◌≡◌ {A = ℕ} 0 1 = cc in absurd (omega arith)
two_front kind f is (a ∷ []) r e = let z : ◌≡◌ {A = ℕ} 0 1 = cc in absurd (omega arith)
two_front kind f is (a ∷ b ∷ rest) r e =
    let this : f a b ≡ r = cc in
    (rest, ap (λ (l : List ℕ). l ++ rest) (sym (is a b) ∙ ap record_bytes this))

three_front : (body : List ℕ) (r : Request) → three step body ≡ some r → Front r (19 ∷ body)
unfolding three
three_front [] r e = let z : ◌≡◌ {A = ℕ} 0 1 = cc in absurd (omega arith)
three_front (a ∷ []) r e = let z : ◌≡◌ {A = ℕ} 0 1 = cc in absurd (omega arith)
three_front (a ∷ b ∷ []) r e = let z : ◌≡◌ {A = ℕ} 0 1 = cc in absurd (omega arith)
three_front (a ∷ b ∷ c ∷ rest) r e =
    let this : step a b c ≡ r = cc in
    (rest, ap (λ (q : Request). record_bytes q ++ rest) this)

-- a choice by the kind: what holds where it is k, and where it is another, holds
by_kind : (P : Option Request → ℕ → Type 0) (kind k : ℕ) (yes-this other : Option Request)
    → P yes-this k → P other kind → P (cond (eqb kind k) yes-this other) kind
by_kind P kind k x y f g =
    by_test (λ (o : Option Request). P o kind) (eqb kind k) x y (λ e. rw (eqb-true kind k e) f) (λ e. g)

pub request_front : (bytes : List ℕ) (r : Request) → request_of bytes ≡ some r → Front r bytes
unfolding request_of
request_front [] r e = let z : ◌≡◌ {A = ℕ} 0 1 = cc in absurd (omega arith)
request_front (kind ∷ body) r e =
    by_kind At kind 16 _ _ (λ e. two_front 16 read (λ a b. refl) body r e)
    (by_kind At kind 17 _ _ (λ e. two_front 17 write (λ a b. refl) body r e)
    (by_kind At kind 18 _ _ (λ e. two_front 18 start (λ a b. refl) body r e)
    (by_kind At kind 19 _ _ (λ e. three_front body r e)
    (λ (e : none ≡ some r). let z : ◌≡◌ {A = ℕ} 0 1 = cc in absurd (omega arith))))) e
  where
    At : Option Request → ℕ → Type 0
    At o k = o ≡ some r → Front r (k ∷ body)

-- where a request stands at the front, a claim about the request there is a claim about it
pub front_only : (bytes : List ℕ) (r : Request) (P : Request → Type 0) → request_of bytes ≡ some r → P r ↔ RequestAtFront bytes P
front_only bytes r P e = (
  λ p. let (rest, f) = request_front bytes r e in (r, rest, f, p),
  λ w. let (q, rest, f, p) = w in let same : q ≡ r = cc (e, front_request q rest f) in rw (← same) p,
)

-- where none does, there is none
pub front_none : (bytes : List ℕ) → request_of bytes ≡ none → NoRequest bytes
front_none bytes e w =
    let (q, rest, f, p) = w in
    let z : ◌≡◌ {A = ℕ} 0 1 = cc (e, front_request q rest f) in
    absurd (omega arith)

-- ---- declared parties

module _ (t : Tables) where
  pub is_person : (s : ℕ) → (person_declared t s ≡ true) ↔ IsPerson t s
  unfolding person_declared
  is_person s = (
    λ e. (ltb-true s 64 (and_left (ltb s 64) _ e), and_right (ltb s 64) _ e),
    λ w. and_both _ _ (lt-ltb s 64 w.0) w.1,
  )

  pub is_folder : (o : ℕ) → (folder_declared t o ≡ true) ↔ IsFolder t o
  unfolding folder_declared
  is_folder o = (
    λ e. (ltb-true o 128 (and_left (ltb o 128) _ e), and_right (ltb o 128) _ e),
    λ w. and_both _ _ (lt-ltb o 128 w.0) w.1,
  )

  -- two tests are true exactly where what each says holds
  both : {a b : Bool} {A B : Type 0} → (a ≡ true) ↔ A → (b ≡ true) ↔ B → (a && b ≡ true) ↔ (A × B)
  both {a} {b} f g = (
    λ e. (f.0 (and_left a b e), g.0 (and_right a b e)),
    λ w. and_both a b (f.1 w.0) (g.1 w.1),
  )

  pub parties_declared : (r : Request) → (declared t r ≡ true) ↔ PartiesDeclared t r
  unfolding declared
  parties_declared (read s o) = both (is_person s) (is_folder o)
  parties_declared (write s o) = both (is_person s) (is_folder o)
  parties_declared (start s u) = both (is_person s) (is_person u)
  parties_declared (step s p o) =
      let w = both (both (is_person s) (leb-true p 15, le-leb p 15)) (is_folder o) in
      (λ e. let x = w.0 e in (x.0.0, x.0.1, x.1), λ x. w.1 ((x.0, x.1), x.2))
