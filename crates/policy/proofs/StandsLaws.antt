-- A record stands at the front of some bytes exactly where the kind byte is known and the body is whole, and it is then the record that is
-- read there; so at most one stands. For each kind by computation, with the laws of `take` and `drop` for the numbers of more
-- than one byte.
use Prim.Native.Nat.{ℕ, zero, suc, ◌+◌, ◌*◌, ◌≤◌}
use native.Mathlib.Omega.{arith}
use mathlib.Core.Path.{◌≡◌, refl, sym, ap, ◌∙◌, subst, subst₂}
use mathlib.Core.Logic.{◌↔◌, ◌≢◌}
use mathlib.Core.List.{List, [], ◌∷◌, ◌++◌}
use lib.ListN.{length, take, drop, length-append, take-append-drop}
use lib.Seq.{take_at, drop_at, length-take-le}
use Rattle.policy.specs.Rulebook.{
  Record,
  end,
  person,
  folder,
  role,
  last_kind,
  body_length,
  little_endian,
  record_of,
  records_from,
}
use Rattle.policy.specs.Loading.{
  Stands,
  kind_0,
  kind_1,
  kind_2,
  kind_3,
  kind_4,
  kind_5,
  kind_6,
  kind_7,
  KindAtFront,
  RecordAtFront,
}
use Rattle.policy.proofs.Declaring.{records_next}

-- the bytes are a kind and a whole body, which read give the record, and leave the rest
record Whole (r : Record) (bytes rest : List ℕ) : Type 0 where
  kind : ℕ
  body : List ℕ
  split : bytes ≡ kind ∷ body
  long : body_length kind ≤ length body
  same : record_of kind body ≡ r
  after : drop (body_length kind) body ≡ rest

whole : (kind : ℕ) (body : List ℕ) {r : Record} {rest : List ℕ} → body_length kind ≤ length body → record_of kind body ≡ r
    → drop (body_length kind) body ≡ rest → Whole r (kind ∷ body) rest
whole kind body l s a = record { kind = kind; body = body; split = refl; long = l; same = s; after = a }

-- the number in two bytes, the low byte first
two_bytes : (low high : ℕ) → little_endian (low ∷ high ∷ []) ≡ low + 256 * high
unfolding little_endian
two_bytes low high = omega arith

stands_whole : {r : Record} {bytes rest : List ℕ} → Stands r bytes rest → Whole r bytes rest
unfolding body_length record_of
stands_whole kind_0 = whole 0 _ (omega arith) refl refl
stands_whole kind_1 = whole 1 _ (omega arith) refl refl
stands_whole kind_2 = whole 2 _ (omega arith) refl refl
stands_whole (kind_3 {s = s} {low = low} {high = high}) =
    whole 3 _ (omega arith) (ap (person s) (two_bytes low high)) refl
stands_whole (kind_4 {o = o} {f = f} {kind = kind} {low = low} {high = high}) =
    whole 4 _ (omega arith) (ap (folder o f kind) (two_bytes low high)) refl
stands_whole (kind_5 {k = k} rights {rest = rest} e) =
    whole 5 _ (rw length-append (omega arith)) (ap (λ (l : List ℕ). role k (little_endian l)) (take_at rights rest 8 e))
    (drop_at rights rest 8 e)
stands_whole kind_6 = whole 6 _ (omega arith) refl refl
stands_whole kind_7 = whole 7 _ (omega arith) refl refl

pub whole_stands : (kind : ℕ) (body : List ℕ) → kind ≤ last_kind → body_length kind ≤ length body
    → Stands (record_of kind body) (kind ∷ body) (drop (body_length kind) body)
unfolding body_length record_of
whole_stands zero body k l = kind_0
whole_stands (suc zero) (mask ∷ rest) k l = kind_1
whole_stands (suc (suc zero)) (f ∷ class ∷ rest) k l = kind_2
whole_stands (suc (suc (suc zero))) (s ∷ low ∷ high ∷ rest) k l =
    subst (λ (n : ℕ). Stands (person s n) (3 ∷ s ∷ low ∷ high ∷ rest) rest) (sym (two_bytes low high)) kind_3
whole_stands (suc (suc (suc (suc zero)))) (o ∷ f ∷ kind ∷ low ∷ high ∷ rest) k l =
    subst (λ (n : ℕ). Stands (folder o f kind n) (4 ∷ o ∷ f ∷ kind ∷ low ∷ high ∷ rest) rest) (sym (two_bytes low high)) kind_4
whole_stands (suc (suc (suc (suc (suc zero))))) (n ∷ rest) k l =
    rw (take-append-drop 8 rest) at (kind_5 {k = n} (take 8 rest) {rest = drop 8 rest} (length-take-le 8 rest (omega arith)))
whole_stands (suc (suc (suc (suc (suc (suc zero)))))) (p ∷ q ∷ rest) k l = kind_6
whole_stands (suc (suc (suc (suc (suc (suc (suc zero))))))) (o ∷ rest) k l = kind_7
whole_stands (suc zero) [] k l = absurd (omega arith)
whole_stands (suc (suc zero)) [] k l = absurd (omega arith)
whole_stands (suc (suc zero)) (f ∷ []) k l = absurd (omega arith)
whole_stands (suc (suc (suc zero))) [] k l = absurd (omega arith)
whole_stands (suc (suc (suc zero))) (s ∷ []) k l = absurd (omega arith)
whole_stands (suc (suc (suc zero))) (s ∷ low ∷ []) k l = absurd (omega arith)
whole_stands (suc (suc (suc (suc zero)))) [] k l = absurd (omega arith)
whole_stands (suc (suc (suc (suc zero)))) (o ∷ []) k l = absurd (omega arith)
whole_stands (suc (suc (suc (suc zero)))) (o ∷ f ∷ []) k l = absurd (omega arith)
whole_stands (suc (suc (suc (suc zero)))) (o ∷ f ∷ kind ∷ []) k l = absurd (omega arith)
whole_stands (suc (suc (suc (suc zero)))) (o ∷ f ∷ kind ∷ low ∷ []) k l = absurd (omega arith)
whole_stands (suc (suc (suc (suc (suc zero))))) [] k l = absurd (omega arith)
whole_stands (suc (suc (suc (suc (suc (suc zero)))))) [] k l = absurd (omega arith)
whole_stands (suc (suc (suc (suc (suc (suc zero)))))) (p ∷ []) k l = absurd (omega arith)
whole_stands (suc (suc (suc (suc (suc (suc (suc zero))))))) [] k l = absurd (omega arith)
whole_stands (suc (suc (suc (suc (suc (suc (suc (suc kind)))))))) body k l = absurd (omega arith)

-- ---- one record stands, and it is the one that is read

pub stands_once : {r r' : Record} {bytes rest rest' : List ℕ} → Stands r bytes rest → Stands r' bytes rest' → (r ≡ r') × (rest ≡ rest')
stands_once s s' =
    let w = stands_whole s in
    let w' = stands_whole s' in
    let k : w.kind ≡ w'.kind = cc (w.split, w'.split) in
    let b : w.body ≡ w'.body = cc (w.split, w'.split) in
    (cc (w.same, w'.same, k, b), cc (w.after, w'.after, k, b))

pub end_bytes : {bytes rest : List ℕ} → Stands end bytes rest → bytes ≡ 0 ∷ rest
end_bytes kind_0 = refl

-- the bytes are those of the record, and then the rest
pub stands_front : {r : Record} {bytes rest : List ℕ} → Stands r bytes rest → (front : List ℕ) × (bytes ≡ front ++ rest)
stands_front s =
    let w = stands_whole s in (
      w.kind ∷ take (body_length w.kind) w.body,
      w.split ∙ ap (λ (l : List ℕ). w.kind ∷ l) (sym (take-append-drop (body_length w.kind) w.body) ∙ rw w.after),
    )

-- the records from there on are this one, unless it is the end record, and those of the rest
pub stands_records : (n : ℕ) {r : Record} {bytes rest : List ℕ} → Stands r bytes rest → r ≢ end
    → records_from (suc n) bytes ≡ r ∷ records_from n rest
unfolding record_of
stands_records n s not_end =
    let w = stands_whole s in
    let z : w.kind ≢ 0 = λ e. not_end (sym w.same ∙ rw e) in
    rw w.split (records_next n w.kind w.body z ∙ rw (w.same, w.after))

module _ (kind : ℕ) (body : List ℕ) where
  pub kind_front : {P : ℕ → Type 0} → P kind ↔ KindAtFront (kind ∷ body) P
  kind_front {P} = (λ p. (kind, body, refl, p), λ w. let e : w.0 ≡ kind = cc w.2 in subst P e w.3)

  pub record_front : {P : Record → Type 0} → kind ≤ last_kind → body_length kind ≤ length body
      → P (record_of kind body) ↔ RecordAtFront (kind ∷ body) P
  record_front {P} k l =
      let here = whole_stands kind body k l in
      (λ p. (record_of kind body, drop (body_length kind) body, here, p), λ w. subst P (stands_once w.2 here).0 w.3)

  -- where a record stands, the body is whole
  pub stands_long : {r : Record} {rest : List ℕ} → Stands r (kind ∷ body) rest → body_length kind ≤ length body
  stands_long s =
      let w = stands_whole s in
      let k : w.kind ≡ kind = cc w.split in
      let b : w.body ≡ body = cc w.split in
      subst₂ (λ (n : ℕ) (l : List ℕ). body_length n ≤ length l) k b w.long
