-- Requests (document 01, "Requests and calls"), their records, and their places in a history.
use Rattle.std.specs.Prelude.{ℕ, ◌+◌, ◌*◌, Bool, false, cond, ◌&&◌, ◌||◌, List, [], ◌∷◌, eqb, ltb}
use Rattle.std.proofs.Math.Option.{Option, none, some}
use Rattle.policy.specs.History.{bit_at, with_bit_at}

pub data Request : Type 0 where
  read : (person folder : ℕ) → Request
  write : (person folder : ℕ) → Request
  start : (person second : ℕ) → Request
  step : (person step folder : ℕ) → Request

-- the person who makes the request
unfoldable pub subject : Request → ℕ
subject (read s o) = s
subject (write s o) = s
subject (start s u) = s
subject (step s p o) = s

-- two fields, or three, at the front of the bytes
unfoldable pub two : (ℕ → ℕ → Request) → List ℕ → Option Request
two f [] = none
two f (a ∷ []) = none
two f (a ∷ b ∷ rest) = some (f a b)

unfoldable pub three : (ℕ → ℕ → ℕ → Request) → List ℕ → Option Request
three f [] = none
three f (a ∷ []) = none
three f (a ∷ b ∷ []) = none
three f (a ∷ b ∷ c ∷ rest) = some (f a b c)

-- the request whose record stands at the front of the bytes; none where its kind is unknown or the record is cut
unfoldable pub request_of : List ℕ → Option Request
request_of [] = none
request_of (kind ∷ body) =
    cond (eqb kind 16) (two read body)
    (cond (eqb kind 17) (two write body)
    (cond (eqb kind 18) (two start body)
    (cond (eqb kind 19) (three step body) none)))

-- the bytes of a request's record
unfoldable pub record_length : Request → ℕ
record_length (read s o) = 3
record_length (write s o) = 3
record_length (start s u) = 3
record_length (step s p o) = 4

-- the index of a request's bit
unfoldable pub index : Request → ℕ
index (read s o) = 128 * s + o
index (write s o) = 8192 + 128 * s + o
index (start s u) = 16384 + 64 * s + u
index (step s p o) = 20480 + 64 * (16 * o + p) + s

-- the history has a bit for the request: 64 persons, 128 folders, 16 steps
unfoldable pub has_place : Request → Bool
has_place (read s o) = ltb s 64 && ltb o 128
has_place (write s o) = ltb s 64 && ltb o 128
has_place (start s u) = ltb s 64 && ltb u 64
has_place (step s p o) = ltb s 64 && ltb p 16 && ltb o 128

-- the set of requests that a history holds
unfoldable pub set_of : List ℕ → Request → Bool
set_of h r = has_place r && bit_at h (index r)

-- the history with one request more
unfoldable pub recorded : List ℕ → Request → List ℕ
recorded h r = with_bit_at h (index r)

-- the two requests are the same, kind and fields
unfoldable pub same : Request → Request → Bool
same (read s o) (read s' o') = eqb s s' && eqb o o'
same (read s o) (write s' o') = false
same (read s o) (start s' u') = false
same (read s o) (step s' p' o') = false
same (write s o) (read s' o') = false
same (write s o) (write s' o') = eqb s s' && eqb o o'
same (write s o) (start s' u') = false
same (write s o) (step s' p' o') = false
same (start s u) (read s' o') = false
same (start s u) (write s' o') = false
same (start s u) (start s' u') = eqb s s' && eqb u u'
same (start s u) (step s' p' o') = false
same (step s p o) (read s' o') = false
same (step s p o) (write s' o') = false
same (step s p o) (start s' u') = false
same (step s p o) (step s' p' o') = eqb s s' && eqb p p' && eqb o o'

-- the set of the requests of a list
unfoldable pub member : List Request → Request → Bool
member [] r = false
member (g ∷ gs) r = same g r || member gs r
