-- The request that a parsed record is, and how far on the next record stands.
use Rattle.std.specs.Prelude.{ℕ, ◌≡◌, Bool, cond, List, eqb, length}
use Rattle.std.proofs.Math.Option.{Option, none, some}
use Rattle.policy.specs.Request.{Request, read, write, start, step, request_of, record_length}
use Rattle.request.specs.declared.Parsed.{Parsed}

-- the write or the read of folder o by person s
unfoldable pub access_by : Bool → ℕ → ℕ → Request
access_by writes s o = cond writes (write s o) (read s o)

-- the request of a kind with these fields; none of an unknown kind
unfoldable pub request_for : ℕ → ℕ → ℕ → ℕ → Option Request
request_for kind s o p =
    cond (eqb kind 16) (some (read s o))
    (cond (eqb kind 17) (some (write s o))
    (cond (eqb kind 18) (some (start s o))
    (cond (eqb kind 19) (some (step s p o)) none)))

unfoldable pub as_request : Parsed → Option Request
as_request r = request_for r.kind r.person r.target r.step

-- how far on the next record stands, with so many bytes left: by the length of the first, or by all of them where it is unknown or cut
unfoldable pub next_after : Option Request → ℕ → ℕ
next_after none left = left
next_after (some r) left = record_length r

unfoldable pub next_record : List ℕ → ℕ
next_record bytes = next_after (request_of bytes) (length bytes)

-- the length of a request's record; 0 of none
unfoldable pub length_of : Option Request → ℕ
length_of none = 0
length_of (some r) = record_length r

-- the length of the record at the front of the bytes; 0 where it is unknown or cut
unfoldable pub whole_length : List ℕ → ℕ
whole_length bytes = length_of (request_of bytes)

-- what was parsed from the bytes
pub record ParsedFrom (bytes : List ℕ) (r : Parsed) : Type 0 where
  pub request : as_request r ≡ request_of bytes
  pub onward : r.next ≡ next_record bytes
