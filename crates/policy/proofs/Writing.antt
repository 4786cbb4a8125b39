-- The bytes of a record: its kind, then its fields, with the lowest byte first. Read, they give the record again, where its numbers have
-- no more bits than their fields, and they pass the checks where the record does; for each kind by computation.
use Prim.Native.Nat.{ℕ, zero, suc, ◌+◌, ◌*◌, ◌^◌, ◌/◌, ◌%◌, ◌≤◌, ◌<◌}
use native.Mathlib.Omega.{arith}
use mathlib.Core.Path.{◌≡◌, refl, ap}
use mathlib.Core.Logic.{⊎_elim}
use mathlib.Core.Bool.{true, ◌&&◌}
use mathlib.Core.List.Memᴰ
use mathlib.Core.List.{List, [], ◌∷◌, ◌++◌}
use lib.Dec.{eqb, leb}
use lib.ListN.{length, drop}
use borrow.Author.Tests.{leb-true}
use Rattle.bits.proofs.Booleans.{and_left, and_right}
use Rattle.policy.specs.declared.Tables.{Tables}
use Rattle.policy.specs.Rulebook.{
  Record,
  end,
  rules,
  firm,
  person,
  folder,
  role,
  pair,
  public,
  last_kind,
  body_length,
  little_endian,
  record_of,
  in_range,
  record_checks,
}
use Rattle.policy.specs.Given.{Bytes}
use Rattle.policy.proofs.Ladders.{AllPermit}
use Rattle.policy.proofs.Declaring.{Passes, passes_permitted}
use Rattle.policy.proofs.Sound.{Fits}

-- ---- bytes

abbrev pub Bits : ℕ → ℕ → Type 0
Bits w n = n < 2 ^ w

pub bytes_none : Bytes []
bytes_none b m = absurd (Memᴰ.not-nil m)

pub bytes_more : (n : ℕ) (l : List ℕ) → n < 256 → Bytes l → Bytes (n ∷ l)
bytes_more n l h s b m = ⊎_elim (λ (e : b ≡ n). rw e h) (λ later. s b later) (Memᴰ.cases_cons m)

pub bytes_join : (l k : List ℕ) → Bytes l → Bytes k → Bytes (l ++ k)
bytes_join l k s r b m = ⊎_elim (λ here. s b here) (λ there. r b there) (Memᴰ.append_cases l m)

-- the n lowest bytes of x, the lowest first
unfoldable pub bytes_of : ℕ → ℕ → List ℕ
bytes_of zero x = []
bytes_of (suc n) x = x % 256 ∷ bytes_of n (x / 256)

bytes_of_lem : (n x : ℕ) → Bytes (bytes_of n x)
unfolding bytes_of
bytes_of_lem zero x = bytes_none
bytes_of_lem (suc n) x = bytes_more (x % 256) (bytes_of n (x / 256)) (omega arith) (bytes_of_lem n (x / 256))

-- ---- the bytes of a record

unfoldable pub kind_of : Record → ℕ
kind_of end = 0
kind_of (rules mask) = 1
kind_of (firm f class) = 2
kind_of (person s level) = 3
kind_of (folder o f kind level) = 4
kind_of (role k rights) = 5
kind_of (pair p q) = 6
kind_of (public o) = 7

unfoldable pub body_of : Record → List ℕ
body_of end = []
body_of (rules mask) = mask ∷ []
body_of (firm f class) = f ∷ class ∷ []
body_of (person s level) = s ∷ bytes_of 2 level
body_of (folder o f kind level) = o ∷ f ∷ kind ∷ bytes_of 2 level
body_of (role k rights) = k ∷ bytes_of 8 rights
body_of (pair p q) = p ∷ q ∷ []
body_of (public o) = o ∷ []

two_bytes : (n : ℕ) → n < 2 ^ 16 → n % 256 + 256 * (n / 256 % 256 + 256 * 0) ≡ n
two_bytes n h = omega arith

pub read_back : (r : Record) (rest : List ℕ) → Fits Bits r → record_of (kind_of r) (body_of r ++ rest) ≡ r
unfolding Fits body_of kind_of record_of bytes_of little_endian
read_back end rest f = refl
read_back (rules mask) rest f = refl
read_back (firm a class) rest f = refl
read_back (person s level) rest f = ap (person s) (two_bytes level f)
read_back (folder o a kind level) rest f = ap (folder o a kind) (two_bytes level f)
read_back (role k rights) rest f = ap (role k) (omega arith)
read_back (pair p q) rest f = refl
read_back (public o) rest f = refl

pub body_left : (r : Record) (rest : List ℕ) → drop (body_length (kind_of r)) (body_of r ++ rest) ≡ rest
unfolding body_of kind_of bytes_of body_length
body_left end rest = refl
body_left (rules mask) rest = refl
body_left (firm f class) rest = refl
body_left (person s level) rest = refl
body_left (folder o f kind level) rest = refl
body_left (role k rights) rest = refl
body_left (pair p q) rest = refl
body_left (public o) rest = refl

body_long : (r : Record) (rest : List ℕ) → body_length (kind_of r) ≤ length (body_of r ++ rest)
unfolding body_of kind_of bytes_of body_length
body_long end rest = omega arith
body_long (rules mask) rest = omega arith
body_long (firm f class) rest = omega arith
body_long (person s level) rest = omega arith
body_long (folder o f kind level) rest = omega arith
body_long (role k rights) rest = omega arith
body_long (pair p q) rest = omega arith
body_long (public o) rest = omega arith

kind_known : (r : Record) → kind_of r ≤ last_kind
unfolding kind_of
kind_known end = omega arith
kind_known (rules mask) = omega arith
kind_known (firm f class) = omega arith
kind_known (person s level) = omega arith
kind_known (folder o f kind level) = omega arith
kind_known (role k rights) = omega arith
kind_known (pair p q) = omega arith
kind_known (public o) = omega arith

-- a record whose fields are in range is written in bytes
pub body_bytes : (r : Record) → in_range r ≡ true → Bytes (kind_of r ∷ body_of r)
unfolding body_of kind_of in_range
body_bytes end h = bytes_more 0 [] (omega arith) bytes_none
body_bytes (rules mask) h =
    let l = leb-true mask 15 h in bytes_more 1 _ (omega arith) (bytes_more mask [] (omega arith) bytes_none)
body_bytes (firm f class) h =
    let l = leb-true f 63 (and_left (leb f 63) _ h) in
    let m = leb-true class 31 (and_right (leb f 63) _ h) in
    bytes_more 2 _ (omega arith) (bytes_more f _ (omega arith) (bytes_more class [] (omega arith) bytes_none))
body_bytes (person s level) h =
    let l = leb-true s 63 h in bytes_more 3 _ (omega arith) (bytes_more s _ (omega arith) (bytes_of_lem 2 level))
body_bytes (folder o f kind level) h =
    let l = leb-true o 127 (and_left (leb o 127) _ (and_left (leb o 127 && leb f 63) _ h)) in
    let m = leb-true f 63 (and_right (leb o 127) _ (and_left (leb o 127 && leb f 63) _ h)) in
    let n = leb-true kind 15 (and_right (leb o 127 && leb f 63) _ h) in
    bytes_more 4 _ (omega arith)
    (bytes_more o _ (omega arith) (bytes_more f _ (omega arith) (bytes_more kind _ (omega arith) (bytes_of_lem 2 level))))
body_bytes (role k rights) h =
    let l = leb-true k 31 h in bytes_more 5 _ (omega arith) (bytes_more k _ (omega arith) (bytes_of_lem 8 rights))
body_bytes (pair p q) h =
    let l = leb-true p 15 (and_left (leb p 15) _ h) in
    let m = leb-true q 15 (and_right (leb p 15) _ h) in
    bytes_more 6 _ (omega arith) (bytes_more p _ (omega arith) (bytes_more q [] (omega arith) bytes_none))
body_bytes (public o) h =
    let l = leb-true o 127 h in bytes_more 7 _ (omega arith) (bytes_more o [] (omega arith) bytes_none)

-- the checks of the bytes of a record that passes its own
pub written_permitted : (at : ℕ) (t : Tables) (r : Record) (rest : List ℕ) → Fits Bits r → Passes t r → eqb (kind_of r) 1 ≡ eqb at 0
    → AllPermit (record_checks at t (kind_of r) (body_of r ++ rest))
written_permitted at t r rest f p first =
    passes_permitted at t (kind_of r) (body_of r ++ rest) (kind_known r) first (body_long r rest) (rw (read_back r rest f) p)
