-- A book of bytes loads to tables whose numbers have no more bits than their fields. A level is two bytes of the book and a set of rights
-- eight, so they are below 2 ^ 16 and 2 ^ 64; what is not declared is zero.
use Prim.Native.Nat.{ℕ, zero, suc, ◌^◌, ◌<◌}
use native.Mathlib.Nat.{pow-suc}
use native.Mathlib.Omega.{arith}
use mathlib.Core.Path.{◌≡◌, refl}
use mathlib.Core.Logic.{⊎_elim}
use mathlib.Core.Bool.{Bool, true, false, cond}
use mathlib.Core.List.Memᴰ
use mathlib.Core.List.{
  List,
  [],
  ◌∷◌,
  Memᴰ,
}
use lib.Dec.{eqb, lit<}
use lib.Pow.{pow_pos}
use lib.ListN.{length, get_or, take, drop}
use Rattle.policy.specs.declared.Tables.{Tables}
use Rattle.policy.specs.Tables.{no_person, no_folder, no_role}
use Rattle.policy.specs.Rulebook.{Record, body_length, little_endian, record_of, load_book, records_from, records_of}
use Rattle.policy.specs.Given.{Bytes, OfType}
use Rattle.policy.proofs.Sound.{Sound, Fits}
use Rattle.policy.proofs.Loads.{loaded_sound}
use Rattle.policy.proofs.Writing.{Bits}

-- ---- numbers read from bytes

bytes_drop : (n : ℕ) (l : List ℕ) → Bytes l → Bytes (drop n l)
bytes_drop zero l h = h
bytes_drop (suc n) [] h = h
bytes_drop (suc n) (b ∷ l) h = bytes_drop n l (λ c m. h c (Memᴰ.tail m))

little_small : (n : ℕ) (l : List ℕ) → Bytes l → little_endian (take n l) < 256 ^ n
unfolding little_endian
little_small zero l h = lit< tt
little_small (suc n) [] h = let others = little_small n [] h in omega (arith, pow-suc 256 n)
little_small (suc n) (b ∷ l) h =
    let first = h b (Memᴰ.head refl) in
    let others = little_small n l (λ c m. h c (Memᴰ.tail m)) in
    omega (arith, pow-suc 256 n)

record_fits : (kind : ℕ) (body : List ℕ) → Bytes body → Fits Bits (record_of kind body)
unfolding record_of Fits
record_fits zero body h = tt
record_fits (suc zero) body h = tt
record_fits (suc (suc zero)) body h = tt
record_fits (suc (suc (suc zero))) body h = little_small 2 (drop 1 body) (bytes_drop 1 body h)
record_fits (suc (suc (suc (suc zero)))) body h = little_small 2 (drop 3 body) (bytes_drop 3 body h)
record_fits (suc (suc (suc (suc (suc zero))))) body h = little_small 8 (drop 1 body) (bytes_drop 1 body h)
record_fits (suc (suc (suc (suc (suc (suc zero)))))) body h = tt
record_fits (suc (suc (suc (suc (suc (suc (suc zero))))))) body h = tt
record_fits (suc (suc (suc (suc (suc (suc (suc (suc kind)))))))) body h = tt

records_fit : (n : ℕ) (bytes : List ℕ) → Bytes bytes → (r : Record) → Memᴰ r (records_from n bytes) → Fits Bits r
unfolding records_from
records_fit zero bytes h r m = absurd (Memᴰ.not-nil m)
records_fit (suc n) [] h r m = absurd (Memᴰ.not-nil m)
records_fit (suc n) (kind ∷ body) h r m =
    let after : Bytes body = λ b m. h b (Memᴰ.tail m) in
    go (eqb kind 0) after (records_fit n (drop (body_length kind) body) (bytes_drop (body_length kind) body after) r) m
  where
    go : (last : Bool) → Bytes body → (Memᴰ r (records_from n (drop (body_length kind) body)) → Fits Bits r)
        → Memᴰ r (cond last [] (record_of kind body ∷ records_from n (drop (body_length kind) body))) → Fits Bits r
    go true after later m = absurd (Memᴰ.not-nil m)
    go false after later m =
        ⊎_elim (λ (e : r ≡ record_of kind body). rw e (record_fits kind body after)) (λ there. later there) (Memᴰ.cases_cons m)

-- ---- the tables

array_member : {A : Type 0} (P : A → Type 0) (d x : A) {l : List A} → ((i : ℕ) → P (get_or l i d)) → Memᴰ x l → P x
array_member P d x h (Memᴰ.head e) = rw e (h 0)
array_member P d x h (Memᴰ.tail m) = array_member P d x (λ i. h (suc i)) m

pub sound_type : (t : Tables) → Sound Bits t → OfType t
sound_type t s =
    record {
      firms = s.firms.size;
      persons = s.persons.size;
      folders = s.folders.size;
      roles = s.roles.size;
      steps = s.steps.size;
      person_levels = λ n m. array_member (λ n. n.level.0 < 2 ^ 16) no_person n (λ i. (s.persons.each i).1) m;
      folder_levels = λ o m. array_member (λ o. o.level.0 < 2 ^ 16) no_folder o (λ i. (s.folders.each i).1) m;
      rights = λ k m. array_member (λ k. k.rights < 2 ^ 64) no_role k (λ i. (s.roles.each i).1) m;
      sets = λ x m. array_member (λ x. x < 2 ^ 16) 0 x (λ i. (s.steps.each i).1) m;
    }

pub loaded_type : (book : List ℕ) → Bytes book → (load_book book).number ≡ 0 → OfType (load_book book).tables
unfolding records_of
loaded_type book h e =
    sound_type (load_book book).tables (loaded_sound Bits pow_pos book e (records_fit (length book) book h))
