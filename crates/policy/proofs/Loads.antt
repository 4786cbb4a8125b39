-- The tables of a book that loads pass the test for such tables, name only steps below 16, and have no circle. They are sound because
-- every record of the book passed its checks, and the checks of the end exclude circles and loose steps.
use Prim.Native.Nat.{ℕ, ◌<◌}
use mathlib.Core.Path.{◌≡◌, ap}
use mathlib.Core.Bool.{true, false, not}
use mathlib.Core.List.{List, Memᴰ}
use borrow.Author.Tests.{le-leb}
use Rattle.bits.proofs.Booleans.{and_both}
use Rattle.bits.proofs.Bounds.{all_of}
use Rattle.policy.specs.declared.Tables.{Tables}
use Rattle.policy.specs.Tables.{firm_at, person_at, folder_at, role_at, enables}
use Rattle.policy.specs.Rulebook.{
  Record,
  end,
  rules,
  firm,
  person,
  folder,
  role,
  pair,
  public,
  has_circle,
  has_loose,
  load_book,
  records_of,
  firm_given,
  person_given,
  folder_given,
  role_given,
  given,
}
use Rattle.policy.proofs.Circles.{sets_below}
use Rattle.policy.proofs.Declaring.{book_loads, finishes_circle, finishes_loose}
use Rattle.policy.proofs.Sound.{Sound, Fits, start_sound, declares_sound}

-- ---- sound tables

module _ (Width : ℕ → ℕ → Type 0) (t : Tables) (s : Sound Width t) where
  pub sound_given : has_circle t ≡ false → has_loose t ≡ false → given t ≡ true
  unfolding given enables
  sound_given c l =
      and_both _ _
      (and_both _ _
      (and_both _ _
      (and_both _ _
      (and_both _ _
      (and_both _ _
      (and_both _ _ (le-leb t.mask 15 s.mask) (all_of 64 (λ f. firm_given (firm_at t f)) (λ f b. s.firms.each f)))
      (all_of 64 (λ n. person_given (person_at t n)) (λ n b. (s.persons.each n).0)))
      (all_of 128 (λ o. folder_given t (folder_at t o)) (λ o b. (s.folders.each o).0)))
      (all_of 32 (λ k. role_given (role_at t k)) (λ k b. (s.roles.each k).0)))
      (all_of 16 (λ p. not (enables t p 0)) (λ p b. ap not (s.steps.each p).0)))
      (ap not c))
      (ap not l)

  pub sound_sets : (p q : ℕ) → enables t p q ≡ true → (p < 16) × (q < 16)
  sound_sets = sets_below t s.steps.size (λ p. (s.steps.each p).1)

-- ---- the tables of a book

pub loaded_sound : (Width : ℕ → ℕ → Type 0) → ((w : ℕ) → Width w 0) → (book : List ℕ) → (load_book book).number ≡ 0
    → ((r : Record) → Memᴰ r (records_of book) → Fits Width r) → Sound Width (load_book book).tables
loaded_sound Width z book e w =
    let l = book_loads book e in
    declares_sound Width l.finishes.declares (start_sound Width z l.mask l.low)
    (λ r m. w r (rw l.first (Memᴰ.tail m)))

-- nothing is asked of the widths
abbrev pub AnyWidth : ℕ → ℕ → Type 0
AnyWidth w n = Unit {0}

pub any_fits : (r : Record) → Fits AnyWidth r
unfolding Fits
any_fits end = tt
any_fits (rules mask) = tt
any_fits (firm f class) = tt
any_fits (person s level) = tt
any_fits (folder o f kind level) = tt
any_fits (role k rights) = tt
any_fits (pair p q) = tt
any_fits (public o) = tt

any_sound : (book : List ℕ) → (load_book book).number ≡ 0 → Sound AnyWidth (load_book book).tables
any_sound book e = loaded_sound AnyWidth (λ w. tt) book e (λ r m. any_fits r)

pub loaded_no_circle : (book : List ℕ) → (load_book book).number ≡ 0 → has_circle (load_book book).tables ≡ false
loaded_no_circle book e = finishes_circle (book_loads book e).finishes

pub loaded_given : (book : List ℕ) → (load_book book).number ≡ 0 → given (load_book book).tables ≡ true
loaded_given book e =
    sound_given AnyWidth (load_book book).tables (any_sound book e) (loaded_no_circle book e)
    (finishes_loose (book_loads book e).finishes)

pub loaded_sets : (book : List ℕ) → (load_book book).number ≡ 0
    → (p q : ℕ) → enables (load_book book).tables p q ≡ true → (p < 16) × (q < 16)
loaded_sets book e = sound_sets AnyWidth (load_book book).tables (any_sound book e)
