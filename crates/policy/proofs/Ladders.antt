-- What the number of an ordered list of checks says: 0 exactly where every check permits, and otherwise the number of the first that does
-- not. By induction on the list: a check that permits leads to the next, and one that does not gives its number.
use Prim.Native.Nat.{ℕ}
use mathlib.Core.Path.{◌≡◌, refl, sym, ap, ◌∙◌}
use mathlib.Core.Logic.{◌≢◌, ⊎_elim}
use mathlib.Core.Bool.{Bool, true, false, not, ◌&&◌, ◌||◌, false≢true}
use mathlib.Core.List.Memᴰ
use mathlib.Core.List.{
  List,
  [],
  ◌∷◌,
  ◌++◌,
  append_assoc,
  map,
  Memᴰ,
}
use lib.Dec.{eqb}
use borrow.Author.Tests.{eqb-true, eqb-false, not-true}
use Rattle.bits.proofs.Booleans.{and_left, and_right, or_cases, decide}
use Rattle.policy.specs.Checks.{Check, ladder}

-- every check of the list permits
abbrev pub AllPermit : List Check → Type 0
AllPermit checks = (c : Check) → Memᴰ c checks → c.permits ≡ true

-- n is the number of the first check that does not permit
pub record FirstRefusal (checks : List Check) (n : ℕ) : Type 0 where
  pub before : List Check
  pub after : List Check
  pub check : Check
  pub split : checks ≡ before ++ check ∷ after
  pub permitted : AllPermit before
  pub refuses : check.permits ≡ false
  pub number : check.number ≡ n

-- ---- one check and the rest

pub ladder_permits : (c : Check) (cs : List Check) → c.permits ≡ true → ladder (c ∷ cs) ≡ ladder cs
unfolding ladder
ladder_permits c cs e = rw e

pub ladder_refuses : (c : Check) (cs : List Check) → c.permits ≡ false → ladder (c ∷ cs) ≡ c.number
unfolding ladder
ladder_refuses c cs e = rw e

pub permit_none : AllPermit []
permit_none c m = absurd (Memᴰ.not-nil m)

pub permit_more : {c : Check} {cs : List Check} → c.permits ≡ true → AllPermit cs → AllPermit (c ∷ cs)
permit_more {c} e all d m =
    ⊎_elim (λ (q : d ≡ c). ap (λ (x : Check). x.permits) q ∙ e) (λ n. all d n) (Memᴰ.cases_cons m)

pub permit_first : {c : Check} {cs : List Check} → AllPermit (c ∷ cs) → c.permits ≡ true
permit_first {c} all = all c (Memᴰ.head refl)

pub permit_rest : {c : Check} {cs : List Check} → AllPermit (c ∷ cs) → AllPermit cs
permit_rest all d m = all d (Memᴰ.tail m)

-- ---- 0, where every check permits

-- no check has the number 0
abbrev pub numbered : List Check → Bool
numbered [] = true
numbered (c ∷ cs) = not (eqb c.number 0) && numbered cs

pub ladder_zero : (cs : List Check) → numbered cs ≡ true → ladder cs ≡ 0 → AllPermit cs
ladder_zero [] n e = permit_none
ladder_zero (c ∷ cs) n e =
    let some : c.number ≢ 0 = eqb-false c.number 0 (not-true _ (and_left _ (numbered cs) n)) in
    ⊎_elim
    (λ t. permit_more t
    (ladder_zero cs (and_right (not (eqb c.number 0)) (numbered cs) n) (sym (ladder_permits c cs t) ∙ e)))
    (λ f. absurd (some (sym (ladder_refuses c cs f) ∙ e)))
    (decide c.permits)

-- checks that all permit, in front of others, leave the number to the others
pub ladder_after : (before after : List Check) → AllPermit before → ladder (before ++ after) ≡ ladder after
ladder_after [] after all = refl
ladder_after (c ∷ before) after all =
    ladder_permits c (before ++ after) (permit_first all) ∙ ladder_after before after (permit_rest all)

pub zero_ladder : (cs : List Check) → AllPermit cs → ladder cs ≡ 0
unfolding ladder
zero_ladder [] all = refl
zero_ladder (c ∷ cs) all = ladder_permits c cs (permit_first all) ∙ zero_ladder cs (permit_rest all)

-- ---- otherwise the number of the first check that does not permit

first_here : (c : Check) (cs : List Check) → c.permits ≡ false → FirstRefusal (c ∷ cs) c.number
first_here c cs e =
    record { before = []; after = cs; check = c; split = refl; permitted = permit_none; refuses = e; number = refl }

first_later : (c : Check) (cs : List Check) (n : ℕ) → c.permits ≡ true → FirstRefusal cs n → FirstRefusal (c ∷ cs) n
first_later c cs n e f =
    record {
      before = c ∷ f.before;
      after = f.after;
      check = f.check;
      split = ap (λ (l : List Check). c ∷ l) f.split;
      permitted = permit_more e f.permitted;
      refuses = f.refuses;
      number = f.number;
    }

pub ladder_first : (cs : List Check) → ladder cs ≢ 0 → FirstRefusal cs (ladder cs)
unfolding ladder
ladder_first [] n = absurd (n refl)
ladder_first (c ∷ cs) n =
    ⊎_elim
    (λ t. rw (ladder_permits c cs t) (first_later c cs (ladder cs) t (ladder_first cs (λ z. n (ladder_permits c cs t ∙ z)))))
    (λ f. rw (ladder_refuses c cs f) (first_here c cs f))
    (decide c.permits)

pub first_ladder : (cs : List Check) (n : ℕ) → FirstRefusal cs n → ladder cs ≡ n
first_ladder cs n f =
    ap ladder f.split ∙ ladder_after f.before (f.check ∷ f.after) f.permitted
    ∙ ladder_refuses f.check f.after f.refuses ∙ f.number

-- other checks behind those that refuse do not count
pub refusal_front : {cs : List Check} {n : ℕ} (ds : List Check) → FirstRefusal cs n → FirstRefusal (cs ++ ds) n
refusal_front ds f =
    record {
      before = f.before;
      after = f.after ++ ds;
      check = f.check;
      split = ap (λ (l : List Check). l ++ ds) f.split ∙ append_assoc f.before (f.check ∷ f.after) ds;
      permitted = f.permitted;
      refuses = f.refuses;
      number = f.number;
    }

-- ---- in either case one of these numbers

pub ladder_member : (cs : List Check) → Memᴰ (ladder cs) (0 ∷ map (λ c. c.number) cs)
unfolding ladder
ladder_member [] = Memᴰ.head refl
ladder_member (c ∷ cs) =
    ⊎_elim (λ t. Memᴰ.cast (ladder_permits c cs t) (more (ladder_member cs)))
    (λ f. Memᴰ.tail (Memᴰ.head (ladder_refuses c cs f))) (decide c.permits)
  where
    more : {n m : ℕ} {l : List ℕ} → Memᴰ n (0 ∷ l) → Memᴰ n (0 ∷ m ∷ l)
    more (Memᴰ.head e) = Memᴰ.head e
    more (Memᴰ.tail i) = Memᴰ.tail (Memᴰ.tail i)

-- the numbers of one list stand in another
abbrev pub stands_in : List ℕ → ℕ → Bool
stands_in [] n = false
stands_in (m ∷ l) n = eqb n m || stands_in l n

abbrev pub all_stand_in : List ℕ → List ℕ → Bool
all_stand_in l [] = true
all_stand_in l (n ∷ ns) = stands_in l n && all_stand_in l ns

stands_in_lem : (l : List ℕ) (n : ℕ) → stands_in l n ≡ true → Memᴰ n l
stands_in_lem [] n e = absurd (false≢true e)
stands_in_lem (m ∷ l) n e =
    ⊎_elim (λ a. Memᴰ.head (eqb-true n m a)) (λ b. Memᴰ.tail (stands_in_lem l n b)) (or_cases (eqb n m) (stands_in l n) e)

pub all_stand_in_lem : (l ns : List ℕ) (n : ℕ) → all_stand_in l ns ≡ true → Memᴰ n ns → Memᴰ n l
all_stand_in_lem l [] n e i = absurd (Memᴰ.not-nil i)
all_stand_in_lem l (m ∷ ns) n e i =
    ⊎_elim (λ q. Memᴰ.cast q (stands_in_lem l m (and_left (stands_in l m) _ e)))
    (λ j. all_stand_in_lem l ns n (and_right (stands_in l m) _ e) j) (Memᴰ.cases_cons i)
