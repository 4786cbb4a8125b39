-- What one request more does to the current levels: the folder that it reads or steps on is met with its person's level, and every other
-- level stays. A level is told by what is at most it, so this follows from which folders the larger set says were read or stepped on.
use Prim.Native.Nat.{ℕ}
use mathlib.Core.Path.{◌≡◌, refl, sym, ◌∙◌}
use mathlib.Core.Logic.{◌⊎◌, inl, inr, ⊎_elim, ◌↔◌}
use mathlib.Core.Bool.{Bool, true}
use Rattle.bits.proofs.Booleans.{and_left, and_right, and_both}
use Rattle.level.specs.Levels.{at_most, meet_of}
use Rattle.level.proofs.LevelLaws.{split}
use Rattle.policy.specs.declared.Tables.{Tables}
use Rattle.policy.specs.Tables.{person_at, folder_at, person_declared}
use Rattle.policy.specs.Request.{Request, read, write, start, step}
use Rattle.policy.specs.Rules.{declared, current_level}
use Rattle.policy.specs.Published.{Observes, InHistory, Observed}
use Rattle.policy.proofs.Requests.{declared_person}
use Rattle.policy.proofs.Published.{level_is_meet, one_level}

-- ---- one folder more

module _ (t : Tables) (H H' : Request → Bool) (s : ℕ) where
  -- the same folders: the same level
  pub level_stays : ((o : ℕ) → (Observed t H' s o) ↔ (Observed t H s o)) → current_level t H' s ≡ current_level t H s
  level_stays same =
      one_level t H' s _ _ (level_is_meet t H' s) (λ c.
      let met = level_is_meet t H s c in (
        λ e. let (first, each) = met.0 e in (first, λ o w. each o ((same o).0 w)),
        λ below. let (first, each) = below in met.1 (first, λ o w. each o ((same o).1 w)),
      ))

  -- folder o more: its level is met
  pub level_met : (o : ℕ) → ((i : ℕ) → (Observed t H' s i) ↔ ((o ≡ i) ⊎ Observed t H s i))
      → current_level t H' s ≡ meet_of 12 (current_level t H s) (folder_at t o).level.0
  level_met o more =
      one_level t H' s _ _ (level_is_meet t H' s) (λ c.
      let met = level_is_meet t H s c in
      let both = split 12 (current_level t H s) (folder_at t o).level.0 c in (
        λ e.
            let two = sym both ∙ e in
            let (first, each) = met.0 (and_left (at_most 12 c (current_level t H s)) _ two) in (
              first,
              λ i w.
                  ⊎_elim (λ (q : o ≡ i). rw (← q) (and_right (at_most 12 c (current_level t H s)) _ two)) (λ k. each i k)
                  ((more i).0 w),
            ),
        λ below.
            let (first, each) = below in
            both ∙ and_both _ _ (met.1 (first, λ i w. each i ((more i).1 (inr w)))) (each o ((more o).1 (inl refl))),
      ))

-- the level without any folder is the first
pub level_first : (t : Tables) (H : Request → Bool) (s : ℕ) → ((o : ℕ) → Observed t H s o → ⊥)
    → current_level t H s ≡ (person_at t s).level.0
level_first t H s none =
    one_level t H s _ _ (level_is_meet t H s) (λ c. (λ e. (e, λ o w. absurd (none o w)), λ below. below.0))

-- who read or stepped on a folder is declared
pub observer_declared : (t : Tables) (H : Request → Bool) (s o : ℕ) → Observed t H s o → person_declared t s ≡ true
unfolding declared
observer_declared t H s o w =
    ⊎_elim (λ h. and_left (person_declared t s) _ h.0) (λ v. let (p, h) = v in declared_person t s p o h.0) w

-- what a read or step of the set observes is observed
pub observes_observed : (t : Tables) (H : Request → Bool) (q : Request) (s o : ℕ) → InHistory t H q → Observes q s o → Observed t H s o
observes_observed t H (read s o) s' o' h w = rw (← w.0, ← w.1) (inl h)
observes_observed t H (write s o) s' o' h w = absurd w
observes_observed t H (start s u) s' o' h w = absurd w
observes_observed t H (step s p o) s' o' h w = rw (← w.0, ← w.1) (inr (p, h))

-- ---- one request more

module _ (t : Tables) (H H' : Request → Bool) (r : Request) (known : declared t r ≡ true)
    (added : (q : Request) → (H' q ≡ true) ↔ ((q ≡ r) ⊎ (H q ≡ true))) where
  -- a request of the larger set is the new one, or of the other set
  older : (q : Request) → InHistory t H' q → (q ≡ r) ⊎ InHistory t H q
  older q h = ⊎_elim (λ e. inl e) (λ w. inr (h.0, w)) ((added q).0 h.1)

  kept : (q : Request) → InHistory t H q → InHistory t H' q
  kept q h = (h.0, (added q).1 (inr h.1))

  -- what was read or stepped on, with the new request
  pub observed_more : (s o : ℕ) → (Observed t H' s o) ↔ (Observes r s o ⊎ Observed t H s o)
  observed_more s o = (
    λ w.
        ⊎_elim
        (λ h. ⊎_elim (λ (e : read s o ≡ r). inl (rw (← e) (refl, refl))) (λ k. inr (inl k)) (older (read s o) h))
        (λ v.
        let (p, h) = v in
        ⊎_elim (λ (e : step s p o ≡ r). inl (rw (← e) (refl, refl))) (λ k. inr (inr (p, k))) (older (step s p o) h)) w,
    λ w.
        ⊎_elim (λ v. observes_observed t H' r s o (known, (added r).1 (inl refl)) v)
        (λ v. ⊎_elim (λ h. inl (kept (read s o) h)) (λ k. let (p, h) = k in inr (p, kept (step s p o) h)) v) w,
  )

  -- the level of a person whose read or step on folder o it is, and of any other person
  pub level_own : (s o : ℕ) → ((i : ℕ) → (Observes r s i) ↔ (o ≡ i))
      → current_level t H' s ≡ meet_of 12 (current_level t H s) (folder_at t o).level.0
  level_own s o own =
      level_met t H H' s o (λ i.
      let more = observed_more s i in (
        λ w. ⊎_elim (λ v. inl ((own i).0 v)) (λ v. inr v) (more.0 w),
        λ w. more.1 (⊎_elim (λ v. inl ((own i).1 v)) (λ v. inr v) w),
      ))

  pub level_others : (s : ℕ) → ((i : ℕ) → Observes r s i → ⊥) → current_level t H' s ≡ current_level t H s
  level_others s other =
      level_stays t H H' s (λ i.
      let more = observed_more s i in (
        λ w. ⊎_elim (λ v. absurd (other i v)) (λ v. v) (more.0 w),
        λ w. more.1 (inr w),
      ))
