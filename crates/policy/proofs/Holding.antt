-- The tables of a book that loads hold what its records declare, all of it and nothing else. A record gives one entry of the tables its
-- value, and later records leave it, since no number is declared twice; an entry that no record gives stays as in the empty tables.
use Prim.Native.Nat.{ℕ, ◌≤◌}
use mathlib.Core.Path.{◌≡◌, refl, sym, ap, ◌∙◌}
use mathlib.Core.Logic.{◌⊎◌, inl, inr, ⊎_elim}
use mathlib.Core.Bool.{Bool, true, false, false≢true}
use mathlib.Core.List.Memᴰ
use mathlib.Core.List.{List, ◌∷◌, Memᴰ}
use Rattle.bits.proofs.Booleans.{false_elim}
use Rattle.policy.specs.declared.Folder.{Folder}
use Rattle.policy.specs.declared.Tables.{Tables}
use Rattle.policy.specs.Tables.{no_firm, no_person, no_folder, no_role, empty_tables, folder_at, enables}
use Rattle.policy.specs.Rulebook.{
  Record,
  end,
  rules,
  firm,
  person,
  folder,
  role,
  pair,
  public,
  declare,
  load_book,
  records_of,
}
use Rattle.policy.specs.Agreement.{Holds}
use Rattle.policy.proofs.Declaring.{Passes, is_rules, Declares, no_record, more_records, book_loads}
use Rattle.policy.proofs.Sound.{blank_each, Sound, declare_sound, start_sound, declares_sound}
use Rattle.policy.proofs.Loads.{AnyWidth, any_fits}
use Rattle.policy.proofs.GivenEntries.{undeclared_unmarked}
use Rattle.policy.proofs.FolderParts.{unmarked, folder_part, public_part, public_blank}
use Rattle.policy.proofs.Parts.{
  Part,
  firm_part,
  person_part,
  role_part,
  pair_part,
  pair_blank,
  left,
  declared_left,
  entry_of,
}

sound_next : (t : Tables) (r : Record) → Sound AnyWidth t → Passes t r → Sound AnyWidth (declare t r)
sound_next t r s p = declare_sound AnyWidth t r s p (any_fits r)

-- ---- an entry of a part, after all records

module _ (part : Part) where
  -- a declared entry is not changed
  kept : {t t' : Tables} {rs : List Record} → Declares t rs t' → Sound AnyWidth t → (i : part.Index)
      → part.is_declared (part.entry t i) ≡ true → part.entry t' i ≡ part.entry t i
  kept no_record s i h = refl
  kept (more_records {t = t} {r = r} p n d) s i h =
      let same = declared_left part t r i s p h in kept d (sound_next t r s p) i (rw same h) ∙ same

  -- an entry that a record gives
  declared_entry : {t t' : Tables} {rs : List Record} → Declares t rs t' → Sound AnyWidth t
      → (i : part.Index) (v : part.Value) → Memᴰ (part.records i v) rs → part.entry t' i ≡ part.value v
  declared_entry no_record s i v m = absurd (Memᴰ.not-nil m)
  declared_entry (more_records {t = t} {r = r} p n d) s i v m =
      ⊎_elim
      (λ (e : part.records i v ≡ r).
      let here = entry_of part t r i v e s p in kept d (sound_next t r s p) i (rw here (part.marked v)) ∙ here)
      (λ later. declared_entry d (sound_next t r s p) i v later)
      (Memᴰ.cases_cons m)

  -- an entry that no record gives
  undeclared_entry : {t t' : Tables} {rs : List Record} → Declares t rs t' → Sound AnyWidth t
      → (i : part.Index) → ((v : part.Value) → Memᴰ (part.records i v) rs → ⊥) → part.entry t' i ≡ part.entry t i
  undeclared_entry no_record s i h = refl
  undeclared_entry (more_records {t = t} {r = r} p n d) s i h =
      undeclared_entry d (sound_next t r s p) i (λ v m. h v (Memᴰ.tail m))
      ∙ left part t r i s p (λ v e. h v (Memᴰ.head (sym e)))

  -- an entry that is marked, and was not before, is given by a record
  pub source : {t t' : Tables} {rs : List Record} → Declares t rs t' → Sound AnyWidth t
      → (i : part.Index) → part.is_declared (part.entry t' i) ≡ true
      → (part.is_declared (part.entry t i) ≡ true) ⊎ ((v : part.Value) × Memᴰ (part.records i v) rs)
  source no_record s i h = inl h
  source (more_records {t = t} {r = r} p n d) s i h =
      ⊎_elim
      (λ e.
      ⊎_elim (λ here. inr (here.0, Memᴰ.head (sym here.1))) (λ same. inl (ap part.is_declared (sym same) ∙ e))
      (part.after t r i s p))
      (λ m. inr (m.0, Memᴰ.tail m.1)) (source d (sound_next t r s p) i h)

-- ---- the rules in force

mask_left : (t : Tables) (r : Record) → is_rules r ≡ false → (declare t r).mask ≡ t.mask
unfolding declare is_rules
mask_left t end h = refl
mask_left t (rules m) h = absurd (false≢true (sym h))
mask_left t (firm f class) h = refl
mask_left t (person s level) h = refl
mask_left t (folder o f kind level) h = refl
mask_left t (role k rights) h = refl
mask_left t (pair p q) h = refl
mask_left t (public o) h = refl

same_mask : {t t' : Tables} {rs : List Record} → Declares t rs t' → t'.mask ≡ t.mask
same_mask no_record = refl
same_mask (more_records {t = t} {r = r} p n d) = same_mask d ∙ mask_left t r n

no_rules : {t t' : Tables} {rs : List Record} → Declares t rs t' → (m : ℕ) → Memᴰ (rules m) rs → ⊥
unfolding is_rules
no_rules no_record m h = Memᴰ.not-nil h
no_rules (more_records p n d) m h =
    ⊎_elim (λ e. false_elim _ n (ap is_rules (sym e))) (λ later. no_rules d m later) (Memᴰ.cases_cons h)

-- ---- a folder's entry and its mark

abbrev with_mark : Folder → Bool → Folder
with_mark e mark = record { declared = e.declared; firm = e.firm; kind = e.kind; level = e.level; public = mark }

with_mark_lem : (e d : Folder) → unmarked e ≡ d → e ≡ with_mark d e.public
with_mark_lem e d h = ap (λ (x : Folder). with_mark x e.public) h

-- ---- all records: the record of the rules, and those after it

module _ (t : Tables) (m : ℕ) (low : m ≤ 15) (rs : List Record) (d : Declares (declare empty_tables (rules m)) rs t) where
  after_rules : (r : Record) → is_rules r ≡ false → Memᴰ r (rules m ∷ rs) → Memᴰ r rs
  unfolding is_rules
  after_rules r o h =
      ⊎_elim (λ e. absurd (false_elim _ o (ap is_rules e))) (λ later. later) (Memᴰ.cases_cons h)

  first_sound : Sound AnyWidth (declare empty_tables (rules m))
  first_sound = start_sound AnyWidth (λ w. tt) m low

  entry_given : (part : Part) (i : part.Index) (v : part.Value) → is_rules (part.records i v) ≡ false
      → Memᴰ (part.records i v) (rules m ∷ rs) → part.entry t i ≡ part.value v
  entry_given part i v o h =
      declared_entry part d first_sound i v (after_rules (part.records i v) o h)

  entry_blank : (part : Part) (i : part.Index) → ((v : part.Value) → Memᴰ (part.records i v) (rules m ∷ rs) → ⊥)
      → part.entry t i ≡ part.entry (declare empty_tables (rules m)) i
  entry_blank part i h = undeclared_entry part d first_sound i (λ v later. h v (Memᴰ.tail later))

  -- an entry that the tables of the rules alone do not mark is given by a record
  entry_source : (part : Part) (i : part.Index) → part.is_declared (part.entry (declare empty_tables (rules m)) i) ≡ false
      → part.is_declared (part.entry t i) ≡ true → (v : part.Value) × Memᴰ (part.records i v) (rules m ∷ rs)
  entry_source part i none h =
      ⊎_elim (λ e. absurd (false_elim _ none e)) (λ later. (later.0, Memᴰ.tail later.1)) (source part d first_sound i h)

  -- a folder that no record declares is blank, and so not marked either
  folder_blank : (o : ℕ) → unmarked (folder_at t o) ≡ no_folder → folder_at t o ≡ no_folder
  folder_blank o h =
      let s = declares_sound AnyWidth d first_sound (λ r w. any_fits r) in
      let mark = undeclared_unmarked t (folder_at t o) (s.folders.each o).0 (ap (λ (e : Folder). e.declared) h) in
      with_mark_lem (folder_at t o) no_folder h ∙ ap (with_mark no_folder) mark

  holds : Holds t (rules m ∷ rs)
  unfolding is_rules declare empty_tables enables
  holds =
      record {
        mask = λ k. (
          λ h. ⊎_elim (λ (e : rules k ≡ rules m). same_mask d ∙ cc) (λ later. absurd (no_rules d k later)) (Memᴰ.cases_cons h),
          λ e. Memᴰ.head (ap rules (sym e ∙ same_mask d)),
        );
        firms = λ f class. entry_given firm_part f class refl;
        no_firms = λ f h. entry_blank firm_part f h ∙ blank_each (λ e. e ≡ no_firm) no_firm 64 refl f;
        persons = λ s level. entry_given person_part s level refl;
        no_persons = λ s h. entry_blank person_part s h ∙ blank_each (λ e. e ≡ no_person) no_person 64 refl s;
        folders = λ o f kind level h. with_mark_lem (folder_at t o) _ (entry_given folder_part o (f, kind, level) refl h);
        no_folders = λ o h.
            folder_blank o
            (entry_blank folder_part o (λ v. h v.0 v.1 v.2) ∙ blank_each (λ e. unmarked e ≡ no_folder) no_folder 128 refl o);
        publics = λ o. (entry_given public_part o tt refl, λ h. (entry_source public_part o (public_blank o) h).1);
        roles = λ k rights. entry_given role_part k rights refl;
        no_roles = λ k h. entry_blank role_part k h ∙ blank_each (λ e. e ≡ no_role) no_role 32 refl k;
        pairs = λ p q. (entry_given pair_part (p, q) tt refl, λ h. (entry_source pair_part (p, q) (pair_blank p q) h).1);
      }

pub loaded_holds : (book : List ℕ) → (load_book book).number ≡ 0 → Holds (load_book book).tables (records_of book)
loaded_holds book e =
    let l = book_loads book e in
    rw l.first (holds (load_book book).tables l.mask l.low l.rest l.finishes.declares)
