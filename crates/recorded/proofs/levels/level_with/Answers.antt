-- `levels::level_with` answers a person's current level: the first level, lowered by the folders read and then by those stepped on.
use Prim.Native.Nat.{ℕ}
use mathlib.Core.Path.{◌≡◌}
use mathlib.Core.Bool.{true}
use mathlib.Core.List.{List}
use Rattle.packed.specs.Packed.{tables_of}
use Rattle.policy.specs.declared.Person.{Person}
use Rattle.policy.specs.declared.Tables.{Tables}
use Rattle.policy.specs.Tables.{person_at, person_declared}
use Rattle.policy.specs.Request.{set_of}
use Rattle.policy.specs.Rules.{current_level}
use Rattle.policy.proofs.Requests.{person_below_lem}
use Rattle.recorded.specs.declared.Folders.{Folders}
use Rattle.recorded.specs.Folders.{folders_of}
use Rattle.recorded.specs.Recorded.{read_at, stepped_at}
use Rattle.recorded.specs.Levels.{level_by_set, level_by}
use Rattle.recorded.proofs.LevelLaws.{level_by_set_lem, level_in_parts}
use Rattle.recorded.proofs.levels.level_with.Goals as goal

answer : (t : Tables) (h : List ℕ) (s : ℕ) → person_declared t s ≡ true → {e : Person} {set : Folders} {read level : ℕ}
    → set ≡ folders_of (stepped_at h s) → e ≡ person_at t s → read ≡ level_by t (read_at h s) e.level.0
    → level ≡ level_by_set t set read → level ≡ current_level t (set_of h) s
answer t h s person found entry r l = rw (l, r, found, entry, level_by_set_lem) (level_in_parts t h s person)

pub person-person-requires : goal.person-person-requires
person-person-requires c =
    let start = c in
    person_below_lem (tables_of c.args.t.now) c.args.s c.requires.0

pub level_by_reads-requires : goal.level_by_reads-requires
level_by_reads-requires c =
    let start = c in
    person_below_lem (tables_of c.args.t.now) c.args.s c.requires.0

pub returns : goal.returns
returns c =
    let start = c in
    let args = c.args in
    answer (tables_of args.t.now) args.h.now args.s c.requires.0 c.requires.1
    c.person-person.ensures c.level_by_reads.ensures c.level_by_steps.ensures
