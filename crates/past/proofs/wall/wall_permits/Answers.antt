-- `wall::wall_permits` answers what the wall says of an access: a public folder passes; of the folders that bear on the access one of the
-- own firm lets it pass, and before each turn none below the one reached is, and it is known whether one bears on the access at all.
use native.Mathlib.Omega.{arith}
use mathlib.Core.Path.{◌≡◌, sym, ◌∙◌}
use borrow.Author.Tests.{ne_eqb}
use Rattle.policy.specs.Tables.{class_of}
use Rattle.policy.proofs.GivenEntries.{folder_firm}
use Rattle.policy.proofs.Requests.{person_below_lem, folder_below}
use Rattle.past.specs.Wall.{bears_at}
use Rattle.past.proofs.WallLaws.{any_firm_below, search_start, search_past, search_rival, wall_public, wall_own, wall_searched}
use borrow.Author.Rules.{rules}
use Rattle.past.proofs.wall.wall_permits.Goals as goal
use Rattle.past.proofs.wall.wall_permits.Goals.{then-bears_on+else-folder-asked, else-bears_on}

pub offset_bounds-t-o : goal.offset_bounds-t-o
offset_bounds-t-o c = let start = c in omega (arith, folder_below c.args.t.now.tables c.args.o c.requires.1)

pub bounds-t-o : goal.bounds-t-o
bounds-t-o c = let start = c in folder_below c.args.t.now.tables c.args.o c.requires.1

pub returns-then-asked : goal.returns-then-asked
returns-then-asked c =
    let start = c in
    let args = c.args in
    sym (wall_public args.t.now.tables args.h.now args.s c.requires.0 args.o c.if-asked.true)

pub offset_bounds-t-from : goal.offset_bounds-t-from
offset_bounds-t-from c =
    let start = c in
    omega (arith, c.from.ensures, folder_firm c.args.t.now.tables c.args.t.now.given c.args.o c.requires.1)

pub bounds-t-from : goal.bounds-t-from
bounds-t-from c =
    let start = c in
    omega (arith, c.from.ensures, folder_firm c.args.t.now.tables c.args.t.now.given c.args.o c.requires.1)

pub loop-i-init : goal.loop-i-init
loop-i-init c = (search rules, search_start _ _ _ _ _)

pub offset_bounds-t-from-in-loop-i : goal.offset_bounds-t-from-in-loop-i
offset_bounds-t-from-in-loop-i c =
    let start = c in
    omega (arith, c.from-in-loop-i.ensures, any_firm_below c.args.t.now.tables c.args.t.now.given c.loop-i.i (omega arith))

pub bounds-t-from-in-loop-i : goal.bounds-t-from-in-loop-i
bounds-t-from-in-loop-i c =
    let start = c in
    omega (arith, c.from-in-loop-i.ensures, any_firm_below c.args.t.now.tables c.args.t.now.given c.loop-i.i (omega arith))

pub bears_on-requires : goal.bears_on-requires
bears_on-requires c =
    let start = c in
    (person_below_lem c.args.t.now.tables c.args.s c.requires.0, omega arith)

pub returns-then-folder-asked : goal.returns-then-folder-asked
unfolding bears_at class_of
returns-then-folder-asked c =
    let start = c in
    let args = c.args in
    let bears = c.bears_on in
    let loop = c.loop-i in
    sym
    (wall_own args.t.now.tables args.h.now args.s c.requires.0 args.o loop.i (omega arith)
    (rw (c.from-in-loop-i.ensures, c.from.ensures) at (sym bears.ensures ∙ c.if-bears_on.true)) c.if-folder-asked.true)

pub loop-i-preserved : goal.loop-i-preserved
unfolding bears_at
loop-i-preserved c =
    let loop = c.loop-i in
    let bears = c.bears_on in (
      search rules,
      elim c.if-bears_on.branch [
        | then-bears_on+else-folder-asked w ↦
            rw w.rival-is
            (search_rival _ _ _ _ _ loop.i loop.invariant.1 (rw c.from-in-loop-i.ensures at (sym bears.ensures ∙ w.if-bears_on.true))
            (ne_eqb _ _ w.if-folder-asked.false))
        | else-bears_on w ↦
            rw w.rival-is (search_past _ _ _ _ _ loop.i loop.invariant.1
            (rw c.from-in-loop-i.ensures at (sym bears.ensures ∙ w.if-bears_on.false)))
      ],
    )

pub returns : goal.returns
unfolding class_of
returns c =
    let start = c in
    let args = c.args in
    let loop = c.loop-i in
    let all : loop.i ≡ 128 = omega arith in
    let closed = c.if-asked.false in
    wall_searched args.t.now.tables args.h.now args.s c.requires.0 args.o closed (rw (all, c.from.ensures) at loop.invariant.1)
