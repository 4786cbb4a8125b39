-- `wall::bears_on` answers whether a folder bears on an access: each test that fails says no, and the last says whether the person read
-- the folder, wrote in it or stepped on it.
use mathlib.Core.Path.{sym, ◌∙◌}
use mathlib.Core.Bool.{false≢true}
use Rattle.past.specs.Wall.{bears}
use Rattle.past.proofs.wall.bears_on.Goals as goal
use Rattle.past.proofs.wall.bears_on.Goals.{then-folder, else-folder, then-not-folder, else-not-folder}

pub returns-then-firm-class : goal.returns-then-firm-class
unfolding bears
returns-then-firm-class c =
    elim c.if-not-folder.branch [
      | then-not-folder w ↦
          elim c.if-folder.branch [
            | then-folder v ↦
                let inner = sym v.value-is ∙ w.if-not-folder.true in
                let near = sym w.value-is ∙ c.if-firm-class.true in
                rw (v.if-folder.true, inner, near) c.is_touched.ensures
            | else-folder v ↦ absurd (false≢true (sym v.if-folder.false ∙ sym v.value-is ∙ w.if-not-folder.true))
          ]
      | else-not-folder w ↦ absurd (false≢true (sym w.if-not-folder.false ∙ sym w.value-is ∙ c.if-firm-class.true))
    ]

pub returns-else-firm-class : goal.returns-else-firm-class
unfolding bears
returns-else-firm-class c =
    elim c.if-folder.branch [
      | then-folder v ↦
          elim c.if-not-folder.branch [
            | then-not-folder w ↦
                let inner = sym v.value-is ∙ w.if-not-folder.true in
                let far = sym w.value-is ∙ c.if-firm-class.false in
                rw (c.if-firm-class.false, v.if-folder.true, inner, far)
            | else-not-folder w ↦
                let shut = sym v.value-is ∙ w.if-not-folder.false in
                rw (c.if-firm-class.false, v.if-folder.true, shut)
          ]
      | else-folder v ↦ rw (c.if-firm-class.false, v.if-folder.false)
    ]
