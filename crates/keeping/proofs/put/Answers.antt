-- `put` asks about what is in force: no rule of the mask is beyond what each call asks about.
use mathlib.Core.Path.{refl, sym}
use Rattle.policy.specs.Tables.{wall_rule, roles_rule, pipeline_rule}
use Rattle.keeping.proofs.FewerLaws.{not_among}
use Rattle.keeping.proofs.put.Goals as goal

pub put_by-requires : goal.put_by-requires
put_by-requires c =
    let none = not_among c.args.fixed.now.mask 13 in
    let e = c.if-fixed-eq0.true in (
      c.requires.0,
      c.requires.1,
      record { walls = sym (none wall_rule e refl); rights = sym (none roles_rule e refl); steps = sym (none pipeline_rule e refl) },
    )

pub put_by-requires-then-fixed-eq0-2 : goal.put_by-requires-then-fixed-eq0-2
put_by-requires-then-fixed-eq0-2 c =
    let none = not_among c.args.fixed.now.mask 12 in
    let e = c.if-fixed-eq0-2.true in (
      c.requires.0,
      c.requires.1,
      record { walls = refl; rights = sym (none roles_rule e refl); steps = sym (none pipeline_rule e refl) },
    )

pub put_by-requires-then-fixed-eq0-3 : goal.put_by-requires-then-fixed-eq0-3
put_by-requires-then-fixed-eq0-3 c =
    let none = not_among c.args.fixed.now.mask 5 in
    let e = c.if-fixed-eq0-3.true in (
      c.requires.0,
      c.requires.1,
      record { walls = sym (none wall_rule e refl); rights = sym (none roles_rule e refl); steps = refl },
    )

pub put_by-requires-then-fixed-eq0-4 : goal.put_by-requires-then-fixed-eq0-4
put_by-requires-then-fixed-eq0-4 c =
    let none = not_among c.args.fixed.now.mask 9 in
    let e = c.if-fixed-eq0-4.true in (
      c.requires.0,
      c.requires.1,
      record { walls = sym (none wall_rule e refl); rights = refl; steps = sym (none pipeline_rule e refl) },
    )
