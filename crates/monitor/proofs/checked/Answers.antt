-- `checked` refuses with 10 a history of another length, with 20 levels of another length, then with 11 tables that no load gives; where all
-- three pass, nothing refuses.
use mathlib.Core.Path.{refl, sym, ◌∙◌}
use Rattle.loaded.proofs.CallLaws.{wrong_length, wrong_levels, all_pass}
use Rattle.monitor.proofs.CallLaws.{not_given}
use Rattle.monitor.proofs.checked.Goals as goal

pub returns-then-h-ne-BYTES : goal.returns-then-h-ne-BYTES
returns-then-h-ne-BYTES c = record { ok = tt; err = sym (wrong_length _ _ c.if-h-ne-BYTES.true) }

pub returns-then-levels-ne-BYTES : goal.returns-then-levels-ne-BYTES
returns-then-levels-ne-BYTES c =
    record { ok = tt; err = sym (wrong_levels _ _ c.if-h-ne-BYTES.false c.if-levels-ne-BYTES.true) }

pub returns-then-not-given : goal.returns-then-not-given
returns-then-not-given c =
    record { ok = tt; err = sym (not_given _ _ c.if-h-ne-BYTES.false c.if-levels-ne-BYTES.false (sym c.given.ensures ∙ c.if-not-given.true)) }

pub returns : goal.returns
returns c =
    record {
      ok = (refl, all_pass _ _ c.if-h-ne-BYTES.false c.if-levels-ne-BYTES.false (sym c.given.ensures ∙ c.if-not-given.false));
      err = tt;
    }
