-- A rule that is asked where some tests hold: of a pair that it is not asked about it is true, and of any other what it says.
use mathlib.Core.Path.{◌≡◌, refl, sym}
use mathlib.Core.Bool.{Bool, true, false, not, ◌||◌, false≢true}
use Rattle.bits.specs.Bounded.{◌implies◌}
use Rattle.listed.specs.declared.pairs.Side.{Side}
use Rattle.listed.specs.Pairs.{levels_pass, steps_pass, precedes}

pub passes_unasked : (asked p : Bool) → asked ≡ false → not asked ≡ (asked implies p)
passes_unasked asked p e = rw e

pub passes_asked : (asked p : Bool) → asked ≡ true → p ≡ (asked implies p)
passes_asked asked p e = rw e

-- a job about which no rule on pairs asks may come before every job
pub unasked : (x y : Side) → x.lowers || x.steps ≡ false → precedes x y ≡ true
unfolding precedes levels_pass steps_pass
unasked x y none =
    let levels = neither_first x.lowers x.steps none in
    let steps = neither_second x.lowers x.steps none in
    rw (levels, steps)
  where
    neither_first : (a b : Bool) → a || b ≡ false → a ≡ false
    neither_first true b e = absurd (false≢true (sym e))
    neither_first false b e = refl

    neither_second : (a b : Bool) → a || b ≡ false → b ≡ false
    neither_second true b e = absurd (false≢true (sym e))
    neither_second false b e = e
