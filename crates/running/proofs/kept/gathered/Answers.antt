-- `gathered` has each part by the function of its own.
use Rattle.running.proofs.kept.gathered.Goals as goal

pub returns : goal.returns
returns c =
    record {
      firms = c.firms.ensures;
      holding = c.holding.ensures;
      done = c.done-done.ensures;
      next = c.next.ensures _ c.done-done.ensures;
      levels = c.gather.ensures;
    }
