-- `print_lines` ends: each turn prints at least one line where a line is left, since a line fits the empty buffer.
use Rattle.std.proofs.Common.{◌-◌, length}
use Rattle.answers.proofs.print_lines.Given as goal

abbrev pub decreases-loop-first : goal.decreases-loop-first
decreases-loop-first g l = length l.answers - l.first
