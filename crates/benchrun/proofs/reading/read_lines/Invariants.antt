use Rattle.std.proofs.Common.{◌≡◌, ◌++◌, length, vec_items}
use Rattle.benchrun.specs.Sessions.{commands_in}
use Rattle.benchrun.proofs.reading.read_lines.Given as goal

-- the lines passed are read
abbrev pub invariant-loop-line : goal.invariant-loop-line
invariant-loop-line l = commands_in l.lines ≡ vec_items l.said ++ commands_in l.rest

abbrev pub decreases-loop-line : goal.decreases-loop-line
decreases-loop-line l = length l.rest
