use Rattle.std.proofs.Common.{◌≡◌, take}
use Rattle.span.specs.Dating.{from_zero}
use Rattle.span.proofs.span_dating.dates_from_distances.Given as goal

-- the seats passed are dated
abbrev pub invariant-loop-term : goal.invariant-loop-term
invariant-loop-term l = l.dates.items ≡ from_zero l.distances (take l.term-index l.seats)
