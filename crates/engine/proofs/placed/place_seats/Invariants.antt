use Rattle.std.proofs.Common.{◌≡◌, map}
use Rattle.engine.specs.Placing.{placed_at}
use Rattle.engine.proofs.placed.place_seats.Given as goal

-- the seats passed are placed
abbrev pub invariant-loop-term : goal.invariant-loop-term
invariant-loop-term l = l.placed.items ≡ map placed_at (map (λ p. (p.0.now, p.1.now)) l.yielded)
