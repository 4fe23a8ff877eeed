use Rattle.std.proofs.Common.{◌≡◌, map}
use Rattle.parts.specs.Seats.{seat_at}
use Rattle.parts.proofs.instants.list_seats.Given as goal

-- the seats passed are listed
abbrev pub invariant-loop-place : goal.invariant-loop-place
invariant-loop-place l = l.seats.items ≡ map seat_at (map (λ p. (p.0, ((p.1.0.0.now, p.1.0.1.now), p.1.1.now))) l.yielded)
