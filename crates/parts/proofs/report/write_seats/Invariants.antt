use Rattle.std.proofs.Common.{◌≡◌, ◌++◌, codes, take, string_bytes}
use Rattle.parts.specs.Lines.{seat_lines}
use Rattle.parts.proofs.report.write_seats.Given as goal

-- the lines of the seats passed are written
abbrev pub invariant-loop-seat : goal.invariant-loop-seat
invariant-loop-seat l = string_bytes l.text ≡ codes "instants met" ++ seat_lines (take l.seat-index l.seats)
