use Rattle.std.proofs.Common.{◌≡◌, take, string_bytes}
use Rattle.benchrun.specs.Lines.{setup_lines}
use Rattle.benchrun.proofs.lines.write_setup.Given as goal

-- the lines of the seats passed are written
abbrev pub invariant-loop-seat : goal.invariant-loop-seat
invariant-loop-seat l = string_bytes l.text ≡ setup_lines (take l.seat-counter l.codes)
