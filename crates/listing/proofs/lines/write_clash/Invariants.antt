use Rattle.std.proofs.Common.{◌≡◌, take, string_bytes}
use Rattle.listing.specs.Lines.{clash_text}
use Rattle.listing.proofs.lines.write_clash.Given as goal

-- the lines of the rows passed are written
abbrev pub invariant-loop-row : goal.invariant-loop-row
invariant-loop-row l = string_bytes l.text ≡ clash_text (take l.row-index l.rows)
