use Rattle.std.proofs.Common.{◌≡◌, ◌+◌, ◌≤◌, length, string_bytes}
use Rattle.fieldlist.specs.Listing.{Lines}
use Rattle.fieldlist.proofs.listing.list_fields.Given as goal

-- the lines of the fields passed are written, and a field takes a byte at least
abbrev pub invariant-loop-item : goal.invariant-loop-item
invariant-loop-item l = let t = l.item-iterator.rest.now in (l.item-iterator.sheet.now ≡ l.sheet) × Lines l.sheet l.terms l.rows (string_bytes l.text) t × (l.terms + l.rows + length t ≤ length l.sheet)
