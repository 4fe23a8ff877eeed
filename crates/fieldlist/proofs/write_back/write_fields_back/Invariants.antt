use Rattle.std.proofs.Common.{◌≡◌, ◌+◌, length}
use Rattle.fieldlist.proofs.Walking.{Copied, Walked}
use Rattle.fieldlist.proofs.write_back.write_fields_back.Given as goal

-- the fields passed are counted, found alike, and in the buffer
abbrev pub invariant-loop-item : goal.invariant-loop-item
invariant-loop-item l = let t = l.item-iterator.rest.now in (l.item-iterator.sheet.now ≡ l.sheet) × Walked l.sheet t l.fields × (l.fields_alike ≡ l.fields) × (l.bytes_alike + length t ≡ length l.sheet) × Copied l.sheet t l.buffer
