use Rattle.std.proofs.Common.{◌≡◌, take}
use Rattle.engine.specs.Meaning.{numbers_in}
use Rattle.model.specs.PickedEntries.{entries_once}
use Rattle.setup.proofs.entries.list_entries.Given as goal

-- the entries of the terms passed are listed
abbrev pub invariant-loop-index : goal.invariant-loop-index
invariant-loop-index l = l.entries.items ≡ entries_once (take l.index l.terms) (numbers_in l.numbers)
