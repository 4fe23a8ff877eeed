-- What a result with its set-up holds.
use Rattle.std.specs.Prelude.{List, Option, ℤ}
use Rattle.engine.specs.declared.dating.Dating as dating
use Rattle.engine.specs.declared.engine.Engine as engine
use Rattle.sheet.specs.declared.row.Row.{Row}
use Rattle.sheet.specs.declared.term.Term.{Term}
use Rattle.search.specs.Verdicts.{Finding}
use Rattle.bench.specs.declared.shown.Shown.{Shown}
use Rattle.bench.specs.Benches.{found, rows_shown, terms_shown}
use Rattle.congruence.specs.declared.entry.Entry.{Entry}
use Rattle.table.specs.declared.table.Table.{Table}
use Rattle.table.specs.contracts.table_engine.TableEngine.TheImpl.{ghosts}
use Rattle.setup.specs.declared.set_up.SetUp.{SetUp}
use Rattle.setup.specs.declared.solved.Solved.{Solved}

-- the numbers and the entries of a set-up
abbrev pub numbers_in_set_up : SetUp → List ℤ
numbers_in_set_up u = u.numbers.items

abbrev pub entries_in_set_up : SetUp → List Entry
entries_in_set_up u = u.entries.items

module _ {S : Type 0} {e : engine.Ghosts S} {d : dating.Ghosts S} where
  -- the set-up, where an arrangement was found
  abbrev pub set_up_in : Solved S d e → Option SetUp
  set_up_in r = r.set_up

  -- the result itself
  abbrev pub shown_in : Solved S d e → Shown Table S ghosts e
  shown_in r = r.shown

  -- what was found, and the terms and rows that stand
  abbrev pub found_in : Solved S d e → Finding
  found_in r = found r.shown

  abbrev pub terms_in : Solved S d e → List Term
  terms_in r = terms_shown r.shown

  abbrev pub rows_in : Solved S d e → List Row
  rows_in r = rows_shown r.shown
