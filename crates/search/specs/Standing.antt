-- What stands, as lists.
use Rattle.std.specs.Prelude.{List}
use Rattle.sheet.specs.declared.row.Row.{Row}
use Rattle.sheet.specs.declared.term.Term.{Term}
use Rattle.engine.specs.Holding.{state_of}
use Rattle.engine.specs.States.{State}
use Rattle.search.specs.declared.standing.Standing.{Standing}
use Rattle.search.specs.Unmuted.{unmarked}

-- what stands, as an engine holds it
abbrev pub state_in : Standing → State
state_in s = state_of s.held

-- the terms declared, zero first
abbrev pub terms_of : Standing → List Term
terms_of s = (state_in s).terms

-- the rows that stand
abbrev pub rows_of : Standing → List Row
rows_of s = unmarked (state_in s).rows
