-- What the table engine holds.
use Rattle.engine.specs.Holding.{state_of}
use Rattle.engine.specs.States.{State}
use Rattle.table.specs.declared.table.Table.{Table}

abbrev pub state_in : Table → State
state_in e = state_of e.held
