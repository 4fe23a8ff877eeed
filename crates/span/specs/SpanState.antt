-- What the span engine holds.
use Rattle.engine.specs.Holding.{state_of}
use Rattle.engine.specs.States.{State}
use Rattle.span.specs.declared.span.Span.{Span}

abbrev pub state_in : Span → State
state_in e = state_of e.held
