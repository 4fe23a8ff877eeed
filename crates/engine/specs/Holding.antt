-- What the code holds, as lists.
use Rattle.std.specs.Prelude.{vec_items}
use Rattle.engine.specs.declared.holdings.Holdings.{Holdings}
use Rattle.engine.specs.States.{State}

abbrev pub state_of : Holdings → State
state_of h = record { terms = vec_items h.terms; rows = vec_items h.rows; codes = vec_items h.codes }
