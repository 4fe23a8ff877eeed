-- The seats that are placed, each by its term and its rank.
use Rattle.std.specs.Prelude.{ℕ, List, map}
use Rattle.std.specs.List.{zip}
use Rattle.sheet.specs.declared.term.Term.{Term}
use Rattle.engine.specs.declared.placed.Placed.{Placed}
use Rattle.engine.specs.Arrangements.{ranks}
use Rattle.engine.specs.States.{State}
use Rattle.engine.specs.Terms.{seats_of}

abbrev pub placed_at : ℕ × ℕ → Placed
placed_at p = record { term = p.0; rank = p.1 }

-- each seat of the terms that has a code
abbrev pub placed_seats_of : List Term → List ℕ → List Placed
placed_seats_of ts codes = map placed_at (zip (seats_of ts) (ranks codes))

abbrev pub placed_seats : State → List Placed
placed_seats s = placed_seats_of s.terms s.codes
