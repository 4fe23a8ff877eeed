-- Rows of which none is muted.
use Rattle.std.specs.Prelude.{Bool, true, List, [], ◌∷◌, ◌&&◌, map}
use Rattle.sheet.specs.declared.row.Row.{Row}
use Rattle.sheet.specs.declared.term.Term.{Term}
use Rattle.engine.specs.declared.noted.Noted.{Noted}
use Rattle.engine.specs.States.{State}

abbrev pub all_unmuted : List Noted → Bool
all_unmuted [] = true
all_unmuted (m ∷ ms) = m.active && all_unmuted ms

-- rows without their marks
abbrev pub unmarked : List Noted → List Row
unmarked ms = map (λ (m : Noted). m.row) ms

-- what an engine holds that holds these terms and rows, no row muted and no code placed
abbrev pub standing_state : List Term → List Row → State
standing_state ts rows = record { terms = ts; rows = map (λ r. record { row = r; active = true }) rows; codes = [] }
