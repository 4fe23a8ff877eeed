use Rattle.std.proofs.Common.{◌≡◌}
use Rattle.parts.proofs.Walking.{Walked}
use Rattle.parts.proofs.note_sheet.note_fields.Given as goal

-- the fields passed are noted, and the counts and the list of seats follow
abbrev pub invariant-loop-item : goal.invariant-loop-item
invariant-loop-item g l = (l.item-iterator.sheet.now ≡ l.sheet) × Walked g.E.Engine.LETTER l.sheet l.item-iterator.rest.now (g.E.Engine.state l.engine) l.terms l.has_row l.seats.items × (g.E.Engine.setting l.engine ≡ g.E.Engine.setting l.initial.engine)
