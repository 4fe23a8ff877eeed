-- Why a term or a row is refused, or a strike. The grounds are tried from the top down, and there is no other.
-- A draft, a bench and an engine have these in common; each refuses with the letter of its own layer.
use Rattle.std.specs.Prelude.{ℕ, Bool, if◌then◌else◌, not, ◌&&◌, List, [], ◌∷◌, length, Some, None, Ok, Err, Option, Result, ◌==◌, nat_le}
use Rattle.sheet.specs.declared.fault.Cause.{Cause}
use Rattle.sheet.specs.declared.fault.Cause.TheVariants.{MalformedTerm, TermsFull, DatedTermsFull, ArgumentNotEarlier, OtherArgumentCount, RowsFull, NoSuchTerm, SpanOnLevel, BoundPastLimit, NoRowToStrike}
use Rattle.sheet.specs.declared.fault.Fault.{Fault}
use Rattle.sheet.specs.declared.row.Row.{Row}
use Rattle.sheet.specs.declared.term.Term.{Term}
use Rattle.sheet.specs.Causes.{in_layer}
use Rattle.sheet.specs.Terms.{is_dated, well_lettered}
use Rattle.engine.specs.Limits.{max_terms, max_seats, max_rows}
use Rattle.engine.specs.Terms.{seats_of, arguments_below, any_count_differs}
use Rattle.engine.specs.Rows.{terms_below, is_span_on_level, bound_past_limit}

-- the cause of the first test that holds
abbrev pub first_ground : List (Bool × Cause) → Option Cause
first_ground [] = None
first_ground (g ∷ gs) = if g.0 then Some g.1 else first_ground gs

-- why the terms ts cannot take the term t: for declaring a term, and for noting one
abbrev pub term_refusal : List Term → Term → Option Cause
term_refusal ts t = first_ground (
    (not (well_lettered t.form), MalformedTerm)
    ∷ (nat_le max_terms (length ts), TermsFull)
    ∷ (is_dated t.kind && nat_le max_seats (length (seats_of ts)), DatedTermsFull)
    ∷ (not (arguments_below (length ts) t.form), ArgumentNotEarlier)
    ∷ (any_count_differs t.form ts, OtherArgumentCount)
    ∷ [])

-- why a row cannot follow n rows over the terms ts: for entering a row, and for noting one
abbrev pub row_refusal : List Term → ℕ → Row → Option Cause
row_refusal ts n r = first_ground (
    (nat_le max_rows n, RowsFull)
    ∷ (not (terms_below (length ts) r), NoSuchTerm)
    ∷ (is_span_on_level ts r, SpanOnLevel)
    ∷ (bound_past_limit r, BoundPastLimit)
    ∷ [])

-- why the last of n rows cannot be struck
abbrev pub strike_refusal : ℕ → Option Cause
strike_refusal n = first_ground (((n == 0), NoRowToStrike) ∷ [])

-- what a call answers: the cause for which it refuses, if there is one
abbrev pub answer_of : Option Cause → Result (Unit {0}) Cause
answer_of None = Ok tt
answer_of (Some c) = Err c

-- the same, in the layer with this letter
abbrev pub answer_in : ℕ → Option Cause → Result (Unit {0}) Fault
answer_in letter o = in_layer letter (answer_of o)
