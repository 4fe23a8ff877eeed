-- What comes of each call of an engine. The grounds for a refusal are tried from the top down, and a refusal changes nothing.
use Rattle.std.specs.Prelude.{ℕ, zero, suc, ◌-◌, ◌*◌, Bool, true, List, [], ◌∷◌, ◌++◌, length, take, Some, None, Option, ◌==◌, nat_le, nat_lt}
use Rattle.sheet.specs.declared.fault.Cause.{Cause}
use Rattle.sheet.specs.declared.fault.Cause.TheVariants.{EverySeatPlaced, CodeTooHigh, NoCodeToLift, NoSuchRow, CodesPlaced}
use Rattle.sheet.specs.declared.row.Row.{Row}
use Rattle.sheet.specs.declared.term.Term.{Term}
use Rattle.engine.specs.declared.noted.Noted.{Noted}
use Rattle.engine.specs.Terms.{seats_of}
use Rattle.engine.specs.Refusals.{first_ground, term_refusal, row_refusal, strike_refusal}
use Rattle.engine.specs.Arrangements.{blocks}
use Rattle.engine.specs.States.{State, with_terms, with_rows, with_code, with_codes}

-- why a call is refused, if it is, and the state that follows
pub record Outcome : Type 0 where
  pub refusal : Option Cause
  pub next : State

-- a refusal leaves what there was
abbrev pub unless_refused : {X : Type 0} → Option Cause → X → X → X
unless_refused None old new = new
unless_refused (Some c) old new = old

abbrev pub attempt : State → Option Cause → State → Outcome
attempt s o t = record { refusal = o; next = unless_refused o s t }

infixr 20 ◌or_else◌
abbrev pub ◌or_else◌ : Option Cause → Option Cause → Option Cause
None or_else b = b
(Some c) or_else b = Some c

-- terms, rows and marks are not touched while codes are placed
abbrev pub codes_refusal : State → Option Cause
codes_refusal s = first_ground ((nat_lt 0 (length s.codes), CodesPlaced) ∷ [])

abbrev pub without_last : {X : Type 0} → List X → List X
without_last xs = take (length xs - 1) xs

-- note term adds at the end
abbrev pub on_note_term : State → Term → Outcome
on_note_term s t = attempt s (term_refusal s.terms t or_else codes_refusal s) (with_terms s (s.terms ++ t ∷ []))

-- note row adds at the end, and the new row is active
abbrev pub on_note_row : State → Row → Outcome
on_note_row s r = attempt s (row_refusal s.terms (length s.rows) r or_else codes_refusal s) (with_rows s (s.rows ++ record { row = r; active = true } ∷ []))

-- strike removes the last row
abbrev pub on_strike : State → Outcome
on_strike s = attempt s (strike_refusal (length s.rows) or_else codes_refusal s) (with_rows s (without_last s.rows))

-- the rows with row i made active, or muted
abbrev pub rows_with_mark : ℕ → Bool → List Noted → List Noted
rows_with_mark i b [] = []
rows_with_mark zero b (m ∷ ms) = record { row = m.row; active = b } ∷ ms
rows_with_mark (suc i) b (m ∷ ms) = m ∷ rows_with_mark i b ms

-- mute and unmute set the mark of a row, whatever it was
abbrev pub on_mark : State → ℕ → Bool → Outcome
on_mark s i b = attempt s (first_ground ((nat_le (length s.rows) i, NoSuchRow) ∷ []) or_else codes_refusal s) (with_rows s (rows_with_mark i b s.rows))

-- place adds a code
abbrev pub on_place : State → ℕ → Outcome
on_place s c = attempt s
    (first_ground ((nat_le (length (seats_of s.terms)) (length s.codes), EverySeatPlaced) ∷ (nat_lt (2 * blocks s.codes) c, CodeTooHigh) ∷ []))
    (with_code s c)

-- lift removes the last code
abbrev pub on_lift : State → Outcome
on_lift s = attempt s (first_ground (((length s.codes == 0), NoCodeToLift) ∷ [])) (with_codes s (without_last s.codes))
