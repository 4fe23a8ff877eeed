-- The lines that the program prints, byte for byte.
use Rattle.std.specs.Prelude.{◌≡◌, ℕ, Bool, if◌then◌else◌, List, ◌∷◌, ◌++◌, ℤ, Some, None, Ok, Err, Option, Result, codes}
use Rattle.std.specs.List.{flat_map}
use Rattle.arrayvec.specs.ArrayVec.{ArrayVec}
use Rattle.sheet.specs.declared.refusal.Refusal.{Refusal}
use Rattle.sheet.specs.declared.row.Row.{Row}
use Rattle.sheet.specs.declared.term.Term.{Term}
use Rattle.sheet.specs.Words.{words_of_refusal}
use Rattle.engine.specs.Rows.{RowKind}
use Rattle.engine.specs.States.{State}
use Rattle.parts.specs.declared.diagnosis.Findings.{Findings}
use Rattle.parts.specs.declared.seat.Seat.{Seat}
use Rattle.parts.specs.Diagnoses.{Diagnosed}
use Rattle.parts.specs.Seats.{seat_line}

-- a line for each seat, behind a line feed
abbrev pub seat_lines : List Seat → List ℕ
seat_lines seats = flat_map (λ s. 10 ∷ seat_line s) seats

-- the instants: met, with a line for each seat, or unmet
abbrev pub instants_lines : Option (ArrayVec Seat) → List ℕ
instants_lines (Some seats) = codes "instants met" ++ seat_lines seats.items
instants_lines None = codes "instants unmet"

abbrev pub levels_line : Bool → List ℕ
levels_line b = if b then codes "levels met" else codes "levels unmet"

-- first the instants, then the levels, behind a line feed
abbrev pub findings_lines : Findings → List ℕ
findings_lines f = instants_lines f.instants ++ 10 ∷ levels_line f.levels

-- all that is printed, but for the end of the last line
abbrev pub report_of : Result Findings Refusal → List ℕ
report_of (Ok f) = findings_lines f
report_of (Err e) = words_of_refusal e

-- every diagnosis of the sheet has these lines, whatever the engines hold before it and after it: a sheet has one report
abbrev pub OnlyReport : (List Term → List Row → List ℕ → Type 0) → (RowKind → Bool) → (List Term → List Row → List ℕ → List ℤ → Type 0) → ℕ → (List Term → List Row → List ℕ → Type 0) → ℕ → List ℕ → List ℕ → Type 0
OnlyReport rule counts picks letter levels_rule levels_letter sheet text = (t u₀ u : State) (d : Result Findings Refusal) → Diagnosed rule counts picks letter levels_rule levels_letter sheet t u₀ u d → report_of d ≡ text
