-- What the program tells of a sheet, in the words of what sheets mean.
use Rattle.std.specs.Prelude.{◌↔◌, ℕ, IsSome, IsTrue, List, [], Ok, Err, Result}
use Rattle.sheet.specs.declared.refusal.Refusal.{Refusal}
use Rattle.engine.specs.Dates.{GreatestDates}
use Rattle.engine.specs.Parts.{InstantsMet, LevelsMet}
use Rattle.engine.specs.Rules.{SpanAllowed, TableAllowed}
use Rattle.engine.specs.States.{State, active_rows}
use Rattle.span.specs.Dating.{counts_spans}
use Rattle.parts.specs.declared.diagnosis.Findings.{Findings}
use Rattle.parts.specs.Diagnoses.{Diagnosed}
use Rattle.parts.specs.Noting.{FieldsNoted, StopsAt}

-- S and T, the letters of the span engine and of the table engine
abbrev pub span_letter : ℕ
span_letter = 83

abbrev pub table_letter : ℕ
table_letter = 84

-- the whole sheet is noted, and of its terms and rows it is told whether the instants alone can be met, and the levels alone
pub record ToldOf (sheet : List ℕ) (f : Findings) : Type 0 where
  pub noted : State
  pub walk : FieldsNoted span_letter sheet noted []
  pub instants : IsSome f.instants ↔ InstantsMet (active_rows noted.rows)
  pub levels : IsTrue f.levels ↔ LevelsMet noted.terms (active_rows noted.rows)

-- or it is told which field is refused, and why
abbrev pub Told : List ℕ → Result Findings Refusal → Type 0
Told sheet (Ok f) = ToldOf sheet f
Told sheet (Err e) = StopsAt span_letter sheet e

-- and with it the first arrangement of the instants, and its dates: what the span engine and the table engine say
abbrev pub PartsDiagnosed : List ℕ → Result Findings Refusal → Type 0
PartsDiagnosed sheet d = (t u₀ u : State) × Diagnosed SpanAllowed counts_spans GreatestDates span_letter TableAllowed table_letter sheet t u₀ u d
