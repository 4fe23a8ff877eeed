-- What a verdict means for the rows.
use Rattle.std.specs.Prelude.{ℕ, List}
use Rattle.sheet.specs.declared.row.Row.{Row}
use Rattle.sheet.specs.declared.term.Term.{Term}
use Rattle.engine.specs.Meaning.{Satisfiable}
use Rattle.search.specs.Verdicts.{Finding, Judged, arranged, clash}

-- a clash says that no whole numbers and tables make every row true, and an arrangement says that some do
abbrev pub SaysTruth : List Term → List Row → Finding → Type 0
SaysTruth ts rows (arranged codes) = Satisfiable ts rows
SaysTruth ts rows (clash places) = Satisfiable ts rows → ⊥

-- what is found over two rules that are exact together
abbrev pub JudgedTruly : (List Term → List Row → List ℕ → Type 0) → (List Term → List Row → List ℕ → Type 0) → List Term → List Row → Finding → Type 0
JudgedTruly first second ts rows found = Judged first second ts rows found × SaysTruth ts rows found
