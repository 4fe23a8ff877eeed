-- Over the same rows at most one thing can be found, and so told.
use Rattle.std.proofs.Common.{ℕ, List}
use Rattle.sheet.specs.declared.row.Row.{Row}
use Rattle.sheet.specs.declared.term.Term.{Term}
use Rattle.search.specs.Verdicts.{Judged}
use Rattle.search.proofs.Only as search
use Rattle.runs.specs.Judging.{JudgedTruly}
use Rattle.runs.proofs.Determined.{OnlyOne}

module _ (first second : List Term → List Row → List ℕ → Type 0) (ts : List Term) where
  pub judged_only : OnlyOne (Judged first second ts)
  judged_only = search.judged_only first second ts

  pub judged_truly_only : OnlyOne (JudgedTruly first second ts)
  judged_truly_only rows f g h k = judged_only rows f g h.0 k.0
