-- Over the same rows at most one thing can be found: one arrangement, or one list of places.
use Rattle.std.proofs.Common.{◌≡◌, ℕ, List, ap}
use Rattle.sheet.specs.declared.row.Row.{Row}
use Rattle.sheet.specs.declared.term.Term.{Term}
use Rattle.search.specs.Verdicts.{Finding, Judged, arranged, clash}
use Rattle.search.proofs.Cores.{walk_only}
use Rattle.search.proofs.Firsts.{first_only}

module _ (first second : List Term → List Row → List ℕ → Type 0) (ts : List Term) where
  -- an arrangement found first is one that is possible, and a clash is found where none is
  pub judged_only : (rows : List Row) (f g : Finding) → Judged first second ts rows f → Judged first second ts rows g → f ≡ g
  judged_only rows (arranged cs) (arranged ds) f g = ap arranged (first_only f g)
  judged_only rows (arranged cs) (clash qs) f g = absurd (g.0 (cs, f.allowed))
  judged_only rows (clash ps) (arranged ds) f g = absurd (f.0 (ds, g.allowed))
  judged_only rows (clash ps) (clash qs) f g = ap clash (walk_only f.1.walk g.1.walk)
