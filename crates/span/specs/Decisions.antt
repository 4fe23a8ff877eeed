-- When the constraints have a solution.
use Rattle.std.specs.Prelude.{◌≡◌, ℕ, Bool, true, false, List, length, ℤ}
use Rattle.graph.specs.declared.Edge.{Edge}
use Rattle.graph.specs.Claims.{after}
use Rattle.graph.specs.Graph.{NegativeCycle, is_stable}
use Rattle.sheet.specs.declared.row.Row.{Row}
use Rattle.sheet.specs.declared.term.Term.{Term}
use Rattle.engine.specs.Limits.{max_terms}
use Rattle.engine.specs.Meaning.{Numbers}
use Rattle.engine.specs.Rules.{SpanFits}
use Rattle.engine.specs.States.{State, active_rows}
use Rattle.engine.specs.Terms.{seats_of}
use Rattle.span.specs.Constraints.{constraints}

-- the constraints of what an engine holds
abbrev pub constraints_of : State → List Edge
constraints_of s = constraints s.terms (active_rows s.rows) s.codes

-- whether no edge lowers a distance any more, one round for each dated term done. There is a vertex for each term that there can be
abbrev pub becomes_stable : List Term → List Row → List ℕ → Bool
becomes_stable ts rows codes = is_stable (constraints ts rows codes) (after max_terms (length (seats_of ts)) (constraints ts rows codes))

-- numbers that fit the rows and the codes exist exactly when that is so, and exactly when the graph has no negative cycle
pub record Decision (ts : List Term) (rows : List Row) (codes : List ℕ) (answer : Bool) : Type 0 where
  pub rounds : answer ≡ becomes_stable ts rows codes
  pub solved : answer ≡ true → (v : Numbers) × SpanFits ts rows codes v
  pub unsolved : answer ≡ false → (v : Numbers) → SpanFits ts rows codes v → ⊥
  pub cycle : answer ≡ false → NegativeCycle (constraints ts rows codes)
  pub no_cycle : answer ≡ true → NegativeCycle (constraints ts rows codes) → ⊥

abbrev pub DecisionOf : State → Bool → Type 0
DecisionOf s answer = Decision s.terms (active_rows s.rows) s.codes answer

abbrev pub becomes_stable_of : State → Bool
becomes_stable_of s = becomes_stable s.terms (active_rows s.rows) s.codes

-- the distances of the terms after these rounds
abbrev pub distances_of : State → List ℤ
distances_of s = after max_terms (length (seats_of s.terms)) (constraints_of s)
