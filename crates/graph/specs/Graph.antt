-- Difference constraints as a graph: solutions, walks, and the distances that relaxing the edges makes.
use Rattle.std.specs.Prelude.{◌≡◌, ℕ, zero, suc, ◌<◌, Bool, true, if◌then◌else◌, not, ◌&&◌, List, [], ◌∷◌, ℤ, pos, ◌+ℤ◌, ◌≤ℤ◌, ◌<ℤ◌, int_lt, slice_index_or, slice_set, All, Contains}
use Rattle.std.specs.Fn.{iterate}
use Rattle.graph.specs.declared.Edge.{Edge}

-- both ends of every edge are below n
abbrev pub Within : ℕ → List Edge → Type 0
Within n es = All (λ e. (e.to < n) × (e.from < n)) es

-- the numbers x meet the constraint of an edge
abbrev pub EdgeHolds : (ℕ → ℤ) → Edge → Type 0
EdgeHolds x e = x e.to ≤ℤ (x e.from +ℤ e.weight)

abbrev pub Solution : List Edge → (ℕ → ℤ) → Type 0
Solution es x = All (EdgeHolds x) es

abbrev pub Feasible : List Edge → Type 0
Feasible es = (x : ℕ → ℤ) × Solution es x

-- a walk along edges of es from u to v, its last edge first
abbrev pub Walk : List Edge → ℕ → List Edge → ℕ → Type 0
Walk es v [] u = v ≡ u
Walk es v (e ∷ p) u = Contains es e × (e.to ≡ v) × Walk es e.from p u

-- the weight of a walk
abbrev pub total : List Edge → ℤ
total [] = pos 0
total (e ∷ p) = e.weight +ℤ total p

-- a closed walk of negative weight
abbrev pub NegativeCycle : List Edge → Type 0
NegativeCycle es = (v : ℕ) × (p : List Edge) × Walk es v p v × (total p <ℤ pos 0)

-- the distance of a vertex: 0 where the list has none
abbrev pub at : List ℤ → ℕ → ℤ
at d v = slice_index_or d v (pos 0)

-- the most that an edge allows at its end, by the distance of its start
abbrev pub through : Edge → List ℤ → ℤ
through e d = at d e.from +ℤ e.weight

-- an edge lowers its end: it allows less than the end has
abbrev pub lowers : Edge → List ℤ → Bool
lowers e d = int_lt (through e d) (at d e.to)

-- one edge relaxed: its end is lowered to what the edge allows
abbrev pub relaxed : Edge → List ℤ → List ℤ
relaxed e d = if lowers e d then slice_set d e.to (through e d) else d

-- one round: every edge relaxed, in the order of the list
abbrev pub round : List Edge → List ℤ → List ℤ
round [] d = d
round (e ∷ es) d = round es (relaxed e d)

abbrev pub rounds : ℕ → List Edge → List ℤ → List ℤ
rounds k es d = iterate (round es) k d

-- n vertices, all at 0
abbrev pub zeros : ℕ → List ℤ
zeros zero = []
zeros (suc n) = pos 0 ∷ zeros n

-- no edge lowers its end
abbrev pub is_stable : List Edge → List ℤ → Bool
is_stable [] d = true
is_stable (e ∷ es) d = not (lowers e d) && is_stable es d
