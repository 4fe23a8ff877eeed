-- What is claimed of the distances after some rounds. The proofs have a lemma of each claim's type.
use Rattle.std.specs.Prelude.{◌≡◌, ℕ, suc, pred, ◌*◌, ◌<◌, ◌≤◌, true, false, List, length, ℤ, pos, neg_ℤ, ◌≤ℤ◌, All, Contains}
use Rattle.graph.specs.declared.Edge.{Edge}
use Rattle.graph.specs.Graph.{Within, Solution, Feasible, NegativeCycle, at, rounds, zeros, is_stable}

-- the distances of n vertices after k rounds from 0
abbrev pub after : ℕ → ℕ → List Edge → List ℤ
after n k es = rounds k es (zeros n)

-- x is at most y at each of n vertices
abbrev pub AtMost : ℕ → (ℕ → ℤ) → (ℕ → ℤ) → Type 0
AtMost n x y = (v : ℕ) → v < n → x v ≤ℤ y v

-- a solution that is nowhere above 0
abbrev pub LowSolution : ℕ → List Edge → (ℕ → ℤ) → Type 0
LowSolution n es x = Solution es x × AtMost n x (λ _. pos 0)

-- stable distances are such a solution, and the greatest
abbrev pub GreatestSolution : Type 0
GreatestSolution = (n k : ℕ) (es : List Edge) → Within n es → is_stable es (after n k es) ≡ true →
    LowSolution n es (at (after n k es)) × ((x : ℕ → ℤ) → LowSolution n es x → AtMost n x (at (after n k es)))

-- k rounds decide: stable distances mean a solution, others a negative cycle, and no graph has both
abbrev pub Decided : ℕ → ℕ → List Edge → Type 0
Decided n k es =
    (is_stable es (after n k es) ≡ true → Feasible es)
    × (is_stable es (after n k es) ≡ false → NegativeCycle es)
    × (Feasible es → is_stable es (after n k es) ≡ true)
    × (NegativeCycle es → is_stable es (after n k es) ≡ false)
    × (NegativeCycle es → Feasible es → ⊥)

-- every edge joins two vertices of the list vs
abbrev pub Among : List ℕ → List Edge → Type 0
Among vs es = All (λ e. Contains vs e.to × Contains vs e.from) es

-- as many rounds as vs is long, less one, decide, however many vertices without edges there are
abbrev pub ExactAmong : Type 0
ExactAmong = (n k : ℕ) (vs : List ℕ) (es : List Edge) → Within n es → Among vs es → length vs ≤ suc k → Decided n k es

-- no edge weighs less than -w
abbrev pub WeightsAtLeast : ℕ → List Edge → Type 0
WeightsAtLeast w es = All (λ e. neg_ℤ (pos w) ≤ℤ e.weight) es

-- where there is a solution, no vertex of vs ever falls below -(length vs - 1) * w
abbrev pub BoundedAmong : Type 0
BoundedAmong = (n k w : ℕ) (vs : List ℕ) (es : List Edge) → Within n es → Among vs es → Feasible es → WeightsAtLeast w es →
    (v : ℕ) → v < n → Contains vs v → neg_ℤ (pos (pred (length vs) * w)) ≤ℤ at (after n k es) v

-- no round changes stable distances, so a loop may end early
abbrev pub StableStays : Type 0
StableStays = (k : ℕ) (es : List Edge) (d : List ℤ) → is_stable es d ≡ true → rounds k es d ≡ d
