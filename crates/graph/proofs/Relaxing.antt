-- What relaxing an edge, a round and some rounds do to the distances.
use Rattle.std.proofs.Common.{◌≡◌, ℕ, zero, suc, ◌<◌, true, false, not, ◌⊎◌, List, [], ◌∷◌, length, ℤ, pos, ◌≤ℤ◌, ◌<ℤ◌, All, Contains, refl, ap, ◌∙◌, inl, inr, arith, length-set, get_or-set_other}
use native.Mathlib.Decide.{ℕ_discrete}
use lib.Signed.{≤ℤ_refl}
use Rattle.std.proofs.lemmas.Bool.{and_cases, and_parts, cases_Bool, not-false, not-true}
use Rattle.std.proofs.lemmas.Grind.{get_or-set_at}
use Rattle.std.proofs.lemmas.Int.{ints}
use Rattle.std.proofs.lemmas.List.Elements.{All-nil, All-cons, All-head, All-tail, All-weaker, All-contains_itself}
use Rattle.graph.specs.declared.Edge.{Edge}
use Rattle.graph.specs.Graph.{Within, EdgeHolds, Solution, at, through, lowers, relaxed, round, rounds, zeros, is_stable}
use Rattle.graph.specs.Claims.{StableStays}

pub relaxed_length : (e : Edge) (d : List ℤ) → length (relaxed e d) ≡ length d
relaxed_length e d = grind (arith, length-set {A = ℤ})

-- an edge lowers its end, to what it allows, or changes nothing, and then its end holds already
pub relaxed_at : (e : Edge) (d : List ℤ) (v : ℕ) → e.to < length d → ((v ≡ e.to) × (through e d <ℤ at d e.to) × (at (relaxed e d) v ≡ through e d)) ⊎ ((at (relaxed e d) v ≡ at d v) × (v ≡ e.to → at d v ≤ℤ through e d))
relaxed_at e d v h =
    elim (cases_Bool (lowers e d)) [
      | inl q ↦ elim (ℕ_discrete v e.to) [ yes s ↦ inl (s, grind (arith, ints), grind (arith, get_or-set_at)) | no f ↦ inr (grind (arith, get_or-set_other), λ s. absurd (f s)) ]
      | inr q ↦ inr (grind arith, λ s. grind (arith, ints))
    ]

pub relaxed_le : (e : Edge) (d : List ℤ) (v : ℕ) → e.to < length d → at (relaxed e d) v ≤ℤ at d v
relaxed_le e d v h = grind (arith, ints, get_or-set_at, get_or-set_other)

relaxed_end : (e : Edge) (d : List ℤ) → e.to < length d → at (relaxed e d) e.to ≤ℤ through e d
relaxed_end e d h = grind (arith, ints, get_or-set_at)

pub round_length : (es : List Edge) (d : List ℤ) → length (round es d) ≡ length d
round_length [] d = refl
round_length (e ∷ es) d = round_length es (relaxed e d) ∙ relaxed_length e d

pub rounds_length : (k : ℕ) (es : List Edge) (d : List ℤ) → length (rounds k es d) ≡ length d
rounds_length zero es d = refl
rounds_length (suc k) es d = rounds_length k es (round es d) ∙ round_length es d

pub round_le : (n : ℕ) (es : List Edge) (d : List ℤ) (v : ℕ) → length d ≡ n → Within n es → at (round es d) v ≤ℤ at d v
round_le n [] d v l w = ≤ℤ_refl (at d v)
round_le n (e ∷ es) d v l w =
    let a : at (round es (relaxed e d)) v ≤ℤ at (relaxed e d) v = round_le n es (relaxed e d) v (relaxed_length e d ∙ l) (All-tail (λ e. (e.to < n) × (e.from < n)) e es w) in
    let b : at (relaxed e d) v ≤ℤ at d v = relaxed_le e d v (omega (arith, l, (All-head (λ e. (e.to < n) × (e.from < n)) e es w).0)) in
    omega (arith, ints)

-- after a round every edge has been made use of
pub round_ends : (n : ℕ) (es : List Edge) (d : List ℤ) → length d ≡ n → Within n es → All (λ e. at (round es d) e.to ≤ℤ through e d) es
round_ends n [] d l w = All-nil _
round_ends n (e ∷ es) d l w = All-cons (λ f. at (round es (relaxed e d)) f.to ≤ℤ through f d) e es first (All-weaker (λ f. at (round es (relaxed e d)) f.to ≤ℤ through f (relaxed e d)) (λ f. at (round es (relaxed e d)) f.to ≤ℤ through f d) weaker es (round_ends n es (relaxed e d) (relaxed_length e d ∙ l) rest))
  where
    rest : Within n es
    rest = All-tail (λ e. (e.to < n) × (e.from < n)) e es w

    inside : e.to < length d
    inside = omega (arith, l, (All-head (λ e. (e.to < n) × (e.from < n)) e es w).0)

    first : at (round es (relaxed e d)) e.to ≤ℤ through e d
    first =
        let a : at (round es (relaxed e d)) e.to ≤ℤ at (relaxed e d) e.to = round_le n es (relaxed e d) e.to (relaxed_length e d ∙ l) rest in
        let b : at (relaxed e d) e.to ≤ℤ through e d = relaxed_end e d inside in
        omega (arith, ints)

    weaker : (f : Edge) → at (round es (relaxed e d)) f.to ≤ℤ through f (relaxed e d) → at (round es (relaxed e d)) f.to ≤ℤ through f d
    weaker f h = let b : at (relaxed e d) f.from ≤ℤ at d f.from = relaxed_le e d f.from inside in omega (arith, ints)

-- what every edge keeps, any number of rounds keeps
round_keeps : (P : List ℤ → Type 0) (es : List Edge) → All (λ e. (d : List ℤ) → P d → P (relaxed e d)) es → (d : List ℤ) → P d → P (round es d)
round_keeps P [] k d h = h
round_keeps P (e ∷ es) k d h = round_keeps P es (All-tail (λ e. (d : List ℤ) → P d → P (relaxed e d)) e es k) (relaxed e d) (All-head (λ e. (d : List ℤ) → P d → P (relaxed e d)) e es k d h)

pub rounds_keep : (P : List ℤ → Type 0) (es : List Edge) → ((e : Edge) → Contains es e → (d : List ℤ) → P d → P (relaxed e d)) → (k : ℕ) (d : List ℤ) → P d → P (rounds k es d)
rounds_keep P es f zero d h = h
rounds_keep P es f (suc k) d h = rounds_keep P es f k (round es d) (round_keeps P es (All-weaker (Contains es) (λ e. (d : List ℤ) → P d → P (relaxed e d)) f es (All-contains_itself es)) d h)

pub zeros_at : (n v : ℕ) → at (zeros n) v ≡ pos 0
zeros_at zero v = refl
zeros_at (suc n) zero = refl
zeros_at (suc n) (suc v) = zeros_at n v

pub zeros_length : (n : ℕ) → length (zeros n) ≡ n
zeros_length zero = refl
zeros_length (suc n) = ap suc (zeros_length n)

pub stable_solution : (es : List Edge) (d : List ℤ) → is_stable es d ≡ true → Solution es (at d)
stable_solution [] d h = All-nil _
stable_solution (e ∷ es) d h =
    let q = and_parts (not (lowers e d)) (is_stable es d) h in
    let s = not-true (lowers e d) q.0 in
    All-cons (EdgeHolds (at d)) e es (grind (arith, ints)) (stable_solution es d q.1)

-- distances that are not stable have an edge that lowers its end
pub unstable_edge : (es fs : List Edge) (d : List ℤ) → All (Contains es) fs → is_stable fs d ≡ false → (e : Edge) × Contains es e × (through e d <ℤ at d e.to)
unstable_edge es [] d a h = absurd cc
unstable_edge es (e ∷ fs) d a h =
    elim (and_cases (not (lowers e d)) (is_stable fs d) h) [
      | inl q ↦ (e, All-head (Contains es) e fs a, (let s = not-false (lowers e d) q in grind (arith, ints)))
      | inr q ↦ unstable_edge es fs d (All-tail (Contains es) e fs a) q
    ]

stable_round : (es : List Edge) (d : List ℤ) → is_stable es d ≡ true → round es d ≡ d
stable_round [] d h = refl
stable_round (e ∷ es) d h =
    let q = and_parts (not (lowers e d)) (is_stable es d) h in
    rw (not-true (lowers e d) q.0) (stable_round es d q.1)

pub early : StableStays
early zero es d h = refl
early (suc k) es d h = ap (λ (r : List ℤ). rounds k es r) (stable_round es d h) ∙ early k es d h
