-- Walks: one that meets no vertex twice is short, and any other is no lighter than such a one, or goes round a negative cycle.
use Rattle.std.proofs.Common.{◌≡◌, ℕ, suc, ◌*◌, ◌≤◌, ◌≢◌, ◌⊎◌, List, [], ◌∷◌, length, ℤ, pos, ◌+ℤ◌, neg_ℤ, ◌≤ℤ◌, ◌<ℤ◌, All, Contains, sym, refl, ap, ◌∙◌, subst, inl, inr, arith}
use native.Mathlib.Decide.{ℕ_discrete}
use lib.Signed.{≤ℤ_refl}
use Rattle.std.proofs.lemmas.Int.{ints, by_lt_z}
use Rattle.std.proofs.lemmas.List.Elements.{All-nil, All-cons, All-contains}
use Rattle.graph.specs.declared.Edge.{Edge}
use Rattle.graph.specs.Graph.{EdgeHolds, Solution, Feasible, Walk, total, NegativeCycle}
use Rattle.graph.specs.Claims.{Among, WeightsAtLeast}
use Rattle.graph.proofs.Pigeonhole.{NotIn, Distinct, pigeonhole}

-- the vertices of a walk to v, from its end
abbrev pub vertices : ℕ → List Edge → List ℕ
vertices v [] = v ∷ []
vertices v (e ∷ p) = v ∷ vertices e.from p

vertices_length : (v : ℕ) (p : List Edge) → length (vertices v p) ≡ suc (length p)
vertices_length v [] = refl
vertices_length v (e ∷ p) = ap suc (vertices_length e.from p)

module _ (vs : List ℕ) (es : List Edge) (among : Among vs es) where
  vertices_among : (v : ℕ) (p : List Edge) (u : ℕ) → Contains vs v → Walk es v p u → All (Contains vs) (vertices v p)
  vertices_among v [] u h w = All-cons (Contains vs) v [] h (All-nil _)
  vertices_among v (e ∷ p) u h w = All-cons (Contains vs) v (vertices e.from p) h (vertices_among e.from p u (All-contains (λ e. Contains vs e.to × Contains vs e.from) es e among w.0).1 w.2)

  -- a walk that meets no vertex twice is short
  pub simple_short : (v : ℕ) (p : List Edge) (u : ℕ) → Contains vs v → Walk es v p u → Distinct (vertices v p) → suc (length p) ≤ length vs
  simple_short v p u h w a = omega (arith, vertices_length v p, pigeonhole vs (vertices v p) a (vertices_among v p u h w))

-- a walk q from u to x, cut at a vertex v that it meets
abbrev Cut : List Edge → ℕ → ℕ → List Edge → ℕ → Type 0
Cut es v x q u = (a : List Edge) × (b : List Edge) × Walk es x a v × Walk es v b u × Distinct (vertices v b) × (total q ≡ total a +ℤ total b)

-- a walk no heavier than p, with the same ends, that meets no vertex twice
abbrev pub Simple : List Edge → ℕ → List Edge → ℕ → Type 0
Simple es v p u = (q : List Edge) × Walk es v q u × Distinct (vertices v q) × (total q ≤ℤ total p)

module _ (es : List Edge) where
  cut : (v x : ℕ) (q : List Edge) (u : ℕ) → Walk es x q u → Distinct (vertices x q) → Cut es v x q u ⊎ NotIn v (vertices x q)
  cut v x [] u w d = elim (ℕ_discrete v x) [ yes e ↦ inl ([], [], sym e, e ∙ w, (All-nil _, tt), refl) | no f ↦ inr (All-cons (λ y. v ≢ y) x [] f (All-nil _)) ]
  cut v x (e ∷ q) u w d = elim (ℕ_discrete v x) [ yes s ↦ inl ([], e ∷ q, sym s, (w.0, w.1 ∙ sym s, w.2), subst (λ (i : ℕ). Distinct (vertices i (e ∷ q))) (sym s) d, omega (arith, ints)) | no f ↦ longer f (cut v e.from q u w.2 d.1) ]
    where
      longer : v ≢ x → Cut es v e.from q u ⊎ NotIn v (vertices e.from q) → Cut es v x (e ∷ q) u ⊎ NotIn v (vertices x (e ∷ q))
      longer f (inl c) = inl (e ∷ c.0, c.1, (w.0, w.1, c.2), c.3, c.4, (let h : total q ≡ total c.0 +ℤ total c.1 = c.5 in omega (arith, ints)))
      longer f (inr o) = inr (All-cons (λ y. v ≢ y) x (vertices e.from q) f o)

  pub simplify : (v : ℕ) (p : List Edge) (u : ℕ) → Walk es v p u → NegativeCycle es ⊎ Simple es v p u
  simplify v [] u w = inr ([], w, (All-nil _, tt), ≤ℤ_refl (pos 0))
  simplify v (e ∷ p) u w = longer (simplify e.from p u w.2)
    where
      -- the vertex v is new, or the walk back to it is a cycle that can be left out
      closed : (s : Simple es e.from p u) → Cut es v e.from s.0 u ⊎ NotIn v (vertices e.from s.0) → NegativeCycle es ⊎ Simple es v (e ∷ p) u
      closed s (inl c) =
          by_lt_z (total (e ∷ c.0)) (pos 0)
          (λ h. inl (v, e ∷ c.0, (w.0, w.1, c.2), h))
          (λ h. inr (c.1, c.3, c.4, (let k : total s.0 ≡ total c.0 +ℤ total c.1 = c.5 in let m : total s.0 ≤ℤ total p = s.3 in omega (arith, ints))))
      closed s (inr o) = inr (e ∷ s.0, (w.0, w.1, s.1), (o, s.2), (let m : total s.0 ≤ℤ total p = s.3 in omega (arith, ints)))

      longer : NegativeCycle es ⊎ Simple es e.from p u → NegativeCycle es ⊎ Simple es v (e ∷ p) u
      longer (inl c) = inl c
      longer (inr s) = closed s (cut v e.from s.0 u s.1 s.2)

  -- a solution along a walk
  walk_holds : (x : ℕ → ℤ) → Solution es x → (v : ℕ) (p : List Edge) (u : ℕ) → Walk es v p u → x v ≤ℤ (x u +ℤ total p)
  walk_holds x s v [] u w = let a : x v ≡ x u = ap x w in omega (arith, ints)
  walk_holds x s v (e ∷ p) u w =
      let a : x e.to ≤ℤ (x e.from +ℤ e.weight) = All-contains (EdgeHolds x) es e s w.0 in
      let b : x e.from ≤ℤ (x u +ℤ total p) = walk_holds x s e.from p u w.2 in
      let c : x e.to ≡ x v = ap x w.1 in
      omega (arith, ints)

  pub cycle_refutes : NegativeCycle es → Feasible es → ⊥
  cycle_refutes c f =
      let a : f.0 c.0 ≤ℤ (f.0 c.0 +ℤ total c.1) = walk_holds f.0 f.1 c.0 c.1 c.0 c.2 in
      let b : total c.1 <ℤ pos 0 = c.3 in
      omega (arith, ints)

  pub walk_weight : (w : ℕ) → WeightsAtLeast w es → (v : ℕ) (p : List Edge) (u : ℕ) → Walk es v p u → neg_ℤ (pos (length p * w)) ≤ℤ total p
  walk_weight w h v [] u k = omega (arith, ints)
  walk_weight w h v (e ∷ p) u k =
      let a : neg_ℤ (pos w) ≤ℤ e.weight = All-contains (λ e. neg_ℤ (pos w) ≤ℤ e.weight) es e h k.0 in
      let b : neg_ℤ (pos (length p * w)) ≤ℤ total p = walk_weight w h e.from p u k.2 in
      omega (arith, ints)
