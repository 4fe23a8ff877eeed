-- The claims of specs/Claims.antt: what the distances after some rounds decide.
use Rattle.std.proofs.Common.{◌≡◌, ℕ, zero, suc, pred, ◌+◌, ◌*◌, ◌<◌, ◌≤◌, true, false, ◌⊎◌, List, [], ◌∷◌, length, ℤ, pos, neg_ℤ, ◌≤ℤ◌, ◌<ℤ◌, Contains, sym, refl, ap, ◌∙◌, subst, inl, inr, mul-le-mul_right, arith}
use lib.Signed.{≤ℤ_refl}
use Rattle.std.proofs.lemmas.Bool.{false_from_ne_true, true_from_ne_false}
use Rattle.std.proofs.lemmas.Int.{ints}
use Rattle.std.proofs.lemmas.List.Elements.{All-contains, All-contains_itself}
use Rattle.graph.specs.declared.Edge.{Edge}
use Rattle.graph.specs.Graph.{Within, EdgeHolds, Feasible, Walk, total, NegativeCycle, at, through, relaxed, round, rounds, zeros, is_stable}
use Rattle.graph.specs.Claims.{after, AtMost, LowSolution, GreatestSolution, Among, ExactAmong, BoundedAmong}
use Rattle.graph.proofs.Relaxing.{relaxed_at, relaxed_le, relaxed_length, round_length, round_le, round_ends, rounds_keep, zeros_at, zeros_length, stable_solution, unstable_edge}
use Rattle.graph.proofs.Walks.{Simple, simplify, simple_short, cycle_refutes, walk_weight}

module _ (n : ℕ) (es : List Edge) (within : Within n es) where
  to_in : (e : Edge) → Contains es e → e.to < n
  to_in e h = (All-contains (λ e. (e.to < n) × (e.from < n)) es e within h).0

  from_in : (e : Edge) → Contains es e → e.from < n
  from_in e h = (All-contains (λ e. (e.to < n) × (e.from < n)) es e within h).1

  below : (k : ℕ) (x : ℕ → ℤ) → LowSolution n es x → AtMost n x (at (after n k es))
  below k x s = (rounds_keep (λ d. (length d ≡ n) × AtMost n x (at d)) es step k (zeros n) (zeros_length n, λ v i. subst (λ (y : ℤ). x v ≤ℤ y) (sym (zeros_at n v)) (s.1 v i))).1
    where
      step : (e : Edge) → Contains es e → (d : List ℤ) → (length d ≡ n) × AtMost n x (at d) → (length (relaxed e d) ≡ n) × AtMost n x (at (relaxed e d))
      step e h d q = (relaxed_length e d ∙ q.0, under)
        where
          under : AtMost n x (at (relaxed e d))
          under v i = elim (relaxed_at e d v (omega (arith, q.0, to_in e h))) [
            | inl r ↦ (let a = ap x r.0 in let b = All-contains (EdgeHolds x) es e s.0 h in let c = q.1 e.from (from_in e h) in omega (arith, ints))
            | inr r ↦ (let c = q.1 v i in omega (arith, ints))
          ]

  never_above : (k : ℕ) (v : ℕ) → at (after n k es) v ≤ℤ pos 0
  never_above k v = (rounds_keep (λ d. (length d ≡ n) × (at d v ≤ℤ pos 0)) es step k (zeros n) (zeros_length n, subst (λ (y : ℤ). y ≤ℤ pos 0) (sym (zeros_at n v)) (≤ℤ_refl (pos 0)))).1
    where
      step : (e : Edge) → Contains es e → (d : List ℤ) → (length d ≡ n) × (at d v ≤ℤ pos 0) → (length (relaxed e d) ≡ n) × (at (relaxed e d) v ≤ℤ pos 0)
      step e h d q = (relaxed_length e d ∙ q.0, (let a : at (relaxed e d) v ≤ℤ at d v = relaxed_le e d v (omega (arith, q.0, to_in e h)) in let b : at d v ≤ℤ pos 0 = q.1 in omega (arith, ints)))

  -- each distance is the weight of a walk
  abbrev WalkTo : List ℤ → ℕ → Type 0
  WalkTo d v = (p : List Edge) × (u : ℕ) × Walk es v p u × (at d v ≡ total p)

  walk_to : (k v : ℕ) → v < n → WalkTo (after n k es) v
  walk_to k = (rounds_keep (λ d. (length d ≡ n) × ((v : ℕ) → v < n → WalkTo d v)) es step k (zeros n) (zeros_length n, λ v h. ([], v, refl, zeros_at n v))).1
    where
      step : (e : Edge) → Contains es e → (d : List ℤ) → (length d ≡ n) × ((v : ℕ) → v < n → WalkTo d v) → (length (relaxed e d) ≡ n) × ((v : ℕ) → v < n → WalkTo (relaxed e d) v)
      step e h d q = (relaxed_length e d ∙ q.0, along)
        where
          along : (v : ℕ) → v < n → WalkTo (relaxed e d) v
          along v i = elim (relaxed_at e d v (omega (arith, q.0, to_in e h))) [
            | inl r ↦ (let o : WalkTo d e.from = q.1 e.from (from_in e h) in (e ∷ o.0, o.1, (h, sym r.0, o.2), (let f = o.3 in omega (arith, ints))))
            | inr r ↦ (let o : WalkTo d v = q.1 v i in (o.0, o.1, o.2, r.0 ∙ o.3))
          ]

  -- no walk of at most k edges is lighter than the distance of its end
  abbrev Least : ℕ → List ℤ → Type 0
  Least k d = (length d ≡ n) × ((v : ℕ) (p : List Edge) (u : ℕ) → Walk es v p u → length p ≤ k → at d v ≤ℤ total p)

  least_more : (k : ℕ) (d : List ℤ) → Least k d → Least (suc k) (round es d)
  least_more k d q = (round_length es d ∙ q.0, longer)
    where
      longer : (v : ℕ) (p : List Edge) (u : ℕ) → Walk es v p u → length p ≤ suc k → at (round es d) v ≤ℤ total p
      longer v [] u w l = (let a : at (round es d) v ≤ℤ at d v = round_le n es d v q.0 within in let b : at d v ≤ℤ pos 0 = q.1 v [] u w (omega arith) in omega (arith, ints))
      longer v (e ∷ p) u w l =
          (let a : at (round es d) e.to ≤ℤ through e d = All-contains (λ e. at (round es d) e.to ≤ℤ through e d) es e (round_ends n es d q.0 within) w.0 in
          let b : at d e.from ≤ℤ total p = q.1 e.from p u w.2 (omega arith) in
          let c : at (round es d) e.to ≡ at (round es d) v = ap (at (round es d)) w.1 in
          omega (arith, ints))

  least_rounds : (j k m : ℕ) (d : List ℤ) → m ≡ j + k → Least k d → Least m (rounds j es d)
  least_rounds zero k m d e q = subst (λ (i : ℕ). Least i d) (omega arith) q
  least_rounds (suc j) k m d e q = least_rounds j (suc k) m (round es d) (omega arith) (least_more k d q)

  least : (k : ℕ) → Least k (after n k es)
  least k = least_rounds k 0 k (zeros n) (omega arith) (zeros_length n, start)
    where
      start : (v : ℕ) (p : List Edge) (u : ℕ) → Walk es v p u → length p ≤ 0 → at (zeros n) v ≤ℤ total p
      start v [] u w l = subst (λ (y : ℤ). y ≤ℤ pos 0) (sym (zeros_at n v)) (≤ℤ_refl (pos 0))
      start v (e ∷ p) u w l = absurd (omega arith)

  module _ (vs : List ℕ) (among : Among vs es) where
    -- an edge that lowers its end after so many rounds closes a negative cycle
    unstable_cycle : (k : ℕ) → length vs ≤ suc k → is_stable es (after n k es) ≡ false → NegativeCycle es
    unstable_cycle k b h = by_edge (unstable_edge es es (after n k es) (All-contains_itself es) h)
      where
        by_edge : (e : Edge) × Contains es e × (through e (after n k es) <ℤ at (after n k es) e.to) → NegativeCycle es
        by_edge (e, i, lt) = by_walk (walk_to k e.from (from_in e i))
          where
            by_walk : WalkTo (after n k es) e.from → NegativeCycle es
            by_walk (p, u, w, q) = by_simple (simplify es e.to (e ∷ p) u (i, refl, w))
              where
                by_simple : NegativeCycle es ⊎ Simple es e.to (e ∷ p) u → NegativeCycle es
                by_simple (inl c) = c
                by_simple (inr s) = absurd
                    (let short : suc (length s.0) ≤ length vs = simple_short vs es among e.to s.0 u (All-contains (λ e. Contains vs e.to × Contains vs e.from) es e among i).0 s.1 s.2 in
                    let a : at (after n k es) e.to ≤ℤ total s.0 = (least k).1 e.to s.0 u s.1 (omega arith) in
                    let c : total s.0 ≤ℤ total (e ∷ p) = s.3 in
                    omega (arith, ints))

pub greatest : GreatestSolution
greatest n k es within h = ((stable_solution es (after n k es) h, λ v i. never_above n es within k v), below n es within k)

pub exact_among : ExactAmong
exact_among n k vs es within among b = (solved, cycle, λ x. true_from_ne_false (is_stable es (after n k es)) (λ h. cycle_refutes es (cycle h) x), λ c. false_from_ne_true (is_stable es (after n k es)) (λ h. cycle_refutes es c (solved h)), cycle_refutes es)
  where
    solved : is_stable es (after n k es) ≡ true → Feasible es
    solved h = (at (after n k es), stable_solution es (after n k es) h)

    cycle : is_stable es (after n k es) ≡ false → NegativeCycle es
    cycle = unstable_cycle n es within vs among k b

pub bounded_among : BoundedAmong
bounded_among n k w vs es within among f h v i has = by_walk (walk_to n es within k v i)
  where
    by_walk : WalkTo n es within (after n k es) v → neg_ℤ (pos (pred (length vs) * w)) ≤ℤ at (after n k es) v
    by_walk (p, u, y, q) = by_simple (simplify es v p u y)
      where
        by_simple : NegativeCycle es ⊎ Simple es v p u → neg_ℤ (pos (pred (length vs) * w)) ≤ℤ at (after n k es) v
        by_simple (inl c) = absurd (cycle_refutes es c f)
        by_simple (inr s) =
            let short : suc (length s.0) ≤ length vs = simple_short vs es among v s.0 u has s.1 s.2 in
            let a : neg_ℤ (pos (length s.0 * w)) ≤ℤ total s.0 = walk_weight es w h v s.0 u s.1 in
            let m : length s.0 ≤ pred (length vs) = omega arith in
            let o : length s.0 * w ≤ pred (length vs) * w = mul-le-mul_right w m in
            let c : total s.0 ≤ℤ total p = s.3 in
            omega (arith, ints)
