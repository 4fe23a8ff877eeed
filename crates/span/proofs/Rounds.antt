-- The loops of `lower_distances`: what holds before each round and before each edge of a round.
use Rattle.std.proofs.Common.{◌≡◌, ℕ, suc, ◌+◌, ◌-◌, ◌*◌, ◌^◌, ◌<◌, ◌≤◌, Bool, true, false, cond, List, length, get_or, drop, set, ℤ, pos, ◌+ℤ◌, neg_ℤ, ◌≤ℤ◌, sym, refl, ap, ◌∙◌, inl, inr, arith, w32, w64, SFits, to_z, of_z}
use lib.Signed.{lt_z}
use Rattle.std.proofs.lemmas.List.Elements.{All-get_or}
use Rattle.std.proofs.lemmas.List.{at_drop_more, at_drop_all}
use Rattle.std.proofs.lemmas.Int.{ints}
use Rattle.graph.specs.declared.Edge.{Edge}
use Rattle.graph.specs.Claims.{after}
use Rattle.graph.specs.Graph.{Within, at, through, lowers, relaxed, round, rounds, zeros, is_stable}
use Rattle.graph.proofs.Relaxing.{relaxed_at, relaxed_le, relaxed_length, zeros_at, early}

-- no distance is above 0, and none is lower than m edges of the least weight can make it
abbrev pub Deep : ℕ → List ℤ → Type 0
Deep m d = (v : ℕ) → (neg_ℤ (pos (m * 2 ^ 31)) ≤ℤ at d v) × (at d v ≤ℤ pos 0)

-- what a read past the end of the edges would give
abbrev pub none : Edge
none = record { to = 0; from = 0; weight = pos 0 }

-- before round r: the rounds that are left make the distances of all rounds
pub record AtRound (limit : ℕ) (es : List Edge) (r : ℕ) (d : List ℤ) : Type 0 where
  pub long : length d ≡ 32
  pub left : rounds (limit - r) es d ≡ after 32 limit es
  pub deep : Deep (128 * r) d

-- before edge i of round r, which began with the distances s: the edges that are left make those of the round
pub record AtEdge (limit : ℕ) (es : List Edge) (r : ℕ) (s : List ℤ) (i : ℕ) (d : List ℤ) (lowered : Bool) : Type 0 where
  pub long : length d ≡ 32
  pub left : round (drop i es) d ≡ round es s
  pub deep : Deep (128 * r + i) d
  pub same : lowered ≡ false → d ≡ s
  pub stable : lowered ≡ false → is_stable (drop i es) s ≡ is_stable es s
  pub more : lowered ≡ true → r < limit

deeper : (m k : ℕ) (d : List ℤ) → m ≤ k → Deep m d → Deep k d
deeper m k d h deep v = (let a : neg_ℤ (pos (m * 2 ^ 31)) ≤ℤ at d v = (deep v).0 in omega (arith, ints), (deep v).1)

deep_relaxed : (m : ℕ) (e : Edge) (d : List ℤ) → e.to < length d → SFits w32 e.weight → Deep m d → Deep (m + 1) (relaxed e d)
deep_relaxed m e d h fits deep v =
    let a = deep v in
    let b = deep e.from in
    (elim (relaxed_at e d v h) [ inl q ↦ omega (arith, ints) | inr q ↦ omega (arith, ints) ], omega (arith, ints, relaxed_le e d v h))

-- a number that the code keeps
abbrev pub stored : ℤ → ℤ
stored x = to_z w64 (of_z w64 x)

-- what the code computes of an edge of the weight y, and its test
abbrev pub summed : Edge → List ℤ → ℤ → ℤ
summed e d y = stored (stored (at d e.from) +ℤ stored y)

abbrev pub is_less : Edge → List ℤ → ℤ → Bool
is_less e d y = lt_z (summed e d y) (stored (at d e.to))

-- the first round
pub first_round : (limit : ℕ) (es : List Edge) → AtRound limit es 0 (zeros 32)
first_round limit es = record {
  long = refl;
  left = ap (λ k. rounds k es (zeros 32)) (let e : limit - 0 ≡ limit = omega arith in e);
  deep = λ v. rw (zeros_at 32 v) (omega (arith, ints), omega (arith, ints));
}

module _ {limit : ℕ} {es : List Edge} {r : ℕ} {s : List ℤ} {i : ℕ} {d : List ℤ} {lowered : Bool} (at_edge : AtEdge limit es r s i d lowered) where
  -- past the last edge, and one was lowered
  pub next_round : AtRound limit es r s → length es ≤ 128 → i ≤ length es → length es ≤ i → lowered ≡ true → AtRound limit es (r + 1) d
  next_round at_round few low high on =
      let more = at_edge.more on in
      let whole = at_drop_all (λ fs. round fs d) es i high in
      let one : limit - r ≡ suc (limit - (r + 1)) = omega arith in
      let next = ap (λ k. rounds k es s) one in
      record { long = at_edge.long; left = grind arith; deep = deeper (128 * r + i) (128 * (r + 1)) d (omega arith) at_edge.deep }

  -- past the last edge, and none was lowered: the rounds that are left change nothing
  pub stable_end : AtRound limit es r s → length es ≤ i → lowered ≡ false → (after 32 limit es ≡ d) × (is_stable es (after 32 limit es) ≡ true)
  stable_end at_round high off =
      let still : is_stable es s ≡ true = sym (at_edge.stable off) ∙ at_drop_all (λ fs. is_stable fs s) es i high in
      let last = early (limit - r) es s still in
      (grind arith, grind arith)

  -- an edge: 8 rounds of 128 edges, and one more round, keep within 64 bits, so the code computes what the definitions say
  module _ (small : 128 * r + i ≤ 1152) (low : i < length es) (fits : SFits w32 (get_or es i none).weight) (y : ℤ) (is : y ≡ to_z w32 (of_z w32 (get_or es i none).weight)) where
    summed_is : summed (get_or es i none) d y ≡ through (get_or es i none) d
    summed_is =
        let a = (at_edge.deep (get_or es i none).from).0 in
        let b = (at_edge.deep (get_or es i none).from).1 in
        omega (arith, ints)

    less_is : is_less (get_or es i none) d y ≡ lowers (get_or es i none) d
    less_is =
        let a = (at_edge.deep (get_or es i none).to).0 in
        let b = (at_edge.deep (get_or es i none).to).1 in
        let same : stored (at d (get_or es i none).to) ≡ at d (get_or es i none).to = omega (arith, ints) in
        (λ k. lt_z (summed_is k) (same k))

    -- it lowers its end after all rounds
    pub unstable_end : AtRound limit es r s → r ≡ limit → is_less (get_or es i none) d y ≡ true → (d ≡ after 32 limit es) × (is_stable es (after 32 limit es) ≡ false)
    unstable_end at_round end less =
        let off : lowered ≡ false = grind arith in
        let none_left : limit - r ≡ 0 = omega arith in
        let last = ap (λ k. rounds k es s) none_left in
        let rest = at_drop_more (λ fs. is_stable fs s) es i none low in
        let test = less_is in
        let made : d ≡ after 32 limit es = at_edge.same off ∙ sym last ∙ at_round.left in
        (made, grind arith)

    -- it has had its turn
    pub edge_done : Within 32 es → (b : Bool) → is_less (get_or es i none) d y ≡ b → (b ≡ true → r < limit) → AtEdge limit es r s (i + 1) (cond b (set d (get_or es i none).to (summed (get_or es i none) d y)) d) (cond b true lowered)
    edge_done within b less more =
        let e = get_or es i none in
        let test : lowers e d ≡ b = sym less_is ∙ less in
        let next : relaxed e d ≡ cond b (set d e.to (summed e d y)) d = (λ k. cond (test k) (set d e.to (sym summed_is k)) d) in
        let inside = (All-get_or (λ e. (e.to < 32) × (e.from < 32)) es i none low within).0 in
        let rest = at_drop_more (λ fs. is_stable fs s) es i none low in
        rw (← next) (record {
          long = relaxed_length e d ∙ at_edge.long;
          left = sym (at_drop_more (λ fs. round fs d) es i none low) ∙ at_edge.left;
          deep = deeper (128 * r + i + 1) (128 * r + (i + 1)) (relaxed e d) (omega arith) (deep_relaxed (128 * r + i) e d (omega (arith, at_edge.long)) fits at_edge.deep);
          same = λ off. grind arith;
          stable = λ off. grind arith;
          more = λ on. grind arith;
        })
