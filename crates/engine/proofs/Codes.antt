-- Codes: how high one can be, and what comes before one code more.
use Rattle.std.proofs.Common.{◌≡◌, ℕ, ◌+◌, ◌*◌, ◌<◌, ◌≤◌, true, cond, leb, ◌⊎◌, List, [], ◌∷◌, ◌++◌, length, count_by, sym, refl, ap, ◌∙◌, inl, inr, ⊎_elim, arith}
use Rattle.std.proofs.lemmas.List.Recursion.{is_sum_by}
use Rattle.std.proofs.lemmas.List.Sums.{count_by-le-length}
use Rattle.std.proofs.lemmas.Bool.{and_parts, cases_order, leb-true}
use Rattle.engine.specs.Arrangements.{Before, blocks, is_valid, opens_block}

pub blocks_counted : (cs : List ℕ) → count_by opens_block cs ≡ blocks cs
blocks_counted cs = sym (is_sum_by blocks (λ c. cond (opens_block c) 1 0) refl (λ _ _. refl) cs)

pub blocks_le : (cs : List ℕ) → blocks cs ≤ length cs
blocks_le cs = omega (arith, blocks_counted cs, count_by-le-length opens_block cs)

pub valid_low : (b : ℕ) (cs : List ℕ) (d : ℕ) (r : List ℕ) → is_valid b (cs ++ (d ∷ r)) ≡ true → d ≤ 2 * (b + blocks cs)
valid_low b [] d r h = let l = leb-true d (2 * b) (and_parts (leb d (2 * b)) (is_valid (b + cond (opens_block d) 1 0) r) h).0 in omega arith
valid_low b (c ∷ cs) d r h =
    let o : ℕ = cond (opens_block c) 1 0 in
    let i = valid_low (b + o) cs d r (and_parts (leb c (2 * b)) (is_valid (b + o) (cs ++ (d ∷ r))) h).1 in
    omega arith

before_nil : (ds : List ℕ) → Before ds [] → ⊥
before_nil [] h = h
before_nil (d ∷ ds) h = h

-- nothing that goes on from some codes comes before them
pub before_front : (cs ds : List ℕ) → Before (cs ++ ds) (cs ++ []) → ⊥
before_front [] ds h = before_nil ds h
before_front (c ∷ cs) ds h = ⊎_elim (λ l. omega (arith, l)) (λ p. before_front cs ds p.1) h

-- what comes before one code more comes before the codes, or goes on from them by a smaller code
pub before_push : (ds cs : List ℕ) (c : ℕ) → Before ds (cs ++ c ∷ []) → Before ds cs ⊎ ((d : ℕ) × (rest : List ℕ) × (d < c) × (ds ≡ cs ++ d ∷ rest))
before_push [] cs c h = absurd h
before_push (d ∷ ds) [] c h = ⊎_elim (λ l. inr (d, ds, l, refl)) (λ p. absurd (before_nil ds p.1)) h
before_push (d ∷ ds) (x ∷ cs) c h =
    ⊎_elim
    (λ l. inl (inl l))
    (λ p. ⊎_elim (λ q. inl (inr (p.0, q))) (λ q. inr (q.0, q.1, q.2, ap (λ y. y ∷ ds) p.0 ∙ ap (λ y. x ∷ y) q.3)) (before_push ds cs c p.1))
    h

-- of two lists of codes of one length one comes before the other, or they are equal
pub codes_ordered : (cs ds : List ℕ) → length cs ≡ length ds → (cs ≡ ds) ⊎ (Before cs ds ⊎ Before ds cs)
codes_ordered [] [] e = inl refl
codes_ordered [] (d ∷ ds) e = absurd (omega arith)
codes_ordered (c ∷ cs) [] e = absurd (omega arith)
codes_ordered (c ∷ cs) (d ∷ ds) e =
    ⊎_elim
    (λ q.
    ⊎_elim
    (λ p. inl (λ i. q i ∷ p i))
    (λ p. inr (⊎_elim (λ b. inl (inr (q, b))) (λ b. inr (inr (sym q, b))) p))
    (codes_ordered cs ds (omega arith)))
    (λ q. inr (⊎_elim (λ l. inl (inl l)) (λ l. inr (inl l)) q))
    (cases_order c d)
