-- Ranks stay low: a code is a byte, and few blocks are opened.
use Rattle.std.proofs.Common.{◌≡◌, ℕ, ◌+◌, ◌/◌, ◌<◌, ◌≤◌, cond, leb, List, [], ◌∷◌, map, length, get_or, take, drop, All, sym, ap, ◌∙◌, subst, add_assoc, arith}
use Rattle.std.proofs.lemmas.List.Elements.{All-map, All-push, All-weaker}
use Rattle.std.proofs.lemmas.List.{take_more, take_at}
use Rattle.std.proofs.lemmas.Bool.{cond_both}
use Rattle.std.specs.List.{refill}
use Rattle.engine.specs.Arrangements.{opens_block, rank_after, ranks_with, ranks}
use Rattle.engine.proofs.Ranks.{ranks_append}

-- no rank is above b
abbrev pub Low : ℕ → List ℕ → Type 0
Low b rs = All (λ r. r ≤ b) rs

low_moved : (b k : ℕ) (rs : List ℕ) → Low b rs → Low (b + 1) (map (rank_after k) rs)
low_moved b k rs h =
    All-map (λ r. r ≤ b + 1) (rank_after k) rs
    (All-weaker (λ r. r ≤ b) (λ r. rank_after k r ≤ b + 1) (λ r l. cond_both (leb k r) (r + 1) r (λ x. x ≤ b + 1) (λ _. omega arith) (λ _. omega arith)) rs h)

low_with : (b : ℕ) (rs : List ℕ) (c : ℕ) → Low b rs → c / 2 ≤ b + 1 → Low (b + 1) (ranks_with rs c)
low_with b rs c h l =
    All-push (λ r. r ≤ b + 1) (cond (opens_block c) (map (rank_after (c / 2)) rs) rs) (c / 2)
    (cond_both (opens_block c) (map (rank_after (c / 2)) rs) rs (Low (b + 1)) (λ _. low_moved b (c / 2) rs h) (λ _. All-weaker (λ r. r ≤ b) (λ r. r ≤ b + 1) (λ r m. omega arith) rs h))
    l

-- one code more
pub ranks_more : (cs : List ℕ) (k : ℕ) → k < length cs → ranks (take (k + 1) cs) ≡ ranks_with (ranks (take k cs)) (get_or cs k 0)
ranks_more cs k l = ap ranks (take_more cs k 0 l) ∙ ranks_append [] (take k cs) (get_or cs k 0 ∷ [])

module _ (cs : List ℕ) (k : ℕ) (l : k < length cs) where
  pub low_next : get_or cs k 0 < 256 → Low (127 + k) (ranks (take k cs)) → Low (127 + (k + 1)) (ranks (take (k + 1) cs))
  low_next small h =
      let next : Low (127 + k + 1) (ranks_with (ranks (take k cs)) (get_or cs k 0)) = low_with (127 + k) (ranks (take k cs)) (get_or cs k 0) h (omega arith) in
      subst (Low (127 + (k + 1))) (sym (ranks_more cs k l)) (subst (λ n. Low n (ranks_with (ranks (take k cs)) (get_or cs k 0))) (add_assoc 127 k 1) next)

-- a list of the same length takes the place of another
pub filled : {X : Type 0} (old new xs : List X) → new ≡ xs → length xs ≡ length old → refill (length old) old new ≡ xs
filled old new xs e long = ap (refill (length old) old) e ∙ take_at xs (drop (length xs) old) (length old) long
