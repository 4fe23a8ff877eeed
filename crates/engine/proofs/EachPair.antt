-- What holds of each pair of a list's elements holds at each two places, and the other way round; and how many pairs there are.
use Rattle.std.specs.List.{AllByRecursion, AllPairs}
use Rattle.std.proofs.Common.{◌≡◌, ℕ, zero, suc, ◌+◌, ◌*◌, ◌<◌, List, [], ◌∷◌, length, get_or, All, refl, subst, inl, inr, arith}
use Rattle.std.proofs.lemmas.Bool.{cases_order}
use Rattle.std.proofs.lemmas.List.{get_or-map, length-append, length-map}
use Rattle.std.proofs.lemmas.List.Elements.{All-nil, All-append, All-map, All-from_get_or, All-from_recursion}
use Rattle.engine.specs.EachPair.{each_pair, with_each}
use Rattle.engine.proofs.Lists.{all_front, all_back}

module _ {X : Type 0} (P : X × X → Type 0) where
  with_each_at : (x : X) (ys : List X) (k : ℕ) (d : X) → All P (with_each x ys) → k < length ys → P (x, get_or ys k d)
  with_each_at x ys k d a l = subst P (get_or-map (λ y. (x, y)) ys k d (x, d) l) (a k (x, d) (simp length-map l))

  pub each_pair_at : (xs : List X) → All P (each_pair xs) → AllPairs (λ x y. P (x, y)) xs
  each_pair_at [] a j k d b l = absurd (omega arith)
  each_pair_at (x ∷ xs) a j zero d b l = absurd (omega arith)
  each_pair_at (x ∷ xs) a zero (suc k) d b l = with_each_at x xs k d (all_front P (with_each x xs) (each_pair xs) a) (omega arith)
  each_pair_at (x ∷ xs) a (suc j) (suc k) d b l = each_pair_at xs (all_back P (with_each x xs) (each_pair xs) a) j k d (omega arith) (omega arith)

  pub all_each_pair : (xs : List X) (d : X) → ((j k : ℕ) → j < k → k < length xs → P (get_or xs j d, get_or xs k d)) → All P (each_pair xs)
  all_each_pair [] d f = All-nil _
  all_each_pair (x ∷ xs) d f =
      All-append P (with_each x xs) (each_pair xs)
      (All-map P (λ y. (x, y)) xs (All-from_get_or (λ y. P (x, y)) xs d (λ k l. f 0 (suc k) (omega arith) (omega arith))))
      (all_each_pair xs d (λ j k b l. f (suc j) (suc k) (omega arith) (omega arith)))

-- in a list that is given, what holds of each pair computes
pub each_two : {X : Type 0} (R : X → X → Type 0) (xs : List X) → AllByRecursion (λ p. R p.0 p.1) (each_pair xs) → AllPairs R xs
each_two R xs h = each_pair_at (λ p. R p.0 p.1) xs (All-from_recursion (λ p. R p.0 p.1) (each_pair xs) h)

-- what holds of each place with itself, and of two either way round if it does one way, holds of any two of n places if it does of an earlier and a later one
pub either_way : (P : ℕ → ℕ → Type 0) (n : ℕ) → ((j : ℕ) → P j j) → ((j k : ℕ) → P j k → P k j) → ((j k : ℕ) → j < k → k < n → P j k) → (j k : ℕ) → j < n → k < n → P j k
either_way P n same turn f j k lj lk =
    elim (cases_order j k) [
      | inl e ↦ subst (P j) e (same j)
      | inr o ↦ elim o [ inl l ↦ f j k l lk | inr l ↦ turn k j (f k j l lj) ]
    ]

-- twice the pairs of n elements are n * n less n
pub each_pair_counted : {X : Type 0} (xs : List X) → 2 * length (each_pair xs) + length xs ≡ length xs * length xs
each_pair_counted [] = refl
each_pair_counted (x ∷ xs) = simp (length-append, length-map) (omega (arith, each_pair_counted xs))
