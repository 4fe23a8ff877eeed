-- Two lists in one strict order with the same elements are one list.
use Rattle.std.proofs.Common.{◌≡◌, zero, suc, List, [], ◌∷◌, Contains, AllPairs, refl, sym, ◌∙◌, subst, arith}

module _ {X : Type 0} (Before : X → X → Type 0) (one_way : (x y : X) → Before x y → Before y x → ⊥) where
  -- the first element comes before each later one
  before_later : (x y : X) (xs : List X) → AllPairs Before (x ∷ xs) → Contains xs y → Before x y
  before_later x y xs order (k, l, e) = subst (Before x) e (order 0 (suc k) y (omega arith) (omega arith))

  order_tail : (x : X) (xs : List X) → AllPairs Before (x ∷ xs) → AllPairs Before xs
  order_tail x xs order = λ i j d l m. order (suc i) (suc j) d (omega arith) (omega arith)

  -- an element that does not come first is a later one
  later : (x y z : X) (ys : List X) → x ≡ y → Before x z → Contains (y ∷ ys) z → Contains ys z
  later x y z ys e b (zero, l, q) = let own : Before x x = subst (Before x) (sym (e ∙ q)) b in absurd (one_way x x own own)
  later x y z ys e b (suc k, l, q) = (k, omega arith, q)

  first_same : (x y : X) (xs ys : List X) → AllPairs Before (x ∷ xs) → AllPairs Before (y ∷ ys) → Contains (y ∷ ys) x → Contains (x ∷ xs) y → x ≡ y
  first_same x y xs ys o p (zero, l, e) c = sym e
  first_same x y xs ys o p c (zero, l, e) = e
  first_same x y xs ys o p (suc j, l, e) (suc k, m, f) =
      absurd (one_way x y (before_later x y xs o (k, omega arith, f)) (before_later y x ys p (j, omega arith, e)))

  pub same_in_order : (xs ys : List X) → AllPairs Before xs → AllPairs Before ys
      → ((x : X) → Contains xs x → Contains ys x) → ((x : X) → Contains ys x → Contains xs x) → xs ≡ ys
  same_in_order [] [] o p f g = refl
  same_in_order [] (y ∷ ys) o p f g = let c = g y (0, omega arith, refl) in absurd (omega (arith, c.1))
  same_in_order (x ∷ xs) [] o p f g = let c = f x (0, omega arith, refl) in absurd (omega (arith, c.1))
  same_in_order (x ∷ xs) (y ∷ ys) o p f g =
      let e : x ≡ y = first_same x y xs ys o p (f x (0, omega arith, refl)) (g y (0, omega arith, refl)) in
      let rest : xs ≡ ys = same_in_order xs ys (order_tail x xs o) (order_tail y ys p)
      (λ z c. later x y z ys e (before_later x z xs o c) (f z (suc c.0, omega (arith, c.1), c.2)))
      (λ z c. later y x z xs (sym e) (before_later y z ys p c) (g z (suc c.0, omega (arith, c.1), c.2))) in
      cc
