-- The pigeonhole: numbers that differ from one another and stand in a list are no more than the list is long.
use Rattle.std.proofs.Common.{ℕ, zero, suc, ◌<◌, ◌≤◌, ◌≢◌, List, [], ◌∷◌, length, get_or, All, Contains, sym, subst, arith}
use native.Mathlib.Decide.{ℕ_discrete}
use Rattle.std.proofs.lemmas.List.Elements.{All-nil, All-cons, All-head, All-tail}

-- y is not in xs
abbrev pub NotIn : ℕ → List ℕ → Type 0
NotIn y xs = All (λ x. y ≢ x) xs

-- no two numbers of the list are equal
abbrev pub Distinct : List ℕ → Type 0
Distinct [] = Unit {0}
Distinct (x ∷ xs) = NotIn x xs × Distinct xs

-- xs without c: one shorter at most
abbrev Without : ℕ → List ℕ → List ℕ → Type 0
Without c vs xs = (ys : List ℕ) × Distinct ys × All (Contains vs) ys × (length xs ≤ suc (length ys)) × ((y : ℕ) → NotIn y xs → NotIn y ys)

has_rest : (c : ℕ) (vs : List ℕ) (x : ℕ) → Contains (c ∷ vs) x → c ≢ x → Contains vs x
has_rest c vs x (zero, i, e) f = absurd (f e)
has_rest c vs x (suc k, i, e) f = (k, omega arith, e)

all_rest : (c : ℕ) (vs xs : List ℕ) → NotIn c xs → All (Contains (c ∷ vs)) xs → All (Contains vs) xs
all_rest c vs xs o a k d l = has_rest c vs (get_or xs k d) (a k d l) (o k d l)

without : (c : ℕ) (vs xs : List ℕ) → Distinct xs → All (Contains (c ∷ vs)) xs → Without c vs xs
without c vs [] d a = ([], tt, All-nil _, omega arith, λ y o. o)
without c vs (x ∷ xs) d a = elim (ℕ_discrete x c) [ yes e ↦ (xs, d.1, all_rest c vs xs (subst (λ (z : ℕ). NotIn z xs) e d.0) rest, omega arith, λ y o. All-tail (λ z. y ≢ z) x xs o) | no f ↦ longer f (without c vs xs d.1 rest) ]
  where
    rest : All (Contains (c ∷ vs)) xs
    rest = All-tail (Contains (c ∷ vs)) x xs a

    longer : x ≢ c → Without c vs xs → Without c vs (x ∷ xs)
    longer f r = (x ∷ r.0, (r.4 x d.0, r.1), All-cons (Contains vs) x r.0 (has_rest c vs x (All-head (Contains (c ∷ vs)) x xs a) (λ e. f (sym e))) r.2, (let h : length xs ≤ suc (length r.0) = r.3 in omega arith), λ y o. All-cons (λ z. y ≢ z) x r.0 (All-head (λ z. y ≢ z) x xs o) (r.4 y (All-tail (λ z. y ≢ z) x xs o)))

pub pigeonhole : (vs xs : List ℕ) → Distinct xs → All (Contains vs) xs → length xs ≤ length vs
pigeonhole [] [] d a = omega arith
pigeonhole [] (x ∷ xs) d a = (let w = All-head (Contains []) x xs a in let h : w.0 < 0 = w.1 in omega arith)
pigeonhole (c ∷ vs) xs d a = shorter (without c vs xs d a) (λ ys. pigeonhole vs ys)
  where
    shorter : Without c vs xs → ((ys : List ℕ) → Distinct ys → All (Contains vs) ys → length ys ≤ length vs) → length xs ≤ suc (length vs)
    shorter r f = let h : length r.0 ≤ length vs = f r.0 r.1 r.2 in let k : length xs ≤ suc (length r.0) = r.3 in omega arith
