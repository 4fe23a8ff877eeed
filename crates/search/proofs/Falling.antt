-- The steps that are left fall at each step.
use Rattle.std.proofs.Common.{◌≡◌, ℕ, zero, suc, ◌+◌, ◌-◌, ◌*◌, ◌<◌, ◌≤◌, List, [], ◌∷◌, ◌++◌, length, refl, ap, ◌∙◌, subst, add-mul, one-mul, arith}
use Rattle.search.specs.Searching.{left, left_down, steps}

-- once nothing under the codes is left, the next step takes one
abbrev pub left_up : ℕ → List ℕ → ℕ
left_up n cs = left (2 * n + 1) n (λ _. 1) cs

-- where the next step, with m seats left, takes less, less is left
left_less : (k n m : ℕ) (r q : ℕ → ℕ) (cs : List ℕ) → m ≡ n - length cs → r m < q m → left k n r cs < left k n q cs
unfolding left
left_less k n m r q [] e l = subst (λ i. r i < q i) (let w : m ≡ n = omega (arith, e) in w) l
left_less k n m r q (c ∷ cs) e l = let h = left_less k (n - 1) m r q cs (omega (arith, e)) l in omega arith

-- codes at the end are codes of the seats that are left
left_append : (k n : ℕ) (r : ℕ → ℕ) (cs ds : List ℕ) → left k n r (cs ++ ds) ≡ left k n (λ m. left k m r ds) cs
unfolding left
left_append k n r [] ds = refl
left_append k n r (c ∷ cs) ds = ap (λ x. x + ((k - 1 - c) * steps k (n - 1) + 1)) (left_append k (n - 1) r cs ds)

one_more : (a b t : ℕ) → a ≡ b + 1 → a * t ≡ b * t + t
one_more a b t e = ap (λ x. x * t) e ∙ add-mul b 1 t ∙ ap (λ x. b * t + x) (one-mul t)

steps_two : (k m : ℕ) → 1 < steps k m
steps_two k zero = omega arith
steps_two k (suc m) = omega arith

steps_next : (k m : ℕ) → 0 < m → steps k m ≡ k * steps k (m - 1) + 2
steps_next k zero h = omega arith
steps_next k (suc m) h = let e : m ≡ suc m - 1 = omega arith in ap (λ x. k * steps k x + 2) e

-- going down by the code 0
first_less : (k m : ℕ) → 1 ≤ k → 0 < m → left k m (steps k) (0 ∷ []) < steps k m
unfolding left
first_less k m hk hm =
    let more : k * steps k (m - 1) ≡ (k - 1 - 0) * steps k (m - 1) + steps k (m - 1) = one_more k (k - 1 - 0) (steps k (m - 1)) (omega arith) in
    omega (arith, steps_next k m hm)

-- putting the next code in a code's place
next_less : (k m c : ℕ) → c + 1 < k → left k m (steps k) ((c + 1) ∷ []) < left k m (λ _. 1) (c ∷ [])
unfolding left
next_less k m c h =
    let more : (k - 1 - c) * steps k (m - 1) ≡ (k - 1 - (c + 1)) * steps k (m - 1) + steps k (m - 1) = one_more (k - 1 - c) (k - 1 - (c + 1)) (steps k (m - 1)) (omega arith) in
    omega arith

-- lifting a code
lift_less : (k m c : ℕ) → 1 < left k m (λ _. 1) (c ∷ [])
unfolding left
lift_less k m c = omega arith

-- what is left falls where nothing under the codes is left
pub falls_up : (n : ℕ) (cs : List ℕ) → left_up n cs < left_down n cs
falls_up n cs = let k : ℕ = 2 * n + 1 in left_less k n (n - length cs) (λ _. 1) (steps k) cs refl (steps_two k (n - length cs))

-- where the code 0 is placed
pub falls_first : (n : ℕ) (cs : List ℕ) → length cs < n → left_down n (cs ++ 0 ∷ []) < left_down n cs
falls_first n cs h =
    let k : ℕ = 2 * n + 1 in
    let l = left_less k n (n - length cs) (λ m. left k m (steps k) (0 ∷ [])) (steps k) cs refl (first_less k (n - length cs) (omega arith) (omega (arith, h))) in
    omega (arith, left_append k n (steps k) cs (0 ∷ []))

-- where the next code takes the place of the last
pub falls_next : (n : ℕ) (cs : List ℕ) (c : ℕ) → c < 2 * n → left_down n (cs ++ (c + 1) ∷ []) < left_up n (cs ++ c ∷ [])
falls_next n cs c h =
    let k : ℕ = 2 * n + 1 in
    let l = left_less k n (n - length cs) (λ m. left k m (steps k) ((c + 1) ∷ [])) (λ m. left k m (λ _. 1) (c ∷ [])) cs refl (next_less k (n - length cs) c (omega (arith, h))) in
    omega (arith, left_append k n (steps k) cs ((c + 1) ∷ []), left_append k n (λ _. 1) cs (c ∷ []))

-- and where the last code is lifted
pub falls_lifted : (n : ℕ) (cs : List ℕ) (c : ℕ) → left_up n cs < left_up n (cs ++ c ∷ [])
falls_lifted n cs c =
    let k : ℕ = 2 * n + 1 in
    let l = left_less k n (n - length cs) (λ _. 1) (λ m. left k m (λ _. 1) (c ∷ [])) cs refl (lift_less k (n - length cs) c) in
    omega (arith, left_append k n (λ _. 1) cs (c ∷ []))
