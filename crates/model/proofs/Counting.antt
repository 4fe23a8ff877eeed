-- The numbers below a bound that pass a test: how many they are, and their list.
use Rattle.std.proofs.Common.{◌≡◌, ◌↔◌, ℕ, zero, suc, ◌+◌, ◌<◌, ◌≤◌, Bool, true, false, cond, List, [], ◌∷◌, ◌++◌, length, get_or, AllPairs, Contains, sym, refl, ap, ◌∙◌, inl, inr, subst, arith}
use Rattle.std.proofs.lemmas.Bool.{cases_Bool, cases_eq, cases_lt, cases_order, cond-true, cond-false, cond_both}
use Rattle.std.proofs.lemmas.List.{append-nil, get_or_append_left, get_or_default, get_or_push, length_push}

module _ (test : ℕ → Bool) where
  abbrev pub count_below : ℕ → ℕ
  count_below zero = 0
  count_below (suc t) = cond (test t) 1 0 + count_below t

  abbrev pub passing_below : ℕ → List ℕ
  passing_below zero = []
  passing_below (suc t) = passing_below t ++ cond (test t) (t ∷ []) []

  -- at a number that passes both are one more, and at another they stay
  counts_one : (t : ℕ) → test t ≡ true → count_below (suc t) ≡ suc (count_below t)
  counts_one t e = ap (λ k. k + count_below t) (cond-true (test t) 1 0 e) ∙ omega arith

  counts_none : (t : ℕ) → test t ≡ false → count_below (suc t) ≡ count_below t
  counts_none t e = ap (λ k. k + count_below t) (cond-false (test t) 1 0 e) ∙ omega arith

  takes_one : (t : ℕ) → test t ≡ true → passing_below (suc t) ≡ passing_below t ++ t ∷ []
  takes_one t e = ap (λ xs. passing_below t ++ xs) (cond-true (test t) (t ∷ []) [] e)

  takes_none : (t : ℕ) → test t ≡ false → passing_below (suc t) ≡ passing_below t
  takes_none t e = ap (λ xs. passing_below t ++ xs) (cond-false (test t) (t ∷ []) [] e) ∙ append-nil (passing_below t)

  passing_counted : (n : ℕ) → length (passing_below n) ≡ count_below n
  passing_counted zero = refl
  passing_counted (suc n) =
      let before = passing_counted n in
      elim (cases_Bool (test n)) [
        | inl e ↦ let counts = counts_one n e in ap length (takes_one n e) ∙ length_push (passing_below n) n ∙ omega arith
        | inr e ↦ ap length (takes_none n e) ∙ before ∙ sym (counts_none n e)
      ]

  -- the count is greater past a number that passes
  pub count_rises : (n t : ℕ) → t < n → test t ≡ true → count_below t < count_below n
  count_rises zero t l e = absurd (omega arith)
  count_rises (suc n) t l e =
      elim (cases_eq t n) [
        | inl i ↦ let counts = counts_one t e in let same = ap (λ k. count_below (suc k)) i in omega arith
        | inr i ↦ let rest = count_rises n t (omega arith) e in omega arith
      ]

  -- so that no two that pass have one count
  pub count_tells : (t u : ℕ) → test t ≡ true → test u ≡ true → count_below t ≡ count_below u → t ≡ u
  count_tells t u e f same =
      elim (cases_order t u) [
        | inl i ↦ i
        | inr h ↦ elim h [
          | inl l ↦ let more = count_rises u t l e in absurd (omega arith)
          | inr l ↦ let more = count_rises t u l f in absurd (omega arith)
        ]
      ]

  -- where 0 does not pass
  pub count_without_zero : test 0 ≡ false → (t : ℕ) → count_below (suc t) ≤ t
  count_without_zero z zero = let counts = counts_none 0 z in omega arith
  count_without_zero z (suc t) =
      let rest = count_without_zero z t in
      let one = cond_both (test (suc t)) 1 0 (λ k. k ≤ 1) (λ _. omega arith) (λ _. omega arith) in
      omega arith

  -- a number that passes stands in the list at its count
  pub passing_at : (n t : ℕ) → t < n → test t ≡ true → get_or (passing_below n) (count_below t) 0 ≡ t
  passing_at zero t l e = absurd (omega arith)
  passing_at (suc n) t l e =
      elim (cases_eq t n) [
        | inl i ↦
            ap (λ xs. get_or xs (count_below t) 0) (takes_one n (subst (λ k. test k ≡ true) i e))
            ∙ get_or_push (passing_below n) n 0 (count_below t) (passing_counted n ∙ ap count_below (sym i))
            ∙ sym i
        | inr i ↦
            let low : t < n = omega arith in
            get_or_append_left (passing_below n) (cond (test n) (n ∷ []) []) 0 (count_below t) (let rises = count_rises n t low e in let counted = passing_counted n in omega arith)
            ∙ passing_at n t low e
      ]

  -- and each smaller count is that of a number that passes
  number_with : (n k : ℕ) → k < count_below n → (t : ℕ) × (t < n) × (test t ≡ true) × (count_below t ≡ k)
  number_with zero k l = absurd (omega arith)
  number_with (suc n) k l =
      elim (cases_lt k (count_below n)) [
        | inl low ↦ let (t, below, e, counted) = number_with n k low in (t, omega arith, e, counted)
        | inr high ↦ elim (cases_Bool (test n)) [
          | inl e ↦ let counts = counts_one n e in (n, omega arith, e, omega arith)
          | inr e ↦ let counts = counts_none n e in absurd (omega arith)
        ]
      ]

  -- so this is the number at the place k of the list
  pub record PassingAt (n k : ℕ) : Type 0 where
    pub number : ℕ
    pub at : get_or (passing_below n) k 0 ≡ number
    pub below : number < n
    pub passes : test number ≡ true
    pub counted : count_below number ≡ k

  pub passing_in : (n k : ℕ) → k < length (passing_below n) → PassingAt n k
  passing_in n k l =
      let size = passing_counted n in
      let (t, below, e, counted) = number_with n k (omega arith) in
      record { number = t; at = ap (λ i. get_or (passing_below n) i 0) (sym counted) ∙ passing_at n t below e; below = below; passes = e; counted = counted }

  pub passing_rise : (n : ℕ) → AllPairs (λ x y. x < y) (passing_below n)
  passing_rise n j k d b l =
      let p = passing_in n j (omega arith) in
      let q = passing_in n k l in
      let at = get_or_default (passing_below n) j d 0 (omega arith) ∙ p.at in
      let too = get_or_default (passing_below n) k d 0 l ∙ q.at in
      elim (cases_order p.number q.number) [
        | inl i ↦ let same = ap count_below i in omega (arith, p.counted, q.counted)
        | inr h ↦ elim h [
          | inl lt ↦ omega arith
          | inr lt ↦ let more = count_rises p.number q.number lt q.passes in omega (arith, p.counted, q.counted)
        ]
      ]

  pub passing_just : (n t : ℕ) → Contains (passing_below n) t ↔ ((t < n) × (test t ≡ true))
  passing_just n t = (
    (λ c.
        let (k, l, e) = c in
        let p = passing_in n k l in
        subst (λ u. (u < n) × (test u ≡ true)) (sym p.at ∙ get_or_default (passing_below n) k 0 t l ∙ e) (p.below, p.passes)),
    (λ h.
        let (l, e) = h in
        let within : count_below t < length (passing_below n) = let rises = count_rises n t l e in let counted = passing_counted n in omega arith in
        (count_below t, within, get_or_default (passing_below n) (count_below t) t 0 within ∙ passing_at n t l e)),
  )
