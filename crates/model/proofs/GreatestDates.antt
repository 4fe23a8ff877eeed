-- The greatest of the dates.
use Rattle.std.proofs.Common.{◌≡◌, Bool, ◌<◌, List, [], ◌∷◌, length, get_or, Contains, All, ◌⊎◌, ℤ, pos, ◌≤ℤ◌, int_lt, suc, refl, sym, ◌∙◌, inl, inr, arith}
use Rattle.std.proofs.lemmas.Bool.{cond_both}
use Rattle.std.proofs.lemmas.Int.{ints}
use Rattle.std.proofs.lemmas.List.Elements.{All-nil, All-cons, All-contains, All-weaker}
use Rattle.std.proofs.lemmas.List.{get_or_default}
use Rattle.engine.specs.Rows.{RowKind}
use Rattle.engine.specs.States.{State}
use Rattle.engine.proofs.Seats.{seat_of_zero}
use Rattle.model.specs.Claims.{Arranged}
use Rattle.model.specs.Naming.{GreatestDate}
use Rattle.model.specs.Numbering.{greatest_date}

greatest_above : (dates : List ℤ) → All (λ d. d ≤ℤ greatest_date dates) dates
greatest_above [] = All-nil _
greatest_above (d ∷ dates) =
    cond_both (int_lt (greatest_date dates) d) d (greatest_date dates) (λ m. All (λ x. x ≤ℤ m) (d ∷ dates))
    (λ e. All-cons (λ x. x ≤ℤ d) d dates (omega (arith, ints)) (All-weaker (λ x. x ≤ℤ greatest_date dates) (λ x. x ≤ℤ d) (λ x l. omega (arith, ints)) dates (greatest_above dates)))
    (λ e. All-cons (λ x. x ≤ℤ greatest_date dates) d dates (omega (arith, ints)) (greatest_above dates))

pub greatest_not_negative : (dates : List ℤ) → pos 0 ≤ℤ greatest_date dates
greatest_not_negative [] = omega (arith, ints)
greatest_not_negative (d ∷ dates) = let rest = greatest_not_negative dates in grind (arith, ints)

pub among_or_zero : (dates : List ℤ) → Contains dates (greatest_date dates) ⊎ (greatest_date dates ≡ pos 0)
among_or_zero [] = inr refl
among_or_zero (d ∷ dates) =
    cond_both (int_lt (greatest_date dates) d) d (greatest_date dates) (λ m. Contains (d ∷ dates) m ⊎ (m ≡ pos 0)) (λ _. inl (0, omega arith, refl))
    (λ _. elim (among_or_zero dates) [ inl c ↦ let (k, l, e) = c in inl (suc k, omega arith, e) | inr z ↦ inr z ])

-- where 0 is the first
greatest_is : (dates : List ℤ) → 0 < length dates → get_or dates 0 (pos 0) ≡ pos 0 → GreatestDate dates (greatest_date dates)
greatest_is dates l z =
    record {
      among = elim (among_or_zero dates) [ inl c ↦ c | inr e ↦ (0, l, get_or_default dates 0 (greatest_date dates) (pos 0) l ∙ z ∙ sym e) ];
      none_above = greatest_above dates;
    }

pub greatest_only : (dates : List ℤ) (m n : ℤ) → GreatestDate dates m → GreatestDate dates n → m ≡ n
greatest_only dates m n p q =
    let below = All-contains (λ d. d ≤ℤ n) dates m q.none_above p.among in
    let above = All-contains (λ d. d ≤ℤ m) dates n p.none_above q.among in
    omega (arith, ints)

-- and so it is of an arrangement's, as zero's is 0
module _ (counts : RowKind → Bool) (s : State) (dates : List ℤ) (arranged : Arranged counts s dates) where
  some_date : 0 < length dates
  some_date = let l = (seat_of_zero s.terms arranged.accepted.each_term).0 in omega (arith, arranged.right.each)

  pub greatest_of_dates : GreatestDate dates (greatest_date dates)
  greatest_of_dates = greatest_is dates some_date arranged.right.zero_first
