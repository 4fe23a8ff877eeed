-- The greatest date.
use Rattle.std.proofs.Common.{◌≡◌, List, [], ◌∷◌, ◌++◌, ℤ, pos, ◌≤ℤ◌, inl, inr, arith}
use Rattle.std.specs.Int.{int_max}
use Rattle.std.proofs.lemmas.Int.{ints}
use Rattle.std.proofs.lemmas.List.Elements.{All-contains}
use Rattle.model.specs.Numbering.{greatest_date}
use Rattle.model.proofs.GreatestDates.{among_or_zero, greatest_not_negative}
use Rattle.setup.specs.Groups.{DatesAtMost}

-- one date more
pub greatest_push : (dates : List ℤ) (d : ℤ) → greatest_date (dates ++ d ∷ []) ≡ int_max (greatest_date dates) d
greatest_push [] d = grind (arith, ints)
greatest_push (e ∷ dates) d = let rest = greatest_push dates d in grind (arith, ints)

-- where no date is past 7,000,000, the greatest is between 0 and that
pub greatest_within : (dates : List ℤ) → DatesAtMost dates → (pos 0 ≤ℤ greatest_date dates) × (greatest_date dates ≤ℤ pos 7000000)
greatest_within dates w =
    (greatest_not_negative dates, elim (among_or_zero dates) [ inl c ↦ All-contains (λ d. d ≤ℤ pos 7000000) dates (greatest_date dates) w c | inr e ↦ omega (arith, ints) ])
