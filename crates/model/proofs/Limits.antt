-- The numbers are within the limits: so are the dates, and zero's group has one, so that fewer groups than terms have none.
use Rattle.std.proofs.Common.{◌≡◌, Bool, ℕ, zero, suc, ◌<◌, ◌≤◌, false, List, length, get_or, Contains, All, ℤ, pos, ◌+ℤ◌, ◌≤ℤ◌, neg_ℤ, inl, inr, arith}
use Rattle.std.proofs.lemmas.Bool.{false_from_ne_true}
use Rattle.std.proofs.lemmas.Int.{ints}
use Rattle.std.proofs.lemmas.List.Elements.{All-contains, All-from_get_or, All-map}
use Rattle.engine.specs.Dates.{date_at}
use Rattle.engine.specs.Equalities.{EqualityClasses}
use Rattle.engine.specs.Limits.{date_limit}
use Rattle.engine.specs.Rows.{RowKind}
use Rattle.engine.specs.States.{State}
use Rattle.engine.specs.Terms.{seats_of}
use Rattle.engine.proofs.Fitting.{few_fit}
use Rattle.engine.proofs.Seats.{seat_of_zero}
use Rattle.model.specs.Claims.{Arranged, NumbersAreWithin}
use Rattle.model.specs.Numbering.{greatest_date, group_number, leads_undated, numbers_of}
use Rattle.model.specs.SetUps.{WithinLimits}
use Rattle.model.proofs.Counting.{count_below, count_without_zero}
use Rattle.model.proofs.GroupDates.{WithoutDate, date_is_one}
use Rattle.model.proofs.Groups.{group_at_most}
use Rattle.model.proofs.GreatestDates.{greatest_not_negative, greatest_of_dates}
use Rattle.model.proofs.GroupNumbers.{number_cases, undated_if_leads}

from_date : (x d : ℤ) → x ≡ d → neg_ℤ date_limit ≤ℤ d → d ≤ℤ date_limit → WithinLimits x
from_date x d e low high = (omega (arith, ints), omega (arith, ints))

past_greatest : (x m : ℤ) (k : ℕ) → x ≡ m +ℤ pos (suc k) → pos 0 ≤ℤ m → m ≤ℤ date_limit → k ≤ 30 → WithinLimits x
past_greatest x m k e low high few = (omega (arith, ints), omega (arith, ints))

module _ (counts : RowKind → Bool) (s : State) (dates : List ℤ) (groups : List ℕ) (arranged : Arranged counts s dates) (classes : EqualityClasses s groups) where
  few : length s.terms ≤ 32
  few = (few_fit s.terms arranged.accepted.each_term).0

  abbrev ss : List ℕ
  ss = seats_of s.terms

  abbrev leads : ℕ → Bool
  leads t = leads_undated groups ss dates t

  dates_within : All (λ d. (neg_ℤ date_limit ≤ℤ d) × (d ≤ℤ date_limit)) dates
  dates_within = All-from_get_or (λ d. (neg_ℤ date_limit ≤ℤ d) × (d ≤ℤ date_limit)) dates (pos 0) arranged.right.within

  greatest_within : (neg_ℤ date_limit ≤ℤ greatest_date dates) × (greatest_date dates ≤ℤ date_limit)
  greatest_within =
      All-contains (λ d. (neg_ℤ date_limit ≤ℤ d) × (d ≤ℤ date_limit)) dates (greatest_date dates) dates_within (greatest_of_dates counts s dates arranged).among

  -- zero is dated
  zero_seat : Contains ss 0
  zero_seat = let (l, e) = seat_of_zero s.terms arranged.accepted.each_term in (0, l, e)

  zero_leads_not : leads 0 ≡ false
  zero_leads_not = false_from_ne_true (leads 0) (λ e. let (own, u) = undated_if_leads counts s dates arranged groups 0 e in u.none 0 zero_seat own)

  few_below : (g : ℕ) → g < length s.terms → WithoutDate groups g ss → count_below leads g ≤ 30
  few_below zero l u = let low = group_at_most s groups classes 0 l in absurd (u.none 0 zero_seat (omega arith))
  few_below (suc g) l u = let below = count_without_zero leads zero_leads_not g in omega (arith, few)

  group_within : (g : ℕ) → g < length s.terms → WithinLimits (group_number groups ss dates g)
  group_within g l =
      elim (number_cases counts s dates arranged groups g) [
        | inl (d, e) ↦
            let (low, high) = date_is_one (λ x. (neg_ℤ date_limit ≤ℤ x) × (x ≤ℤ date_limit)) ss dates d.term (omega (arith, ints), omega (arith, ints)) dates_within in
            from_date (group_number groups ss dates g) (date_at ss dates d.term) e low high
        | inr (u, e) ↦
            past_greatest (group_number groups ss dates g) (greatest_date dates) (count_below leads g) e (greatest_not_negative dates) greatest_within.1 (few_below g l u)
      ]

  within : All WithinLimits (numbers_of ss dates groups)
  within =
      All-map WithinLimits (group_number groups ss dates) groups
      (All-from_get_or (λ g. WithinLimits (group_number groups ss dates g)) groups 0
      (λ t l. let size = classes.each in let there : t < length s.terms = omega arith in let low = group_at_most s groups classes t there in group_within (get_or groups t 0) (omega arith)))

pub numbers_are_within : NumbersAreWithin
numbers_are_within = within
