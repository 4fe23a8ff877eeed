-- A group has the date of a dated term in it, and one without such a term has none.
use Rattle.std.proofs.Common.{◌≡◌, ℕ, zero, suc, List, [], ◌∷◌, length, get_or, ◌==◌, Contains, All, Some, None, ◌⊎◌, ℤ, pos, ◌+ℤ◌, refl, ap, ◌∙◌, inl, inr, arith, Option}
use Rattle.std.proofs.lemmas.Bool.{cases_eq, cond_both}
use Rattle.std.proofs.lemmas.Bool.Decides.{nat_tests}
use Rattle.std.proofs.lemmas.List.Elements.{All-head, All-tail}
use Rattle.engine.specs.Dates.{date_at}
use Rattle.model.specs.Numbering.{date_or, greatest_date, group_date, group_number, undated_below}

-- a date by a list of seats is one of the dates, or 0
pub date_is_one : (P : ℤ → Type 0) (ss : List ℕ) (dates : List ℤ) (i : ℕ) → P (pos 0) → All P dates → P (date_at ss dates i)
date_is_one P [] dates i z all = z
date_is_one P (s ∷ ss) [] i z all = z
date_is_one P (s ∷ ss) (d ∷ dates) i z all = cond_both (s == i) d (date_at ss dates i) P (λ _. All-head P d dates all) (λ _. date_is_one P ss dates i z (All-tail P d dates all))

module _ (groups : List ℕ) (g : ℕ) where
  -- of these seats one is in the group, whose date it gives
  pub record WithDate (ss : List ℕ) : Type 0 where
    pub term : ℕ
    pub among : Contains ss term
    pub grouped : get_or groups term 0 ≡ g
    pub date : (dates : List ℤ) → length dates ≡ length ss → group_date groups ss dates g ≡ Some (date_at ss dates term)

  -- or none is
  pub record WithoutDate (ss : List ℕ) : Type 0 where
    pub none : (i : ℕ) → Contains ss i → get_or groups i 0 ≡ g → ⊥
    pub date : (dates : List ℤ) → group_date groups ss dates g ≡ None

  date_at_first : (s : ℕ) (ss : List ℕ) (dates : List ℤ) → get_or groups s 0 ≡ g → length dates ≡ length (s ∷ ss) → group_date groups (s ∷ ss) dates g ≡ Some (date_at (s ∷ ss) dates s)
  date_at_first s ss [] e l = absurd (omega arith)
  date_at_first s ss (d ∷ dates) e l = grind (arith, nat_tests)

  date_at_later : (s : ℕ) (ss : List ℕ) (dates : List ℤ) → (get_or groups s 0 ≡ g → ⊥) → (rest : WithDate ss) → length dates ≡ length (s ∷ ss) → group_date groups (s ∷ ss) dates g ≡ Some (date_at (s ∷ ss) dates rest.term)
  date_at_later s ss [] n rest l = absurd (omega arith)
  date_at_later s ss (d ∷ dates) n rest l = grind (arith, nat_tests, rest.date dates (omega arith))

  no_date_at : (s : ℕ) (ss : List ℕ) (dates : List ℤ) → (get_or groups s 0 ≡ g → ⊥) → (rest : WithoutDate ss) → group_date groups (s ∷ ss) dates g ≡ None
  no_date_at s ss [] n rest = refl
  no_date_at s ss (d ∷ dates) n rest = grind (arith, nat_tests, rest.date dates)

  none_among : (s : ℕ) (ss : List ℕ) → (get_or groups s 0 ≡ g → ⊥) → (rest : WithoutDate ss) → (i : ℕ) → Contains (s ∷ ss) i → get_or groups i 0 ≡ g → ⊥
  none_among s ss n rest i (zero, l, e) h = n (ap (λ k. get_or groups k 0) e ∙ h)
  none_among s ss n rest i (suc k, l, e) h = rest.none i (k, omega arith, e) h

  pub dated_or_not : (ss : List ℕ) → WithDate ss ⊎ WithoutDate ss
  dated_or_not [] = inr (record { none = λ i c e. let l = c.1 in absurd (omega arith); date = λ dates. refl })
  dated_or_not (s ∷ ss) =
      elim (cases_eq (get_or groups s 0) g) [
        | inl e ↦ inl (record { term = s; among = (0, omega arith, refl); grouped = e; date = λ dates. date_at_first s ss dates e })
        | inr n ↦ elim (dated_or_not ss) [
          | inl rest ↦
              let (k, l, e) = rest.among in
              inl (record { term = rest.term; among = (suc k, omega arith, e); grouped = rest.grouped; date = λ dates. date_at_later s ss dates n rest })
          | inr rest ↦ inr (record { none = none_among s ss n rest; date = λ dates. no_date_at s ss dates n rest })
        ]
      ]

  -- and its number accordingly
  module _ (ss : List ℕ) (dates : List ℤ) where
    abbrev next_number : ℤ
    next_number = greatest_date dates +ℤ pos (suc (undated_below groups ss dates g))

    pub number_is : (o : Option ℤ) → group_date groups ss dates g ≡ o → group_number groups ss dates g ≡ date_or next_number o
    number_is o e = ap (date_or next_number) e

    pub dated_number : (d : WithDate ss) → length dates ≡ length ss → group_number groups ss dates g ≡ date_at ss dates d.term
    dated_number d each = number_is (Some (date_at ss dates d.term)) (d.date dates each)

    pub undated_number : WithoutDate ss → group_number groups ss dates g ≡ greatest_date dates +ℤ pos (suc (undated_below groups ss dates g))
    undated_number u = number_is None (u.date dates)
