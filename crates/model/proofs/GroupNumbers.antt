-- The number of a group is the date of a dated term in it, or past all dates by its place among the groups that have none; so groups with one
-- number are one.
use Rattle.std.proofs.Common.{◌≡◌, ◌↔◌, ℕ, zero, suc, ◌+◌, Bool, true, List, get_or, cond, ◌==◌, Contains, ◌⊎◌, ℤ, pos, ◌+ℤ◌, ◌≤ℤ◌, sym, refl, ap, ◌∙◌, inl, inr, arith}
use Rattle.std.proofs.lemmas.Bool.{and_from, and_parts, eq-eqb, eqb-true}
use Rattle.std.proofs.lemmas.Int.{ints}
use Rattle.engine.specs.Dates.{date_at}
use Rattle.engine.specs.Equalities.{EqualityClasses}
use Rattle.engine.specs.Rows.{RowKind}
use Rattle.engine.specs.States.{State}
use Rattle.engine.specs.Terms.{seats_of}
use Rattle.engine.proofs.Seats.{seat_is_dated}
use Rattle.theory.proofs.Sufficing.{dates_are_equal_in_classes}
use Rattle.model.specs.Claims.{Arranged}
use Rattle.model.specs.Numbering.{greatest_date, group_date, group_number, has_none, leads_undated, undated_below}
use Rattle.model.proofs.Counting.{count_below, count_tells}
use Rattle.model.proofs.GreatestDates.{greatest_not_negative, greatest_of_dates}
use Rattle.model.proofs.GroupDates.{WithDate, WithoutDate, date_is_one, dated_number, dated_or_not, undated_number}

undated_counted : (groups ss : List ℕ) (dates : List ℤ) (t : ℕ) → undated_below groups ss dates t ≡ count_below (leads_undated groups ss dates) t
undated_counted groups ss dates zero = refl
undated_counted groups ss dates (suc t) = ap (λ k. cond (leads_undated groups ss dates t) 1 0 + k) (undated_counted groups ss dates t)

module _ (counts : RowKind → Bool) (s : State) (dates : List ℤ) (arranged : Arranged counts s dates) (groups : List ℕ) where
  abbrev ss : List ℕ
  ss = seats_of s.terms

  abbrev group : ℕ → ℕ
  group t = get_or groups t 0

  abbrev leads : ℕ → Bool
  leads t = leads_undated groups ss dates t

  abbrev number : ℕ → ℤ
  number g = group_number groups ss dates g

  abbrev greatest : ℤ
  greatest = greatest_date dates

  -- the terms that name a group without a date
  pub leads_if_undated : (t : ℕ) → group t ≡ t → WithoutDate groups t ss → leads t ≡ true
  leads_if_undated t e u = and_from (group t == t) (has_none (group_date groups ss dates t)) (eq-eqb (group t) t e) (ap has_none (u.date dates))

  pub undated_if_leads : (t : ℕ) → leads t ≡ true → (group t ≡ t) × WithoutDate groups t ss
  undated_if_leads t e =
      let (own, none) = and_parts (group t == t) (has_none (group_date groups ss dates t)) e in (
        eqb-true (group t) t own,
        elim (dated_or_not groups t ss) [ inl d ↦ let date = d.date dates arranged.right.each in absurd cc | inr u ↦ u ],
      )

  -- a group has a dated term's date, or a number past all dates
  abbrev Number : ℕ → Type 0
  Number g = ((d : WithDate groups g ss) × (number g ≡ date_at ss dates d.term)) ⊎ (WithoutDate groups g ss × (number g ≡ greatest +ℤ pos (suc (count_below leads g))))

  pub counted_number : (g : ℕ) → WithoutDate groups g ss → number g ≡ greatest +ℤ pos (suc (count_below leads g))
  counted_number g u = undated_number groups g ss dates u ∙ ap (λ k. greatest +ℤ pos (suc k)) (undated_counted groups ss dates g)

  pub number_cases : (g : ℕ) → Number g
  number_cases g =
      elim (dated_or_not groups g ss) [
        | inl d ↦ inl (d, dated_number groups g ss dates d arranged.right.each)
        | inr u ↦ inr (u, counted_number g u)
      ]

  date_at_most : (i : ℕ) → date_at ss dates i ≤ℤ greatest
  date_at_most i = date_is_one (λ d. d ≤ℤ greatest) ss dates i (greatest_not_negative dates) (greatest_of_dates counts s dates arranged).none_above

  module _ (classes : EqualityClasses s groups) where
    -- dated terms of one group have one date, and no others have it
    pub same_date : (i j : ℕ) → Contains ss i → Contains ss j → (group i ≡ group j) ↔ (date_at ss dates i ≡ date_at ss dates j)
    same_date i j c d =
        let (li, di) = seat_is_dated s.terms i c in
        let (lj, dj) = seat_is_dated s.terms j d in
        let together = dates_are_equal_in_classes counts s dates arranged.arrangement arranged.by_tables arranged.right i j li lj di dj in
        let exact = classes.exact i j li lj in ((λ e. together.0 (exact.0 e)), (λ e. exact.1 (together.1 e)))

    -- so groups with one number are one
    pub same_group : (g h : ℕ) → group g ≡ g → group h ≡ h → number g ≡ number h → g ≡ h
    same_group g h eg eh e = by (number_cases g) (number_cases h)
      where
        past_dates : (x y : ℤ) (k : ℕ) → x ≤ℤ greatest → y ≡ greatest +ℤ pos (suc k) → x ≡ y → ⊥
        past_dates x y k l q r = omega (arith, ints)

        one_count : (x y : ℤ) (j k : ℕ) → x ≡ greatest +ℤ pos (suc j) → y ≡ greatest +ℤ pos (suc k) → x ≡ y → j ≡ k
        one_count x y j k p q r = omega (arith, ints)

        by : Number g → Number h → g ≡ h
        by (inl (d, p)) (inl (f, q)) = sym d.grouped ∙ (same_date d.term f.term d.among f.among).1 (sym p ∙ e ∙ q) ∙ f.grouped
        by (inl (d, p)) (inr (u, q)) = absurd (past_dates (date_at ss dates d.term) (number h) (count_below leads h) (date_at_most d.term) q (sym p ∙ e))
        by (inr (u, p)) (inl (d, q)) = absurd (past_dates (date_at ss dates d.term) (number g) (count_below leads g) (date_at_most d.term) p (sym q ∙ sym e))
        by (inr (u, p)) (inr (w, q)) =
            count_tells leads g h (leads_if_undated g eg u) (leads_if_undated h eh w)
            (one_count (number g) (number h) (count_below leads g) (count_below leads h) p q e)
