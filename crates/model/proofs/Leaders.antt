-- The terms that name a group without a date are the least terms of the groups without a dated term.
use Rattle.std.proofs.Common.{◌≡◌, ◌↔◌, ℕ, ◌<◌, List, length, get_or, sym, ◌∙◌, inl, inr}
use Rattle.engine.specs.Equalities.{EqualityClasses}
use Rattle.engine.specs.States.{State, active_rows}
use Rattle.engine.specs.Terms.{seats_of}
use Rattle.engine.proofs.Seats.{seat_is_dated, seats_have}
use Rattle.model.specs.Naming.{LeadsUndated}
use Rattle.model.proofs.GroupDates.{WithoutDate, dated_or_not}
use Rattle.model.proofs.Groups.{names_its_group}

module _ (s : State) (groups : List ℕ) (classes : EqualityClasses s groups) where
  abbrev NamesUndated : ℕ → Type 0
  NamesUndated t = (get_or groups t 0 ≡ t) × WithoutDate groups t (seats_of s.terms)

  pub names_undated : (t : ℕ) → t < length s.terms → NamesUndated t ↔ LeadsUndated s.terms (active_rows s.rows) s.codes t
  names_undated t l = (
    (λ n.
        let (own, u) = n in
        record {
          there = l;
          least = (names_its_group s groups classes t l).0 own;
          undated = λ i li di always. u.none i (seats_have s.terms i li di) ((classes.exact i t li l).1 always ∙ own);
        }),
    (λ h.
        let own : get_or groups t 0 ≡ t = (names_its_group s groups classes t l).1 h.least in
        elim (dated_or_not groups t (seats_of s.terms)) [
          | inl d ↦ let (there, dated) = seat_is_dated s.terms d.term d.among in absurd (h.undated d.term there dated ((classes.exact d.term t there l).0 (d.grouped ∙ sym own)))
          | inr u ↦ (own, u)
        ]),
  )
