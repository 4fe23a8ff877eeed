-- No other numbers are those of a set-up: a group has the date of a dated term in it, or the number that its place among the others gives it.
use Rattle.std.proofs.Common.{◌≡◌, ℕ, suc, ◌<◌, List, length, get_or, ℤ, pos, ◌+ℤ◌, sym, ap, ◌∙◌, subst, inl, inr, arith}
use Rattle.std.proofs.lemmas.List.{get_or_default}
use Rattle.engine.specs.Equalities.{AlwaysEqual, EqualityClasses}
use Rattle.engine.specs.Meaning.{Numbers}
use Rattle.engine.specs.States.{State, active_rows}
use Rattle.engine.specs.Terms.{seats_of}
use Rattle.engine.proofs.Seats.{seat_is_dated}
use Rattle.model.specs.Claims.{NumbersAreDetermined}
use Rattle.model.specs.Naming.{LeadsUndated, PickedNumbers}
use Rattle.model.proofs.GreatestDates.{greatest_only}
use Rattle.model.proofs.GroupDates.{dated_or_not}
use Rattle.model.proofs.Groups.{group_at_most, group_of_name}
use Rattle.model.proofs.Leaders.{names_undated}
use Rattle.model.proofs.Ordered.{same_in_order}

module _ (s : State) (dates : List ℤ) (groups : List ℕ) (classes : EqualityClasses s groups) (v w : Numbers)
    (p : PickedNumbers s.terms (active_rows s.rows) s.codes dates v) (q : PickedNumbers s.terms (active_rows s.rows) s.codes dates w) where
  abbrev Always : ℕ → ℕ → Type 0
  Always a b = AlwaysEqual s.terms (active_rows s.rows) s.codes a b

  -- terms that are always equal are alike
  alike_with : (t u : ℕ) → t < length s.terms → u < length s.terms → Always t u → v u ≡ w u → v t ≡ w t
  alike_with t u lt lu always e = (p.equal t u lt lu).0 always ∙ e ∙ sym ((q.equal t u lt lu).0 always)

  abbrev Leads : ℕ → Type 0
  Leads t = LeadsUndated s.terms (active_rows s.rows) s.codes t

  leaders_alike : (t : ℕ) → Leads t → v t ≡ w t
  leaders_alike t leads =
      let (k, l, e) = (p.undated.just t).1 leads in
      let same : p.leaders ≡ q.leaders = same_in_order (λ x y. x < y) (λ x y low high. absurd (omega arith)) p.leaders q.leaders p.undated.rising q.undated.rising
      (λ x c. (q.undated.just x).1 ((p.undated.just x).0 c)) (λ x c. (p.undated.just x).1 ((q.undated.just x).0 c)) in
      let at : get_or p.leaders k 0 ≡ t = get_or_default p.leaders k 0 t l ∙ e in
      let too : get_or q.leaders k 0 ≡ t = sym (ap (λ xs. get_or xs k 0) same) ∙ at in
      let greatest : p.greatest ≡ q.greatest = greatest_only dates p.greatest q.greatest p.is_greatest q.is_greatest in
      ap v (sym at) ∙ p.counted_on k l ∙ ap (λ m. m +ℤ pos (suc k)) greatest ∙ sym (q.counted_on k (subst (λ xs. k < length xs) same l)) ∙ ap w too

  determined : (t : ℕ) → t < length s.terms → v t ≡ w t
  determined t l =
      let g : ℕ = get_or groups t 0 in
      let low = group_at_most s groups classes t l in
      let there : g < length s.terms = omega arith in
      let own : get_or groups g 0 ≡ g = group_of_name s groups classes t l in
      elim (dated_or_not groups g (seats_of s.terms)) [
        | inl d ↦
            let (ld, dd) = seat_is_dated s.terms d.term d.among in
            alike_with t d.term l ld ((classes.exact t d.term l ld).0 (sym d.grouped)) (p.dated d.term ld dd ∙ sym (q.dated d.term ld dd))
        | inr u ↦ alike_with t g l there ((classes.exact t g l there).0 (sym own)) (leaders_alike g ((names_undated s groups classes g there).0 (own, u)))
      ]

pub numbers_are_determined : NumbersAreDetermined
numbers_are_determined s dates groups v w classes p q = determined s dates groups classes v w p q
