-- The numbers that are computed are those of a set-up.
use Rattle.std.proofs.Common.{◌≡◌, ◌↔◌, ℕ, suc, ◌<◌, Bool, true, List, length, get_or, ℤ, pos, ◌+ℤ◌, sym, refl, ap, ◌∙◌, inl, inr, arith}
use Rattle.std.proofs.lemmas.List.{get_or-map}
use Rattle.engine.specs.Equalities.{AlwaysEqual, EqualityClasses}
use Rattle.engine.specs.Meaning.{Numbers, numbers_in}
use Rattle.engine.specs.Rows.{RowKind}
use Rattle.engine.specs.States.{State, active_rows}
use Rattle.engine.specs.Terms.{seats_of}
use Rattle.engine.proofs.Seats.{seats_have}
use Rattle.congruence.specs.Congruence.{EqualExactlyWhere}
use Rattle.theory.specs.Models.{AtDates}
use Rattle.model.specs.Claims.{Arranged, NumbersArePicked}
use Rattle.model.specs.Naming.{LeadsUndated, PickedNumbers, UndatedGroups}
use Rattle.model.specs.Numbering.{greatest_date, group_number, leads_undated, numbers_of}
use Rattle.model.proofs.Counting.{passing_below, passing_in, passing_just, passing_rise}
use Rattle.model.proofs.GreatestDates.{greatest_of_dates}
use Rattle.model.proofs.GroupNumbers.{counted_number, leads_if_undated, number_cases, same_date, same_group, undated_if_leads}
use Rattle.model.proofs.Groups.{group_of_name}
use Rattle.model.proofs.Leaders.{names_undated}

module _ (counts : RowKind → Bool) (s : State) (dates : List ℤ) (groups : List ℕ) (arranged : Arranged counts s dates) (classes : EqualityClasses s groups) where
  abbrev ss : List ℕ
  ss = seats_of s.terms

  abbrev group : ℕ → ℕ
  group t = get_or groups t 0

  abbrev leads : ℕ → Bool
  leads t = leads_undated groups ss dates t

  abbrev greatest : ℤ
  greatest = greatest_date dates

  abbrev numbers : Numbers
  numbers = numbers_in (numbers_of ss dates groups)

  number_of_group : (t : ℕ) → t < length s.terms → numbers t ≡ group_number groups ss dates (group t)
  number_of_group t l = get_or-map (group_number groups ss dates) groups t 0 (pos 0) (omega (arith, classes.each))

  leads_just : (t : ℕ) → t < length s.terms → (leads t ≡ true) ↔ LeadsUndated s.terms (active_rows s.rows) s.codes t
  leads_just t l =
      let names = names_undated s groups classes t l in (
        (λ e. let (own, u) = undated_if_leads counts s dates arranged groups t e in names.0 (own, u)),
        (λ h. let (own, u) = names.1 h in leads_if_undated counts s dates arranged groups t own u),
      )

  abbrev leaders : List ℕ
  leaders = passing_below leads (length s.terms)

  dated : AtDates s.terms dates numbers
  dated i li di =
      let c = seats_have s.terms i li di in
      number_of_group i li ∙ elim (number_cases counts s dates arranged groups (group i)) [
        | inl (d, e) ↦ e ∙ (same_date counts s dates arranged groups classes d.term i d.among c).0 d.grouped
        | inr (u, e) ↦ absurd (u.none i c refl)
      ]

  equal : EqualExactlyWhere (length s.terms) (AlwaysEqual s.terms (active_rows s.rows) s.codes) numbers
  equal i j li lj =
      let exact = classes.exact i j li lj in (
        (λ always. number_of_group i li ∙ ap (group_number groups ss dates) (exact.1 always) ∙ sym (number_of_group j lj)),
        (λ e. exact.0 (same_group counts s dates arranged groups classes (group i) (group j) (group_of_name s groups classes i li) (group_of_name s groups classes j lj) (sym (number_of_group i li) ∙ e ∙ number_of_group j lj))),
      )

  undated : UndatedGroups s.terms (active_rows s.rows) s.codes leaders
  undated =
      record {
        rising = passing_rise leads (length s.terms);
        just = λ t. (
          (λ c. let (l, e) = (passing_just leads (length s.terms) t).0 c in (leads_just t l).0 e),
          (λ h. (passing_just leads (length s.terms) t).1 (h.there, (leads_just t h.there).1 h)),
        );
      }

  counted_on : (k : ℕ) → k < length leaders → numbers (get_or leaders k 0) ≡ greatest +ℤ pos (suc k)
  counted_on k l =
      let p = passing_in leads (length s.terms) k l in
      let (own, u) = undated_if_leads counts s dates arranged groups p.number p.passes in
      ap numbers p.at ∙ number_of_group p.number p.below ∙ ap (group_number groups ss dates) own ∙ counted_number counts s dates arranged groups p.number u ∙ ap (λ j. greatest +ℤ pos (suc j)) p.counted

  picked : PickedNumbers s.terms (active_rows s.rows) s.codes dates numbers
  picked =
      record {
        dated = dated;
        equal = equal;
        greatest = greatest;
        is_greatest = greatest_of_dates counts s dates arranged;
        leaders = leaders;
        undated = undated;
        counted_on = counted_on;
      }

pub numbers_are_picked : NumbersArePicked
numbers_are_picked = picked
