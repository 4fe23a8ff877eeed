-- Which numbers would do: only equalities matter to tables and to same and unlike rows, and only the numbers of the instants to rows on these.
use Rattle.std.proofs.Common.{◌≡◌, ◌↔◌, ℕ, ◌<◌, Bool, true, List, length, get_or, ℤ, pos, ◌-ℤ◌, All, sym, ap, ◌∙◌, subst, arith}
use Rattle.std.proofs.lemmas.Bool.{and_parts}
use Rattle.std.proofs.lemmas.Int.{ints}
use Rattle.std.proofs.lemmas.List.{get_or_default}
use Rattle.sheet.specs.declared.row.Row.{Row}
use Rattle.sheet.specs.declared.row.Row.TheVariants.{Span, Same, Unlike}
use Rattle.sheet.specs.declared.term.Term.{Term}
use Rattle.engine.specs.Arrangements.{InOrder, ranks}
use Rattle.engine.specs.Dates.{CountedHolds, RightDates, date_at}
use Rattle.engine.specs.Equalities.{AlwaysEqual, Equates, SameHolds}
use Rattle.engine.specs.Fitting.{row_fits}
use Rattle.engine.specs.Meaning.{Numbers, Tables, Holds}
use Rattle.engine.specs.Rows.{RowKind, kind_of, left_of, on_dated, right_of}
use Rattle.engine.specs.Rules.{EqualityHolds, TableAllowed, seat_numbers}
use Rattle.engine.specs.States.{State, active_rows}
use Rattle.engine.specs.Terms.{is_dated_at, seats_of}
use Rattle.engine.proofs.Allowing.{allowed_equates}
use Rattle.engine.proofs.Fitting.{arguments_are_terms, terms_of_row}
use Rattle.engine.proofs.Following.{in_order_by, order_blocks}
use Rattle.engine.proofs.Ranks.{length_ranks}
use Rattle.engine.proofs.Seats.{date_at_seat, seat_of_zero, seats_have}
use Rattle.congruence.specs.Congruence.{CongruentRelation, EqualExactlyWhere}
use Rattle.congruence.proofs.Arguments.{congruent_by}
use Rattle.congruence.proofs.Interpreting.{congruence_is_needed, congruence_suffices}
use Rattle.theory.specs.Accepted.{Accepted}
use Rattle.theory.specs.Models.{AtDates, AtInstants, ClassesSuffice, DatesAreEqualInClasses, DatesSuffice, EqualitiesSuffice, EqualityModel, InstantsSuffice, StillHolds}

-- the row asks that its terms be equal, or not
abbrev RelationHolds : (ℕ → ℕ → Type 0) → Row → Type 0
RelationHolds equal (Span i j c) = Unit {0}
RelationHolds equal (Same i j) = equal i j
RelationHolds equal (Unlike i j) = equal i j → ⊥

-- numbers that are equal exactly where a relation holds, which is congruent and as the rows ask
module _ (ts : List Term) (rows : List Row) (accepted : Accepted ts rows) (equal : ℕ → ℕ → Type 0) (w : Numbers)
    (exactly : EqualExactlyWhere (length ts) equal w) where
  holds_by_relation : (r : Row) → row_fits ts r ≡ true → RelationHolds equal r → EqualityHolds w r
  holds_by_relation (Span i j c) fits h = tt
  holds_by_relation (Same i j) fits h = let (l, k) = terms_of_row ts (Same i j) fits in (exactly i j l k).0 h
  holds_by_relation (Unlike i j) fits h = let (l, k) = terms_of_row ts (Unlike i j) fits in λ e. h ((exactly i j l k).1 e)

  relation_suffices : w 0 ≡ pos 0 → CongruentRelation ts equal → All (RelationHolds equal) rows → EqualityModel ts rows w
  relation_suffices z c hold =
      record {
        interpreted = congruence_suffices ts w z (congruent_by ts equal w (arguments_are_terms ts accepted.each_term) exactly c);
        hold = λ k d l. holds_by_relation (get_or rows k d) (accepted.each_row k d l) (hold k d l);
      }

-- the equalities of the numbers found are such a relation
found_holds : (v : Numbers) (r : Row) → EqualityHolds v r → RelationHolds (λ i j. v i ≡ v j) r
found_holds v (Span i j c) h = tt
found_holds v (Same i j) h = h
found_holds v (Unlike i j) h = h

pub equalities_suffice : EqualitiesSuffice
equalities_suffice ts rows codes w accepted found z same =
    let v = found.numbers in
    relation_suffices ts rows accepted (λ i j. v i ≡ v j) w same z (congruence_is_needed ts found.tables v found.interprets).1
    (λ k d l. found_holds v (get_or rows k d) (found.hold k d l))

-- and so is it that the same rows and the blocks make two terms equal
module _ (ts : List Term) (rows : List Row) (codes : List ℕ) where
  always_congruent : CongruentRelation ts (AlwaysEqual ts rows codes)
  always_congruent =
      record {
        unary = λ i j a x y p q e m v t. (congruence_is_needed ts m v t.interprets).1.unary i j a x y p q (e m v t);
        binary = λ i j a x y z u p q d e m v t. (congruence_is_needed ts m v t.interprets).1.binary i j a x y z u p q (d m v t) (e m v t);
      }

  -- a same row makes its terms equal, and the numbers found show that the terms of an unlike row are not made so
  always_holds : (found : TableAllowed ts rows codes) (r : Row) → ((m : Tables) (v : Numbers) → Equates ts rows codes m v → SameHolds v r)
      → EqualityHolds found.numbers r → RelationHolds (AlwaysEqual ts rows codes) r
  always_holds found (Span i j c) made h = tt
  always_holds found (Same i j) made h = made
  always_holds found (Unlike i j) made h = λ e. h (e found.tables found.numbers (allowed_equates ts rows codes found))

pub classes_suffice : ClassesSuffice
classes_suffice ts rows codes w accepted found z exactly =
    relation_suffices ts rows accepted (AlwaysEqual ts rows codes) w exactly z (always_congruent ts rows codes)
    (λ k d l. always_holds ts rows codes found (get_or rows k d) (λ m v t. t.hold k d l) (found.hold k d l))

-- rows see only differences, so that zero's number can be subtracted
from_zero_holds : (x w : Numbers) (r : Row) → w (left_of r) ≡ x (left_of r) -ℤ x 0 → w (right_of r) ≡ x (right_of r) -ℤ x 0 → Holds x r → Holds w r
from_zero_holds x w (Span i j c) e f h = omega (arith, ints)
from_zero_holds x w (Same i j) e f h = omega (arith, ints)
from_zero_holds x w (Unlike i j) e f h = λ q. h (omega (arith, ints))

pub instants_suffice : InstantsSuffice
instants_suffice ts rows x w accepted at = λ k d l. still (get_or rows k d) (accepted.each_row k d l)
  where
    still : (r : Row) → row_fits ts r ≡ true → StillHolds ts x w r
    still r fits d h =
        let (l, k) = terms_of_row ts r fits in
        let (dl, dr) = and_parts (is_dated_at ts (left_of r)) (is_dated_at ts (right_of r)) d in
        from_zero_holds x w r (at (left_of r) l dl) (at (right_of r) k dr) h

-- dates are counted from zero's
module _ (counts : RowKind → Bool) (s : State) (dates : List ℤ) (right : RightDates counts s dates) where
  abbrev date_of : Numbers
  date_of i = date_at (seats_of s.terms) dates i

  module _ (w : Numbers) (accepted : Accepted s.terms (active_rows s.rows)) where
    date_of_zero : date_of 0 ≡ pos 0
    date_of_zero = let (l, e) = seat_of_zero s.terms accepted.each_term in sym (ap date_of e) ∙ date_at_seat s.terms dates 0 l ∙ right.zero_first

    pub dates_at_instants : AtDates s.terms dates w ↔ AtInstants s.terms date_of w
    dates_at_instants = (
      (λ at i l d. let e = at i l d in let z = date_of_zero in omega (arith, ints)),
      (λ at i l d. let e = at i l d in let z = date_of_zero in omega (arith, ints)),
    )

    all_counted : AtDates s.terms dates w → All (CountedHolds counts s.terms w) (active_rows s.rows)
    all_counted at =
        let still = instants_suffice s.terms (active_rows s.rows) date_of w accepted (dates_at_instants.0 at) in
        λ k d l h.
        let r : Row = get_or (active_rows s.rows) k d in
        still k d l (and_parts (counts (kind_of r)) (on_dated s.terms r) h).1 (right.hold k d l h)

  -- the seats of two instants, whose dates are equal exactly in blocks
  module _ (full : length s.codes ≡ length (seats_of s.terms)) (found : TableAllowed s.terms (active_rows s.rows) s.codes) where
    seat_dates : (p : ℕ) → p < length (ranks s.codes) → seat_numbers s.terms date_of p ≡ get_or dates p (pos 0)
    seat_dates p l = date_at_seat s.terms dates p (omega (arith, length_ranks s.codes, full))

    pub dates_in_order : InOrder (ranks s.codes) (seat_numbers s.terms date_of)
    dates_in_order = in_order_by (ranks s.codes) (seat_numbers s.terms date_of) (λ p. get_or dates p (pos 0)) seat_dates right.ordered

    abbrev EqualTogether : ℕ → ℕ → Type 0
    EqualTogether i j = AlwaysEqual s.terms (active_rows s.rows) s.codes i j ↔ (date_of i ≡ date_of j)

    equal_at_seats : (p q : ℕ) → p < length (ranks s.codes) → q < length (ranks s.codes)
        → EqualTogether (get_or (seats_of s.terms) p 0) (get_or (seats_of s.terms) q 0)
    equal_at_seats p q lp lq =
        let equates = allowed_equates s.terms (active_rows s.rows) s.codes found in
        let blocks = order_blocks (ranks s.codes) (seat_numbers s.terms date_of) dates_in_order in (
          (λ always. blocks.same p q lp lq (found.blocks.apart p q lp lq (always found.tables found.numbers equates))),
          (λ e m v t. t.blocks p q lp lq (blocks.apart p q lp lq e)),
        )

    equal_in_classes : (i j : ℕ) → i < length s.terms → j < length s.terms
        → is_dated_at s.terms i ≡ true → is_dated_at s.terms j ≡ true → EqualTogether i j
    equal_in_classes i j li lj di dj =
        let (p, lp, ep) = seats_have s.terms i li di in
        let (q, lq, eq) = seats_have s.terms j lj dj in
        let n = length_ranks s.codes in
        subst (λ k. EqualTogether k j) (get_or_default (seats_of s.terms) p 0 i lp ∙ ep)
        (subst (EqualTogether (get_or (seats_of s.terms) p 0)) (get_or_default (seats_of s.terms) q 0 j lq ∙ eq) (equal_at_seats p q (omega arith) (omega arith)))

pub dates_suffice : DatesSuffice
dates_suffice counts s dates w accepted right = all_counted counts s dates right w accepted

pub dates_are_equal_in_classes : DatesAreEqualInClasses
dates_are_equal_in_classes counts s dates arrangement found right = equal_in_classes counts s dates right arrangement.full found
