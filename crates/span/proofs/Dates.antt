-- The distances, counted from zero's, are the dates: the greatest numbers not above 0 that fit, with zero's subtracted.
use Rattle.std.specs.Prelude.{◌≡◌, ℕ, zero, suc, pred, ◌+◌, ◌<◌, ◌≤◌, true, cond, List, [], ◌∷◌, ◌++◌, map, length, get_or, take, ℤ, pos, ◌-ℤ◌, ◌≤ℤ◌, int_lt, slice_index, slice_index_or, All, Contains, refl}
use Rattle.std.proofs.Common.{sym, ap, subst, ◌∙◌, arith}
use Rattle.std.proofs.lemmas.List.Elements.{All-nil, All-cons, All-head, All-tail, All-get_or, All-from_get_or, All-weaker, All-contains, Contains-get_or, All-contains_itself}
use Rattle.std.proofs.lemmas.List.{get_or-map, map_more, length-map}
use Rattle.std.proofs.lemmas.Int.{ints}
use Rattle.graph.specs.declared.Edge.{Edge}
use Rattle.graph.specs.Claims.{AtMost, LowSolution}
use Rattle.graph.specs.Graph.{Solution, at}
use Rattle.graph.proofs.Deciding.{bounded_among, greatest}
use Rattle.sheet.specs.declared.row.Row.{Row}
use Rattle.sheet.specs.declared.row.Row.TheVariants.{Span, Same, Unlike}
use Rattle.engine.specs.Dates.{CountedHolds, GreatestDates, RightDates, date_at}
use Rattle.engine.specs.Meaning.{Numbers}
use Rattle.engine.specs.Placing.{placed_seats}
use Rattle.engine.specs.Rules.{SpanFits, SpanHolds, seat_numbers}
use Rattle.engine.specs.States.{State, active_rows}
use Rattle.engine.specs.Terms.{seats_of}
use Rattle.engine.proofs.Bounds.{Bounds}
use Rattle.engine.proofs.Ranks.{length_ranks}
use Rattle.engine.proofs.Seats.{seat_of_zero, seats_within}
use Rattle.span.specs.Constraints.{order_edges, row_edges}
use Rattle.span.specs.Dating.{InLimits, counts_spans, from_zero}
use Rattle.span.specs.Decisions.{becomes_stable_of, constraints_of, distances_of}
use Rattle.span.proofs.Limits.{EdgeFits, edges_among, edges_fit, edges_heavier, within}
use Rattle.engine.proofs.Lists.{all_front}
use Rattle.span.proofs.Rounds.{stored}
use Rattle.span.proofs.Solutions.{fits_solve, solutions_fit}

-- one seat more is dated
pub date_next : (d : List ℤ) (ss : List ℕ) (ds : List ℤ) (k : ℕ) → InLimits d 0 → All (InLimits d) ss → k < length ss → ds ≡ from_zero d (take k ss) → (r : ℤ) → r ≡ at d (slice_index ss k) -ℤ at d 0 → ds ++ stored r ∷ [] ≡ from_zero d (take (k + 1) ss)
date_next d ss ds k zeroth each low is r date =
    let f : ℕ → ℤ = λ s. at d s -ℤ at d 0 in
    let limits = All-get_or (InLimits d) ss k 0 low each in
    let kept : stored r ≡ f (slice_index ss k) = omega (arith, ints) in
    let more = map_more f ss k 0 low in
    cc

-- the date of a term by its seat
date_of : (f : ℕ → ℤ) (ss : List ℕ) (i : ℕ) → Contains ss i → date_at ss (map f ss) i ≡ f i
date_of f [] i (k, l, e) = absurd (omega arith)
date_of f (s ∷ ss) i (zero, l, e) = grind arith
date_of f (s ∷ ss) i (suc k, l, e) = let rest = date_of f ss i (k, omega arith, e) in grind arith

-- Numbers that fit and are not above 0 at a seat, cut off at 0 elsewhere: no edge leads there
abbrev cut_off : Numbers → Numbers
cut_off v t = cond (int_lt (pos 0) (v t)) (pos 0) (v t)

cut_same : (v : Numbers) (t : ℕ) → v t ≤ℤ pos 0 → cut_off v t ≡ v t
cut_same v t h = grind (arith, ints)

cut_low : (v : Numbers) (t : ℕ) → cut_off v t ≤ℤ pos 0
cut_low v t = grind (arith, ints)

module _ {s : State} (held : Bounds s) (stable : becomes_stable_of s ≡ true) where
  abbrev ss : List ℕ
  ss = seats_of s.terms

  abbrev es : List Edge
  es = constraints_of s

  abbrev d : List ℤ
  d = distances_of s

  best : LowSolution 32 es (at d) × ((x : ℕ → ℤ) → LowSolution 32 es x → AtMost 32 x (at d))
  best = greatest 32 (length ss) es (within held) stable

  pub fitting : SpanFits s.terms (active_rows s.rows) s.codes (at d)
  fitting = solutions_fit (at d) s.terms s.codes held.placed (active_rows s.rows) best.0.0

  pub all_in_limits : All (InLimits d) ss
  all_in_limits =
      All-weaker (Contains ss) (InLimits d)
      (λ t has.
      let few = held.terms in
      let low = All-contains (λ x. x < length s.terms) ss t (seats_within s.terms) has in
      let i : t < 32 = omega arith in
      let b = bounded_among 32 (length ss) 1000000 ss es (within held) (edges_among ss es (edges_fit held)) (at d, best.0.0) (edges_heavier ss es (edges_fit held)) t i has in
      let m : pred (length ss) ≤ 7 = omega (arith, held.seats) in
      (i, omega (arith, ints), best.0.1 t i))
      ss (All-contains_itself ss)

  pub zero_in_limits : InLimits d 0
  zero_in_limits = let z = seat_of_zero s.terms held.terms_fit in subst (InLimits d) z.1 (All-get_or (InLimits d) ss 0 0 z.0 all_in_limits)

  low_at : (p : ℕ) → p < length ss → InLimits d (slice_index ss p)
  low_at p l = All-get_or (InLimits d) ss p 0 l all_in_limits

  lower : (v : Numbers) → SpanFits s.terms (active_rows s.rows) s.codes v → ((q : ℕ) → q < length ss → seat_numbers s.terms v q ≤ℤ pos 0) → (p : ℕ) → p < length ss → seat_numbers s.terms v p ≤ℤ seat_numbers s.terms (at d) p
  lower v f low p l =
      let same : (t : ℕ) → Contains ss t → cut_off v t ≡ v t = λ t has. cut_same v t (All-contains (λ x. v x ≤ℤ pos 0) ss t (All-from_get_or (λ x. v x ≤ℤ pos 0) ss 0 low) has) in
      let solves : Solution es (cut_off v) = (λ k e i.
      let fit = edges_fit held k e i in
      let a = same (get_or es k e).to fit.0 in
      let b = same (get_or es k e).from fit.1 in
      let holds = fits_solve v s.terms s.codes held.placed (active_rows s.rows) f k e i in
      omega (arith, ints)) in
      let t = slice_index ss p in
      let m : cut_off v t ≤ℤ at d t = best.1 (cut_off v) (solves, λ t _. cut_low v t) t (low_at p l).0 in
      let n = same t (Contains-get_or ss p 0 l) in
      omega (arith, ints)

  seat_date : (p : ℕ) → p < length ss → slice_index_or (from_zero d ss) p (pos 0) ≡ seat_numbers s.terms (at d) p -ℤ at d 0
  seat_date p l = get_or-map (λ t. at d t -ℤ at d 0) ss p 0 (pos 0) l

  pub picked : GreatestDates s.terms (active_rows s.rows) s.codes (from_zero d ss)
  picked = record {
    numbers = seat_numbers s.terms (at d);
    greatest = record {
      reached = λ p l. (at d, fitting, (λ q i. best.0.1 (slice_index ss q) (low_at q i).0), refl);
      greatest = lower;
    };
    each = length-map ss (λ t. at d t -ℤ at d 0);
    from_zero = λ p l. seat_date p l ∙ ap (λ t. seat_numbers s.terms (at d) p -ℤ at d t) (sym (seat_of_zero s.terms held.terms_fit).1);
  }

  -- a counted row holds of the dates
  rows_dated : (rows : List Row) → All (EdgeFits ss) (row_edges rows) → All (SpanHolds (at d)) rows → All (CountedHolds counts_spans s.terms (date_at ss (from_zero d ss))) rows
  rows_dated [] f a = All-nil _
  rows_dated (Span i j c ∷ rows) f a =
      let fit = All-head (EdgeFits ss) _ _ f in
      let x = date_of (λ t. at d t -ℤ at d 0) ss i fit.0 in
      let y = date_of (λ t. at d t -ℤ at d 0) ss j fit.1 in
      let k : (at d i -ℤ at d j) ≤ℤ c = All-head (SpanHolds (at d)) _ _ a in
      let r : (date_at ss (from_zero d ss) i -ℤ date_at ss (from_zero d ss) j) ≤ℤ c = omega (arith, ints) in
      All-cons (CountedHolds counts_spans s.terms (date_at ss (from_zero d ss))) _ _ (λ _. r) (rows_dated rows (All-tail (EdgeFits ss) _ _ f) (All-tail (SpanHolds (at d)) _ _ a))
  rows_dated (Same i j ∷ rows) f a = All-cons (CountedHolds counts_spans s.terms (date_at ss (from_zero d ss))) _ _ (λ e. absurd cc) (rows_dated rows f (All-tail (SpanHolds (at d)) _ _ a))
  rows_dated (Unlike i j ∷ rows) f a = All-cons (CountedHolds counts_spans s.terms (date_at ss (from_zero d ss))) _ _ (λ e. absurd cc) (rows_dated rows f (All-tail (SpanHolds (at d)) _ _ a))

  pub right : RightDates counts_spans s (from_zero d ss)
  right =
      let z = seat_of_zero s.terms held.terms_fit in
      let n = length-map ss (λ t. at d t -ℤ at d 0) in
      let first = seat_date 0 z.0 ∙ ap (λ t. at d t -ℤ at d 0) z.1 in
      record {
        each = n;
        within = λ p l.
            let i : p < length ss = omega arith in
            let e = seat_date p i in
            let a = low_at p i in
            let b = zero_in_limits in
            (omega (arith, ints), omega (arith, ints));
        zero_first = omega (arith, ints);
        ordered = record {
          same = λ p q i j e.
              let placed = held.placed in
              let x = seat_date p (omega (arith, length_ranks s.codes)) in
              let y = seat_date q (omega (arith, length_ranks s.codes)) in
              let k = fitting.ordered.same p q i j e in
              omega (arith, ints);
          less = λ p q i j e.
              let placed = held.placed in
              let x = seat_date p (omega (arith, length_ranks s.codes)) in
              let y = seat_date q (omega (arith, length_ranks s.codes)) in
              let k = fitting.ordered.less p q i j e in
              omega (arith, ints);
        };
        hold = rows_dated (active_rows s.rows) (all_front (EdgeFits ss) (row_edges (active_rows s.rows)) (order_edges (placed_seats s)) (edges_fit held)) fitting.hold;
      }
