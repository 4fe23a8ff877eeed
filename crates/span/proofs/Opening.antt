-- The rounds decide whether numbers fit, and so whether an allowed arrangement begins with the codes.
use Rattle.std.specs.Prelude.{◌↔◌, Bool, IsTrue, length, refl}
use Rattle.std.proofs.Common.{arith, inl, inr}
use Rattle.std.proofs.lemmas.Bool.{cases_Bool}
use Rattle.graph.specs.Claims.{Decided}
use Rattle.graph.proofs.Deciding.{exact_among}
use Rattle.engine.specs.Rules.{SpanAllowed, seat_numbers}
use Rattle.engine.specs.States.{Completion, State, active_rows}
use Rattle.engine.specs.Terms.{seats_of}
use Rattle.engine.proofs.Bounds.{Bounds}
use Rattle.engine.proofs.Following.{front_extended, in_order_front}
use Rattle.span.specs.Decisions.{DecisionOf, becomes_stable_of, constraints_of}
use Rattle.span.proofs.Limits.{edges_among, edges_fit, within}
use Rattle.span.proofs.Solutions.{fits_solve, solutions_fit}

-- numbers that fit what is placed
abbrev Allowed : State → Type 0
Allowed s = SpanAllowed s.terms (active_rows s.rows) s.codes

-- those of an allowed arrangement fit the codes that begin it
pub begun : (s : State) → Completion SpanAllowed s → Allowed s
begun s k =
    let v = k.allowed.0 in
    let f = k.allowed.1 in
    (v, record { hold = f.hold; ordered = in_order_front s.codes k.rest (seat_numbers s.terms v) f.ordered })

module _ {s : State} (held : Bounds s) where
  pub decided : DecisionOf s (becomes_stable_of s)
  decided =
      let rows = active_rows s.rows in
      let ss = seats_of s.terms in
      let es = constraints_of s in
      let d : Decided 32 (length ss) es = exact_among 32 (length ss) ss es (within held) (edges_among ss es (edges_fit held)) (omega arith) in
      record {
        rounds = refl;
        solved = λ e. ((d.0 e).0, solutions_fit (d.0 e).0 s.terms s.codes held.placed rows (d.0 e).1);
        unsolved = λ e v f. d.4 (d.1 e) (v, fits_solve v s.terms s.codes held.placed rows f);
        cycle = d.1;
        no_cycle = λ e c. d.4 c (d.0 e);
      }

  -- numbers that fit the codes placed extend to an allowed arrangement
  pub opened : Allowed s → Completion SpanAllowed s
  opened (v, f) =
      let e = front_extended (length (seats_of s.terms)) s.codes (seat_numbers s.terms v) held.placed held.codes_valid f.ordered in
      record { rest = e.0; full = e.1; allowed = (v, record { hold = f.hold; ordered = e.2 }) }

  pub open_exactly : (r : Bool) → DecisionOf s r → IsTrue r ↔ Completion SpanAllowed s
  open_exactly r d = (λ e. opened (d.solved e), λ k. elim (cases_Bool r) [ inl e ↦ e | inr e ↦ absurd (let f = begun s k in d.unsolved e f.0 f.1) ])
