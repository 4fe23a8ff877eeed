-- Numbers that fit the rows and the codes are the solutions of the constraints.
use Rattle.std.specs.Prelude.{◌≡◌, refl, ℕ, ◌<◌, ◌≤◌, List, [], ◌∷◌, length, ◌+ℤ◌, ◌-ℤ◌, ◌≤ℤ◌, slice_index, All}
use Rattle.std.proofs.Common.{sym, ap, inl, inr, arith}
use Rattle.std.proofs.lemmas.List.Elements.{All-nil, All-cons, All-head, All-tail, All-append}
use Rattle.std.proofs.lemmas.Int.{ints}
use Rattle.std.proofs.lemmas.Bool.{cases_order}
use Rattle.graph.specs.Graph.{EdgeHolds, Solution}
use Rattle.sheet.specs.declared.row.Row.{Row}
use Rattle.sheet.specs.declared.row.Row.TheVariants.{Span, Same, Unlike}
use Rattle.sheet.specs.declared.term.Term.{Term}
use Rattle.engine.specs.declared.placed.Placed.{Placed}
use Rattle.engine.specs.EachPair.{each_pair}
use Rattle.engine.specs.Arrangements.{InOrder, ranks}
use Rattle.engine.specs.Meaning.{Numbers}
use Rattle.engine.specs.Placing.{placed_seats_of}
use Rattle.engine.specs.Rules.{SpanFits, SpanHolds, seat_numbers}
use Rattle.engine.specs.Terms.{seats_of}
use Rattle.span.specs.Constraints.{constraints, order_edges, pair_edges, row_edges}
use Rattle.engine.proofs.EachPair.{either_way}
use Rattle.engine.proofs.Lists.{all_back, all_flat_map, all_front, flat_map_all}
use Rattle.engine.proofs.Placing.{all_placed_pairs, placed_pair_at, placed_seat}
use Rattle.span.proofs.Pairs.{PairInOrder, order_pair, pair_order}

rows_solved : (v : Numbers) (rows : List Row) → All (SpanHolds v) rows → All (EdgeHolds v) (row_edges rows)
rows_solved v [] h = All-nil _
rows_solved v (Span i j c ∷ rows) h = let a : (v i -ℤ v j) ≤ℤ c = All-head (SpanHolds v) _ _ h in let b : v i ≤ℤ (v j +ℤ c) = omega (arith, ints) in All-cons (EdgeHolds v) _ _ b (rows_solved v rows (All-tail (SpanHolds v) _ _ h))
rows_solved v (Same i j ∷ rows) h = rows_solved v rows (All-tail (SpanHolds v) _ _ h)
rows_solved v (Unlike i j ∷ rows) h = rows_solved v rows (All-tail (SpanHolds v) _ _ h)

rows_hold : (v : Numbers) (rows : List Row) → All (EdgeHolds v) (row_edges rows) → All (SpanHolds v) rows
rows_hold v [] h = All-nil _
rows_hold v (Span i j c ∷ rows) h = let a : v i ≤ℤ (v j +ℤ c) = All-head (EdgeHolds v) _ _ h in let b : (v i -ℤ v j) ≤ℤ c = omega (arith, ints) in All-cons (SpanHolds v) _ _ b (rows_hold v rows (All-tail (EdgeHolds v) _ _ h))
rows_hold v (Same i j ∷ rows) h = All-cons (SpanHolds v) _ _ tt (rows_hold v rows h)
rows_hold v (Unlike i j ∷ rows) h = All-cons (SpanHolds v) _ _ tt (rows_hold v rows h)

-- the order of the ranks, as edges
module _ (v : Numbers) (ts : List Term) (codes : List ℕ) (seated : length codes ≤ length (seats_of ts)) where
  abbrev PairHolds : Placed × Placed → Type 0
  PairHolds p = All (EdgeHolds v) (pair_edges p)

  order_solved : InOrder (ranks codes) (seat_numbers ts v) → All (EdgeHolds v) (order_edges (placed_seats_of ts codes))
  order_solved o =
      all_flat_map (EdgeHolds v) pair_edges (each_pair (placed_seats_of ts codes))
      (all_placed_pairs ts codes seated PairHolds
      (λ p q b l. order_pair v (placed_seat ts codes p) (placed_seat ts codes q) (record {
        same = λ e. o.same p q (omega arith) l e;
        less = λ e. o.less p q (omega arith) l e;
        more = λ e. o.less q p l (omega arith) e;
      })))

  solved_order : All (EdgeHolds v) (order_edges (placed_seats_of ts codes)) → InOrder (ranks codes) (seat_numbers ts v)
  solved_order a =
      let pair : (p q : ℕ) → p < q → q < length (ranks codes) → PairInOrder v (placed_seat ts codes p) (placed_seat ts codes q) =
      λ p q b l. pair_order v (placed_seat ts codes p) (placed_seat ts codes q) (placed_pair_at ts codes seated PairHolds (flat_map_all (EdgeHolds v) pair_edges (each_pair (placed_seats_of ts codes)) a) p q b l) in
      record {
        same = either_way (λ p q. slice_index (ranks codes) p ≡ slice_index (ranks codes) q → seat_numbers ts v p ≡ seat_numbers ts v q) (length (ranks codes)) (λ p e. refl) (λ p q f e. sym (f (sym e))) (λ p q b l. (pair p q b l).same);
        less = λ p q i j e.
            elim (cases_order p q) [
              | inl s ↦ let f = ap (slice_index (ranks codes)) s in absurd (omega arith)
              | inr k ↦ elim k [ inl s ↦ (pair p q s j).less e | inr s ↦ (pair q p s i).more e ]
            ];
      }

  pub fits_solve : (rows : List Row) → SpanFits ts rows codes v → Solution (constraints ts rows codes) v
  fits_solve rows f = All-append (EdgeHolds v) (row_edges rows) (order_edges (placed_seats_of ts codes)) (rows_solved v rows f.hold) (order_solved f.ordered)

  pub solutions_fit : (rows : List Row) → Solution (constraints ts rows codes) v → SpanFits ts rows codes v
  solutions_fit rows s = record {
    hold = rows_hold v rows (all_front (EdgeHolds v) (row_edges rows) (order_edges (placed_seats_of ts codes)) s);
    ordered = solved_order (all_back (EdgeHolds v) (row_edges rows) (order_edges (placed_seats_of ts codes)) s);
  }
