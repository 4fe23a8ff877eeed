-- All terms that the code looks at have a place among the classes.
use Rattle.std.proofs.Common.{◌≡◌, ℕ, ◌<◌, ◌≤◌, true, List, [], ◌∷◌, length, get_or, take, drop, All, arith}
use Rattle.std.proofs.lemmas.List.Elements.{All-nil, All-cons, All-head, All-tail, All-append, All-drop, All-get_or, All-take, All-weaker}
use Rattle.std.proofs.lemmas.Bool.Decides.{nat_tests}
use Rattle.sheet.specs.declared.row.Row.{Row}
use Rattle.sheet.specs.declared.row.Row.TheVariants.{Span, Same, Unlike}
use Rattle.sheet.specs.declared.term.Term.{Term}
use Rattle.congruence.specs.Claims.{ArgumentsBelow, PairsBelow}
use Rattle.engine.specs.declared.placed.Placed.{Placed}
use Rattle.engine.specs.Arrangements.{ranks}
use Rattle.engine.specs.EachPair.{each_pair}
use Rattle.engine.specs.Fitting.{row_fits}
use Rattle.engine.specs.Placing.{placed_seats}
use Rattle.engine.specs.Rows.{terms_below}
use Rattle.engine.specs.States.{State, active_rows}
use Rattle.engine.specs.Terms.{arguments_below, seats_of}
use Rattle.engine.proofs.Bounds.{Bounds}
use Rattle.engine.proofs.Fitting.{all_active, arguments_are_terms, below_more, each_row_fits}
use Rattle.engine.proofs.Placing.{all_placed, all_placed_pairs}
use Rattle.engine.proofs.Ranks.{length_ranks}
use Rattle.engine.proofs.Seats.{seats_within}
use Rattle.table.specs.Apart.{RowsBelow, SeatsBelow}
use Rattle.table.specs.Decisions.{equal_pairs}
use Rattle.table.specs.Pairs.{block_pairs, same_pairs}
use Rattle.table.proofs.Pairs.{IfInOneBlock, all_equated}

-- the terms of a row
row_below : (ts : List Term) (r : Row) → length ts ≤ 32 → row_fits ts r ≡ true → terms_below 32 r ≡ true
row_below ts r few f = grind (arith, nat_tests)

pub rows_below : {s : State} (held : Bounds s) → RowsBelow 32 s.rows
rows_below {s} held =
    All-weaker (λ m. row_fits s.terms m.row ≡ true) (λ m. terms_below 32 m.row ≡ true) (λ m. row_below s.terms m.row held.terms) s.rows (each_row_fits s.terms s.rows held.rows_fit)

-- those of the seats
pub seat_below : {s : State} (held : Bounds s) (p : ℕ) → p < length (ranks s.codes) → get_or (seats_of s.terms) p 0 < 32
seat_below {s} held p l =
    let few = length_ranks s.codes in
    let placed = held.placed in
    let term = All-get_or (λ i. i < length s.terms) (seats_of s.terms) p 0 (omega arith) (seats_within s.terms) in
    omega (arith, held.terms)

pub seats_below : {s : State} (held : Bounds s) → SeatsBelow 32 (placed_seats s)
seats_below {s} held = all_placed s.terms s.codes held.placed (λ p. p.term < 32) (seat_below held)

-- the arguments
pub arguments_below_all : {s : State} (held : Bounds s) → ArgumentsBelow 32 s.terms
arguments_below_all {s} held =
    let ts = s.terms in
    All-weaker (λ (t : Term). arguments_below (length ts) t.form ≡ true) (λ t. arguments_below 32 t.form ≡ true) (λ t l. below_more (length ts) 32 t.form held.terms l) ts (arguments_are_terms ts held.terms_fit)

-- those of the active rows, and so of the pairs
pub active_below : {s : State} (held : Bounds s) → All (λ r. terms_below 32 r ≡ true) (active_rows s.rows)
active_below {s} held = all_active (λ r. terms_below 32 r ≡ true) s.rows (rows_below held)

same_below : (n : ℕ) (rows : List Row) → All (λ r. terms_below n r ≡ true) rows → PairsBelow n (same_pairs rows)
same_below n [] a = All-nil _
same_below n (Span i j c ∷ rows) a = same_below n rows (All-tail (λ r. terms_below n r ≡ true) (Span i j c) rows a)
same_below n (Same i j ∷ rows) a =
    let l = All-head (λ r. terms_below n r ≡ true) (Same i j) rows a in
    All-cons (λ q. (q.0 < n) × (q.1 < n)) (i, j) (same_pairs rows) (grind (arith, nat_tests), grind (arith, nat_tests)) (same_below n rows (All-tail (λ r. terms_below n r ≡ true) (Same i j) rows a))
same_below n (Unlike i j ∷ rows) a = same_below n rows (All-tail (λ r. terms_below n r ≡ true) (Unlike i j) rows a)

pub pairs_below : {s : State} (held : Bounds s) → PairsBelow 32 (equal_pairs s)
pairs_below {s} held =
    let Below : ℕ × ℕ → Type 0 = λ x. (x.0 < 32) × (x.1 < 32) in
    All-append Below (same_pairs (active_rows s.rows)) (block_pairs (placed_seats s)) (same_below 32 (active_rows s.rows) (active_below held))
    (all_equated Below (each_pair (placed_seats s))
    (all_placed_pairs s.terms s.codes held.placed (IfInOneBlock Below) (λ p q b l _. (seat_below held p (omega arith), seat_below held q l))))

-- past the first seat
pub others_below : (n : ℕ) (ps : List Placed) → SeatsBelow 32 ps → SeatsBelow 32 (take n (drop 1 ps))
others_below n ps a = All-take (λ p. p.term < 32) n (drop 1 ps) (All-drop (λ p. p.term < 32) 1 ps a)
