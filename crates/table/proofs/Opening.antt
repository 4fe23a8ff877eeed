-- The classes decide whether an allowed arrangement begins with the codes placed.
use Rattle.std.proofs.Common.{◌≡◌, ℕ, ◌<◌, ◌↔◌, Bool, true, false, eqb, IsTrue, ◌&&◌, List, [], ◌∷◌, length, get_or, All, sym, refl, ◌∙◌, inl, inr, arith}
use Rattle.std.proofs.lemmas.List.Elements.{All-nil, All-cons, All-head, All-tail, All-weaker}
use Rattle.std.proofs.lemmas.List.Sums.{AllPass-from_list_all, list_all-from_AllPass}
use Rattle.std.proofs.lemmas.Int.{ints}
use Rattle.std.proofs.lemmas.Bool.Decides.{nat_tests}
use Rattle.std.proofs.lemmas.Bool.{and_from, and_parts, both_ways, cases_Bool, cases_eq, eq-eqb, eqb-true}
use Rattle.sheet.specs.declared.row.Row.{Row}
use Rattle.sheet.specs.declared.row.Row.TheVariants.{Span, Same, Unlike}
use Rattle.congruence.specs.Classes.{class_numbers, class_of}
use Rattle.congruence.specs.Closure.{in_one_class}
use Rattle.congruence.specs.Entries.{entries_of, tables_of}
use Rattle.congruence.proofs.Exact.{ClassModel, closure_model}
use Rattle.engine.specs.declared.placed.Placed.{Placed}
use Rattle.engine.specs.Arrangements.{EqualInBlocks, ranks}
use Rattle.engine.specs.EachPair.{each_pair}
use Rattle.engine.specs.Equalities.{AlwaysEqual, Equates, SameHolds}
use Rattle.engine.specs.Meaning.{Numbers}
use Rattle.engine.specs.Placing.{placed_seats}
use Rattle.engine.specs.Rows.{terms_below}
use Rattle.engine.specs.Rules.{EqualityHolds, TableAllowed, seat_numbers}
use Rattle.engine.specs.States.{Completion, State, active_rows}
use Rattle.engine.specs.Terms.{seats_of}
use Rattle.engine.proofs.Allowing.{allowed_equates}
use Rattle.engine.proofs.Bounds.{Bounds}
use Rattle.engine.proofs.Completing.{blocks_extended}
use Rattle.engine.proofs.EachPair.{either_way}
use Rattle.engine.proofs.Following.{blocks_front}
use Rattle.engine.proofs.Placing.{all_placed_pairs, placed_pair_at, placed_seat}
use Rattle.table.specs.Apart.{blocks_apart, row_apart, rows_apart, two_apart}
use Rattle.table.specs.Decisions.{classes_of, equal_pairs}
use Rattle.table.specs.Equalities.{KeptApart, RowKeptApart}
use Rattle.table.proofs.Below.{active_below, seat_below}
use Rattle.table.proofs.Equating.{by_choices, exact, pairs_equate}

-- the test that the code makes
abbrev pub is_consistent : State → Bool
is_consistent s = rows_apart (classes_of s) (active_rows s.rows) && blocks_apart (classes_of s) (placed_seats s)

apart_differ : (cl : List ℕ) (i j : ℕ) → in_one_class cl i j ≡ false → class_numbers cl i ≡ class_numbers cl j → ⊥
apart_differ cl i j e n = let same : class_of cl i ≡ class_of cl j = omega (arith, ints) in both_ways (in_one_class cl i j) e (eq-eqb (class_of cl i) (class_of cl j) same)

-- rows whose terms are apart hold of numbers that are equal just within a class
hold_apart : (cl : List ℕ) (rows : List Row) → All (SameHolds (class_numbers cl)) rows → rows_apart cl rows ≡ true → All (EqualityHolds (class_numbers cl)) rows
hold_apart cl [] a e = All-nil _
hold_apart cl (r ∷ rows) a e =
    let v = class_numbers cl in
    let p = and_parts (row_apart cl r) (rows_apart cl rows) e in
    All-cons (EqualityHolds v) r rows (one r (All-head (SameHolds v) r rows a) p.0) (hold_apart cl rows (All-tail (SameHolds v) r rows a) p.1)
  where
    one : (r : Row) → SameHolds (class_numbers cl) r → row_apart cl r ≡ true → EqualityHolds (class_numbers cl) r
    one (Span i j c) h t = tt
    one (Same i j) h t = h
    one (Unlike i j) h t = apart_differ cl i j (elim (cases_Bool (in_one_class cl i j)) [ inl y ↦ grind arith | inr n ↦ n ])

-- and where no two terms of an unlike row are equal, they are of different classes if classes have equal terms
kept_rows : (cl : List ℕ) (equal : ℕ → ℕ → Type 0) (n : ℕ) (rows : List Row) → ((i j : ℕ) → i < n → j < n → class_of cl i ≡ class_of cl j → equal i j)
    → All (λ r. terms_below n r ≡ true) rows → All (RowKeptApart equal) rows → rows_apart cl rows ≡ true
kept_rows cl equal n [] f b a = refl
kept_rows cl equal n (r ∷ rows) f b a =
    and_from (row_apart cl r) (rows_apart cl rows) (one r (All-head (λ r. terms_below n r ≡ true) r rows b) (All-head (RowKeptApart equal) r rows a))
    (kept_rows cl equal n rows f (All-tail (λ r. terms_below n r ≡ true) r rows b) (All-tail (RowKeptApart equal) r rows a))
  where
    one : (r : Row) → terms_below n r ≡ true → RowKeptApart equal r → row_apart cl r ≡ true
    one (Span i j c) b k = refl
    one (Same i j) b k = refl
    one (Unlike i j) b k =
        elim (cases_Bool (in_one_class cl i j)) [
          | inl y ↦ absurd (k (f i j (grind (arith, nat_tests)) (grind (arith, nat_tests)) (eqb-true (class_of cl i) (class_of cl j) y)))
          | inr m ↦ grind arith
        ]

-- what holds of the same and unlike rows keeps the terms of unlike rows apart
unlike_kept : (v : Numbers) (equal : ℕ → ℕ → Type 0) (r : Row) → ((i j : ℕ) → equal i j → v i ≡ v j) → EqualityHolds v r → RowKeptApart equal r
unlike_kept v equal (Span i j c) f h = tt
unlike_kept v equal (Same i j) f h = tt
unlike_kept v equal (Unlike i j) f h = λ e. h (f i j e)

module _ {s : State} (held : Bounds s) where
  abbrev cl : List ℕ
  cl = classes_of s

  abbrev rs : List ℕ
  rs = ranks s.codes

  abbrev ps : List Placed
  ps = placed_seats s

  -- placed seats of one class are of one block
  one_block : blocks_apart cl ps ≡ true → (p q : ℕ) → p < q → q < length rs
      → seat_numbers s.terms (class_numbers cl) p ≡ seat_numbers s.terms (class_numbers cl) q
      → get_or rs p 0 ≡ get_or rs q 0
  one_block apart p q b l e =
      let test : two_apart cl (placed_seat s.terms s.codes p, placed_seat s.terms s.codes q) ≡ true =
      placed_pair_at s.terms s.codes held.placed (λ x. two_apart cl x ≡ true) (AllPass-from_list_all (two_apart cl) (each_pair ps) apart) p q b l in
      let one : class_of cl (get_or (seats_of s.terms) p 0) ≡ class_of cl (get_or (seats_of s.terms) q 0) = omega (arith, ints) in
      grind (arith, nat_tests)

  -- the class numbers are a choice, and go on to an arrangement
  opened : is_consistent s ≡ true → Completion TableAllowed s
  opened c =
      let rows = active_rows s.rows in
      let v = class_numbers cl in
      let test = and_parts (rows_apart cl rows) (blocks_apart cl ps) c in
      let model : ClassModel s.terms (equal_pairs s) cl = closure_model 32 s.terms (equal_pairs s) in
      let m = tables_of (entries_of s.terms v) in
      let e : Equates s.terms rows s.codes m v = pairs_equate held m v model.interprets model.equal in
      let blocks : EqualInBlocks rs (seat_numbers s.terms v) = record {
        same = e.blocks;
        apart = either_way (λ p q. seat_numbers s.terms v p ≡ seat_numbers s.terms v q → get_or rs p 0 ≡ get_or rs q 0) (length rs) (λ p t. refl) (λ p q f t. sym (f (sym t))) (one_block test.1);
      } in
      let more = blocks_extended (length (seats_of s.terms)) s.codes (seat_numbers s.terms v) held.placed held.codes_valid blocks in
      record {
        rest = more.0;
        full = more.1;
        allowed = record { tables = m; numbers = v; interprets = model.interprets; hold = hold_apart cl rows e.hold test.0; blocks = more.2 };
      }

  -- a choice that fits an arrangement fits the codes that begin it
  begun : Completion TableAllowed s → TableAllowed s.terms (active_rows s.rows) s.codes
  begun k =
      let a = k.allowed in
      record { tables = a.tables; numbers = a.numbers; interprets = a.interprets; hold = a.hold; blocks = blocks_front s.codes k.rest (seat_numbers s.terms a.numbers) a.blocks }

  -- it tells apart what is to be apart
  kept_apart : TableAllowed s.terms (active_rows s.rows) s.codes → KeptApart s
  kept_apart a =
      let rows = active_rows s.rows in
      let v = a.numbers in
      let e : Equates s.terms rows s.codes a.tables v = allowed_equates s.terms rows s.codes a in
      let equal : (i j : ℕ) → AlwaysEqual s.terms rows s.codes i j → v i ≡ v j = λ i j always. always a.tables v e in
      record {
        rows = All-weaker (EqualityHolds v) (RowKeptApart (AlwaysEqual s.terms rows s.codes)) (λ r. unlike_kept v (AlwaysEqual s.terms rows s.codes) r equal) rows a.hold;
        blocks = λ p q lp lq d always. d (a.blocks.apart p q lp lq (equal (get_or (seats_of s.terms) p 0) (get_or (seats_of s.terms) q 0) always));
      }

  -- and what is apart is of different classes
  one_class_equal : (i j : ℕ) → i < 32 → j < 32 → class_of cl i ≡ class_of cl j → AlwaysEqual s.terms (active_rows s.rows) s.codes i j
  one_class_equal i j li lj c = by_choices held i j ((exact held).equal i j li lj c)

  two_blocks : KeptApart s → (p q : ℕ) → p < q → q < length rs
      → two_apart cl (placed_seat s.terms s.codes p, placed_seat s.terms s.codes q) ≡ true
  two_blocks kept p q b l =
      let t = get_or (seats_of s.terms) p 0 in
      let u = get_or (seats_of s.terms) q 0 in
      let lp : p < length rs = omega arith in
      elim (cases_eq (get_or rs q 0) (get_or rs p 0)) [
        | inl e ↦ let same : eqb (get_or rs q 0) (get_or rs p 0) ≡ true = eq-eqb (get_or rs q 0) (get_or rs p 0) e in grind arith
        | inr d ↦ elim (cases_Bool (in_one_class cl t u)) [
          | inr n ↦ grind arith
          | inl y ↦ absurd (kept.blocks p q lp l (λ e. d (sym e)) (one_class_equal t u (seat_below held p lp) (seat_below held q l) (eqb-true (class_of cl t) (class_of cl u) y)))
        ]
      ]

  apart_consistent : KeptApart s → is_consistent s ≡ true
  apart_consistent kept =
      let rows = active_rows s.rows in
      and_from (rows_apart cl rows) (blocks_apart cl ps)
      (kept_rows cl (AlwaysEqual s.terms rows s.codes) 32 rows one_class_equal (active_below held) kept.rows)
      (list_all-from_AllPass (two_apart cl) (each_pair ps) (all_placed_pairs s.terms s.codes held.placed (λ x. two_apart cl x ≡ true) (two_blocks kept)))

  -- what the code decides, in three ways
  pub record Decided (r : Bool) : Type 0 where
    pub exact : IsTrue r ↔ Completion TableAllowed s
    pub fits : IsTrue r ↔ TableAllowed s.terms (active_rows s.rows) s.codes
    pub apart : IsTrue r ↔ KeptApart s

  pub decided : (r : Bool) → r ≡ is_consistent s → Decided r
  decided r e =
      record {
        exact = ((λ t. opened (sym e ∙ t)), (λ k. e ∙ apart_consistent (kept_apart (begun k))));
        fits = ((λ t. begun (opened (sym e ∙ t))), (λ a. e ∙ apart_consistent (kept_apart a)));
        apart = ((λ t. kept_apart (begun (opened (sym e ∙ t)))), (λ k. e ∙ apart_consistent k));
      }
