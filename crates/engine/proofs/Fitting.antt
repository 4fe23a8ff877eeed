-- Lists of accepted terms and rows, one more or one less of them.
use Rattle.std.proofs.Common.{◌≡◌, ℕ, zero, suc, ◌+◌, ◌<◌, ◌≤◌, Bool, true, false, not, ◌&&◌, List, [], ◌∷◌, ◌++◌, length, get_or, take, set, All, Some, None, Option, sym, refl, ap, ◌∙◌, subst, add-zero, arith, length-append}
use Rattle.std.proofs.lemmas.List.{append_assoc, append-nil, get_or_append_left, get_or_default, length_push}
use Rattle.std.proofs.lemmas.List.Recursion.{and_push}
use Rattle.std.proofs.lemmas.Bool.Decides.{nat_tests}
use Rattle.std.proofs.lemmas.List.Elements.{All-nil, All-cons, All-head, All-tail}
use Rattle.std.proofs.lemmas.Bool.{and_parts, and_from, cond_both}
use Rattle.sheet.specs.declared.fault.Cause.{Cause}
use Rattle.sheet.specs.declared.row.Row.{Row}
use Rattle.sheet.specs.declared.row.Row.TheVariants.{Span, Same, Unlike}
use Rattle.sheet.specs.declared.term.Form.{Form}
use Rattle.sheet.specs.declared.term.Form.TheVariants.{Name, One, Two}
use Rattle.sheet.specs.declared.term.Term.{Term}
use Rattle.sheet.specs.Terms.{is_dated, well_lettered}
use Rattle.engine.specs.declared.noted.Noted.{Noted}
use Rattle.engine.specs.Terms.{is_dated_at, seats_of, arguments_below, any_count_differs, zero_term}
use Rattle.engine.specs.Rows.{left_of, right_of, is_span_on_level}
use Rattle.engine.specs.Refusals.{term_refusal, row_refusal}
use Rattle.engine.specs.Fitting.{is_accepted, is_name, is_zero_term, terms_fit, all_terms_fit, row_fits, all_rows_fit}
use Rattle.engine.specs.Calls.{rows_with_mark}
use Rattle.engine.specs.States.{active_rows}
use Rattle.engine.proofs.Seats.{seats_push}

-- one term more
fit_push : (before ts : List Term) (t : Term) → terms_fit before ts ≡ true → term_refusal (before ++ ts) t ≡ None → terms_fit before (ts ++ t ∷ []) ≡ true
fit_push before [] t f e = and_from (is_accepted (term_refusal before t)) true (ap is_accepted (subst (λ us. term_refusal us t ≡ None) (append-nil before) e)) refl
fit_push before (u ∷ ts) t f e =
    let p = and_parts (is_accepted (term_refusal before u)) (terms_fit (before ++ u ∷ []) ts) f in
    and_from (is_accepted (term_refusal before u)) (terms_fit (before ++ u ∷ []) (ts ++ t ∷ [])) p.0
    (fit_push (before ++ u ∷ []) ts t p.1 (subst (λ us. term_refusal us t ≡ None) (sym (append_assoc before (u ∷ []) ts)) e))

pub terms_push : (ts : List Term) (t : Term) → all_terms_fit ts ≡ true → term_refusal ts t ≡ None → all_terms_fit (ts ++ t ∷ []) ≡ true
terms_push [] t f e = cc
terms_push (u ∷ ts) t f e =
    let p = and_parts (is_zero_term u) (terms_fit (u ∷ []) ts) f in
    and_from (is_zero_term u) (terms_fit (u ∷ []) (ts ++ t ∷ [])) p.0 (fit_push (u ∷ []) ts t p.1 e)

-- what is known of an accepted term
pub record TermPasses (ts : List Term) (t : Term) : Type 0 where
  pub lettered : well_lettered t.form ≡ true
  pub room : length ts < 32
  pub seated : is_dated t.kind ≡ true → length (seats_of ts) < 8
  pub earlier : arguments_below (length ts) t.form ≡ true
  pub agreed : any_count_differs t.form ts ≡ false

pub term_passes : (ts : List Term) (t : Term) → term_refusal ts t ≡ None → TermPasses ts t
term_passes ts t e =
    record {
      lettered = grind (arith, nat_tests);
      room = grind (arith, nat_tests);
      seated = grind (arith, nat_tests);
      earlier = grind (arith, nat_tests);
      agreed = grind (arith, nat_tests);
    }

pub few_seats : (ts : List Term) (t : Term) → term_refusal ts t ≡ None → length (seats_of ts) ≤ 8 → (length (seats_of ts) ≤ length (seats_of (ts ++ t ∷ []))) × (length (seats_of (ts ++ t ∷ [])) ≤ 8)
few_seats ts t e l = let seated = (term_passes ts t e).seated in let n = ap length (seats_push ts t) in grind (arith, nat_tests, length-append)

-- and of an accepted row
pub record RowPasses (ts : List Term) (n : ℕ) (r : Row) : Type 0 where
  pub room : n < 64
  pub fits : row_fits ts r ≡ true

pub row_passes : (ts : List Term) (n : ℕ) (r : Row) → row_refusal ts n r ≡ None → RowPasses ts n r
row_passes ts n r e = record { room = grind (arith, nat_tests); fits = grind (arith, nat_tests) }

pub terms_of_row : (ts : List Term) (r : Row) → row_fits ts r ≡ true → (left_of r < length ts) × (right_of r < length ts)
terms_of_row ts r fits = (grind (arith, nat_tests), grind (arith, nat_tests))

pub rows_push : (ts : List Term) (ms : List Noted) (m : Noted) → all_rows_fit ts ms ≡ true → row_fits ts m.row ≡ true → all_rows_fit ts (ms ++ m ∷ []) ≡ true
rows_push ts ms m f e = and_push (all_rows_fit ts) (λ (n : Noted). row_fits ts n.row) refl (λ _ _. refl) ms m ∙ and_from (all_rows_fit ts ms) (row_fits ts m.row) f e

pub rows_take : (ts : List Term) (n : ℕ) (ms : List Noted) → all_rows_fit ts ms ≡ true → all_rows_fit ts (take n ms) ≡ true
rows_take ts zero ms f = refl
rows_take ts (suc n) [] f = refl
rows_take ts (suc n) (m ∷ ms) f = grind (arith, nat_tests, rows_take ts n ms)

pub each_row_fits : (ts : List Term) (ms : List Noted) → all_rows_fit ts ms ≡ true → All (λ m. row_fits ts m.row ≡ true) ms
each_row_fits ts [] f = All-nil _
each_row_fits ts (m ∷ ms) f =
    let p = and_parts (row_fits ts m.row) (all_rows_fit ts ms) f in
    All-cons (λ (n : Noted). row_fits ts n.row ≡ true) m ms p.0 (each_row_fits ts ms p.1)

-- what holds of each row that is held holds of each active one
pub all_active : (P : Row → Type 0) (ms : List Noted) → All (λ m. P m.row) ms → All P (active_rows ms)
all_active P [] a = All-nil _
all_active P (m ∷ ms) a =
    let rest = all_active P ms (All-tail (λ (n : Noted). P n.row) m ms a) in
    cond_both m.active (m.row ∷ active_rows ms) (active_rows ms) (All P) (λ _. All-cons P m.row (active_rows ms) (All-head (λ (n : Noted). P n.row) m ms a) rest) (λ _. rest)

-- a mark changes no row
pub rows_marked : (ts : List Term) (i : ℕ) (b : Bool) (ms : List Noted) → all_rows_fit ts (rows_with_mark i b ms) ≡ all_rows_fit ts ms
rows_marked ts i b [] = refl
rows_marked ts zero b (m ∷ ms) = refl
rows_marked ts (suc i) b (m ∷ ms) = ap (λ v. row_fits ts m.row && v) (rows_marked ts i b ms)

-- a mark that is set by the row read and written back
pub set_mark : (i : ℕ) (b : Bool) (ms : List Noted) (m : Noted) → m ≡ get_or ms i m → i < length ms → set ms i (record { row = m.row; active = b }) ≡ rows_with_mark i b ms
set_mark i b [] m e l = absurd (omega arith)
set_mark zero b (x ∷ ms) m e l = ap (λ (n : Noted). record { row = n.row; active = b } ∷ ms) e
set_mark (suc i) b (x ∷ ms) m e l = ap (λ xs. x ∷ xs) (set_mark i b ms m e (omega arith))

-- what fits the terms fits them and one more
dated_still : (ts : List Term) (t : Term) (i : ℕ) → i < length ts → is_dated_at (ts ++ t ∷ []) i ≡ is_dated_at ts i
dated_still ts t i l = ap (λ (u : Term). is_dated u.kind) (get_or_append_left ts (t ∷ []) zero_term i l)

span_level_still : (ts : List Term) (t : Term) (r : Row) → left_of r < length ts → right_of r < length ts → is_span_on_level (ts ++ t ∷ []) r ≡ is_span_on_level ts r
span_level_still ts t (Span i j c) a b = λ k. not (dated_still ts t i a k && dated_still ts t j b k)
span_level_still ts t (Same i j) a b = refl
span_level_still ts t (Unlike i j) a b = refl

row_still : (ts : List Term) (t : Term) (r : Row) → row_fits ts r ≡ true → row_fits (ts ++ t ∷ []) r ≡ true
row_still ts t r f = grind (arith, nat_tests, length-append {A = Term}, span_level_still ts t r)

pub rows_still : (ts : List Term) (t : Term) (ms : List Noted) → all_rows_fit ts ms ≡ true → all_rows_fit (ts ++ t ∷ []) ms ≡ true
rows_still ts t [] f = refl
rows_still ts t (m ∷ ms) f =
    let p = and_parts (row_fits ts m.row) (all_rows_fit ts ms) f in
    and_from (row_fits (ts ++ t ∷ []) m.row) (all_rows_fit (ts ++ t ∷ []) ms) (row_still ts t m.row p.0) (rows_still ts t ms p.1)

pub accepted_none : (o : Option Cause) → is_accepted o ≡ true → o ≡ None
accepted_none None e = refl
accepted_none (Some c) e = cc

pub below_more : (n m : ℕ) (f : Form) → n ≤ m → arguments_below n f ≡ true → arguments_below m f ≡ true
below_more n m Name l h = refl
below_more n m (One a x) l h = grind (arith, nat_tests)
below_more n m (Two a x y) l h = grind (arith, nat_tests)

zero_has_none : (t : Term) → is_zero_term t ≡ true → arguments_below 0 t.form ≡ true
zero_has_none t h = no_arguments t.form (and_parts (is_dated t.kind) (is_name t.form) h).1
  where
    no_arguments : (f : Form) → is_name f ≡ true → arguments_below 0 f ≡ true
    no_arguments Name e = refl
    no_arguments (One a x) e = cc
    no_arguments (Two a x y) e = cc

-- each of the terms was accepted after those before it, so its arguments are earlier terms
fit_earlier : (before ts : List Term) (i : ℕ) → terms_fit before ts ≡ true → i < length ts → arguments_below (length before + i) (get_or ts i zero_term).form ≡ true
fit_earlier before [] i f l = absurd (omega arith)
fit_earlier before (t ∷ ts) zero f l =
    let p = and_parts (is_accepted (term_refusal before t)) (terms_fit (before ++ t ∷ []) ts) f in
    subst (λ n. arguments_below n t.form ≡ true) (sym (add-zero (length before))) (term_passes before t (accepted_none (term_refusal before t) p.0)).earlier
fit_earlier before (t ∷ ts) (suc i) f l =
    let p = and_parts (is_accepted (term_refusal before t)) (terms_fit (before ++ t ∷ []) ts) f in
    let e : length (before ++ t ∷ []) + i ≡ length before + suc i = omega (arith, length_push before t) in
    subst (λ n. arguments_below n (get_or ts i zero_term).form ≡ true) e (fit_earlier (before ++ t ∷ []) ts i p.1 (omega arith))

pub arguments_earlier : (ts : List Term) (i : ℕ) → all_terms_fit ts ≡ true → i < length ts → arguments_below i (get_or ts i zero_term).form ≡ true
arguments_earlier [] i f l = absurd (omega arith)
arguments_earlier (t ∷ ts) zero f l = zero_has_none t (and_parts (is_zero_term t) (terms_fit (t ∷ []) ts) f).0
arguments_earlier (t ∷ ts) (suc i) f l =
    subst (λ n. arguments_below n (get_or ts i zero_term).form ≡ true) (omega arith)
    (fit_earlier (t ∷ []) ts i (and_parts (is_zero_term t) (terms_fit (t ∷ []) ts) f).1 (omega arith))

-- so each is one of the terms
pub arguments_are_terms : (ts : List Term) → all_terms_fit ts ≡ true → All (λ t. arguments_below (length ts) t.form ≡ true) ts
arguments_are_terms ts f =
    λ i d l. subst (λ (t : Term). arguments_below (length ts) t.form ≡ true) (get_or_default ts i zero_term d l) (below_more i (length ts) (get_or ts i zero_term).form (omega arith) (arguments_earlier ts i f l))

-- accepted terms are not too many
few_with : (before ts : List Term) → terms_fit before ts ≡ true → length before ≤ 32 → length (seats_of before) ≤ 8 → (length (before ++ ts) ≤ 32) × (length (seats_of (before ++ ts)) ≤ 8)
few_with before [] f l s = subst (λ us. (length us ≤ 32) × (length (seats_of us) ≤ 8)) (sym (append-nil before)) (l, s)
few_with before (t ∷ ts) f l s =
    let p = and_parts (is_accepted (term_refusal before t)) (terms_fit (before ++ t ∷ []) ts) f in
    let none = accepted_none (term_refusal before t) p.0 in
    let room = (term_passes before t none).room in
    subst (λ us. (length us ≤ 32) × (length (seats_of us) ≤ 8)) (append_assoc before (t ∷ []) ts)
    (few_with (before ++ t ∷ []) ts p.1 (omega (arith, length_push before t)) (few_seats before t none s).1)

pub few_fit : (ts : List Term) → all_terms_fit ts ≡ true → (length ts ≤ 32) × (length (seats_of ts) ≤ 8)
few_fit [] f = (omega arith, omega arith)
few_fit (u ∷ ts) f =
    let one : length (seats_of (u ∷ [])) ≤ 8 = cond_both (is_dated u.kind) (0 ∷ []) [] (λ ss. length ss ≤ 8) (λ _. omega arith) (λ _. omega arith) in
    few_with (u ∷ []) ts (and_parts (is_zero_term u) (terms_fit (u ∷ []) ts) f).1 (omega arith) one
