-- An engine is given terms and rows one by one.
use Rattle.std.proofs.Common.{◌≡◌, ℕ, suc, ◌+◌, ◌<◌, ◌≤◌, true, List, [], ◌∷◌, ◌++◌, length, take, drop, get_or, None, sym, refl, ap, ◌∙◌, subst, append-nil, append_assoc, arith}
use Rattle.std.proofs.lemmas.Bool.{and_parts}
use Rattle.std.proofs.Math.ListN.{get_or-map}
use Rattle.std.proofs.lemmas.Grind.{get_or_after_one}
use Rattle.std.proofs.lemmas.List.{get_or_default, length-drop, length-map, map_push, take_more, drop_more, length-take-le, take-append-drop}
use Rattle.sheet.specs.declared.term.Term.{Term}
use Rattle.engine.specs.declared.noted.Noted.{Noted}
use Rattle.engine.specs.Calls.{on_note_row, on_note_term, unless_refused}
use Rattle.engine.specs.Fitting.{all_rows_fit, all_terms_fit, is_accepted, is_zero_term, row_fits, terms_fit}
use Rattle.engine.specs.Refusals.{row_refusal, term_refusal}
use Rattle.engine.specs.States.{State, with_rows, with_terms}
use Rattle.engine.specs.Terms.{zero_term}
use Rattle.engine.proofs.Fitting.{accepted_none, each_row_fits}
use Rattle.search.specs.Unmuted.{standing_state, unmarked}
use Rattle.search.proofs.Noting.{active, as_many, free, room_for}

-- a term of an accepted list was accepted after those before it
fits_after : (before us : List Term) (t : Term) (rest : List Term) → terms_fit before (us ++ t ∷ rest) ≡ true → term_refusal (before ++ us) t ≡ None
fits_after before [] t rest f = subst (λ ts. term_refusal ts t ≡ None) (sym (append-nil before)) (accepted_none (term_refusal before t) (and_parts (is_accepted (term_refusal before t)) (terms_fit (before ++ t ∷ []) rest) f).0)
fits_after before (u ∷ us) t rest f =
    subst (λ ts. term_refusal ts t ≡ None) (append_assoc before (u ∷ []) us)
    (fits_after (before ++ u ∷ []) us t rest (and_parts (is_accepted (term_refusal before u)) (terms_fit (before ++ u ∷ []) (us ++ t ∷ rest)) f).1)

apart : {X : Type 0} (xs : List X) (i : ℕ) (d : X) → i < length xs → xs ≡ take i xs ++ get_or xs i d ∷ drop (i + 1) xs
apart xs i d l = sym (take-append-drop i xs) ∙ ap (λ ys. take i xs ++ ys) (drop_more xs i d l)

next_fits : (ts : List Term) (i : ℕ) → all_terms_fit ts ≡ true → suc i < length ts → term_refusal (take (suc i) ts) (get_or ts (suc i) zero_term) ≡ None
next_fits [] i f l = absurd (omega arith)
next_fits (u ∷ us) i f l =
    let h = (and_parts (is_zero_term u) (terms_fit (u ∷ []) us) f).1 in
    fits_after (u ∷ []) (take i us) (get_or us i zero_term) (drop (i + 1) us) (subst (λ xs. terms_fit (u ∷ []) xs ≡ true) (apart us i zero_term (omega arith)) h)

-- the state with these terms and rows, no row muted
module _ (s : State) (ts : List Term) (fit : all_terms_fit ts ≡ true) where
  pub term_given : {items : List Term} (d : Term) (i : ℕ) → items ≡ drop 1 ts → s ≡ standing_state (take (i + 1) ts) [] → i < length items → (on_note_term s (get_or items i d)).next ≡ standing_state (take (i + 1 + 1) ts) []
  term_given {items = items} d i is e l =
      let x = get_or items i d in
      let u : State = standing_state (take (i + 1) ts) [] in
      let one : 1 + i ≡ suc i = omega arith in
      let next : i + 1 ≡ suc i = omega arith in
      let long : i + 1 < length ts = omega (arith, l, ap length is, length-drop 1 ts) in
      let here : x ≡ get_or ts (suc i) zero_term =
      get_or_default items i d zero_term l ∙ ap (λ (xs : List Term). get_or xs i zero_term) is ∙ get_or_after_one ts i zero_term ∙ ap (λ n. get_or ts n zero_term) one in
      let more : take (i + 1 + 1) ts ≡ take (i + 1) ts ++ x ∷ [] = take_more ts (i + 1) zero_term long ∙ ap (λ y. take (i + 1) ts ++ y ∷ []) (ap (λ n. get_or ts n zero_term) next ∙ sym here) in
      let fits : term_refusal (take (i + 1) ts) x ≡ None = ap (λ y. term_refusal (take (i + 1) ts) y) here ∙ ap (λ n. term_refusal (take n ts) (get_or ts (suc i) zero_term)) next ∙ next_fits ts i fit (omega (arith, long)) in
      ap (λ (q : State). (on_note_term q x).next) e
      ∙ ap (λ o. unless_refused o u (with_terms u (take (i + 1) ts ++ x ∷ []))) (free u refl (term_refusal (take (i + 1) ts) x) ∙ fits)
      ∙ ap (λ xs. standing_state xs []) (sym more)

  module _ (ms : List Noted) (fits : all_rows_fit ts ms ≡ true) (few : length ms ≤ 64) where
    pub row_given : {items : List Noted} (d : Noted) (i : ℕ) → items ≡ ms → s ≡ standing_state ts (take i (unmarked ms)) → i < length items → (on_note_row s (get_or items i d).row).next ≡ standing_state ts (take (i + 1) (unmarked ms))
    row_given {items = items} d i is e less =
        let l : i < length ms = omega (arith, less, ap length is) in
        let same : (get_or items i d).row ≡ (get_or ms i d).row = ap (λ (xs : List Noted). (get_or xs i d).row) is in
        let r = (get_or ms i d).row in
        let rows = take i (unmarked ms) in
        let u : State = standing_state ts rows in
        let long : length u.rows ≡ i = length-map rows active ∙ length-take-le i (unmarked ms) (omega (arith, as_many ms)) in
        let fit_row : row_fits ts r ≡ true = each_row_fits ts ms fits i d l in
        let taken : (on_note_row u r).refusal ≡ None = free u refl (row_refusal ts (length u.rows) r) ∙ room_for ts (length u.rows) r (omega (arith, long)) fit_row in
        let last : rows ++ r ∷ [] ≡ take (i + 1) (unmarked ms) = sym (take_more (unmarked ms) i d.row (omega (arith, as_many ms)) ∙ ap (λ x. rows ++ x ∷ []) (get_or-map (λ (m : Noted). m.row) ms i d)) in
        ap (λ x. (on_note_row s x).next) same
        ∙ ap (λ (q : State). (on_note_row q r).next) e
        ∙ ap (λ o. unless_refused o u (with_rows u (u.rows ++ active r ∷ []))) taken
        ∙ ap (λ xs. with_rows u xs) (sym (map_push active rows r))
        ∙ ap (λ xs. standing_state ts xs) last
