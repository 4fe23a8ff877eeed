-- Rows that come one after another: each was accepted, or the first that was not is known.
use Rattle.std.proofs.Common.{◌≡◌, ℕ, suc, ◌+◌, ◌≤◌, true, List, [], ◌∷◌, ◌++◌, length, All, Some, None, Option, sym, refl, ap, subst, add-zero, zero-add, arith}
use Rattle.std.proofs.lemmas.List.Elements.{All-nil, All-cons}
use Rattle.sheet.specs.declared.fault.Cause.{Cause}
use Rattle.sheet.specs.declared.row.Row.{Row}
use Rattle.sheet.specs.declared.term.Term.{Term}
use Rattle.engine.specs.Fitting.{row_fits}
use Rattle.engine.specs.Refusals.{row_refusal}
use Rattle.engine.proofs.Fitting.{RowPasses, row_passes}
use Rattle.reference.specs.Reference.{EachAccepted, RefusalIsRight, first_refusal}

module _ (ts : List Term) where
  -- rows that were accepted, and not too many
  pub record RowsFit (rows : List Row) : Type 0 where
    pub few : length rows ≤ 64
    pub each : All (λ r. row_fits ts r ≡ true) rows

  -- the same where n rows stand before these
  abbrev AcceptedAfter : ℕ → List Row → Type 0
  AcceptedAfter n rows = (front back : List Row) (r : Row) → rows ≡ front ++ r ∷ back → row_refusal ts (n + length front) r ≡ None

  record RefusedAfter (n : ℕ) (rows : List Row) (cause : Cause) : Type 0 where
    pub front : List Row
    pub row : Row
    pub back : List Row
    pub split : rows ≡ front ++ row ∷ back
    pub accepted : AcceptedAfter n front
    pub ground : row_refusal ts (n + length front) row ≡ Some cause

  abbrev CameTo : ℕ → List Row → Option Cause → Type 0
  CameTo n rows None = AcceptedAfter n rows
  CameTo n rows (Some cause) = RefusedAfter n rows cause

  none_came : (n : ℕ) → AcceptedAfter n []
  none_came n [] back r e = absurd cc
  none_came n (x ∷ front) back r e = absurd cc

  -- a row that is accepted, and then those
  one_more : (n : ℕ) (r : Row) (rows : List Row) → row_refusal ts n r ≡ None → AcceptedAfter (suc n) rows → AcceptedAfter n (r ∷ rows)
  one_more n r rows ok a [] back x e =
      let same : r ≡ x = cc in
      subst (λ y. row_refusal ts (n + 0) y ≡ None) same (subst (λ m. row_refusal ts m r ≡ None) (sym (add-zero n)) ok)
  one_more n r rows ok a (y ∷ front) back x e =
      let rest : rows ≡ front ++ x ∷ back = cc in
      let next : suc n + length front ≡ n + suc (length front) = omega arith in
      subst (λ m. row_refusal ts m x ≡ None) next (a front back x rest)

  came_to : (n : ℕ) (rows : List Row) → CameTo n rows (first_refusal ts n rows)
  came_to n [] = none_came n
  came_to n (r ∷ rows) = next (row_refusal ts n r) (first_refusal ts (suc n) rows) refl (came_to (suc n) rows)
    where
      next : (o later : Option Cause) → row_refusal ts n r ≡ o → CameTo (suc n) rows later → CameTo n (r ∷ rows) (elim o [ Some cause ↦ Some cause | None ↦ later ])
      next (Some cause) later e a = record {
        front = [];
        row = r;
        back = rows;
        split = refl;
        accepted = none_came n;
        ground = subst (λ m. row_refusal ts m r ≡ Some cause) (sym (add-zero n)) e;
      }
      next None None e a = one_more n r rows e a
      next None (Some cause) e a =
          let later : suc n + length a.front ≡ n + suc (length a.front) = omega arith in
          record {
            front = r ∷ a.front;
            row = a.row;
            back = a.back;
            split = ap (λ rs. r ∷ rs) a.split;
            accepted = one_more n r a.front e a.accepted;
            ground = subst (λ m. row_refusal ts m a.row ≡ Some cause) later a.ground;
          }

  -- with no row before them
  from_none : (rows : List Row) → AcceptedAfter 0 rows → EachAccepted ts rows
  from_none rows a front back r e = subst (λ m. row_refusal ts m r ≡ None) (zero-add (length front)) (a front back r e)

  pub each_accepted : (rows : List Row) → first_refusal ts 0 rows ≡ None → EachAccepted ts rows
  each_accepted rows e = from_none rows (subst (CameTo 0 rows) e (came_to 0 rows))

  pub refusal_is_right : (rows : List Row) (cause : Cause) → first_refusal ts 0 rows ≡ Some cause → RefusalIsRight ts rows cause
  refusal_is_right rows cause e =
      let a : RefusedAfter 0 rows cause = subst (CameTo 0 rows) e (came_to 0 rows) in
      record {
        front = a.front;
        row = a.row;
        back = a.back;
        split = a.split;
        accepted = from_none a.front a.accepted;
        ground = subst (λ m. row_refusal ts m a.row ≡ Some cause) (zero-add (length a.front)) a.ground;
      }

  -- rows that were accepted fit the terms, and are not too many
  fit_after : (n : ℕ) (rows : List Row) → n ≤ 64 → AcceptedAfter n rows → (n + length rows ≤ 64) × All (λ r. row_fits ts r ≡ true) rows
  fit_after n [] l a = (omega arith, All-nil _)
  fit_after n (r ∷ rows) l a =
      let passes : RowPasses ts n r = row_passes ts n r (subst (λ m. row_refusal ts m r ≡ None) (add-zero n) (a [] rows r refl)) in
      let rest = fit_after (suc n) rows passes.room
      (λ front back x e.
      let next : n + suc (length front) ≡ suc n + length front = omega arith in
      subst (λ m. row_refusal ts m x ≡ None) next (a (r ∷ front) back x (ap (λ rs. r ∷ rs) e))) in
      (omega (arith, rest.0), All-cons (λ x. row_fits ts x ≡ true) r rows passes.fits rest.1)

  pub rows_fit : (rows : List Row) → EachAccepted ts rows → RowsFit rows
  rows_fit rows a =
      let fit = fit_after 0 rows (omega arith) (λ front back r e. subst (λ m. row_refusal ts m r ≡ None) (sym (zero-add (length front))) (a front back r e)) in
      record { few = omega (arith, fit.0); each = fit.1 }
