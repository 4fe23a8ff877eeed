-- What is found of rows, and the walk over them.
use Rattle.std.proofs.Common.{ℕ, ◌+◌, List, [], ◌∷◌, ◌++◌, Some, None, Option, sym, subst, append_assoc}
use Rattle.sheet.specs.declared.row.Row.{Row}
use Rattle.search.specs.Verdicts.{Walk, ends, drops, keeps}
use Rattle.reference.specs.Reference.{walk}

module _ (Allow : List Row → Type 0) where
  -- something is found exactly where something is allowed
  abbrev pub Says : List Row → Option (List ℕ) → Type 0
  Says rows None = Allow rows → ⊥
  Says rows (Some codes) = Allow rows

  module _ (Fit : List Row → Type 0) (find : List Row → Option (List ℕ))
      (fewer : (front back : List Row) (r : Row) → Fit (front ++ r ∷ back) → Fit (front ++ back))
      (says : (rows : List Row) → Fit rows → Says rows (find rows)) where
    pub walked : (kept rows : List Row) (i : ℕ) → Fit (kept ++ rows) → Walk Allow kept rows i (walk find kept rows i)
    walked kept [] i f = ends
    walked kept (r ∷ rest) i f =
        let left = fewer kept rest r f in
        step (find (kept ++ rest)) (says (kept ++ rest) left)
        (walked (kept ++ r ∷ []) rest (i + 1) (subst Fit (sym (append_assoc kept (r ∷ []) rest)) f))
        (walked kept rest (i + 1) left)
      where
        step : {ps qs : List ℕ} (o : Option (List ℕ)) → Says (kept ++ rest) o → Walk Allow (kept ++ r ∷ []) rest (i + 1) ps → Walk Allow kept rest (i + 1) qs
            → Walk Allow kept (r ∷ rest) i (elim o [ Some codes ↦ i ∷ ps | None ↦ qs ])
        step (Some codes) said w v = keeps r said w
        step None said w v = drops r said v
