-- What holds of the pairs holds of the rows and of the seats of each block, and the other way round.
use Rattle.std.proofs.Common.{◌≡◌, ℕ, true, false, cond, List, [], ◌∷◌, map, All}
use Rattle.std.specs.List.{filter}
use Rattle.std.proofs.lemmas.List.Elements.{All-nil, All-cons, All-head, All-tail, All-map, All-filter, filter_passes}
use Rattle.sheet.specs.declared.row.Row.{Row}
use Rattle.sheet.specs.declared.row.Row.TheVariants.{Span, Same, Unlike}
use Rattle.congruence.specs.Claims.{Equal}
use Rattle.engine.specs.declared.placed.Placed.{Placed}
use Rattle.engine.specs.Equalities.{SameHolds}
use Rattle.engine.specs.Meaning.{Numbers}
use Rattle.table.specs.Pairs.{equated_terms, in_one_block, same_pairs, terms_of}

-- rows
module _ (v : Numbers) where
  pub rows_give_pairs : (rows : List Row) → All (SameHolds v) rows → All (Equal v) (same_pairs rows)
  rows_give_pairs [] a = All-nil _
  rows_give_pairs (Span i j c ∷ rows) a = rows_give_pairs rows (All-tail (SameHolds v) (Span i j c) rows a)
  rows_give_pairs (Same i j ∷ rows) a = All-cons (Equal v) (i, j) (same_pairs rows) (All-head (SameHolds v) (Same i j) rows a) (rows_give_pairs rows (All-tail (SameHolds v) (Same i j) rows a))
  rows_give_pairs (Unlike i j ∷ rows) a = rows_give_pairs rows (All-tail (SameHolds v) (Unlike i j) rows a)

  pub pairs_give_rows : (rows : List Row) → All (Equal v) (same_pairs rows) → All (SameHolds v) rows
  pairs_give_rows [] a = All-nil _
  pairs_give_rows (Span i j c ∷ rows) a = All-cons (SameHolds v) (Span i j c) rows tt (pairs_give_rows rows a)
  pairs_give_rows (Same i j ∷ rows) a = All-cons (SameHolds v) (Same i j) rows (All-head (Equal v) (i, j) (same_pairs rows) a) (pairs_give_rows rows (All-tail (Equal v) (i, j) (same_pairs rows) a))
  pairs_give_rows (Unlike i j ∷ rows) a = All-cons (SameHolds v) (Unlike i j) rows tt (pairs_give_rows rows a)

-- blocks: F holds of the terms of a pair if its two seats are in one block
module _ (F : ℕ × ℕ → Type 0) where
  abbrev pub IfInOneBlock : Placed × Placed → Type 0
  IfInOneBlock p = in_one_block p ≡ true → F (terms_of p)

  pub all_equated : (ps : List (Placed × Placed)) → All IfInOneBlock ps → All F (equated_terms ps)
  all_equated ps a = All-map F terms_of (filter in_one_block ps) (λ k d l. All-filter in_one_block IfInOneBlock ps a k d l (filter_passes in_one_block ps k d l))

  pub equated_at : (ps : List (Placed × Placed)) → All F (equated_terms ps) → All IfInOneBlock ps
  equated_at [] a = All-nil _
  equated_at (p ∷ ps) a =
      let rest : List (Placed × Placed) = filter in_one_block ps in
      let parts : (in_one_block p ≡ true → F (terms_of p)) × All F (map terms_of rest) =
      elim (in_one_block p) as (λ b. All F (map terms_of (cond b (p ∷ rest) rest)) → (b ≡ true → F (terms_of p)) × All F (map terms_of rest)) [
        | true ↦ λ t. (λ _. All-head F (terms_of p) (map terms_of rest) t, All-tail F (terms_of p) (map terms_of rest) t)
        | false ↦ λ t. (λ e. absurd cc, t)
      ] a in
      All-cons IfInOneBlock p ps parts.0 (equated_at ps parts.1)
