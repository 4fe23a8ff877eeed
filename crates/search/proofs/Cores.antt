-- What the walk over the rows of a clash leaves: rows that allow nothing together, and of which each is needed for that.
use Rattle.std.proofs.Common.{◌≡◌, ℕ, ◌+◌, ◌<◌, ◌≤◌, List, [], ◌∷◌, ◌++◌, length, get_or, drop, sym, refl, ap, ◌∙◌, subst, append_assoc, arith}
use Rattle.std.proofs.lemmas.List.{drop_more, length-drop}
use Rattle.std.proofs.lemmas.List.Elements.{All-weaker}
use Rattle.sheet.specs.declared.row.Row.{Row}
use Rattle.sheet.specs.declared.row.Row.TheVariants.{Same}
use Rattle.sheet.specs.declared.term.Term.{Term}
use Rattle.theory.specs.Combining.{Possible}
use Rattle.search.proofs.Earliest.{leaves_out_first, places_rise, places_within}
use Rattle.search.specs.Verdicts.{Core, Walk, ends, drops, keeps, chosen_rows}

-- there are at most as many places as rows
pub core_few : {Allow : List Row → Type 0} {kept rows : List Row} {i : ℕ} {places : List ℕ} → Walk Allow kept rows i places → length places ≤ length rows
core_few ends = omega arith
core_few (drops r nothing w) = let few = core_few w in omega arith
core_few (keeps r some w) = let few = core_few w in omega arith

-- there is only one walk
pub walk_only : {Allow : List Row → Type 0} {kept rows : List Row} {i : ℕ} {ps qs : List ℕ} → Walk Allow kept rows i ps → Walk Allow kept rows i qs → ps ≡ qs
walk_only ends ends = refl
walk_only (drops r nothing w) (drops s none v) = walk_only w v
walk_only (drops r nothing w) (keeps s some v) = absurd (nothing some)
walk_only (keeps r some w) (drops s nothing v) = absurd (nothing some)
walk_only {i} (keeps r some w) (keeps s more v) = ap (λ ps. i ∷ ps) (walk_only w v)

module _ (Allow : List Row → Type 0) (fewer : (front back : List Row) (r : Row) → Allow (front ++ r ∷ back) → Allow (front ++ back)) (rows : List Row) where
  -- the walk is at row i, and those from there on are left
  module _ (i : ℕ) (r : Row) (rest : List Row) (left : r ∷ rest ≡ drop i rows) where
    split : r ∷ rest ≡ get_or rows i (Same 0 0) ∷ drop (i + 1) rows
    split = let l : i < length rows = omega (arith, ap length left, length-drop i rows) in left ∙ drop_more rows i (Same 0 0) l

    row_is : r ≡ get_or rows i (Same 0 0)
    row_is = let e = split in cc

    rest_is : rest ≡ drop (i + 1) rows
    rest_is = let e = split in cc

  -- a row counts as the last of those kept, or as the first of those that follow
  as_next : (front back : List Row) (r : Row) → Allow ((front ++ r ∷ []) ++ back) → Allow (front ++ r ∷ back)
  as_next front back r p = subst Allow (append_assoc front (r ∷ []) back) p

  as_kept : (front back : List Row) (r : Row) → Allow (front ++ r ∷ back) → Allow ((front ++ r ∷ []) ++ back)
  as_kept front back r p = subst Allow (sym (append_assoc front (r ∷ []) back)) p

  -- the rows at the places are some of those that are left
  some_of : {kept left : List Row} {i : ℕ} {places : List ℕ} → Walk Allow kept left i places → left ≡ drop i rows → (front : List Row) → Allow (front ++ left) → Allow (front ++ chosen_rows rows places)
  some_of ends e front p = p
  some_of {i} (drops {rest} r nothing w) e front p = some_of w (rest_is i r rest e) front (fewer front rest r p)
  some_of {i} (keeps {rest} {places} r some w) e front p =
      subst (λ x. Allow (front ++ x ∷ chosen_rows rows places)) (row_is i r rest e)
      (as_next front (chosen_rows rows places) r (some_of w (rest_is i r rest e) (front ++ r ∷ []) (as_kept front rest r p)))

  -- where the rows kept and those that are left allow nothing, the rows kept and those at the places do not either
  nothing_left : {kept left : List Row} {i : ℕ} {places : List ℕ} → Walk Allow kept left i places → left ≡ drop i rows → (Allow (kept ++ left) → ⊥) → Allow (kept ++ chosen_rows rows places) → ⊥
  nothing_left ends e none p = none p
  nothing_left {i} (drops {rest} r nothing w) e none p = nothing_left w (rest_is i r rest e) nothing p
  nothing_left {kept} {i} (keeps {rest} {places} r some w) e none p =
      nothing_left w (rest_is i r rest e) (λ q. none (as_next kept rest r q))
      (as_kept kept (chosen_rows rows places) r (subst (λ x. Allow (kept ++ x ∷ chosen_rows rows places)) (sym (row_is i r rest e)) p))

  -- and each of them is needed for that
  each_needed : {kept left : List Row} {i : ℕ} {places : List ℕ} → Walk Allow kept left i places → left ≡ drop i rows → (front back : List ℕ) (p : ℕ) → places ≡ front ++ p ∷ back → Allow (kept ++ chosen_rows rows (front ++ back))
  each_needed ends e [] back p q = absurd (cc)
  each_needed ends e (x ∷ front) back p q = absurd (cc)
  each_needed {i} (drops {rest} r nothing w) e front back p q = each_needed w (rest_is i r rest e) front back p q
  each_needed {kept} {i} (keeps {rest} {places} r some w) e [] back p q =
      let t : places ≡ back = cc in
      subst (λ ps. Allow (kept ++ chosen_rows rows ps)) t (some_of w (rest_is i r rest e) kept some)
  each_needed {kept} {i} (keeps {rest} {places} r some w) e (x ∷ front) back p q =
      let t : places ≡ front ++ p ∷ back = cc in
      let u : i ≡ x = cc in
      subst (λ y. Allow (kept ++ get_or rows y (Same 0 0) ∷ chosen_rows rows (front ++ back))) u
      (subst (λ y. Allow (kept ++ y ∷ chosen_rows rows (front ++ back))) (row_is i r rest e)
      (as_next kept (chosen_rows rows (front ++ back)) r (each_needed w (rest_is i r rest e) front back p t)))

-- what a rule allows stays allowed when a row is left out
abbrev pub Fewer : (List Term → List Row → List ℕ → Type 0) → Type 0
Fewer rule = (ts : List Term) (front back : List Row) (r : Row) (codes : List ℕ) → rule ts (front ++ r ∷ back) codes → rule ts (front ++ back) codes

module _ (first second : List Term → List Row → List ℕ → Type 0) (fewer_first : Fewer first) (fewer_second : Fewer second) (ts : List Term) where
  pub possible_fewer : (front back : List Row) (r : Row) → Possible first second ts (front ++ r ∷ back) → Possible first second ts (front ++ back)
  possible_fewer front back r p = (
    p.0,
    record {
      arrangement = p.1.arrangement;
      by_first = fewer_first ts front back r p.0 p.1.by_first;
      by_second = fewer_second ts front back r p.0 p.1.by_second;
    },
  )

  -- the walk over rows that allow nothing leaves a core
  pub core_of : (rows : List Row) (places : List ℕ) → (Possible first second ts rows → ⊥) → Walk (Possible first second ts) [] rows 0 places → Core first second ts rows places
  core_of rows places none w = record {
    walk = w;
    rising = places_rise w;
    within = All-weaker (λ p. (0 ≤ p) × (p < 0 + length rows)) (λ p. p < length rows) (λ p q. omega (arith, q.1)) places (places_within w);
    nothing = nothing_left (Possible first second ts) possible_fewer rows w refl none;
    each_needed = λ front back p e. each_needed (Possible first second ts) possible_fewer rows w refl front back p e;
    drops_first = leaves_out_first (Possible first second ts) possible_fewer w;
  }
