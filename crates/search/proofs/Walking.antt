-- Two engines on the walk over the rows of a clash.
use Rattle.std.proofs.Common.{◌≡◌, ℕ, ◌+◌, ◌<◌, ◌≤◌, Bool, true, false, List, [], ◌∷◌, ◌++◌, length, sym, refl, ap, ◌∙◌, subst, arith}
use Rattle.std.proofs.lemmas.List.Elements.{All-nil}
use Rattle.sheet.specs.declared.row.Row.{Row}
use Rattle.engine.specs.declared.engine.Engine.{Ghosts}
use Rattle.engine.specs.Calls.{rows_with_mark}
use Rattle.engine.specs.States.{State, active_rows}
use Rattle.theory.specs.Combining.{Possible}
use Rattle.search.specs.Engines.{Alike, CoreIn, Marked, PossibleIn, PossibleWithout}
use Rattle.search.specs.Unmuted.{all_unmuted}
use Rattle.search.specs.Verdicts.{clash, found_state}
use Rattle.search.proofs.Alike.{codes_are, one_state}
use Rattle.search.proofs.Cores.{Fewer, core_of}
use Rattle.search.proofs.Halfway.{Halfway, halfway_ends, halfway_marks, kept_in, left_out}
use Rattle.search.proofs.Marking.{marked_alike, marked_length}
use Rattle.search.proofs.Marks.{unmuted_active}

module _ {F S : Type 0} (f : Ghosts F) (s : Ghosts S) (a : F) (b : S) where
  -- what rows allow together for the terms of a
  abbrev Allow : List Row → Type 0
  Allow = Possible (f.rule (f.setting a)) (s.rule (s.setting b)) (f.state a).terms

  -- the walk began with the engines a and b. It is at row i, with the engines x and y, and has kept the rows at these places
  pub record Walking (x : F) (y : S) (i : ℕ) (places : List ℕ) : Type 0 where
    pub alike : Alike f s x y x y []
    pub terms : (f.state x).terms ≡ (f.state a).terms
    pub count : length (f.state x).rows ≡ length (f.state a).rows
    pub keeps_first : f.setting x ≡ f.setting a
    pub keeps_second : s.setting y ≡ s.setting b
    pub rows : Halfway Allow (active_rows (f.state a).rows) i (f.state x).rows places

  pub walking_starts : Alike f s a b a b [] → all_unmuted (f.state a).rows ≡ true → Walking a b 0 []
  walking_starts h u = record {
    alike = h;
    terms = refl;
    count = refl;
    keeps_first = refl;
    keeps_second = refl;
    rows = record {
      front = [];
      back = (f.state a).rows;
      whole = refl;
      count = refl;
      unmuted = u;
      few = omega arith;
      low = All-nil (λ p. p < 0);
      marks = refl;
      same = unmuted_active (f.state a).rows u;
      onward = λ later w. w;
    };
  }

  pub walking_ends : {x : F} {y : S} {i : ℕ} {places : List ℕ} → Walking x y i places → length (f.state a).rows ≤ i
      → Fewer (f.rule (f.setting a)) → Fewer (s.rule (s.setting b)) → (PossibleIn f s a b → ⊥) → CoreIn f s a b places
  walking_ends {x} {i = i} {places} w l fewer_first fewer_second none =
      core_of (f.rule (f.setting a)) (s.rule (s.setting b)) fewer_first fewer_second (f.state a).terms (active_rows (f.state a).rows) places none
      (halfway_ends Allow (active_rows (f.state a).rows) i (f.state x).rows places w.rows (omega (arith, l, w.count)))

  -- both engines hold the rows of the clash as the active ones
  module _ {x : F} {y : S} {i : ℕ} {places : List ℕ} (w : Walking x y i places) (l : length (f.state a).rows ≤ i) where
    pub walking_first : f.state x ≡ found_state (f.state a).terms (active_rows (f.state a).rows) (clash places)
    walking_first =
        let marks = halfway_marks Allow (active_rows (f.state a).rows) i (f.state x).rows places w.rows (omega (arith, l, w.count)) in
        λ k. record { terms = w.terms k; rows = marks k; codes = codes_are w.alike k }

    pub walking_second : s.state y ≡ found_state (f.state a).terms (active_rows (f.state a).rows) (clash places)
    walking_second = one_state w.alike ∙ walking_first

  module _ {x : F} {y : S} {i : ℕ} {places : List ℕ} (w : Walking x y i places) (l : i < length (f.state a).rows) where
    within : i < length (f.state x).rows
    within = omega (arith, l, w.count)

    -- what rows allow is the same for x and y
    same : (rows : List Row) → Possible (f.rule (f.setting x)) (s.rule (s.setting y)) (f.state x).terms rows ≡ Allow rows
    same rows = λ k. Possible (f.rule (w.keeps_first k)) (s.rule (w.keeps_second k)) (w.terms k) rows

    passed : {v : F} {u : S} {mark : Bool} {longer : List ℕ} → Marked f s x y v u i mark → Halfway Allow (active_rows (f.state a).rows) (i + 1) (rows_with_mark i mark (f.state x).rows) longer → Walking v u (i + 1) longer
    passed {longer = longer} m h = record {
      alike = marked_alike m w.alike;
      terms = ap (λ (t : State). t.terms) m.by_first ∙ w.terms;
      count = marked_length m ∙ w.count;
      keeps_first = m.keeps_first ∙ w.keeps_first;
      keeps_second = m.keeps_second ∙ w.keeps_second;
      rows = subst (λ ms. Halfway Allow (active_rows (f.state a).rows) (i + 1) ms longer) (sym (ap (λ (t : State). t.rows) m.by_first)) h;
    }

    -- row i is kept, or left out
    pub walking_keeps : {v : F} {u : S} → Marked f s x y v u i true → PossibleWithout f s x y i → Walking v u (i + 1) (places ++ i ∷ [])
    walking_keeps m some =
        passed m (kept_in Allow (active_rows (f.state a).rows) i (f.state x).rows places w.rows within
        (subst (λ (X : Type 0). X) (same (active_rows (rows_with_mark i false (f.state x).rows))) some))

    pub walking_drops : {v : F} {u : S} → Marked f s x y v u i false → (PossibleWithout f s x y i → ⊥) → Walking v u (i + 1) places
    walking_drops m none =
        passed m (left_out Allow (active_rows (f.state a).rows) i (f.state x).rows places w.rows within
        (λ p. none (subst (λ (X : Type 0). X) (sym (same (active_rows (rows_with_mark i false (f.state x).rows)))) p)))
