-- The walk over the rows of a clash, while it is under way.
use Rattle.std.proofs.Common.{◌≡◌, ℕ, ◌+◌, ◌<◌, ◌≤◌, Bool, true, false, List, [], ◌∷◌, ◌++◌, length, All, sym, refl, ap, ◌∙◌, subst, append_assoc, append-nil, arith, length-append}
use Rattle.std.proofs.lemmas.List.{length_push, length-map}
use Rattle.sheet.specs.declared.row.Row.{Row}
use Rattle.engine.specs.declared.noted.Noted.{Noted}
use Rattle.engine.specs.Calls.{rows_with_mark}
use Rattle.engine.specs.States.{active_rows}
use Rattle.std.proofs.lemmas.List.Elements.{All-push, All-weaker}
use Rattle.search.specs.Unmuted.{all_unmuted, unmarked}
use Rattle.search.specs.Verdicts.{Walk, ends, drops, keeps, marked_from}
use Rattle.search.proofs.Chosen.{is_among, last_among, marks_push, not_among, place_after}
use Rattle.search.proofs.Marks.{FirstUnmuted, active_append, first_unmuted, mark_at, unmarked_with_mark}

module _ (Allow : List Row → Type 0) (rows : List Row) where
  -- Row i is next. Of the rows before it, `front`, just those at these places are active, which were kept; those from it on, `back`, are all active.
  -- A walk over them makes, with these places, the walk over all rows.
  pub record Halfway (i : ℕ) (noted : List Noted) (places : List ℕ) : Type 0 where
    pub front : List Noted
    pub back : List Noted
    pub whole : noted ≡ front ++ back
    pub count : length front ≡ i
    pub unmuted : all_unmuted back ≡ true
    pub few : length places ≤ i
    pub low : All (λ p. p < i) places
    pub marks : front ≡ marked_from 0 places (unmarked front)
    pub same : unmarked noted ≡ rows
    pub onward : (later : List ℕ) → Walk Allow (active_rows front) (active_rows back) i later → Walk Allow [] rows 0 (places ++ later)

  module _ (i : ℕ) (noted : List Noted) (places : List ℕ) (h : Halfway i noted places) (l : length noted ≤ i) where
    none_left : h.back ≡ []
    none_left = empty h.back (omega (arith, ap length h.whole, length-append h.front h.back, h.count))
      where
        empty : (ms : List Noted) → length ms ≡ 0 → ms ≡ []
        empty [] e = refl
        empty (m ∷ ms) e = absurd (omega arith)

    pub halfway_ends : Walk Allow [] rows 0 places
    halfway_ends = subst (Walk Allow [] rows 0) (append-nil places) (h.onward [] (subst (λ ms. Walk Allow (active_rows h.front) (active_rows ms) i []) (sym none_left) ends))

    -- just the rows at the places are active then
    pub halfway_marks : noted ≡ marked_from 0 places rows
    halfway_marks =
        let all : noted ≡ h.front = h.whole ∙ ap (λ ms. h.front ++ ms) none_left ∙ append-nil h.front in
        all ∙ h.marks ∙ ap (λ ms. marked_from 0 places (unmarked ms)) (sym all) ∙ ap (marked_from 0 places) h.same

  module _ (i : ℕ) (noted : List Noted) (places : List ℕ) (h : Halfway i noted places) (l : i < length noted) where
    -- row i
    next : FirstUnmuted h.back
    next = first_unmuted h.back h.unmuted (omega (arith, ap length h.whole, length-append h.front h.back, h.count))

    marked : (b : Bool) → rows_with_mark i b noted ≡ h.front ++ record { row = next.row; active = b } ∷ next.rest
    marked b =
        ap (rows_with_mark i b) (h.whole ∙ ap (λ ms. h.front ++ ms) next.these)
        ∙ mark_at i b h.front (record { row = next.row; active = true }) next.rest h.count

    -- the rows that count while row i is muted
    others : active_rows (rows_with_mark i false noted) ≡ active_rows h.front ++ active_rows next.rest
    others = ap active_rows (marked false) ∙ active_append h.front (record { row = next.row; active = false } ∷ next.rest)

    -- the walk with row i and from there on
    here : (later : List ℕ) → Walk Allow (active_rows h.front) (next.row ∷ active_rows next.rest) i later → Walk Allow [] rows 0 (places ++ later)
    here later w = h.onward later (subst (λ ms. Walk Allow (active_rows h.front) (active_rows ms) i later) (sym next.these) w)

    -- row i is passed, with this mark
    passed : (b : Bool) (longer : List ℕ) → length longer ≤ i + 1 → All (λ p. p < i + 1) longer → marked_from 0 longer (unmarked h.front) ≡ marked_from 0 places (unmarked h.front) → is_among longer i ≡ b
        → ((later : List ℕ) → Walk Allow (active_rows h.front ++ active_rows (record { row = next.row; active = b } ∷ [])) (active_rows next.rest) (i + 1) later → Walk Allow [] rows 0 (longer ++ later))
        → Halfway (i + 1) (rows_with_mark i b noted) longer
    passed b longer few low before mark onward =
        let m : Noted = record { row = next.row; active = b } in
        record {
          front = h.front ++ m ∷ [];
          back = next.rest;
          whole = marked b ∙ sym (append_assoc h.front (m ∷ []) next.rest);
          count = length_push h.front m ∙ ap (λ n. n + 1) h.count;
          unmuted = next.unmuted;
          few = few;
          low = low;
          marks = marks_push longer h.front m (h.marks ∙ sym before) (sym mark ∙ ap (is_among longer) (sym h.count));
          same = unmarked_with_mark i b noted ∙ h.same;
          onward = λ later w. onward later (subst (λ kept. Walk Allow kept (active_rows next.rest) (i + 1) later) (active_append h.front (m ∷ [])) w);
        }

    lower : All (λ p. p < i + 1) places
    lower = All-weaker (λ p. p < i) (λ p. p < i + 1) (λ p q. omega (arith, q)) places h.low

    -- with row i left out the others allow nothing, and it stays out
    pub left_out : (Allow (active_rows (rows_with_mark i false noted)) → ⊥) → Halfway (i + 1) (rows_with_mark i false noted) places
    left_out nothing =
        let mark : is_among places i ≡ false = not_among i places (All-weaker (λ p. p < i) (λ p. p ≡ i → ⊥) (λ p q e. omega (arith, q, e)) places h.low) in
        passed false places (omega (arith, h.few)) lower refl mark (λ later w. here later (drops next.row
        (λ p. nothing (subst Allow (sym others) p))
        (subst (λ kept. Walk Allow kept (active_rows next.rest) (i + 1) later) (append-nil (active_rows h.front)) w)))

    -- with row i left out the others allow something, and it is kept
    pub kept_in : Allow (active_rows (rows_with_mark i false noted)) → Halfway (i + 1) (rows_with_mark i true noted) (places ++ i ∷ [])
    kept_in some =
        let low = All-push (λ p. p < i + 1) places i lower (omega arith) in
        let before = place_after 0 i places (unmarked h.front) (omega (arith, h.count, length-map h.front (λ (x : Noted). x.row))) in
        passed true (places ++ i ∷ []) (omega (arith, h.few, length_push places i)) low before (last_among places i) (λ later w.
        subst (Walk Allow [] rows 0) (sym (append_assoc places (i ∷ []) later)) (here (i ∷ later) (keeps next.row (subst Allow others some) w)))
