-- The mark of a row set in two engines that hold the same.
use Rattle.std.proofs.Common.{◌≡◌, ℕ, Bool, [], length, sym, refl, ap, ◌∙◌}
use Rattle.engine.specs.declared.engine.Engine.{Ghosts}
use Rattle.engine.specs.Calls.{rows_with_mark}
use Rattle.engine.specs.States.{State, with_codes, with_rows}
use Rattle.search.specs.Engines.{Alike, Marked}
use Rattle.search.proofs.Marks.{length_with_mark, mark_twice}

module _ {F S : Type 0} {f : Ghosts F} {s : Ghosts S} {a x : F} {b y : S} {i : ℕ} {v : Bool} (m : Marked f s a b x y i v) where
  pub marked_length : length (f.state x).rows ≡ length (f.state a).rows
  marked_length = ap (λ (t : State). length t.rows) m.by_first ∙ length_with_mark i v (f.state a).rows

  -- the engines hold the same still
  pub marked_alike : Alike f s a b a b [] → Alike f s x y x y []
  marked_alike h =
      let e : with_rows (f.state a) (rows_with_mark i v (f.state a).rows) ≡ with_codes (f.state x) [] =
      ap (λ (t : State). with_rows t (rows_with_mark i v (f.state a).rows)) h.by_first ∙ ap (λ (t : State). with_codes t []) (sym m.by_first) in
      record { by_first = m.by_first ∙ e; by_second = m.by_second ∙ e; keeps_first = refl; keeps_second = refl }

  -- codes are placed and lifted, and the mark stands
  pub marked_on : {p : F} {q : S} → Alike f s a b a b [] → Alike f s x y p q [] → Marked f s a b p q i v
  marked_on h k =
      let e : with_codes (f.state x) [] ≡ with_rows (f.state a) (rows_with_mark i v (f.state a).rows) = sym (marked_alike h).by_first ∙ m.by_first in
      record {
        by_first = k.by_first ∙ e;
        by_second = k.by_second ∙ e;
        keeps_first = k.keeps_first ∙ m.keeps_first;
        keeps_second = k.keeps_second ∙ m.keeps_second;
      }

  -- the mark of the same row is set again
  pub marked_again : {p : F} {q : S} {w : Bool} → Marked f s x y p q i w → Marked f s a b p q i w
  marked_again {w = w} k =
      let e : with_rows (f.state x) (rows_with_mark i w (f.state x).rows) ≡ with_rows (f.state a) (rows_with_mark i w (f.state a).rows) =
      ap (λ (t : State). with_rows t (rows_with_mark i w t.rows)) m.by_first ∙ ap (with_rows (f.state a)) (mark_twice i v w (f.state a).rows) in
      record {
        by_first = k.by_first ∙ e;
        by_second = k.by_second ∙ e;
        keeps_first = k.keeps_first ∙ m.keeps_first;
        keeps_second = k.keeps_second ∙ m.keeps_second;
      }
