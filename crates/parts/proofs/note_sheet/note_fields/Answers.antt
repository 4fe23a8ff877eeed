use Rattle.std.proofs.Common.{◌≡◌, ◌+◌, ◌++◌, ◌∷◌, [], ℕ, Bool, List, true, false, cond, Ok, sym, refl, ap, ◌∙◌, subst, append-nil}
use Rattle.std.specs.Result.{is_ok}
use Rattle.sheet.specs.Fields.{term_field, value_of}
use Rattle.sheet.proofs.Taking.{begun, stepped}
use Rattle.parts.specs.Noting.{field_answer}
use Rattle.parts.proofs.Accepting.{is_row, seat_of}
use Rattle.parts.proofs.Walking.{Walked, no_row, ok_is, row_counts, start, step, term_counts}
use Rattle.parts.proofs.note_sheet.note_fields.Goals as goal
use Rattle.parts.proofs.note_sheet.note_fields.Goals.{then-is_dated, else-is_dated}

pub loop-item-init : goal.loop-item-init
loop-item-init g c =
    let f = g.E.Engine in
    let s = c.args.sheet.now in
    let b = begun s c.new-item-items.result c.into_iter-item-iterator.result c.into_iter-item-iterator.ensures.into_iter_gives c.new-item-items.ensures.sheet c.new-item-items.ensures.rest in
    let listed : c.push.new.self.items ≡ 0 ∷ [] = c.push.ensures.items ∙ ap (λ xs. xs ++ 0 ∷ []) c.new-seats.ensures in (
      b.0,
      subst (λ t. Walked f.LETTER s t (f.state c.args.engine.now) 1 false c.push.new.self.items) b.1 (start f.LETTER s (f.state c.args.engine.now) c.push.new.self.items c.requires listed),
      refl,
    )

pub loop-item-preserved-in-Term : goal.loop-item-preserved-in-Term
loop-item-preserved-in-Term g c =
    let f = g.E.Engine in
    let s = c.args.sheet.now in
    let t = c.loop-item.item-iterator.rest.now in
    let u = c.next.new.self.rest.now in
    let q = f.state c.loop-item.engine in
    let n = c.loop-item.terms in
    let placed = c.in_ok-place.field-0 in
    let v = value_of placed.field in
    let held = c.loop-item.invariant in
    let next = stepped s c.loop-item.item-iterator.sheet.now t u c.in-Some.item (Ok placed) held.0 c.in-Some.ensures.steps.1 c.in_ok-place.was in
    let noted = ok_is c.note_field.result (sym c.map_err.ensures.variant ∙ ap is_ok c.in_ok-map_err.was) in
    let ok : Ok tt ≡ field_answer f.LETTER q v = sym noted ∙ c.note_field.ensures.answers in
    let is : v ≡ term_field c.in-Term.term c.in-Term.label.now = ap value_of c.in-Term.is in
    let bare = no_row f.LETTER q c.in-Term.term c.in-Term.label.now (ok ∙ ap (field_answer f.LETTER q) is) in
    let seated : Bool → List ℕ = λ b. c.loop-item.seats.items ++ cond b (n ∷ []) [] in
    let listed : c.if-is_dated.seats.items ≡ c.loop-item.seats.items ++ seat_of n (term_field c.in-Term.term c.in-Term.label.now) =
    elim c.if-is_dated.branch [
      | then-is_dated w ↦ ap (λ x. x.items) w.seats-is ∙ w.push-then-is_dated.ensures.items ∙ ap seated (sym w.if-is_dated.true ∙ c.is_dated.ensures)
      | else-is_dated w ↦ ap (λ x. x.items) w.seats-is ∙ sym (append-nil c.loop-item.seats.items) ∙ ap seated (sym w.if-is_dated.false ∙ c.is_dated.ensures)
    ] in (
      c.next.ensures.steps.0 ∙ held.0,
      step f.LETTER s t q n c.loop-item.has_row c.loop-item.seats.items held.1 v ok u (f.state c.note_field.new.engine) (n + 1) c.loop-item.has_row c.if-is_dated.seats.items next.0 c.note_field.ensures.leaves (term_counts n (is_row v) (ap is_row is)) (held.1.rows ∙ bare ∙ sym (ap is_row is)) (listed ∙ ap (λ x. c.loop-item.seats.items ++ seat_of n x) (sym is)),
      c.note_field.ensures.keeps ∙ held.2,
    )

pub loop-item-preserved : goal.loop-item-preserved
loop-item-preserved g c =
    let f = g.E.Engine in
    let s = c.args.sheet.now in
    let t = c.loop-item.item-iterator.rest.now in
    let u = c.next.new.self.rest.now in
    let q = f.state c.loop-item.engine in
    let n = c.loop-item.terms in
    let placed = c.in_ok-place.field-0 in
    let v = value_of placed.field in
    let held = c.loop-item.invariant in
    let next = stepped s c.loop-item.item-iterator.sheet.now t u c.in-Some.item (Ok placed) held.0 c.in-Some.ensures.steps.1 c.in_ok-place.was in
    let noted = ok_is c.note_field.result (sym c.map_err.ensures.variant ∙ ap is_ok c.in_ok-map_err.was) in
    let ok : Ok tt ≡ field_answer f.LETTER q v = sym noted ∙ c.note_field.ensures.answers in
    let is = ap value_of c.in-Row.is in (
      c.next.ensures.steps.0 ∙ held.0,
      step f.LETTER s t q n c.loop-item.has_row c.loop-item.seats.items held.1 v ok u (f.state c.note_field.new.engine) n true c.loop-item.seats.items next.0 c.note_field.ensures.leaves (row_counts n (is_row v) (ap is_row is)) (sym (ap is_row is)) (sym (ap (λ x. c.loop-item.seats.items ++ seat_of n x) is ∙ append-nil c.loop-item.seats.items)),
      c.note_field.ensures.keeps ∙ held.2,
    )
