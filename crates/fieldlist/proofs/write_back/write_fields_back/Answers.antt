use Rattle.std.proofs.Common.{◌≡◌, ◌+◌, ◌-◌, ◌≤◌, length, take, drop, Ok, sym, refl, ap, ◌∙◌, subst, arith}
use Rattle.std.proofs.lemmas.List.{length-drop, length-take, take_rest}
use Rattle.std.proofs.lemmas.Bool.{both_ways}
use Rattle.sheet.specs.Encoding.{encode}
use Rattle.sheet.specs.Fields.{value_of}
use Rattle.sheet.specs.Left.{IsLeft}
use Rattle.sheet.proofs.Taking.{begun, stepped}
use Rattle.fieldlist.specs.WritingBack.{Alike}
use Rattle.fieldlist.proofs.Walking.{Copied, Walked, start, step, alike, copy, none_copied}
use Rattle.fieldlist.proofs.write_back.write_fields_back.Goals as goal

pub loop-item-init : goal.loop-item-init
loop-item-init c =
    let s = c.args.sheet.now in
    let b = begun s c.new-item-items.result c.into_iter-item-iterator.result c.into_iter-item-iterator.ensures.into_iter_gives c.new-item-items.ensures.sheet c.new-item-items.ensures.rest in (
      b.0,
      subst (λ t. Walked s t 0) b.1 (start s),
      refl,
      omega (arith, ap length b.1),
      subst (λ t. Copied s t c.args.buffer.now) b.1 (none_copied s c.args.buffer.now c.requires),
    )

pub loop-item-preserved-then-is_written_alike : goal.loop-item-preserved-then-is_written_alike
loop-item-preserved-then-is_written_alike c =
    let s = c.args.sheet.now in
    let t = c.loop-item.item-iterator.rest.now in
    let u = c.next.new.self.rest.now in
    let b = c.loop-item.buffer in
    let placed = c.in_ok-place.field-0 in
    let p = placed.place in
    let held = c.loop-item.invariant in
    let next = stepped s c.loop-item.item-iterator.sheet.now t u c.in-Some.item (Ok placed) held.0 c.in-Some.ensures.steps.1 c.in_ok-place.was in
    let k = next.0 in
    let used = k.used in
    let counted = held.2 in
    let bytes = held.3 in
    let long = held.1.long in
    let left : IsLeft s t = subst (λ x. IsLeft x t) held.0 c.loop-item.item-iterator.left in
    let size : length placed.bytes.now ≡ length t - length u = ap length next.2 ∙ simp length-take (omega arith) in (
      c.next.ensures.steps.0 ∙ held.0,
      step s t u c.loop-item.fields (c.loop-item.fields + 1) (value_of placed.field) held.1 k refl,
      omega arith,
      omega arith,
      copy s t u b (take (length b - p) (drop p b)) c.is_written_alike.new.part (value_of placed.field) p k (left ∙ ap (λ n. drop n s) (sym next.1)) (omega arith) next.1 held.4 (take_rest b p) c.is_written_alike.ensures.writes,
    )

-- the field is alike, so control does not come here
pub loop-item-preserved : goal.loop-item-preserved
loop-item-preserved c =
    let s = c.args.sheet.now in
    let t = c.loop-item.item-iterator.rest.now in
    let u = c.next.new.self.rest.now in
    let b = c.loop-item.buffer in
    let placed = c.in_ok-place.field-0 in
    let p = placed.place in
    let held = c.loop-item.invariant in
    let next = stepped s c.loop-item.item-iterator.sheet.now t u c.in-Some.item (Ok placed) held.0 c.in-Some.ensures.steps.1 c.in_ok-place.was in
    let k = next.0 in
    let used = k.used in
    let long = held.1.long in
    let same = held.4.long in
    let place = next.1 in
    let part = take (length b - p) (drop p b) in
    let f = value_of placed.field in
    let room : length t - length u ≤ length part = simp (length-take, length-drop) (omega arith) in
    let found : Alike (encode f part) placed.bytes.now = subst (Alike (encode f part)) (sym next.2) (alike t u part f (length t - length u) k refl room) in
    absurd (both_ways c.is_written_alike.result c.if-is_written_alike.false (c.is_written_alike.ensures.compares.1 found))
