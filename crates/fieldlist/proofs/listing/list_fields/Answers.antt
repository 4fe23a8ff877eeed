use Rattle.std.proofs.Common.{◌≡◌, ◌+◌, Bool, true, false, cond, ◌∷◌, ◌++◌, [], length, Ok, string_bytes, sym, refl, ap, ◌∙◌, subst, arith}
use Rattle.std.proofs.lemmas.Slice.{pushed}
use Rattle.sheet.specs.declared.fault.Cause.TheVariants.{CutShort}
use Rattle.sheet.specs.Causes.{fault_in, reader_letter}
use Rattle.sheet.specs.Fields.{value_of}
use Rattle.sheet.specs.Parsing.{parse}
use Rattle.sheet.proofs.Taking.{begun, stepped}
use Rattle.fieldlist.specs.Lines.{field_line}
use Rattle.fieldlist.specs.Listing.{Lines, is_term, none}
use Rattle.fieldlist.proofs.Numbering.{lines_more}
use Rattle.fieldlist.proofs.listing.list_fields.Goals as goal
use Rattle.fieldlist.proofs.listing.list_fields.Goals.{in-Term, in-Row}

pub loop-item-init : goal.loop-item-init
loop-item-init c =
    let s = c.args.sheet.now in
    let b = begun s c.new-item-items.result c.into_iter-item-iterator.result c.into_iter-item-iterator.ensures.into_iter_gives c.new-item-items.ensures.sheet c.new-item-items.ensures.rest in
    let whole = subst (λ x. Lines s 0 0 x s) (sym c.new-text.ensures.bytes) none in
    (b.0, subst (Lines s 0 0 (string_bytes c.new-text.result)) b.1 whole, omega (arith, ap length b.1))

pub loop-item-preserved : goal.loop-item-preserved
loop-item-preserved c =
    let s = c.args.sheet.now in
    let t = c.loop-item.item-iterator.rest.now in
    let u = c.next.new.self.rest.now in
    let f = value_of c.in-Ok.field-0.field in
    let held = c.loop-item.invariant in
    let next = stepped s c.loop-item.item-iterator.sheet.now t u c.in-Some.item (Ok c.in-Ok.field-0) held.0 c.in-Some.ensures.steps.1 c.in-Ok.is in
    let k = next.0 in
    let used = k.used in
    let room = held.2 in
    let joined = pushed c.as_str.result.now refl c.in_ok-push_str.was c.push_str.ensures.bytes in
    let line = c.as_str.ensures.value ∙ c.in_ok-line.ensures.ok ∙ ap (λ p. field_line p c.match-field.index f ++ 10 ∷ []) next.1 in
    let step : (b : Bool) → b ≡ is_term f → c.match-field.terms ≡ c.loop-item.terms + cond b 1 0 → c.match-field.rows ≡ c.loop-item.rows + cond b 0 1 → c.match-field.index ≡ cond b (c.loop-item.terms + 1) c.loop-item.rows → Lines s c.match-field.terms c.match-field.rows (string_bytes c.push_str.new.self) u =
    λ b kind terms rows index. lines_more s t u (string_bytes c.loop-item.text) (string_bytes c.push_str.new.self) c.as_str.result.now c.loop-item.terms c.loop-item.rows c.match-field.terms c.match-field.rows c.match-field.index f b held.1 k.read k.rest kind terms rows index line joined in (
      c.next.ensures.steps.0 ∙ held.0,
      elim c.match-field.branch [
        | in-Term w ↦ step true (sym (ap (λ x. is_term (value_of x)) (w.in-Term.is))) w.terms-is (omega (arith, w.rows-is)) w.index-is
        | in-Row w ↦ step false (sym (ap (λ x. is_term (value_of x)) (w.in-Row.is))) (omega (arith, w.terms-is)) w.rows-is (omega (arith, w.index-is))
      ],
      elim c.match-field.branch [ in-Term w ↦ omega (arith, w.terms-is, w.rows-is) | in-Row w ↦ omega (arith, w.terms-is, w.rows-is) ],
    )

pub returns : goal.returns
returns c =
    let t = c.loop-item.item-iterator.rest.now in
    record {
      terms = c.loop-item.terms;
      rows = c.loop-item.rows;
      left = t;
      fault = fault_in reader_letter CutShort;
      lines = c.loop-item.invariant.1;
      stops = ap parse c.in-None.ensures.steps.1.0;
    }
