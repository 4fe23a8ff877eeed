use Rattle.std.proofs.Common.{◌≡◌, cond, [], ◌∷◌, ◌++◌, length, Some, None, vec_items, sym, ap, ◌∙◌, rules}
use Rattle.sheet.specs.Terms.{is_dated}
use Rattle.engine.specs.Fitting.{all_terms_fit, all_rows_fit}
use Rattle.engine.specs.Refusals.{term_refusal}
use Rattle.engine.specs.Terms.{seats_of}
use Rattle.engine.proofs.Answering.{kept_by_second, none_from_ok, some_from_err}
use Rattle.engine.proofs.Fitting.{terms_push, rows_still}
use Rattle.engine.proofs.Seats.{seats_push}
use Rattle.engine.proofs.holdings.Holdings.note_term.Goals as goal

pub returns-in_err-check_term : goal.returns-in_err-check_term
returns-in_err-check_term c =
    let e : term_refusal (vec_items c.args.self.now.terms) c.args.term ≡ Some c.in_err-check_term.field-0.0 =
    some_from_err _ _ (rw c.deref.ensures.value at c.in_err-check_term.ensures) in
    record { answers = rw e (search rules); leaves = rw e }

pub returns-in_err-check_no_codes-clause-leaves : goal.returns-in_err-check_no_codes-clause-leaves
returns-in_err-check_no_codes-clause-leaves c = kept_by_second _ _ _ _ _ c.in_err-check_no_codes.ensures

pub invariant_of-self-2-clause-terms_fit : goal.invariant_of-self-2-clause-terms_fit
invariant_of-self-2-clause-terms_fit c =
    let h = c.args.self.now in
    let free : term_refusal (vec_items h.terms) c.args.term ≡ None = none_from_ok _ _ (rw c.deref.ensures.value at c.in_ok-check_term.ensures) in
    ap all_terms_fit c.push_reserved.ensures.items ∙ terms_push (vec_items h.terms) c.args.term h.terms_fit free

pub invariant_of-self-2-clause-seats_listed : goal.invariant_of-self-2-clause-seats_listed
invariant_of-self-2-clause-seats_listed c =
    let h = c.args.self.now in
    let ts = vec_items h.terms in
    let t = c.args.term in
    let counted : c.len.result ≡ length ts = c.len.ensures ∙ h.terms.ok.0 in
    c.list_seat.ensures.items ∙ (λ i. h.seats_listed i ++ cond (is_dated t.kind) (counted i ∷ []) []) ∙ sym (seats_push ts t) ∙ ap seats_of (sym c.push_reserved.ensures.items)

pub invariant_of-self-2-clause-rows_fit : goal.invariant_of-self-2-clause-rows_fit
invariant_of-self-2-clause-rows_fit c =
    let h = c.args.self.now in
    ap (λ us. all_rows_fit us (vec_items h.rows)) c.push_reserved.ensures.items ∙ rows_still (vec_items h.terms) c.args.term (vec_items h.rows) h.rows_fit
