use Rattle.std.proofs.Common.{◌≡◌, length, true, Some, vec_items, ap, ◌∙◌, rules}
use Rattle.engine.specs.Fitting.{all_rows_fit}
use Rattle.engine.specs.Refusals.{row_refusal}
use Rattle.engine.proofs.Answering.{none_from_ok, some_from_err}
use Rattle.engine.proofs.Fitting.{row_passes, rows_push}
use Rattle.engine.proofs.holdings.Holdings.note_row.Goals as goal

pub returns-in_err-check_row : goal.returns-in_err-check_row
returns-in_err-check_row c =
    let h = c.args.self.now in
    let e : row_refusal (vec_items h.terms) (length (vec_items h.rows)) c.args.row ≡ Some c.in_err-check_row.field-0.0 =
    some_from_err _ _ (rw (c.deref.ensures.value, c.len.ensures, h.rows.ok.0) at c.in_err-check_row.ensures) in
    record { answers = rw e (search rules); leaves = rw e }

pub invariant_of-self-2-clause-rows_fit : goal.invariant_of-self-2-clause-rows_fit
invariant_of-self-2-clause-rows_fit c =
    let h = c.args.self.now in
    let ts = vec_items h.terms in
    let passes = row_passes ts c.len.result c.args.row (none_from_ok _ _ (rw c.deref.ensures.value at c.in_ok-check_row.ensures)) in
    ap (all_rows_fit ts) c.push_reserved.ensures.items ∙ rows_push ts (vec_items h.rows) (record { row = c.args.row; active = true }) h.rows_fit passes.fits
