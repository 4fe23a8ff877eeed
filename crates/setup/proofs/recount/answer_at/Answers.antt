use Rattle.std.proofs.Common.{◌≡◌, Some, of_z, sym, to_z, w64, ap, ◌∙◌, rules, tests}
use Rattle.std.specs.Option.{option_map}
use Rattle.std.proofs.lemmas.Iterator.{YieldsList-from_slice}
use Rattle.std.proofs.lemmas.Iterator.Search.{find_from_yields_List}
use Rattle.congruence.specs.Entries.{fits}
use Rattle.setup.proofs.Recounting.{first_fit_found}
use Rattle.setup.proofs.recount.answer_at.Goals as goal

pub returns-in_err-entry : goal.returns-in_err-entry
returns-in_err-entry c =
    let es = c.args.entries.now in
    let test = fits c.args.table c.args.arguments in
    c.from_residual.ensures
    ∙ sym (ap (option_map (λ x. x.now.answer)) c.in_err-entry.was)
    ∙ first_fit_found test es c.find.result (find_from_yields_List test _ _ _ c.find.ensures.ran (YieldsList-from_slice es cc) (λ x b q k. search (rules, tests)))

pub returns : goal.returns
returns c =
    let es = c.args.entries.now in
    let test = fits c.args.table c.args.arguments in
    let answer : to_z w64 (of_z w64 c.in_ok-entry.entry.now.answer) ≡ c.in_ok-entry.entry.now.answer = search rules in
    ap (λ n. Some n) answer
    ∙ sym (ap (option_map (λ x. x.now.answer)) c.in_ok-entry.was)
    ∙ first_fit_found test es c.find.result (find_from_yields_List test _ _ _ c.find.ensures.ran (YieldsList-from_slice es cc) (λ x b q k. search (rules, tests)))
