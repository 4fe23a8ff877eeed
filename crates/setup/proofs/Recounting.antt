-- What a recount looks up.
use Rattle.std.proofs.Common.{◌≡◌, Bool, Bor, cond, true, false, List, [], ◌∷◌, Some, None, Option, refl, ap, ◌∙◌}
use Rattle.std.specs.List.{find}
use Rattle.std.specs.Option.{option_map}
use Rattle.congruence.specs.declared.entry.Entry.{Entry}
use Rattle.model.specs.Recounting.{first_fit}

answer_found : (test : Entry → Bool) (es : List Entry) → option_map (λ (x : Entry). x.answer) (find test es) ≡ first_fit test es
answer_found test [] = refl
answer_found test (e ∷ es) =
    elim (test e) as (λ b. option_map (λ (x : Entry). x.answer) (cond b (Some e) (find test es)) ≡ cond b (Some e.answer) (first_fit test es)) [ true ↦ refl | false ↦ answer_found test es ]

-- the answer of what `find` gives
pub first_fit_found : (test : Entry → Bool) (es : List Entry) (r : Option (Bor Entry)) → option_map (λ x. x.now) r ≡ find test es → option_map (λ x. x.now.answer) r ≡ first_fit test es
first_fit_found test es None e = ap (option_map (λ (x : Entry). x.answer)) e ∙ answer_found test es
first_fit_found test es (Some x) e = ap (option_map (λ (x : Entry). x.answer)) e ∙ answer_found test es
