-- The table of sheets: what is computed of it, and that the answers stated there are right.
use Rattle.std.proofs.Common.{◌≡◌, List, [], ◌∷◌, map, refl, subst}
use Rattle.std.specs.List.{list_all}
use Rattle.std.proofs.lemmas.Bool.{and_parts}
use Rattle.std.proofs.lemmas.List.Elements.{All-nil, All-cons}
use Rattle.engine.specs.Fitting.{all_terms_fit}
use Rattle.reference.specs.Worked.{AllRight, AnswersStand, WorkedAreRight, WorkedStand, WorkedTermsStand, Sheet, TermsStand, worked}
use Rattle.reference.specs.Reference.{AnswerIsRight, answer_to}
use Rattle.reference.proofs.Answering.{answer_is_right}

pub terms_computed : WorkedTermsStand
terms_computed = refl

pub answers_computed : WorkedStand
answers_computed = refl

-- what the reference gives to accepted terms is right, and so is what is stated, if that is the same
all_right : (sheets : List Sheet) → TermsStand sheets → AnswersStand sheets → AllRight sheets
all_right [] stand same = All-nil _
all_right (s ∷ sheets) stand same =
    let terms = and_parts (all_terms_fit s.terms) (list_all (λ (x : Sheet). all_terms_fit x.terms) sheets) stand in
    let here : answer_to s.terms s.rows ≡ s.answer = cc in
    let others : map (λ (x : Sheet). answer_to x.terms x.rows) sheets ≡ map (λ (x : Sheet). x.answer) sheets = cc in
    All-cons (λ (x : Sheet). AnswerIsRight x.terms x.rows x.answer) s sheets (subst (AnswerIsRight s.terms s.rows) here (answer_is_right s.terms s.rows terms.0)) (all_right sheets terms.1 others)

pub worked_are_right : WorkedAreRight
worked_are_right = all_right worked terms_computed answers_computed
