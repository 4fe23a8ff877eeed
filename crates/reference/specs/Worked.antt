-- Worked sheets, each with the answer to it.
use Rattle.std.specs.Prelude.{◌≡◌, ℕ, true, List, [], ◌∷◌, ◌++◌, map, replicate, ℤ, pos, neg_ℤ, All}
use Rattle.std.specs.List.{list_all}
use Rattle.sheet.specs.declared.fault.Cause.TheVariants.{BoundPastLimit}
use Rattle.sheet.specs.declared.row.Row.{Row}
use Rattle.sheet.specs.declared.row.Row.TheVariants.{Span, Same, Unlike}
use Rattle.sheet.specs.declared.term.Form.TheVariants.{Name, One}
use Rattle.sheet.specs.declared.term.Kind.TheVariants.{Level}
use Rattle.sheet.specs.declared.term.Term.{Term}
use Rattle.engine.specs.Fitting.{all_terms_fit}
use Rattle.engine.specs.Terms.{zero_term}
use Rattle.congruence.specs.declared.entry.Arguments.TheVariants.{Unary}
use Rattle.congruence.specs.Entries.{entry}
use Rattle.theory.specs.Sheets.{from_4_to, instant, level_terms}
use Rattle.reference.specs.Reference.{Answer, AnswerIsRight, answer_to, clash, refused, setup}

pub record Sheet : Type 0 where
  pub terms : List Term
  pub rows : List Row
  pub answer : Answer

abbrev pub sheet : List Term → List Row → Answer → Sheet
sheet ts rows answer = record { terms = ts; rows = rows; answer = answer }

-- zero and n instants
abbrev pub instants : ℕ → List Term
instants n = zero_term ∷ replicate n instant

abbrev pub level : Term
level = record { kind = Level; form = Name }

-- the levels A(t), for each term t of a list. The table's letter is 65
abbrev pub levels_at : List ℕ → List Term
levels_at ts = map (λ t. record { kind = Level; form = One 65 t }) ts

-- term t is n
abbrev pub fixed : ℕ → ℤ → List Row
fixed t n = Span t 0 n ∷ Span 0 t (neg_ℤ n) ∷ []

abbrev pub worked : List Sheet
worked =
    -- zero alone
    sheet (instants 0) [] (setup (0 ∷ []) (pos 0 ∷ []) [])
    -- x and y, of which nothing is said
    ∷ sheet (instants 2) [] (setup (0 ∷ 0 ∷ 0 ∷ []) (pos 0 ∷ neg_ℤ (pos 1) ∷ neg_ℤ (pos 2) ∷ []) [])
    -- x lies from 4 to 6, and a, b and c are 4, 5 and 6; A(x) is unlike A(a) and unlike A(c)
    ∷ sheet (instants 4 ++ levels_at (1 ∷ 2 ∷ 3 ∷ 4 ∷ []))
    (fixed 2 (pos 4) ++ fixed 3 (pos 5) ++ fixed 4 (pos 6) ++ Span 1 0 (pos 6) ∷ Span 0 1 (neg_ℤ (pos 4)) ∷ Unlike 5 6 ∷ Unlike 5 8 ∷ [])
    (setup (0 ∷ 2 ∷ 2 ∷ 5 ∷ 6 ∷ []) (pos 0 ∷ pos 5 ∷ pos 4 ∷ pos 5 ∷ pos 6 ∷ pos 7 ∷ pos 8 ∷ pos 7 ∷ pos 9 ∷ [])
    (entry 65 (Unary (pos 5)) (pos 7) ∷ entry 65 (Unary (pos 4)) (pos 8) ∷ entry 65 (Unary (pos 6)) (pos 9) ∷ []))
    -- x lies from 4 to 5, which a and b are, and A(x) is unlike A(a) and unlike A(b)
    ∷ sheet level_terms (from_4_to (pos 5)) (clash (0 ∷ 1 ∷ 2 ∷ 3 ∷ 4 ∷ 5 ∷ 6 ∷ 7 ∷ []))
    -- the same with a row that is not needed
    ∷ sheet level_terms (from_4_to (pos 5) ++ Span 1 2 (pos 3) ∷ []) (clash (0 ∷ 1 ∷ 2 ∷ 3 ∷ 4 ∷ 5 ∷ 6 ∷ 7 ∷ []))
    -- zero is below itself; and it is at most itself
    ∷ sheet (instants 0) (Span 0 0 (neg_ℤ (pos 1)) ∷ []) (clash (0 ∷ []))
    ∷ sheet (instants 0) (Span 0 0 (pos 0) ∷ []) (setup (0 ∷ []) (pos 0 ∷ []) [])
    -- two rows each of which cannot be met: the first is left out
    ∷ sheet (instants 0) (Unlike 0 0 ∷ Span 0 0 (neg_ℤ (pos 1)) ∷ []) (clash (1 ∷ []))
    -- x and y are equal by their spans, and A(x) is unlike A(y)
    ∷ sheet (instants 2 ++ levels_at (1 ∷ 2 ∷ [])) (Span 1 2 (pos 0) ∷ Span 2 1 (pos 0) ∷ Unlike 3 4 ∷ []) (clash (0 ∷ 1 ∷ 2 ∷ []))
    -- A three times and A five times give the level back, and A once does not
    ∷ sheet (instants 0 ++ level ∷ levels_at (1 ∷ 2 ∷ 3 ∷ 4 ∷ 5 ∷ [])) (Same 4 1 ∷ Same 6 1 ∷ Unlike 2 1 ∷ []) (clash (0 ∷ 1 ∷ 2 ∷ []))
    -- the greatest bound, and one past it
    ∷ sheet (instants 1) (fixed 1 (pos 1000000)) (setup (0 ∷ 2 ∷ []) (pos 0 ∷ pos 1000000 ∷ []) [])
    ∷ sheet (instants 1) (Span 1 0 (pos 1000001) ∷ []) (refused BoundPastLimit)
    ∷ []

-- the terms of each sheet were accepted
abbrev pub TermsStand : List Sheet → Type 0
TermsStand sheets = list_all (λ (s : Sheet). all_terms_fit s.terms) sheets ≡ true

-- the answers that are stated are those that the reference gives
abbrev pub AnswersStand : List Sheet → Type 0
AnswersStand sheets = map (λ (s : Sheet). answer_to s.terms s.rows) sheets ≡ map (λ (s : Sheet). s.answer) sheets

-- and they are right
abbrev pub AllRight : List Sheet → Type 0
AllRight sheets = All (λ (s : Sheet). AnswerIsRight s.terms s.rows s.answer) sheets

-- of the table above. The first two the checker computes
abbrev pub WorkedTermsStand : Type 0
WorkedTermsStand = TermsStand worked

abbrev pub WorkedStand : Type 0
WorkedStand = AnswersStand worked

abbrev pub WorkedAreRight : Type 0
WorkedAreRight = AllRight worked
