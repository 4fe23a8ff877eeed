-- Sheets on which the theorems are tried.
use Rattle.std.specs.Prelude.{ℕ, ◌-◌, Bool, true, false, not, List, [], ◌∷◌, length, map, filter, ℤ, pos, neg_ℤ}
use Rattle.sheet.specs.declared.row.Row.{Row}
use Rattle.sheet.specs.declared.row.Row.TheVariants.{Span, Same, Unlike}
use Rattle.sheet.specs.declared.term.Form.TheVariants.{Name, One}
use Rattle.sheet.specs.declared.term.Kind.TheVariants.{Dated, Level}
use Rattle.sheet.specs.declared.term.Term.{Term}
use Rattle.engine.specs.declared.noted.Noted.{Noted}
use Rattle.engine.specs.Calls.{rows_with_mark}
use Rattle.engine.specs.Rows.{RowKind}
use Rattle.engine.specs.States.{State}
use Rattle.engine.specs.Terms.{zero_term}

abbrev pub instant : Term
instant = record { kind = Dated; form = Name }

-- zero, the instants x, a and b, and the levels A(x), A(a) and A(b). The table's letter is 65
abbrev pub level_terms : List Term
level_terms = zero_term ∷ instant ∷ instant ∷ instant
    ∷ record { kind = Level; form = One 65 1 }
    ∷ record { kind = Level; form = One 65 2 }
    ∷ record { kind = Level; form = One 65 3 }
    ∷ []

-- a is 4, b is the given end, x lies from 4 to it, and A(x) is unlike A(a) and unlike A(b)
abbrev pub from_4_to : ℤ → List Row
from_4_to end = Span 2 0 (pos 4) ∷ Span 0 2 (neg_ℤ (pos 4))
    ∷ Span 3 0 end ∷ Span 0 3 (neg_ℤ end)
    ∷ Span 1 0 end ∷ Span 0 1 (neg_ℤ (pos 4))
    ∷ Unlike 4 5 ∷ Unlike 4 6
    ∷ []

-- the rows of the instants alone, and those of the levels
abbrev pub is_span : Row → Bool
is_span (Span i j c) = true
is_span (Same i j) = false
is_span (Unlike i j) = false

abbrev pub spans_of : List Row → List Row
spans_of rows = filter is_span rows

abbrev pub equalities_of : List Row → List Row
equalities_of rows = filter (λ r. not (is_span r)) rows

-- codes that place a before b, and x between the two, past both, with a, or with b
abbrev pub x_between : List ℕ
x_between = 0 ∷ 2 ∷ 2 ∷ 6 ∷ []

abbrev pub x_past_both : List ℕ
x_past_both = 0 ∷ 2 ∷ 2 ∷ 4 ∷ []

abbrev pub x_with_a : List ℕ
x_with_a = 0 ∷ 2 ∷ 3 ∷ 4 ∷ []

abbrev pub x_with_b : List ℕ
x_with_b = 0 ∷ 2 ∷ 2 ∷ 5 ∷ []

-- dates with x between a and b, where b is 6; and numbers for all terms with x with b, where b is 5
abbrev pub dates_between : List ℤ
dates_between = pos 0 ∷ pos 5 ∷ pos 4 ∷ pos 6 ∷ []

abbrev pub numbers_with_b : List ℤ
numbers_with_b = pos 0 ∷ pos 5 ∷ pos 4 ∷ pos 5 ∷ pos 6 ∷ pos 7 ∷ pos 6 ∷ []

-- the rows as an engine holds them, all active; and with the last one muted
abbrev pub noted_rows : List Row → List Noted
noted_rows rows = map (λ r. record { row = r; active = true }) rows

abbrev pub without_the_last : List Row → List Noted
without_the_last rows = rows_with_mark (length rows - 1) false (noted_rows rows)

-- an engine may count rows of each kind, where they are on instants
abbrev pub counts_all : RowKind → Bool
counts_all k = true

-- what an engine holds
abbrev pub holding : List Row → List ℕ → State
holding rows codes = record { terms = level_terms; rows = noted_rows rows; codes = codes }

-- zero and the instants x, y and z
abbrev pub three_terms : List Term
three_terms = zero_term ∷ instant ∷ instant ∷ instant ∷ []

-- the codes that place each past those before it
abbrev pub each_past : List ℕ
each_past = 0 ∷ 2 ∷ 4 ∷ 6 ∷ []

-- all three lie from 1 to 2, and no two are equal
abbrev pub in_two_ticks : List Row
in_two_ticks = Span 1 0 (pos 2) ∷ Span 0 1 (neg_ℤ (pos 1))
    ∷ Span 2 0 (pos 2) ∷ Span 0 2 (neg_ℤ (pos 1))
    ∷ Span 3 0 (pos 2) ∷ Span 0 3 (neg_ℤ (pos 1))
    ∷ Unlike 1 2 ∷ Unlike 1 3 ∷ Unlike 2 3
    ∷ []
