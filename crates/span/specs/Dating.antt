-- The dates that the code computes: distances, counted from zero's.
use Rattle.std.specs.Prelude.{ℕ, ◌<◌, Bool, true, false, List, map, ℤ, pos, neg_ℤ, ◌-ℤ◌, ◌≤ℤ◌}
use Rattle.engine.specs.Limits.{max_terms, date_limit}
use Rattle.engine.specs.Rows.{RowKind, span_kind, same_kind, unlike_kind}
use Rattle.graph.specs.Graph.{at}

-- the span engine counts the span rows
abbrev pub counts_spans : RowKind → Bool
counts_spans span_kind = true
counts_spans same_kind = false
counts_spans unlike_kind = false

-- the distances d of the terms ss, from that of term 0
abbrev pub from_zero : List ℤ → List ℕ → List ℤ
from_zero d ss = map (λ s. at d s -ℤ at d 0) ss

-- the term s has a distance, which lies between −7,000,000 and 0
abbrev pub InLimits : List ℤ → ℕ → Type 0
InLimits d s = (s < max_terms) × (neg_ℤ date_limit ≤ℤ at d s) × (at d s ≤ℤ pos 0)
