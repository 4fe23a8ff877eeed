-- Rows: their kinds, the terms that they name, and whether a bound is within its limits.
use Rattle.std.specs.Prelude.{ℕ, Bool, false, not, ◌&&◌, ◌||◌, List, neg_ℤ, int_lt, nat_lt}
use Rattle.sheet.specs.declared.row.Row.{Row}
use Rattle.sheet.specs.declared.row.Row.TheVariants.{Span, Same, Unlike}
use Rattle.sheet.specs.declared.term.Term.{Term}
use Rattle.engine.specs.Limits.{bound_limit}
use Rattle.engine.specs.Terms.{is_dated_at}

pub data RowKind : Type 0 where
  span_kind : RowKind
  same_kind : RowKind
  unlike_kind : RowKind

abbrev pub kind_of : Row → RowKind
kind_of (Span i j c) = span_kind
kind_of (Same i j) = same_kind
kind_of (Unlike i j) = unlike_kind

abbrev pub left_of : Row → ℕ
left_of (Span i j c) = i
left_of (Same i j) = i
left_of (Unlike i j) = i

abbrev pub right_of : Row → ℕ
right_of (Span i j c) = j
right_of (Same i j) = j
right_of (Unlike i j) = j

-- both terms of the row are among the first n
abbrev pub terms_below : ℕ → Row → Bool
terms_below n r = nat_lt (left_of r) n && nat_lt (right_of r) n

-- both terms of the row are dated
abbrev pub on_dated : List Term → Row → Bool
on_dated ts r = is_dated_at ts (left_of r) && is_dated_at ts (right_of r)

-- a span names a level
abbrev pub is_span_on_level : List Term → Row → Bool
is_span_on_level ts (Span i j c) = not (on_dated ts (Span i j c))
is_span_on_level ts (Same i j) = false
is_span_on_level ts (Unlike i j) = false

-- a span whose bound does not lie between −1,000,000 and 1,000,000
abbrev pub bound_past_limit : Row → Bool
bound_past_limit (Span i j c) = int_lt c (neg_ℤ bound_limit) || int_lt bound_limit c
bound_past_limit (Same i j) = false
bound_past_limit (Unlike i j) = false
