-- How much there may be at most: of terms and of dated terms, zero included, and of rows. A bound and a date lie between their
-- limit and its opposite.
use Rattle.std.specs.Prelude.{ℕ, ℤ, pos}

abbrev pub max_terms : ℕ
max_terms = 32

abbrev pub max_seats : ℕ
max_seats = 8

abbrev pub max_rows : ℕ
max_rows = 64

abbrev pub bound_limit : ℤ
bound_limit = pos 1000000

abbrev pub date_limit : ℤ
date_limit = pos 7000000
