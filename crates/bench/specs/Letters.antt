-- The letters of the three layers.
use Rattle.std.specs.Prelude.{ℕ}

-- D
abbrev pub draft_letter : ℕ
draft_letter = 68

-- B
abbrev pub bench_letter : ℕ
bench_letter = 66

-- P
abbrev pub result_letter : ℕ
result_letter = 80
