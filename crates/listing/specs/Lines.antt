-- What is printed of a sheet, byte for byte. A line feed, which is 10, ends each line.
use Rattle.std.specs.Prelude.{ℕ, List, [], ◌∷◌, ◌++◌, ℤ, codes, decimal}
use Rattle.std.proofs.Math.Utf8.{encode}
use Rattle.std.specs.Fmt.{signed_decimal}
use Rattle.std.specs.List.{enumerate_from, flat_map}
use Rattle.sheet.specs.declared.refusal.Refusal.{Refusal}
use Rattle.sheet.specs.Words.{words_of_refusal}
use Rattle.congruence.specs.declared.entry.Arguments.{Arguments}
use Rattle.congruence.specs.declared.entry.Arguments.TheVariants.{Unary, Binary}
use Rattle.congruence.specs.declared.entry.Entry.{Entry}

abbrev pub line_feed : List ℕ
line_feed = 10 ∷ []

-- a term with its number
abbrev pub term_line : ℕ × ℤ → List ℕ
term_line p = codes "term " ++ (decimal p.0 ++ (codes " " ++ (signed_decimal p.1 ++ line_feed)))

-- argument numbers, with words behind them
abbrev pub arguments_before : Arguments → List ℕ → List ℕ
arguments_before (Unary n) words = signed_decimal n ++ words
arguments_before (Binary n m) words = signed_decimal n ++ (codes " " ++ (signed_decimal m ++ words))

-- the table's letter, the argument numbers and the answer
abbrev pub entry_line : Entry → List ℕ
entry_line e = codes "entry " ++ (encode e.table ++ (codes " " ++ arguments_before e.arguments (codes " " ++ (signed_decimal e.answer ++ line_feed))))

abbrev pub row_line : ℕ → List ℕ
row_line row = codes "row " ++ (decimal row ++ line_feed)

-- a set-up, a clash and a refusal
abbrev pub setup_text : List ℤ → List Entry → List ℕ
setup_text numbers entries = codes "setup" ++ (line_feed ++ (flat_map term_line (enumerate_from 0 numbers) ++ flat_map entry_line entries))

abbrev pub clash_text : List ℕ → List ℕ
clash_text rows = codes "clash" ++ (line_feed ++ flat_map row_line rows)

abbrev pub refused_text : Refusal → List ℕ
refused_text e = words_of_refusal e ++ line_feed
