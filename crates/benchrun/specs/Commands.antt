-- The commands: how a line of bytes is read as one, and how each is spelled.
use Rattle.std.specs.Prelude.{◌≡◌, ℕ, ◌<◌, Bool, ◌&&◌, if◌then◌else◌, List, [], ◌∷◌, length, drop, filter, ℤ, pos, neg_ℤ, FitsSigned, Some, None, Option, codes, decimal, ◌==◌, nat_le, nat_lt}
use Rattle.std.specs.Fmt.{signed_decimal}
use Rattle.std.specs.Int.{w32}
use Rattle.std.specs.List.{join_with_byte, slice_split}
use Rattle.std.specs.Option.{option_map}
use Rattle.std.specs.Str.{all_ascii_digits, bytes_eq}
use Rattle.std.specs.Str.Lines.{strip_carriage_return}
use Rattle.std.specs.Str.Parse.{digits_value, starts_with_minus}
use Rattle.sheet.specs.declared.row.Row.{Row}
use Rattle.sheet.specs.declared.row.Row.TheVariants.{Span, Same, Unlike}
use Rattle.benchrun.specs.declared.command.Command.{Command}
use Rattle.benchrun.specs.declared.command.Command.TheVariants.{Enter, Strike, Judge, Reopen}

-- 32, the byte that parts words
abbrev pub is_blank : ℕ → Bool
is_blank b = b == 32

-- the words of a line: what stands between blanks, but for the empty parts
abbrev pub words_of : List ℕ → List (List ℕ)
words_of line = filter (λ part. nat_lt 0 (length part)) (slice_split is_blank line)

-- one decimal digit or more
abbrev pub is_number : List ℕ → Bool
is_number ds = nat_lt 0 (length ds) && all_ascii_digits ds

-- the number that digits write, if it is at most `most`
abbrev pub number_in : ℕ → List ℕ → Option ℕ
number_in most ds = if is_number ds && nat_le (digits_value 10 ds) most then Some (digits_value 10 ds) else None

-- the index of a term fits 8 bits
abbrev pub index_in : List ℕ → Option ℕ
index_in word = number_in 255 word

-- a bound fits 32 bits, with a minus before the digits of a negative one
abbrev pub bound_in : List ℕ → Option ℤ
bound_in word = if starts_with_minus word
    then option_map (λ n. neg_ℤ (pos n)) (number_in 2147483648 (drop 1 word))
    else option_map pos (number_in 2147483647 word)

-- a row of this kind on two terms
abbrev pub pair_row : List ℕ → Option ℕ → Option ℕ → Option Row
pair_row kind (Some i) (Some j) = if bytes_eq kind (codes "same") then Some (Same i j) else (if bytes_eq kind (codes "unlike") then Some (Unlike i j) else None)
pair_row kind _ _ = None

-- and with a bound
abbrev pub span_row : List ℕ → Option ℕ → Option ℕ → Option ℤ → Option Row
span_row kind (Some i) (Some j) (Some c) = if bytes_eq kind (codes "span") then Some (Span i j c) else None
span_row kind _ _ _ = None

-- the row that the words behind `enter` say
abbrev pub row_in : List (List ℕ) → Option Row
row_in (kind ∷ i ∷ j ∷ []) = pair_row kind (index_in i) (index_in j)
row_in (kind ∷ i ∷ j ∷ c ∷ []) = span_row kind (index_in i) (index_in j) (bound_in c)
row_in _ = None

-- a command of one word
abbrev pub plain_command : List ℕ → Option Command
plain_command word = if bytes_eq word (codes "strike") then Some Strike else (if bytes_eq word (codes "judge") then Some Judge else (if bytes_eq word (codes "reopen") then Some Reopen else None))

-- the command that the words of a line say
abbrev pub command_of : List (List ℕ) → Option Command
command_of [] = None
command_of (word ∷ []) = plain_command word
command_of (word ∷ more) = if bytes_eq word (codes "enter") then option_map Enter (row_in more) else None

-- the command in a line, which may end in a carriage return
abbrev pub command_in : List ℕ → Option Command
command_in line = command_of (words_of (strip_carriage_return line))

-- the words of a row, and of a command
abbrev pub row_words : Row → List (List ℕ)
row_words (Span i j c) = codes "span" ∷ decimal i ∷ decimal j ∷ signed_decimal c ∷ []
row_words (Same i j) = codes "same" ∷ decimal i ∷ decimal j ∷ []
row_words (Unlike i j) = codes "unlike" ∷ decimal i ∷ decimal j ∷ []

abbrev pub command_words : Command → List (List ℕ)
command_words (Enter row) = codes "enter" ∷ row_words row
command_words Strike = codes "strike" ∷ []
command_words Judge = codes "judge" ∷ []
command_words Reopen = codes "reopen" ∷ []

-- how a command is spelled: its words, parted by single blanks
abbrev pub words_of_command : Command → List ℕ
words_of_command c = join_with_byte 32 (command_words c)

-- the numbers of a row fit their types
abbrev pub RowInRange : Row → Type 0
RowInRange (Span i j c) = (i < 256) × (j < 256) × FitsSigned w32 c
RowInRange (Same i j) = (i < 256) × (j < 256)
RowInRange (Unlike i j) = (i < 256) × (j < 256)

abbrev pub CommandInRange : Command → Type 0
CommandInRange (Enter row) = RowInRange row
CommandInRange Strike = Unit {0}
CommandInRange Judge = Unit {0}
CommandInRange Reopen = Unit {0}

-- a line that spells a command is read as that command
abbrev pub ReadsSpelled : List ℕ → Option Command → Type 0
ReadsSpelled line r = (c : Command) → CommandInRange c → line ≡ words_of_command c → r ≡ Some c
