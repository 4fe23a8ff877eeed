-- What the lines of a session ask for, and what is printed of it.
use Rattle.std.specs.Prelude.{ℕ, ◌+◌, Bool, true, false, not, ◌==◌, if◌then◌else◌, List, [], ◌∷◌, ◌++◌, Some, None, Option, codes, drop, map, take}
use Rattle.std.specs.List.{flat_map, prefix_len, slice_split}
use Rattle.sheet.specs.Words.{words_of_fault}
use Rattle.search.specs.Verdicts.{Finding, arranged, clash}
use Rattle.runs.specs.Events.{Answer, Choice, Event, chosen, done, enter, judge, judged, refused, reopen, strike, told}
use Rattle.benchrun.specs.declared.command.Command.{Command}
use Rattle.benchrun.specs.declared.command.Command.TheVariants.{Enter, Strike, Judge, Reopen}
use Rattle.benchrun.specs.Commands.{command_in}
use Rattle.benchrun.specs.Lines.{clash_lines, setup_lines}

-- a line ends before a line feed, which is 10, or at the end
abbrev pub is_in_line : ℕ → Bool
is_in_line b = not (b == 10)

abbrev pub first_line : List ℕ → List ℕ
first_line bytes = take (prefix_len is_in_line bytes) bytes

abbrev pub after_line : List ℕ → List ℕ
after_line bytes = drop (prefix_len is_in_line bytes + 1) bytes

-- the parts between line feeds are the lines, but for an empty last one
abbrev pub without_empty_last : List (List ℕ) → List (List ℕ)
without_empty_last [] = []
without_empty_last ([] ∷ []) = []
without_empty_last (part ∷ parts) = part ∷ without_empty_last parts

-- the command of each line, or none
abbrev pub commands_in : List ℕ → List (Option Command)
commands_in bytes = map command_in (without_empty_last (slice_split (λ b. b == 10) bytes))

abbrev pub choice_of : Command → Choice
choice_of (Enter r) = enter r
choice_of Strike = strike
choice_of Judge = judge
choice_of Reopen = reopen

-- whether a command has its place: while a result is shown only reopen has, and at an open bench all others have
abbrev pub has_place : Bool → Command → Bool
has_place shown Reopen = shown
has_place shown c = not shown

-- whether a line is performed
abbrev pub is_performed : Bool → Option Command → Bool
is_performed shown None = false
is_performed shown (Some c) = has_place shown c

-- whether a result is shown behind a line that is performed
abbrev pub is_judge : Option Command → Bool
is_judge (Some Judge) = true
is_judge l = false

abbrev pub asked_by : Option Command → List Event
asked_by None = []
asked_by (Some c) = chosen (choice_of c) ∷ []

-- what is on record behind lines, where a result is shown before them or not: each line that is performed, and the next answer after it
abbrev pub replay : Bool → List (Option Command) → List Answer → List Event
replay shown [] answers = []
replay shown (l ∷ ls) answers = if is_performed shown l
    then asked_by l ++ (map told (take 1 answers) ++ replay (is_judge l) ls (drop 1 answers))
    else replay shown ls answers

-- each printed line has the line feed at its end
abbrev pub finding_lines : Finding → List ℕ
finding_lines (arranged cs) = setup_lines cs ++ 10 ∷ []
finding_lines (clash rows) = clash_lines rows ++ 10 ∷ []

-- what is printed of an answer
abbrev pub answer_lines : Answer → List ℕ
answer_lines done = codes "done" ++ 10 ∷ []
answer_lines (refused e) = codes "refused " ++ words_of_fault e ++ 10 ∷ []
answer_lines (judged found) = finding_lines found

-- why a line is not performed
abbrev pub why_not : Bool → Option Command → List ℕ
why_not shown None = codes "no command" ++ 10 ∷ []
why_not true (Some c) = codes "not now: a result is shown, reopen first" ++ 10 ∷ []
why_not false (Some c) = codes "not now: no result is shown" ++ 10 ∷ []

-- what is printed of lines: the answer to each that is performed, and why each other is not
abbrev pub lines_printed : Bool → List (Option Command) → List Answer → List ℕ
lines_printed shown [] answers = []
lines_printed shown (l ∷ ls) answers = if is_performed shown l
    then flat_map answer_lines (take 1 answers) ++ lines_printed (is_judge l) ls (drop 1 answers)
    else why_not shown l ++ lines_printed shown ls answers

-- whether a result is shown behind the lines, where one is shown before them or not
abbrev pub shown_after : Bool → List (Option Command) → Bool
shown_after shown [] = shown
shown_after shown (l ∷ ls) = shown_after (if is_performed shown l then is_judge l else shown) ls

-- how many of the lines are performed
abbrev pub count_performed : Bool → List (Option Command) → ℕ
count_performed shown [] = 0
count_performed shown (l ∷ ls) = if is_performed shown l then 1 + count_performed (is_judge l) ls else count_performed shown ls
