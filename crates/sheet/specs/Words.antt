-- Terms, rows and refusals in words, byte for byte.
use Rattle.std.specs.Prelude.{ℕ, List, ◌++◌, codes, decimal}
use Rattle.std.proofs.Math.Utf8.{encode}
use Rattle.std.specs.Fmt.{signed_decimal}
use Rattle.sheet.specs.declared.fault.Cause.{Cause}
use Rattle.sheet.specs.declared.fault.Cause.TheVariants.{CutShort, UnknownTag, WrongLength, MalformedTerm, BadLabel, TermsFull, DatedTermsFull, ArgumentNotEarlier, OtherArgumentCount, TermAfterRow, RowsFull, NoSuchTerm, SpanOnLevel, BoundPastLimit}
use Rattle.sheet.specs.declared.fault.Fault.{Fault}
use Rattle.sheet.specs.declared.refusal.Refusal.{Refusal}
use Rattle.sheet.specs.declared.row.Row.{Row}
use Rattle.sheet.specs.declared.row.Row.TheVariants.{Span, Same, Unlike}
use Rattle.sheet.specs.declared.term.Form.{Form}
use Rattle.sheet.specs.declared.term.Form.TheVariants.{Name, One, Two}
use Rattle.sheet.specs.declared.term.Kind.{Kind}
use Rattle.sheet.specs.declared.term.Kind.TheVariants.{Dated, Level}
use Rattle.sheet.specs.Causes.{cause_number}

abbrev pub words_of_kind : Kind → List ℕ
words_of_kind Dated = codes "dated"
words_of_kind Level = codes "a level"

abbrev pub words_of_form : Form → List ℕ
words_of_form Name = codes "a name"
words_of_form (One a x) = codes "table " ++ (encode a ++ (codes " at term " ++ decimal x))
words_of_form (Two a x y) = codes "table " ++ (encode a ++ (codes " at terms " ++ (decimal x ++ (codes " and " ++ decimal y))))

abbrev pub words_of_row : Row → List ℕ
words_of_row (Span i j c) = codes "span: term " ++ (decimal i ++ (codes " - term " ++ (decimal j ++ (codes " <= " ++ signed_decimal c))))
words_of_row (Same i j) = codes "same: term " ++ (decimal i ++ (codes " = term " ++ decimal j))
words_of_row (Unlike i j) = codes "unlike: term " ++ (decimal i ++ (codes " <> term " ++ decimal j))

-- what a person is told of a ground, where a field of a sheet is refused
abbrev pub words_of_cause : Cause → List ℕ
words_of_cause CutShort = codes "the bytes that were read end before the field does"
words_of_cause UnknownTag = codes "its tag is none of the letters T, S, E and U"
words_of_cause WrongLength = codes "its length is not one that its tag can have"
words_of_cause MalformedTerm = codes "its kind, form or table letter is wrong, or its letter or an argument is missing"
words_of_cause BadLabel = codes "its label is not 1 to 12 visible characters"
words_of_cause TermsFull = codes "there are 32 terms already"
words_of_cause DatedTermsFull = codes "there are 8 dated terms already"
words_of_cause ArgumentNotEarlier = codes "an argument is not the index of an earlier term"
words_of_cause OtherArgumentCount = codes "its table is in use with the other count of arguments"
words_of_cause TermAfterRow = codes "it is a term, and a row stands before it"
words_of_cause RowsFull = codes "there are 64 rows already"
words_of_cause NoSuchTerm = codes "it names a term that there is not"
words_of_cause SpanOnLevel = codes "it is a span and names a level"
words_of_cause BoundPastLimit = codes "its bound is below -1000000 or above 1000000"
words_of_cause _ = codes "see docs/REFUSALS.md"

-- the number and the letter of the layer
abbrev pub words_of_fault : Fault → List ℕ
words_of_fault e = decimal (cause_number e.cause) ++ (codes " " ++ encode e.layer)

-- the byte where the refused field starts stands last
abbrev pub words_of_refusal : Refusal → List ℕ
words_of_refusal e = codes "refused " ++ (words_of_fault e.fault ++ (codes " " ++ decimal e.place))
