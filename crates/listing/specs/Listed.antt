-- The listing of a sheet.
use Rattle.std.specs.Prelude.{◌≡◌, ℕ, List, [], Option, Some, None}
use Rattle.sheet.specs.declared.refusal.Refusal.{Refusal}
use Rattle.sheet.specs.declared.row.Row.{Row}
use Rattle.sheet.specs.declared.term.Term.{Term}
use Rattle.search.specs.Verdicts.{Finding, arranged, clash}
use Rattle.setup.specs.declared.set_up.SetUp.{SetUp}
use Rattle.setup.specs.Solutions.{SolvedTruly}
use Rattle.load.specs.Loading.{StopsAt, WholeSheet}
use Rattle.listing.specs.Lines.{clash_text, refused_text, setup_text}

-- what is printed of what was found
abbrev pub text_of : Finding → Option SetUp → List ℕ
text_of (arranged codes) (Some u) = setup_text u.numbers.items u.entries.items
text_of (arranged codes) None = []
text_of (clash places) u = clash_text places

-- the rows were judged, and the text says what was found
pub record RowsListed (ts : List Term) (rows : List Row) (text : List ℕ) : Type 0 where
  pub what : Finding
  pub set_up : Option SetUp
  pub solved : SolvedTruly ts rows what set_up
  pub printed : text ≡ text_of what set_up

-- what is listed of a sheet that was loaded, or refused
abbrev pub LoadedListed : Option Refusal → List Term → List Row → Option Refusal → List ℕ → Type 0
LoadedListed None ts rows refusal text = (refusal ≡ None) × RowsListed ts rows text
LoadedListed (Some e) ts rows refusal text = (refusal ≡ Some e) × (text ≡ refused_text e)

-- The whole sheet was taken, and its rows are listed
pub record SheetSolved (sheet text : List ℕ) : Type 0 where
  pub terms : List Term
  pub rows : List Row
  pub taken : WholeSheet sheet terms rows
  pub listed : RowsListed terms rows text

-- or it was refused, and the text says why and where
pub record SheetRefused (sheet : List ℕ) (e : Refusal) (text : List ℕ) : Type 0 where
  pub stopped : StopsAt sheet e
  pub printed : text ≡ refused_text e

abbrev pub SheetListed : List ℕ → Option Refusal → List ℕ → Type 0
SheetListed sheet None text = SheetSolved sheet text
SheetListed sheet (Some e) text = SheetRefused sheet e text

-- no other text would be a listing of the sheet
abbrev pub OnlyListing : List ℕ → Option Refusal → List ℕ → Type 0
OnlyListing sheet refusal text = (e : Option Refusal) (other : List ℕ) → SheetListed sheet e other → (e ≡ refusal) × (other ≡ text)
