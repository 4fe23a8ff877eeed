-- A sheet has one answer.
use Rattle.std.proofs.Common.{◌≡◌, ◌∙◌, ap, sym, refl, subst, ℕ, List, [], ◌∷◌, Some, None, Option}
use Rattle.std.proofs.lemmas.Option.{none-some}
use Rattle.sheet.specs.declared.refusal.Refusal.{Refusal}
use Rattle.sheet.specs.declared.row.Row.{Row}
use Rattle.sheet.specs.declared.term.Term.{Term}
use Rattle.engine.specs.Rules.{SpanAllowed, TableAllowed}
use Rattle.engine.specs.Terms.{zero_term}
use Rattle.search.specs.Verdicts.{Finding, arranged, clash}
use Rattle.search.proofs.Only.{judged_only}
use Rattle.setup.specs.declared.set_up.SetUp.{SetUp}
use Rattle.setup.specs.Solutions.{SolvedTruly}
use Rattle.load.specs.Loading.{LoadedAs, LoadsOnly}
use Rattle.listing.specs.Lines.{refused_text, setup_text}
use Rattle.listing.specs.Listed.{LoadedListed, OnlyListing, RowsListed, SheetListed, text_of}

-- of the same terms and rows one text says what was found
same_text : (ts : List Term) (rows : List Row) (what other : Finding) (u v : Option SetUp) → SolvedTruly ts rows what u → SolvedTruly ts rows other v → other ≡ what → text_of other v ≡ text_of what u
same_text ts rows (arranged codes) other u v s z e = go u v s (subst (λ w. SolvedTruly ts rows w v) e z)
  where
    go : (u v : Option SetUp) → SolvedTruly ts rows (arranged codes) u → SolvedTruly ts rows (arranged codes) v → text_of other v ≡ text_of (arranged codes) u
    go (Some x) (Some y) s z = let (numbers, entries) = s.only y.numbers.items y.entries.items z.picked in ap (λ w. text_of w (Some y)) e ∙ (λ i. setup_text (numbers i) (entries i))
    go None v s z = absurd s.picked
    go (Some x) None s z = absurd z.picked
same_text ts rows (clash places) other u v s z e = ap (λ w. text_of w v) e

-- and so of the same rows one text is listed
one_listing : (ts : List Term) (rows : List Row) (text other : List ℕ) → RowsListed ts rows text → RowsListed ts rows other → other ≡ text
one_listing ts rows text other a b =
    let found : b.what ≡ a.what = judged_only TableAllowed SpanAllowed ts rows b.what a.what b.solved.judged a.solved.judged in
    b.printed ∙ same_text ts rows a.what b.what a.set_up b.set_up a.solved b.solved found ∙ sym a.printed

-- what is listed of what was loaded is listed of the sheet
pub sheet_listed : (sheet : List ℕ) (loaded refusal : Option Refusal) (ts : List Term) (rows : List Row) (text : List ℕ) → LoadedAs sheet loaded ts rows → LoadedListed loaded ts rows refusal text
    → SheetListed sheet refusal text
sheet_listed sheet None refusal ts rows text was (none, listed) = subst (λ r. SheetListed sheet r text) (sym none) (record { terms = ts; rows = rows; taken = was; listed = listed })
sheet_listed sheet (Some e) refusal ts rows text was (some, printed) = subst (λ r. SheetListed sheet r text) (sym some) (record { stopped = was.0; printed = printed })

-- and nothing else is
pub sheet_only : (sheet : List ℕ) (loaded refusal : Option Refusal) (ts : List Term) (rows : List Row) (text : List ℕ) → LoadsOnly sheet loaded ts rows → LoadedListed loaded ts rows refusal text
    → OnlyListing sheet refusal text
sheet_only sheet None refusal ts rows text only (none, listed) = subst (λ r. OnlyListing sheet r text) (sym none) go
  where
    go : OnlyListing sheet None text
    go (Some e) other r = let (some, t, z) = only (Some e) (zero_term ∷ []) [] (r.stopped, refl, refl) in absurd (none-some e (sym some))
    go None other s =
        let (none, terms, standing) = only None s.terms s.rows s.taken in
        (refl, one_listing ts rows text other listed (subst (λ zs. RowsListed ts zs other) standing (subst (λ us. RowsListed us s.rows other) terms s.listed)))
sheet_only sheet (Some e) refusal ts rows text only (some, printed) = subst (λ r. OnlyListing sheet r text) (sym some) go
  where
    go : OnlyListing sheet (Some e) text
    go None other s = let (none, t, z) = only None s.terms s.rows s.taken in absurd (none-some e none)
    go (Some f) other r =
        let (same, t, z) = only (Some f) (zero_term ∷ []) [] (r.stopped, refl, refl) in
        let one : f ≡ e = cc in
        (same, r.printed ∙ ap refused_text one ∙ sym printed)
