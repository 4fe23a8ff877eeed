-- The set-up that is picked is right.
use Rattle.std.proofs.Common.{◌≡◌, ◌∙◌, ap, sym, subst, ℕ, ◌<◌, true, Bool, List, [], ◌∷◌, length, get_or, ℤ, pos, All, arith}
use Rattle.std.proofs.lemmas.List.{length-map}
use Rattle.sheet.specs.declared.row.Row.{Row}
use Rattle.sheet.specs.declared.row.Row.TheVariants.{Span, Same, Unlike}
use Rattle.sheet.specs.declared.term.Term.{Term}
use Rattle.engine.specs.Dates.{CountedHolds, RightDates, date_at}
use Rattle.engine.specs.Fitting.{all_terms_fit, row_fits}
use Rattle.engine.specs.Meaning.{Holds, Interprets, Numbers, numbers_in}
use Rattle.engine.specs.Rows.{RowKind, span_kind}
use Rattle.engine.specs.Rules.{EqualityHolds, TableAllowed}
use Rattle.engine.specs.States.{State, active_rows}
use Rattle.engine.specs.Terms.{is_dated_at, seats_of}
use Rattle.engine.proofs.Seats.{date_at_seat, seat_of_zero}
use Rattle.congruence.specs.declared.entry.Entry.{Entry}
use Rattle.congruence.specs.Entries.{tables_of}
use Rattle.congruence.proofs.Interpreting.{congruence_is_needed}
use Rattle.engine.specs.Arrangements.{Arrangement}
use Rattle.theory.specs.Accepted.{Accepted}
use Rattle.theory.specs.Models.{EqualityModel}
use Rattle.theory.proofs.Combining.{spans_on_dated}
use Rattle.theory.proofs.Sufficing.{classes_suffice, dates_suffice}
use Rattle.model.specs.Claims.{Arranged}
use Rattle.model.specs.PickedEntries.{PickedEntries}
use Rattle.model.specs.Naming.{PickedNumbers}
use Rattle.model.specs.Numbering.{group_number}
use Rattle.model.specs.SetUps.{PickedSetUp, RightSetUp, WithinLimits}
use Rattle.model.proofs.Limits.{numbers_are_within}
use Rattle.model.proofs.Numbering.{numbers_are_picked}
use Rattle.model.proofs.Picking.{entries_picked}
use Rattle.model.proofs.Returning.{recount_gives_back}

-- zero stands first and is dated
zero_dated : (ts : List Term) → all_terms_fit ts ≡ true → (0 < length ts) × (is_dated_at ts 0 ≡ true)
zero_dated (t ∷ ts) f = (omega arith, grind arith)
zero_dated [] f = absurd cc

-- where spans are counted, each row is looked at
row_holds : (counts : RowKind → Bool) (ts : List Term) (w : Numbers) (r : Row) → row_fits ts r ≡ true → counts span_kind ≡ true → EqualityHolds w r → CountedHolds counts ts w r → Holds w r
row_holds counts ts w (Span i j c) fits k e h = let on = spans_on_dated ts i j c fits in h (grind arith)
row_holds counts ts w (Same i j) fits k e h = e
row_holds counts ts w (Unlike i j) fits k e h = e

pub set_up_is_right : (rule : List Term → List Row → List ℕ → Type 0) (picks : List Term → List Row → List ℕ → List ℤ → Type 0) (counts : RowKind → Bool) (s : State) (numbers : List ℤ) (entries : List Entry)
    → Accepted s.terms (active_rows s.rows) → Arrangement (length (seats_of s.terms)) s.codes → TableAllowed s.terms (active_rows s.rows) s.codes
    → (picked : PickedSetUp rule counts picks s numbers entries) → RightSetUp counts s.terms (active_rows s.rows) s.codes picked.dates numbers entries
set_up_is_right rule picks counts s numbers entries accepted arrangement by_tables picked =
    let ts = s.terms in
    let rows = active_rows s.rows in
    let dates = picked.dates in
    let w : Numbers = numbers_in numbers in
    let right : RightDates counts s dates = picked.dated.right in
    let arranged : Arranged counts s dates = record { accepted = accepted; arrangement = arrangement; by_tables = by_tables; right = right } in
    let named : PickedNumbers ts rows s.codes dates w = subst (λ ns. PickedNumbers ts rows s.codes dates (numbers_in ns)) (sym picked.numbered) (numbers_are_picked counts s dates picked.groups arranged picked.grouped) in
    let seat = seat_of_zero ts accepted.each_term in
    let zero = zero_dated ts accepted.each_term in
    let first : date_at (seats_of ts) dates 0 ≡ pos 0 = sym (ap (date_at (seats_of ts) dates) seat.1) ∙ date_at_seat ts dates 0 seat.0 ∙ right.zero_first in
    let zeroth : w 0 ≡ pos 0 = named.dated 0 zero.0 zero.1 ∙ first in
    let model : EqualityModel ts rows w = classes_suffice ts rows s.codes w accepted by_tables zeroth named.equal in
    let listed : PickedEntries ts w entries = subst (PickedEntries ts w) (sym picked.listed) (entries_picked ts w (congruence_is_needed ts _ w (model.interpreted.first_fit _ model.interpreted.entries)).1) in
    let interprets : Interprets (tables_of entries) ts w = model.interpreted.first_fit entries listed.needed in
    let counted : All (CountedHolds counts ts w) rows = dates_suffice counts s dates w accepted right named.dated in
    record {
      each = ap length picked.numbered ∙ length-map picked.groups (group_number picked.groups (seats_of ts) dates) ∙ picked.grouped.each;
      picked = named;
      within = subst (All WithinLimits) (sym picked.numbered) (numbers_are_within counts s dates picked.groups arranged picked.grouped);
      entries_picked = listed;
      interprets = interprets;
      equalities = model.hold;
      counted = counted;
      all_rows = λ spans k d l. row_holds counts ts w (get_or rows k d) (accepted.each_row k d l) spans (model.hold k d l) (counted k d l);
      recounted = recount_gives_back ts w entries accepted.each_term zeroth (congruence_is_needed ts _ w interprets).1 listed.needed;
    }
