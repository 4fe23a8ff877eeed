-- The set-up that is computed is the one that is picked.
use Rattle.std.proofs.Common.{◌≡◌, true, List, length, ℤ, refl}
use Rattle.engine.specs.Dates.{Dated, GreatestDates}
use Rattle.engine.specs.Meaning.{numbers_in}
use Rattle.engine.specs.Rules.{SpanAllowed}
use Rattle.engine.specs.States.{State, active_rows}
use Rattle.engine.specs.Terms.{seats_of}
use Rattle.engine.proofs.Bounds.{Bounds}
use Rattle.span.specs.Dating.{counts_spans}
use Rattle.span.specs.Decisions.{becomes_stable_of}
use Rattle.span.proofs.Dates.{picked, right}
use Rattle.span.proofs.Opening.{decided, open_exactly, opened}
use Rattle.table.proofs.Equating.{classes_are}
use Rattle.model.specs.PickedEntries.{entries_once}
use Rattle.model.specs.Numbering.{numbers_of}
use Rattle.model.specs.SetUps.{PickedSetUp}
use Rattle.reference.specs.Reference.{dates_of, groups_of}

module _ {s : State} (held : Bounds s) (whole : length s.codes ≡ length (seats_of s.terms)) (allowed : SpanAllowed s.terms (active_rows s.rows) s.codes) where
  abbrev numbers : List ℤ
  numbers = numbers_of (seats_of s.terms) (dates_of s) (groups_of s)

  dated : Dated SpanAllowed s counts_spans GreatestDates (dates_of s)
  dated =
      let completed = opened held allowed in
      let stable : becomes_stable_of s ≡ true = (open_exactly held (becomes_stable_of s) (decided held)).1 completed in
      record { placed = whole; allowed = completed; right = right held stable; picked = picked held stable }

  pub set_up_picked : PickedSetUp SpanAllowed counts_spans GreatestDates s numbers (entries_once s.terms (numbers_in numbers))
  set_up_picked = record { dates = dates_of s; dated = dated; groups = groups_of s; grouped = classes_are held (groups_of s) refl; numbered = refl; listed = refl }
