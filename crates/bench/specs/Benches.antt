-- What a draft, an open bench and a shown result hold.
use Rattle.std.specs.Prelude.{◌≡◌, List}
use Rattle.sheet.specs.declared.row.Row.{Row}
use Rattle.sheet.specs.declared.term.Term.{Term}
use Rattle.engine.specs.declared.engine.Engine.{Ghosts}
use Rattle.search.specs.Standing.{rows_of, terms_of}
use Rattle.search.specs.Unmuted.{standing_state}
use Rattle.search.specs.Verdicts.{Finding, value_of}
use Rattle.bench.specs.declared.bench.Bench.{Bench}
use Rattle.bench.specs.declared.draft.Draft.{Draft}
use Rattle.bench.specs.declared.shown.Shown.{Shown}

-- the terms of a draft, zero first
abbrev pub declared : Draft → List Term
declared d = terms_of d.standing

module _ {F S : Type 0} {f : Ghosts F} {s : Ghosts S} where
  abbrev pub terms_at : Bench F S f s → List Term
  terms_at b = terms_of b.standing

  -- the rows that stand at an open bench
  abbrev pub rows_at : Bench F S f s → List Row
  rows_at b = rows_of b.standing

  abbrev pub terms_shown : Shown F S f s → List Term
  terms_shown r = terms_of r.standing

  -- what was found
  abbrev pub found : Shown F S f s → Finding
  found r = value_of r.verdict

  -- the rows that stand while a result is shown
  abbrev pub rows_shown : Shown F S f s → List Row
  rows_shown r = rows_of r.standing

module _ {F S : Type 0} (f : Ghosts F) (s : Ghosts S) where
  -- both engines hold the terms and the rows that stand, no row muted and no code placed
  pub record BothHold (b : Bench F S f s) : Type 0 where
    pub by_first : f.state b.first ≡ standing_state (terms_at b) (rows_at b)
    pub by_second : s.state b.second ≡ standing_state (terms_at b) (rows_at b)
