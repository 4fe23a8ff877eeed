use Rattle.std.proofs.Common.{◌≡◌, ◌+◌, [], drop, take}
use Rattle.search.specs.Unmuted.{standing_state, unmarked}
use Rattle.search.specs.Standing.{state_in, terms_of}
use Rattle.search.proofs.note.note_standing.Given as goal

-- the terms passed are noted
abbrev pub invariant-loop-term : goal.invariant-loop-term
invariant-loop-term g l =
    (g.E.Engine.state l.engine ≡ standing_state (take (l.term-index + 1) (terms_of l.standing)) [])
    × (l.term-items ≡ drop 1 (terms_of l.standing))
    × (l.standing ≡ l.fn.standing)
    × (g.E.Engine.setting l.engine ≡ g.E.Engine.setting l.fn.engine)

-- and the rows passed
abbrev pub invariant-loop-noted : goal.invariant-loop-noted
invariant-loop-noted g l =
    (g.E.Engine.state l.engine ≡ standing_state (terms_of l.standing) (take l.noted-index (unmarked (state_in l.standing).rows)))
    × (l.noted-items ≡ (state_in l.standing).rows)
    × (l.standing ≡ l.fn.standing)
    × (g.E.Engine.setting l.engine ≡ g.E.Engine.setting l.fn.engine)
