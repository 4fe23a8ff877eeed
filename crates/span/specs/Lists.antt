-- The room of a list of edges.
use Rattle.std.specs.Prelude.{◌≤◌, List, length}
use Rattle.graph.specs.declared.Edge.{Edge}

-- the edges fit in a list
abbrev pub FitInList : List Edge → Type 0
FitInList es = length es ≤ 128
