-- Each element of a list with each later one.
use Rattle.std.specs.Prelude.{List, [], ◌∷◌, ◌++◌, map}

-- an element with each of a list
abbrev pub with_each : {X : Type 0} → X → List X → List (X × X)
with_each x ys = map (λ y. (x, y)) ys

-- the first with each of the others, and then the pairs of the others
abbrev pub each_pair : {X : Type 0} → List X → List (X × X)
each_pair [] = []
each_pair (x ∷ xs) = with_each x xs ++ each_pair xs
