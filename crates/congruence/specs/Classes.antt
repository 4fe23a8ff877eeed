-- Classes of terms, as a list: for each term, by its index, the least term of its class.
use Rattle.std.specs.Prelude.{ℕ, min, max, if◌then◌else◌, List, [], ◌∷◌, map, pos, ◌==◌, slice_index}
use Rattle.std.specs.List.{range_with_len}
use Rattle.engine.specs.Meaning.{Numbers}

abbrev pub class_of : List ℕ → ℕ → ℕ
class_of cl t = slice_index cl t

-- each of n terms by itself
abbrev pub singletons : ℕ → List ℕ
singletons n = range_with_len 0 n

abbrev pub replaced : ℕ → ℕ → ℕ → ℕ
replaced old new c = if c == old then new else c

-- the class whose least term is `high` becomes a part of the one whose least term is `low`, and goes by that
abbrev pub rename_class : ℕ → ℕ → List ℕ → List ℕ
rename_class high low cl = map (replaced high low) cl

-- the classes of a and b become one
abbrev pub merge : ℕ → ℕ → List ℕ → List ℕ
merge a b cl = rename_class (max (class_of cl a) (class_of cl b)) (min (class_of cl a) (class_of cl b)) cl

-- and so for each pair of terms
abbrev pub merge_all : List (ℕ × ℕ) → List ℕ → List ℕ
merge_all [] cl = cl
merge_all (p ∷ ps) cl = merge_all ps (merge p.0 p.1 cl)

-- numbers that are equal just within a class
abbrev pub class_numbers : List ℕ → Numbers
class_numbers cl t = pos (class_of cl t)
