-- The numbers of a set-up, computed. They are made of the groups of the terms, the seats and the dates. A group holds the terms that are always
-- equal, and goes by its least term: `groups` has for each term that of its group.
use Rattle.std.specs.Prelude.{ℕ, zero, suc, ◌+◌, Bool, true, false, if◌then◌else◌, ◌&&◌, List, [], ◌∷◌, map, Some, None, Option, ℤ, pos, ◌+ℤ◌, ◌==◌, int_lt, slice_index}

-- the date of the group g: that of the first seat in it, if there is one
abbrev pub group_date : List ℕ → List ℕ → List ℤ → ℕ → Option ℤ
group_date groups [] dates g = None
group_date groups (s ∷ ss) [] g = None
group_date groups (s ∷ ss) (d ∷ dates) g = if slice_index groups s == g then Some d else group_date groups ss dates g

-- the greatest date; zero has one, which is 0
abbrev pub greatest_date : List ℤ → ℤ
greatest_date [] = pos 0
greatest_date (d ∷ dates) = if int_lt (greatest_date dates) d then d else greatest_date dates

abbrev pub has_none : Option ℤ → Bool
has_none None = true
has_none (Some d) = false

-- a group without a date goes by the term t
abbrev pub leads_undated : List ℕ → List ℕ → List ℤ → ℕ → Bool
leads_undated groups ss dates t = (slice_index groups t == t) && has_none (group_date groups ss dates t)

-- how many such groups go by a term below t
abbrev pub undated_below : List ℕ → List ℕ → List ℤ → ℕ → ℕ
undated_below groups ss dates zero = 0
undated_below groups ss dates (suc t) = (if leads_undated groups ss dates t then 1 else 0) + undated_below groups ss dates t

abbrev pub date_or : ℤ → Option ℤ → ℤ
date_or n None = n
date_or n (Some d) = d

-- the number of the group g: its date if it has one. The others count on from the greatest date, by the terms that they go by
abbrev pub group_number : List ℕ → List ℕ → List ℤ → ℕ → ℤ
group_number groups ss dates g = date_or (greatest_date dates +ℤ pos (suc (undated_below groups ss dates g))) (group_date groups ss dates g)

-- each term has the number of its group
abbrev pub numbers_of : List ℕ → List ℤ → List ℕ → List ℤ
numbers_of ss dates groups = map (group_number groups ss dates) groups
