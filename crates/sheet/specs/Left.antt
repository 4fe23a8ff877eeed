-- What is left of a sheet.
use Rattle.std.specs.Prelude.{◌≡◌, ℕ, ◌-◌, List, length, drop}

-- t is what is left of the sheet s: its length tells where it stands
abbrev pub IsLeft : List ℕ → List ℕ → Type 0
IsLeft s t = t ≡ drop (length s - length t) s
