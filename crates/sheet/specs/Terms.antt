-- Terms: which are dated, and which letters a table may have.
use Rattle.std.specs.Prelude.{ℕ, Bool, true, false, ◌&&◌, nat_le}
use Rattle.sheet.specs.declared.term.Kind.{Kind}
use Rattle.sheet.specs.declared.term.Kind.TheVariants.{Dated, Level}
use Rattle.sheet.specs.declared.term.Form.{Form}
use Rattle.sheet.specs.declared.term.Form.TheVariants.{Name, One, Two}

abbrev pub is_dated : Kind → Bool
is_dated Dated = true
is_dated Level = false

-- the letters A to Z
abbrev pub is_table_letter : ℕ → Bool
is_table_letter c = nat_le 65 c && nat_le c 90

abbrev pub well_lettered : Form → Bool
well_lettered Name = true
well_lettered (One a x) = is_table_letter a
well_lettered (Two a x y) = is_table_letter a
