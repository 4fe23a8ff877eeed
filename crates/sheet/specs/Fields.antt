-- The bytes of a field: a tag, the content's length in two bytes, high byte first, and the content.
use Rattle.std.specs.Prelude.{ℕ, ◌/◌, ◌%◌, Bool, ◌&&◌, List, [], ◌∷◌, ◌++◌, length, ℤ, nat_le}
use Rattle.std.proofs.Common.{of_z}
use Rattle.std.specs.Int.{w32}
use Rattle.std.specs.List.{list_all}
use Rattle.sheet.specs.declared.field.Field.{Field}
use Rattle.sheet.specs.declared.field.Field.TheVariants.{Term as TermOf, Row as RowOf}
use Rattle.sheet.specs.declared.row.Row.{Row}
use Rattle.sheet.specs.declared.row.Row.TheVariants.{Span, Same, Unlike}
use Rattle.sheet.specs.declared.term.Form.{Form}
use Rattle.sheet.specs.declared.term.Form.TheVariants.{Name, One, Two}
use Rattle.sheet.specs.declared.term.Kind.{Kind}
use Rattle.sheet.specs.declared.term.Kind.TheVariants.{Dated, Level}
use Rattle.sheet.specs.declared.term.Term.{Term}

-- a whole field by its values: a term with the bytes of its label, or a row
pub data FieldValue : Type 0 where
  term_field : Term → List ℕ → FieldValue
  row_field : Row → FieldValue

abbrev pub value_of : Field → FieldValue
value_of (TermOf t l) = term_field t l.now
value_of (RowOf r) = row_field r

-- the tags T, S, E and U
abbrev pub term_tag : ℕ
term_tag = 84

abbrev pub span_tag : ℕ
span_tag = 83

abbrev pub same_tag : ℕ
same_tag = 69

abbrev pub unlike_tag : ℕ
unlike_tag = 85

-- the kinds D and L
abbrev pub kind_byte : Kind → ℕ
kind_byte Dated = 68
kind_byte Level = 76

-- the forms N, 1 and 2
abbrev pub name_byte : ℕ
name_byte = 78

abbrev pub one_byte : ℕ
one_byte = 49

abbrev pub two_byte : ℕ
two_byte = 50

-- a table's letter and the numbers of its arguments follow the form
abbrev pub form_bytes : Form → List ℕ
form_bytes Name = name_byte ∷ []
form_bytes (One a x) = one_byte ∷ a ∷ x ∷ []
form_bytes (Two a x y) = two_byte ∷ a ∷ x ∷ y ∷ []

-- kind and form, which stand before the label
abbrev pub term_bytes : Term → List ℕ
term_bytes t = kind_byte t.kind ∷ form_bytes t.form

-- four bytes, high byte first, of a number below 2 ^ 32
abbrev pub four_bytes : ℕ → List ℕ
four_bytes n = (n / 16777216 % 256) ∷ (n / 65536 % 256) ∷ (n / 256 % 256) ∷ (n % 256) ∷ []

-- two's complement: `of_z w32 c` is c, or 2 ^ 32 + c where c is negative
abbrev pub bound_bytes : ℤ → List ℕ
bound_bytes c = four_bytes (of_z w32 c)

abbrev pub tag_of : FieldValue → ℕ
tag_of (term_field t l) = term_tag
tag_of (row_field (Span i j c)) = span_tag
tag_of (row_field (Same i j)) = same_tag
tag_of (row_field (Unlike i j)) = unlike_tag

abbrev pub body_of : FieldValue → List ℕ
body_of (term_field t l) = term_bytes t ++ l
body_of (row_field (Span i j c)) = i ∷ j ∷ bound_bytes c
body_of (row_field (Same i j)) = i ∷ j ∷ []
body_of (row_field (Unlike i j)) = i ∷ j ∷ []

abbrev pub framed : ℕ → List ℕ → List ℕ
framed tag body = tag ∷ (length body / 256) ∷ (length body % 256) ∷ body

abbrev pub bytes_of : FieldValue → List ℕ
bytes_of f = framed (tag_of f) (body_of f)

-- a visible byte is 33 to 126
abbrev pub is_visible : ℕ → Bool
is_visible b = nat_le 33 b && nat_le b 126

-- a label is 1 to 12 visible bytes
abbrev pub is_label : List ℕ → Bool
is_label l = nat_le 1 (length l) && (nat_le (length l) 12 && list_all is_visible l)
