-- The lines of a listing, byte for byte.
use Rattle.std.specs.Prelude.{ℕ, List, ◌++◌, codes, decimal}
use Rattle.std.proofs.Math.Utf8.{encode}
use Rattle.std.specs.List.{flat_map}
use Rattle.sheet.specs.Fields.{FieldValue, term_field, row_field}
use Rattle.sheet.specs.Words.{words_of_form, words_of_kind, words_of_row}
use Rattle.fieldlist.specs.declared.write_back.Tally.{Tally}

-- each byte as the character with that code
abbrev pub text_of_label : List ℕ → List ℕ
text_of_label l = flat_map encode l

-- the field with these values, which starts at byte p and has the index n
abbrev pub field_line : ℕ → ℕ → FieldValue → List ℕ
field_line p n (term_field t l) = codes "byte " ++ (decimal p ++ (codes ": term " ++ (decimal n ++ (codes " is " ++ (words_of_kind t.kind ++ (codes ", " ++ (words_of_form t.form ++ (codes ", labelled " ++ text_of_label l))))))))
field_line p n (row_field r) = codes "byte " ++ (decimal p ++ (codes ": row " ++ (decimal n ++ (codes " says " ++ words_of_row r))))

abbrev pub words_of_tally : Tally → List ℕ
words_of_tally t = decimal t.fields ++ (codes " fields and " ++ (decimal t.bytes ++ (codes " bytes read, " ++ (decimal t.fields_alike ++ (codes " fields and " ++ (decimal t.bytes_alike ++ codes " bytes written back alike"))))))
