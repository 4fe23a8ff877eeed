-- The lines that the program prints, byte for byte.
use Rattle.std.specs.Prelude.{ℕ, List, ◌∷◌, ◌++◌, codes, decimal}
use Rattle.std.specs.List.{enumerate_from, flat_map}

-- the seat at this place, with its code
abbrev pub code_line : ℕ × ℕ → List ℕ
code_line seat = codes "code " ++ (decimal seat.0 ++ (codes " " ++ decimal seat.1))

abbrev pub row_line : ℕ → List ℕ
row_line row = codes "row " ++ decimal row

-- a set-up by the codes of its seats, and a clash by its rows: a line for each, behind a line feed
abbrev pub setup_lines : List ℕ → List ℕ
setup_lines cs = codes "setup" ++ flat_map (λ seat. 10 ∷ code_line seat) (enumerate_from 0 cs)

abbrev pub clash_lines : List ℕ → List ℕ
clash_lines rows = codes "clash" ++ flat_map (λ row. 10 ∷ row_line row) rows
