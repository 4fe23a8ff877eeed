-- The seats of a sheet with what an engine says of them.
use Rattle.std.specs.Prelude.{ℕ, List, ◌++◌, map, ℤ, codes, decimal}
use Rattle.std.specs.Fmt.{signed_decimal}
use Rattle.std.specs.List.{enumerate_from, zip}
use Rattle.parts.specs.declared.seat.Seat.{Seat}

-- the line of a seat, byte for byte
abbrev pub seat_line : Seat → List ℕ
seat_line s = codes "seat " ++ (decimal s.place ++ (codes " term " ++ (decimal s.term ++ (codes " code " ++ (decimal s.code ++ (codes " date " ++ signed_decimal s.date))))))

-- a place with its term, its code and its date
abbrev pub seat_at : ℕ × ((ℕ × ℕ) × ℤ) → Seat
seat_at p = record { place = p.0; term = p.1.0.0; code = p.1.0.1; date = p.1.1 }

-- the seats with these terms, codes and dates, in the order of their places
abbrev pub seats_with : List ℕ → List ℕ → List ℤ → List Seat
seats_with ts cs ds = map seat_at (enumerate_from 0 (zip (zip ts cs) ds))
