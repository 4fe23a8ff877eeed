-- Letters of engines.
use Rattle.std.specs.Prelude.{ℕ, Bool, not, ◌&&◌, ◌||◌, ◌==◌, nat_le}

-- R, D, L, B and P are the letters of the other layers
abbrev pub is_layer_letter : ℕ → Bool
is_layer_letter c = (c == 82) || ((c == 68) || ((c == 76) || ((c == 66) || (c == 80))))

-- a letter from A to Z that no other layer has
abbrev pub is_engine_letter : ℕ → Bool
is_engine_letter c = (nat_le 65 c && nat_le c 90) && not (is_layer_letter c)
