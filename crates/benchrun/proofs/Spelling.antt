-- Each command is read back from its spelling.
use Rattle.std.proofs.Common.{◌≡◌, ℕ, suc, ◌-◌, ◌^◌, ◌<◌, true, false, cond, List, [], ◌∷◌, length, take, drop, get_or, ℤ, pos, negsuc, neg_ℤ, Some, codes, decimal, nat_lt, refl, ap, ◌∙◌, arith, lit<, FitsSigned}
use Rattle.std.specs.Fmt.{signed_decimal}
use Rattle.std.specs.Int.{IsInRange, w32}
use Rattle.std.specs.List.{All, join_with_byte, list_all}
use Rattle.std.specs.Option.{option_map}
use Rattle.std.specs.Str.Lines.{strip_carriage_return}
use Rattle.std.specs.Str.Parse.{starts_with_minus}
use Rattle.std.proofs.lemmas.Bool.{ltb-true, ne_eqb}
use Rattle.std.proofs.lemmas.Fmt.{decimal_is_IsNumeral, decimal_nonempty}
use Rattle.std.proofs.lemmas.List.Elements.{All-append, All-cons, All-from_get_or, All-nil, All-weaker}
use Rattle.std.proofs.lemmas.List.Sums.{AllPass-from_list_all}
use Rattle.std.proofs.lemmas.Str.Parse.{digit_at}
use Rattle.sheet.specs.declared.row.Row.{Row}
use Rattle.sheet.specs.declared.row.Row.TheVariants.{Span, Same, Unlike}
use Rattle.benchrun.specs.declared.command.Command.{Command}
use Rattle.benchrun.specs.declared.command.Command.TheVariants.{Enter, Strike, Judge, Reopen}
use Rattle.benchrun.specs.Commands.{CommandInRange, RowInRange, bound_in, command_in, command_of, command_words, index_in, number_in, pair_row, row_in, span_row, row_words, words_of, words_of_command}
use Rattle.benchrun.proofs.Numbers.{number_spelled}
use Rattle.benchrun.proofs.Parting.{NoBlanks, word_alone, word_before}

-- a word: bytes above the blank, one at least
record IsWord (w : List ℕ) : Type 0 where
  some : 0 < length w
  above : All (λ b. 32 < b) w

AllWords : List (List ℕ) → Type 0
AllWords [] = Unit {0}
AllWords (w ∷ ws) = IsWord w × AllWords ws

no_blanks : (w : List ℕ) → IsWord w → NoBlanks w
no_blanks w h k d below = let a = h.above k d below in ne_eqb (get_or w k d) 32 (λ e. omega arith)

words_joined : (ws : List (List ℕ)) → AllWords ws → words_of (join_with_byte 32 ws) ≡ ws
unfolding AllWords
words_joined [] h = refl
words_joined (w ∷ []) h = word_alone w h.0.some (no_blanks w h.0)
words_joined (w ∷ v ∷ ws) h = word_before w 32 (join_with_byte 32 (v ∷ ws)) h.0.some (no_blanks w h.0) refl ∙ ap (λ r. w ∷ r) (words_joined (v ∷ ws) h.1)

-- no byte of such a line is a carriage return
bytes_joined : (ws : List (List ℕ)) → AllWords ws → All (λ b. 31 < b) (join_with_byte 32 ws)
unfolding AllWords
bytes_joined [] h = All-nil (λ b. 31 < b)
bytes_joined (w ∷ []) h = All-weaker (λ b. 32 < b) (λ b. 31 < b) (λ b e. omega arith) w h.0.above
bytes_joined (w ∷ v ∷ ws) h =
    let front : All (λ b. 31 < b) w = All-weaker (λ b. 32 < b) (λ b. 31 < b) (λ b e. omega arith) w h.0.above in
    All-append (λ b. 31 < b) w (32 ∷ join_with_byte 32 (v ∷ ws)) front (All-cons (λ b. 31 < b) 32 (join_with_byte 32 (v ∷ ws)) (lit< tt) (bytes_joined (v ∷ ws) h.1))

not_stripped : (l : List ℕ) → All (λ b. 31 < b) l → strip_carriage_return l ≡ l
not_stripped [] h = refl
not_stripped (b ∷ l) h =
    let last : 31 < get_or (b ∷ l) (length (b ∷ l) - 1) 0 = h (length (b ∷ l) - 1) 0 (omega arith) in
    ap (λ v. cond v (take (length (b ∷ l) - 1) (b ∷ l)) (b ∷ l)) (ne_eqb (get_or (b ∷ l) (length (b ∷ l) - 1) 0) 13 (λ e. omega arith))

-- words that are written out, and the digits of a number
written : (w : List ℕ) → list_all (λ b. nat_lt 32 b) w ≡ true → nat_lt 0 (length w) ≡ true → IsWord w
written w h some = record {
  some = ltb-true 0 (length w) some;
  above = λ k d below. ltb-true 32 (get_or w k d) (AllPass-from_list_all (λ b. nat_lt 32 b) w h k d below);
}

digits_word : (n : ℕ) → n < 2 ^ 64 → IsWord (decimal n)
digits_word n small = record {
  some = decimal_nonempty n small;
  above = All-from_get_or (λ b. 32 < b) (decimal n) 0 (λ k below. let d : IsInRange 48 57 (get_or (decimal n) k 0) = digit_at (decimal n) k (decimal_is_IsNumeral n small).0.1 below in omega (arith, d.0));
}

signed_word : (z : ℤ) → FitsSigned w32 z → IsWord (signed_decimal z)
signed_word (pos n) h = digits_word n (let e = h.sfits in omega arith)
signed_word (negsuc n) h =
    let w = digits_word (suc n) (let e = h.sfits in omega arith) in
    record { some = omega arith; above = All-cons (λ b. 32 < b) 45 (decimal (suc n)) (lit< tt) w.above }

index_spelled : (i : ℕ) → i < 256 → index_in (decimal i) ≡ Some i
index_spelled i h = number_spelled 255 i (omega arith) (omega arith)

bound_spelled : (z : ℤ) → FitsSigned w32 z → bound_in (signed_decimal z) ≡ Some z
bound_spelled (pos n) h =
    let size = h.sfits in
    let small : n < 2 ^ 64 = omega arith in
    let first : IsInRange 48 57 (get_or (decimal n) 0 0) = digit_at (decimal n) 0 (decimal_is_IsNumeral n small).0.1 (decimal_nonempty n small) in
    let bare : starts_with_minus (decimal n) ≡ false = ne_eqb (get_or (decimal n) 0 0) 45 (λ e. omega (arith, first.0)) in
    ap (λ b. cond b (option_map (λ n. neg_ℤ (pos n)) (number_in 2147483648 (drop 1 (decimal n)))) (option_map (λ n. pos n) (number_in 2147483647 (decimal n)))) bare
    ∙ ap (option_map (λ n. pos n)) (number_spelled 2147483647 n (omega arith) small)
bound_spelled (negsuc n) h = let size = h.sfits in ap (option_map (λ n. neg_ℤ (pos n))) (number_spelled 2147483648 (suc n) (omega arith) (omega arith))

-- a row's words are words, and are read as that row
row_is_words : (r : Row) → RowInRange r → AllWords (row_words r)
unfolding AllWords
row_is_words (Span i j c) h = (written (codes "span") refl refl, (digits_word i (omega arith), (digits_word j (omega arith), (signed_word c h.2, tt))))
row_is_words (Same i j) h = (written (codes "same") refl refl, (digits_word i (omega arith), (digits_word j (omega arith), tt)))
row_is_words (Unlike i j) h = (written (codes "unlike") refl refl, (digits_word i (omega arith), (digits_word j (omega arith), tt)))

row_read_back : (r : Row) → RowInRange r → row_in (row_words r) ≡ Some r
row_read_back (Span i j c) h = λ k. span_row (codes "span") (index_spelled i h.0 k) (index_spelled j h.1 k) (bound_spelled c h.2 k)
row_read_back (Same i j) h = λ k. pair_row (codes "same") (index_spelled i h.0 k) (index_spelled j h.1 k)
row_read_back (Unlike i j) h = λ k. pair_row (codes "unlike") (index_spelled i h.0 k) (index_spelled j h.1 k)

-- and so are a command's
command_is_words : (c : Command) → CommandInRange c → AllWords (command_words c)
unfolding AllWords
command_is_words (Enter r) h = (written (codes "enter") refl refl, row_is_words r h)
command_is_words Strike h = (written (codes "strike") refl refl, tt)
command_is_words Judge h = (written (codes "judge") refl refl, tt)
command_is_words Reopen h = (written (codes "reopen") refl refl, tt)

words_read_back : (c : Command) → CommandInRange c → command_of (command_words c) ≡ Some c
words_read_back (Enter (Span i j c)) h = ap (option_map Enter) (row_read_back (Span i j c) h)
words_read_back (Enter (Same i j)) h = ap (option_map Enter) (row_read_back (Same i j) h)
words_read_back (Enter (Unlike i j)) h = ap (option_map Enter) (row_read_back (Unlike i j) h)
words_read_back Strike h = refl
words_read_back Judge h = refl
words_read_back Reopen h = refl

pub read_back : (c : Command) → CommandInRange c → command_in (words_of_command c) ≡ Some c
read_back c h =
    let words = command_is_words c h in
    ap (λ l. command_of (words_of l)) (not_stripped (words_of_command c) (bytes_joined (command_words c) words))
    ∙ ap command_of (words_joined (command_words c) words)
    ∙ words_read_back c h
