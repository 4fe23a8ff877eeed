-- Where the first word of a line stands.
use Rattle.std.proofs.Common.{◌≡◌, ℕ, suc, ◌+◌, ◌<◌, ◌≤◌, Bool, true, false, cond, not, List, [], ◌∷◌, ◌++◌, length, take, drop, get_or, nat_lt, sym, refl, ap, ◌∙◌, arith, one-add, add-zero, drop-cons, inl, inr}
use Rattle.std.proofs.Math.ListN.{drop_of_length-le}
use Rattle.std.specs.List.{All, filter, prefix_len, slice_split}
use Rattle.std.proofs.lemmas.Bool.{both_ways, cases_lt, lt-ltb, not-true, not-false}
use Rattle.std.proofs.lemmas.List.{get_or-drop, get_or-take, length-drop, length-take, take_all, take-append-drop}
use Rattle.std.proofs.lemmas.List.Splits.{slice_split-cons_yes, slice_split_at, slice_split_none}
use Rattle.std.proofs.lemmas.List.Sums.{prefix_len-le-length, prefix_len_passes, prefix_len_stops}
use Rattle.benchrun.specs.Commands.{is_blank, words_of}

abbrev pub NoBlanks : List ℕ → Type 0
NoBlanks w = All (λ b. is_blank b ≡ false) w

-- a part that is not empty is a word
kept : (w : List ℕ) (parts : List (List ℕ)) → 0 < length w → filter (λ part. nat_lt 0 (length part)) (w ∷ parts) ≡ w ∷ filter (λ part. nat_lt 0 (length part)) parts
kept w parts some = ap (λ b. cond b (w ∷ filter (λ part. nat_lt 0 (length part)) parts) (filter (λ part. nat_lt 0 (length part)) parts)) (lt-ltb 0 (length w) some)

-- a blank before a line is not seen
pub blank_first : (b : ℕ) (l : List ℕ) → is_blank b ≡ true → words_of (b ∷ l) ≡ words_of l
blank_first b l h = ap (filter (λ part. nat_lt 0 (length part))) (slice_split-cons_yes is_blank b l h)

pub word_alone : (w : List ℕ) → 0 < length w → NoBlanks w → words_of w ≡ w ∷ []
word_alone w some none = ap (filter (λ part. nat_lt 0 (length part))) (slice_split_none is_blank w none) ∙ kept w [] some

pub word_before : (w : List ℕ) (b : ℕ) (l : List ℕ) → 0 < length w → NoBlanks w → is_blank b ≡ true → words_of (w ++ b ∷ l) ≡ w ∷ words_of l
word_before w b l some none blank = ap (filter (λ part. nat_lt 0 (length part))) (slice_split_at is_blank w b l none blank) ∙ kept w (slice_split is_blank l) some

pub blanks_skipped : (l : List ℕ) → words_of l ≡ words_of (drop (prefix_len is_blank l) l)
blanks_skipped [] = refl
blanks_skipped (b ∷ l) =
    let past : drop (1 + prefix_len is_blank l) (b ∷ l) ≡ drop (prefix_len is_blank l) l = ap (λ n. drop n (b ∷ l)) (one-add _) in
    let cases : (v : Bool) → v ≡ is_blank b → words_of (b ∷ l) ≡ words_of (drop (cond v (1 + prefix_len is_blank l) 0) (b ∷ l)) =
    λ v. elim v as (λ v. v ≡ is_blank b → words_of (b ∷ l) ≡ words_of (drop (cond v (1 + prefix_len is_blank l) 0) (b ∷ l))) [
      | true ↦ λ e. blank_first b l (sym e) ∙ blanks_skipped l ∙ ap words_of (sym past)
      | false ↦ λ e. refl
    ] in
    cases (is_blank b) refl

-- n bytes that are no blanks stand first, and as many as there are: they are the first word
module _ (l : List ℕ) (n : ℕ) (is : n ≡ prefix_len (λ b. not (is_blank b)) l) (some : 0 < n) where
  within : n ≤ length l
  within = let h = prefix_len-le-length (λ b. not (is_blank b)) l in omega arith

  long : length (take n l) ≡ n
  long = let h = within in let e = length-take n l in omega arith

  no_blanks : NoBlanks (take n l)
  no_blanks k d h =
      let e = long in
      let below : k < n = omega arith in
      let seen : k < prefix_len (λ b. not (is_blank b)) l = omega arith in
      ap is_blank (get_or-take n l k d below) ∙ not-true _ (prefix_len_passes (λ b. not (is_blank b)) l k d seen)

  pub first_word : words_of l ≡ take n l ∷ words_of (drop n l)
  first_word = elim (cases_lt n (length l)) [
    | inl parted ↦
        let blank : is_blank (get_or l n 0) ≡ true = ap (λ k. is_blank (get_or l k 0)) is ∙ not-false _ (prefix_len_stops (λ b. not (is_blank b)) l 0 (let h : n < length l = parted in omega arith)) in
        let rest : drop n l ≡ get_or l n 0 ∷ drop (suc n) l = drop-cons l n 0 parted in
        ap words_of (sym (take-append-drop n l) ∙ ap (λ x. take n l ++ x) rest)
        ∙ word_before (take n l) (get_or l n 0) (drop (suc n) l) (let e = long in omega arith) no_blanks blank
        ∙ ap (λ x. take n l ∷ x) (sym (ap words_of rest ∙ blank_first (get_or l n 0) (drop (suc n) l) blank))
    | inr whole ↦
        let all : take n l ≡ l = take_all n l whole in
        let end : drop n l ≡ [] = drop_of_length-le l whole in
        ap words_of (sym all) ∙ word_alone (take n l) (let e = long in omega arith) no_blanks ∙ ap (λ x. take n l ∷ words_of x) (sym end)
  ]

-- behind the blanks before a word it begins
pub word_begins : (l : List ℕ) → 0 < length (drop (prefix_len is_blank l) l) → 0 < prefix_len (λ b. not (is_blank b)) (drop (prefix_len is_blank l) l)
word_begins l more =
    let n = prefix_len is_blank l in
    let left = length-drop n l in
    let here : is_blank (get_or l n 0) ≡ false = prefix_len_stops is_blank l 0 (omega arith) in
    let at : get_or (drop n l) 0 0 ≡ get_or l n 0 = get_or-drop n l 0 0 ∙ ap (λ k. get_or l k 0) (add-zero n) in
    elim (cases_lt 0 (prefix_len (λ b. not (is_blank b)) (drop n l))) [
      | inl begins ↦ begins
      | inr none ↦
          let zero_long : prefix_len (λ b. not (is_blank b)) (drop n l) ≡ 0 = omega arith in
          let blank : is_blank (get_or (drop n l) 0 0) ≡ true = ap (λ k. is_blank (get_or (drop n l) k 0)) (sym zero_long) ∙ not-false _ (prefix_len_stops (λ b. not (is_blank b)) (drop n l) 0 (omega arith)) in
          absurd (both_ways _ (ap is_blank at ∙ here) blank)
    ]
