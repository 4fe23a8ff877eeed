-- The first line of several, and the lines behind it.
use Rattle.std.proofs.Common.{◌≡◌, ℕ, suc, ◌+◌, ◌<◌, Bool, true, false, List, [], ◌∷◌, ◌++◌, length, take, drop, get_or, map, Option, sym, refl, ap, ◌∙◌, arith, drop-cons, inl, inr, ◌==◌}
use Rattle.std.proofs.Math.ListN.{drop_of_length-le}
use Rattle.std.specs.List.{All, prefix_len, slice_split}
use Rattle.std.proofs.lemmas.Bool.{cases_lt, not-true, not-false}
use Rattle.std.proofs.lemmas.List.{append_assoc, get_or-take, length-take, take_all, take-append-drop}
use Rattle.std.proofs.lemmas.List.Splits.{length-slice_split, slice_split_at, slice_split_none}
use Rattle.std.proofs.lemmas.List.Sums.{prefix_len-le-length, prefix_len_passes, prefix_len_stops}
use Rattle.benchrun.specs.declared.command.Command.{Command}
use Rattle.benchrun.specs.Commands.{command_in}
use Rattle.benchrun.specs.Sessions.{after_line, commands_in, first_line, is_in_line, without_empty_last}

abbrev feeds : ℕ → Bool
feeds b = b == 10

-- only the last part can be left out
kept_part : (part : List ℕ) (parts : List (List ℕ)) → 0 < length parts → without_empty_last (part ∷ parts) ≡ part ∷ without_empty_last parts
kept_part [] [] h = absurd (omega arith)
kept_part [] (q ∷ parts) h = refl
kept_part (b ∷ part) parts h = refl

whole_part : (bytes : List ℕ) → 0 < length bytes → without_empty_last (bytes ∷ []) ≡ bytes ∷ []
whole_part [] h = absurd (omega arith)
whole_part (b ∷ bytes) h = refl

module _ (bytes : List ℕ) (some : 0 < length bytes) where
  abbrev n : ℕ
  n = prefix_len is_in_line bytes

  no_feeds : All (λ b. feeds b ≡ false) (take n bytes)
  no_feeds k d h =
      let within = prefix_len-le-length is_in_line bytes in
      let long = length-take n bytes in
      let below : k < n = omega arith in
      ap feeds (get_or-take n bytes k d below) ∙ not-true _ (prefix_len_passes is_in_line bytes k d below)

  pub line_first : commands_in bytes ≡ command_in (first_line bytes) ∷ commands_in (after_line bytes)
  line_first = elim (cases_lt n (length bytes)) [
    | inl parted ↦
        let feed : feeds (get_or bytes n 0) ≡ true = not-false _ (prefix_len_stops is_in_line bytes 0 parted) in
        let rest : drop n bytes ≡ get_or bytes n 0 ∷ drop (suc n) bytes = drop-cons bytes n 0 parted in
        let next : suc n ≡ n + 1 = omega arith in
        let all : bytes ≡ take n bytes ++ get_or bytes n 0 ∷ drop (suc n) bytes = sym (take-append-drop n bytes) ∙ ap (λ x. take n bytes ++ x) rest in
        let parts : slice_split feeds bytes ≡ take n bytes ∷ slice_split feeds (drop (n + 1) bytes) =
        ap (slice_split feeds) all ∙ slice_split_at feeds (take n bytes) (get_or bytes n 0) (drop (suc n) bytes) no_feeds feed ∙ ap (λ k. take n bytes ∷ slice_split feeds (drop k bytes)) next in
        let more = length-slice_split feeds (drop (n + 1) bytes) in
        ap (λ p. map command_in (without_empty_last p)) parts ∙ ap (map command_in) (kept_part (take n bytes) (slice_split feeds (drop (n + 1) bytes)) (omega arith))
    | inr whole ↦
        let all : take n bytes ≡ bytes = take_all n bytes whole in
        let end : drop (n + 1) bytes ≡ [] = drop_of_length-le bytes {i = n + 1} (omega arith) in
        let none : All (λ b. feeds b ≡ false) bytes = λ k d h. ap (λ x. feeds (get_or x k d)) (sym all) ∙ no_feeds k d (let e : length (take n bytes) ≡ length bytes = ap length all in omega arith) in
        ap (λ p. map command_in (without_empty_last p)) (slice_split_none feeds bytes none)
        ∙ ap (map command_in) (whole_part bytes some)
        ∙ ap (λ x. command_in x ∷ []) (sym all)
        ∙ ap (λ x. command_in (take n bytes) ∷ commands_in x) (sym end)
  ]

-- it is read, behind what was read before
pub line_read : (lines rest line after : List ℕ) (said more : List (Option Command)) (c : Option Command) → commands_in lines ≡ said ++ commands_in rest
    → line ≡ first_line rest → after ≡ after_line rest → length after < length rest → c ≡ command_in line → more ≡ said ++ c ∷ [] → commands_in lines ≡ more ++ commands_in after
line_read lines rest line after said more c before is behind shorter read pushed =
    let some : 0 < length rest = omega arith in
    before
    ∙ ap (λ r. said ++ r) (line_first rest some ∙ ap (λ x. command_in x ∷ commands_in (after_line rest)) (sym is) ∙ ap (λ x. x ∷ commands_in (after_line rest)) (sym read) ∙ ap (λ x. c ∷ commands_in x) (sym behind))
    ∙ sym (append_assoc said (c ∷ []) (commands_in after))
    ∙ ap (λ m. m ++ commands_in after) (sym pushed)
