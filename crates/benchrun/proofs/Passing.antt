-- One line is passed while no command waits for its answer.
use Rattle.std.proofs.Common.{◌≡◌, ℕ, ◌+◌, ◌<◌, Bool, true, false, cond, List, [], ◌∷◌, ◌++◌, length, get_or, take, None, Option, sym, ap, ◌∙◌, arith}
use Rattle.std.proofs.lemmas.List.{append-nil, length-map, take_more}
use Rattle.benchrun.specs.declared.command.Command.{Command}
use Rattle.runs.specs.declared.heard.Heard.{Heard}
use Rattle.runs.specs.Heard.{answer_heard, answers_heard}
use Rattle.benchrun.specs.Sessions.{asked_by, count_performed, is_judge, is_performed, replay, shown_after}
use Rattle.benchrun.proofs.Replaying.{asked_at, count_at, count_more, replay_more, shown_more}

module _ (said : List (Option Command)) (n : ℕ) (here : n < length said) (shown : Bool) (stage : shown ≡ shown_after false (take n said))
    (notes : List Heard) (waiting : Bool) (idle : waiting ≡ false) (count : length notes + cond waiting 1 0 ≡ count_performed false (take n said)) where
  abbrev l : Option Command
  l = get_or said n None

  abbrev ls : List (Option Command)
  ls = take n said

  abbrev longer : List (Option Command)
  longer = take (n + 1) said

  is : longer ≡ ls ++ l ∷ []
  is = take_more said n None here

  used : length notes ≡ count_performed false ls
  used = let none : length notes + cond waiting 1 0 ≡ length notes + 0 = ap (λ b. length notes + cond b 1 0) idle in omega arith

  longer_shown : shown_after false longer ≡ cond (is_performed shown l) (is_judge l) shown
  longer_shown = ap (shown_after false) is ∙ shown_more false ls l ∙ ap (λ s. cond (is_performed s l) (is_judge l) s) (sym stage)

  longer_count : count_performed false longer ≡ length notes + count_at shown l
  longer_count = ap (count_performed false) is ∙ count_more l false ls ∙ ap (λ s. count_performed false ls + count_at s l) (sym stage) ∙ ap (λ n. n + count_at shown l) (sym used)

  longer_record : replay false longer (answers_heard notes) ≡ replay false ls (answers_heard notes) ++ asked_at shown l
  longer_record =
      ap (λ r. replay false r (answers_heard notes)) is
      ∙ replay_more l false ls (answers_heard notes) (length-map notes answer_heard ∙ used)
      ∙ ap (λ s. replay false ls (answers_heard notes) ++ asked_at s l) (sym stage)

  -- it is performed
  module _ (yes : is_performed shown l ≡ true) where
    pub judged_shown : is_judge l ≡ shown_after false longer
    judged_shown = sym (longer_shown ∙ ap (λ b. cond b (is_judge l) shown) yes)

    pub waits : length notes + 1 ≡ count_performed false longer
    waits = sym (longer_count ∙ ap (λ b. length notes + cond b 1 0) yes)

    pub asks : replay false longer (answers_heard notes) ≡ replay false ls (answers_heard notes) ++ asked_by l
    asks = longer_record ∙ ap (λ b. replay false ls (answers_heard notes) ++ cond b (asked_by l) []) yes

  -- it is not
  module _ (no : is_performed shown l ≡ false) where
    pub still_shown : shown ≡ shown_after false longer
    still_shown = sym (longer_shown ∙ ap (λ b. cond b (is_judge l) shown) no)

    pub still_counts : length notes + cond waiting 1 0 ≡ count_performed false longer
    still_counts =
        let same : count_performed false longer ≡ length notes + 0 = longer_count ∙ ap (λ b. length notes + cond b 1 0) no in
        let none = used in
        omega arith

    pub adds_nothing : replay false longer (answers_heard notes) ≡ replay false ls (answers_heard notes)
    adds_nothing = longer_record ∙ ap (λ b. replay false ls (answers_heard notes) ++ cond b (asked_by l) []) no ∙ append-nil (replay false ls (answers_heard notes))
