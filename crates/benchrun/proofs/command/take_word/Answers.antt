use Rattle.std.proofs.Common.{◌≡◌, ◌<◌, not, [], ◌∷◌, drop, length, sym, ap, ◌∙◌, subst, arith}
use Rattle.std.proofs.Math.ListN.{drop_of_length-le}
use Rattle.std.specs.List.{prefix_len}
use Rattle.std.proofs.lemmas.Bool.{eqb-true, eqb-false}
use Rattle.benchrun.specs.Commands.{is_blank, words_of}
use Rattle.benchrun.proofs.Parting.{blanks_skipped, first_word, word_begins}
use Rattle.benchrun.proofs.command.take_word.Goals as goal
use Rattle.benchrun.proofs.command.take_word.Goals.{After-is_empty}

-- the bytes behind the blanks
left : (c : After-is_empty) → c.split_at.result.1.now ≡ drop (prefix_len is_blank c.args.line.now) c.args.line.now
left c = c.split_at.ensures.back ∙ ap (λ n. drop n c.args.line.now) c.blanks_before.ensures.value

skipped : (c : After-is_empty) → words_of c.args.line.now ≡ words_of c.split_at.result.1.now
skipped c = blanks_skipped c.args.line.now ∙ ap words_of (sym (left c))

pub returns-then-is_empty : goal.returns-then-is_empty
returns-then-is_empty c =
    let none : length c.split_at.result.1.now ≡ 0 = eqb-true _ _ (sym c.is_empty.ensures ∙ c.if-is_empty.true) in
    let nothing : c.split_at.result.1.now ≡ [] = drop_of_length-le c.split_at.result.1.now {i = 0} (omega arith) in
    skipped (goal.at.returns-then-is_empty c).After-is_empty ∙ ap words_of nothing

pub returns : goal.returns
returns c =
    let b = (goal.at.returns c).After-is_empty in
    let l = c.args.line.now in
    let more : ¬ (length c.split_at.result.1.now ≡ 0) = eqb-false _ _ (sym c.is_empty.ensures ∙ c.if-is_empty.false) in
    let some : 0 < length c.split_at.result.1.now = omega arith in
    let begins : 0 < prefix_len (λ b. not (is_blank b)) c.split_at.result.1.now =
    subst (λ x. 0 < prefix_len (λ b. not (is_blank b)) x) (sym (left b)) (word_begins l (subst (λ x. 0 < length x) (left b) some)) in
    let n = c.word_length.result in
    skipped b ∙ first_word c.split_at.result.1.now n c.word_length.ensures.value (let e = c.word_length.ensures.value in omega arith)
    ∙ sym (λ i. c.split_at-2.ensures.front i ∷ words_of (c.split_at-2.ensures.back i))
