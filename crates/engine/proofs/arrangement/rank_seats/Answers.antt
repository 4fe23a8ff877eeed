use Rattle.std.proofs.Common.{◌≡◌, ℕ, List, ◌/◌, ◌<◌, ◌++◌, ◌∷◌, [], cond, map, length, get_or, take, refl, sym, ap, ◌∙◌, arith}
use Rattle.std.proofs.lemmas.List.{get_or-take, length-map, length-take}
use Rattle.engine.specs.Arrangements.{opens_block, rank_after}
use Rattle.std.specs.List.{length_refill}
use Rattle.engine.proofs.LowRanks.{filled, low_next, ranks_more}
use Rattle.engine.proofs.Ranks.{length_ranks}
use Rattle.engine.proofs.arrangement.rank_seats.Goals as goal
use Rattle.engine.proofs.arrangement.rank_seats.Goals.{then-opens_block, else-opens_block}

pub push-requires : goal.push-requires
push-requires c =
    let cs = take c.min.result c.args.codes.now in
    let k = c.loop-code.code-index in
    let same : length c.if-opens_block.ranks.items ≡ length c.loop-code.ranks.items =
    elim c.if-opens_block.branch [
      | then-opens_block w ↦ ap (λ x. length x.items) w.ranks-is ∙ sym (length_refill (length c.loop-code.ranks.items) c.loop-code.ranks.items w.open_block.new.ranks refl)
      | else-opens_block w ↦ ap (λ x. length x.items) w.ranks-is
    ] in
    (omega arith, omega (arith, same, ap length c.loop-code.invariant.0, length_ranks (take k cs), length-take k cs, length-take c.min.result c.args.codes.now))

pub loop-code-preserved : goal.loop-code-preserved
loop-code-preserved c =
    let cs = take c.min.result c.args.codes.now in
    let k = c.loop-code.code-index in
    let code = get_or cs k 0 in
    let moved : List ℕ → List ℕ = map (rank_after (code / 2)) in
    let old = c.loop-code.ranks.items in
    let l : k < length cs = c.loop-code-test.true in
    let small : code < 256 = omega (arith, c.type_inv.codes k, get_or-take c.min.result c.args.codes.now k 0 (omega (arith, length-take c.min.result c.args.codes.now))) in
    let front : c.if-opens_block.ranks.items ≡ cond (opens_block code) (moved old) old =
    elim c.if-opens_block.branch [
      | then-opens_block w ↦ ap (λ x. x.items) w.ranks-is ∙ filled old w.open_block.new.ranks (moved old) (w.open_block.ensures ∙ ap moved w.as_mut_slice.ensures.value) (length-map old (rank_after (code / 2))) ∙ ap (λ b. cond b (moved old) old) (sym w.if-opens_block.true ∙ c.opens_block.ensures)
      | else-opens_block w ↦ ap (λ x. x.items) w.ranks-is ∙ ap (λ b. cond b (moved old) old) (sym w.if-opens_block.false ∙ c.opens_block.ensures)
    ] in
    let with : List ℕ → List ℕ = λ rs. cond (opens_block code) (moved rs) rs ++ (code / 2) ∷ [] in
    (c.push.ensures.items ∙ ap (λ rs. rs ++ (code / 2) ∷ []) front ∙ ap with c.loop-code.invariant.0 ∙ sym (ranks_more cs k l), low_next cs k l small c.loop-code.invariant.1)
