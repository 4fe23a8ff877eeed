use Rattle.std.proofs.Common.{◌≡◌, ◌+◌, suc, ◌++◌, ◌∷◌, [], Some, None, ◌+ℤ◌, get_or, map, take, pos, ℤ, to_z, w64, FitsSigned, sym, ap, ◌∙◌, arith, rules}
use Rattle.std.proofs.lemmas.Int.{ints}
use Rattle.std.proofs.lemmas.List.{map_more}
use Rattle.model.specs.Numbering.{greatest_date, group_date, group_number, undated_below}
use Rattle.setup.proofs.Greatest.{greatest_within}
use Rattle.model.proofs.GroupDates.{number_is}
use Rattle.setup.proofs.Numbering.{counted, has_date, not_least, number_passed, undated_few}
use Rattle.setup.proofs.numbers.number_terms.Goals as goal
use Rattle.setup.proofs.numbers.number_terms.Goals.{in-Some, in-None, in-None-2}

pub overflow_add-next : goal.overflow_add-next
overflow_add-next c =
    let within = greatest_within c.args.dates.now c.requires.within in
    omega (arith, ints)

pub loop-term-init : goal.loop-term-init
loop-term-init c =
    let within = greatest_within c.args.dates.now c.requires.within in
    (c.new-numbers.ensures, omega (arith, ints))

pub overflow_add-next-in-None-2 : goal.overflow_add-next-in-None-2
overflow_add-next-in-None-2 c =
    let within = greatest_within c.args.dates.now c.requires.within in
    let few = undated_few c.args.groups.now c.args.seats.now c.args.dates.now c.loop-term.term in
    omega (arith, ints)

pub loop-term-preserved : goal.loop-term-preserved
loop-term-preserved c =
    let groups = c.args.groups.now in
    let ss = c.args.seats.now in
    let dates = c.args.dates.now in
    let t = c.loop-term.term in
    let g = get_or groups t 0 in
    let number_of = group_number groups ss dates in
    let number : ℤ = to_z w64 c.match-group_date.number-bits in
    let next : ℤ = to_z w64 c.match-group_date.next-bits in
    let before = c.loop-term.invariant in
    let least = c.requires.named t c.loop-term-test.true in
    let step : (number ≡ number_of g) × (next ≡ greatest_date dates +ℤ pos (suc (undated_below groups ss dates (t + 1)))) =
    elim c.match-group_date.branch [
      | in-Some w ↦
          let d = w.in-Some.date in
          let dated : group_date groups ss dates g ≡ Some d = sym c.group_date.ensures ∙ w.in-Some.is in
          let own : number_of g ≡ d = number_is groups g ss dates (Some d) dated in
          let still = has_date groups ss dates t d dated in
          let fits : FitsSigned w64 d = search rules in
          (omega (arith, ints), omega (arith, ints))
      | in-None w ↦
          let known = w.deref.result.now in
          let found : get_or known g (pos 0) ≡ number_of g = ap (λ ns. get_or ns g (pos 0)) (w.deref.ensures.0 ∙ before.0) ∙ number_passed groups ss dates t g (omega arith) (omega arith) least.1 in
          let still = not_least groups ss dates t (λ e. absurd (omega arith)) in
          let fits : FitsSigned w64 (get_or known g (pos 0)) = search rules in
          (omega (arith, ints), omega (arith, ints))
      | in-None-2 w ↦
          let same : g ≡ t = omega arith in
          let undated : group_date groups ss dates t ≡ None = ap (group_date groups ss dates) (sym same) ∙ sym c.group_date.ensures ∙ w.in-None.is in
          let own : number_of g ≡ greatest_date dates +ℤ pos (suc (undated_below groups ss dates t)) = ap number_of same ∙ number_is groups t ss dates None undated in
          let one = counted groups ss dates t same undated in
          let few = undated_few groups ss dates t in
          let within = greatest_within dates c.requires.within in
          (omega (arith, ints), omega (arith, ints))
    ] in (
      c.push.ensures.items ∙ ap (λ ns. ns ++ number ∷ []) before.0 ∙ ap (λ n. map number_of (take t groups) ++ n ∷ []) step.0 ∙ sym (map_more number_of groups t 0 c.loop-term-test.true),
      step.1,
    )
