-- The claims that the shorter methods need are false of the sheets.
use Rattle.std.proofs.Common.{pos, arith}
use Rattle.engine.specs.Rules.{TableAllowed}
use Rattle.theory.specs.Combining.{SoundTogether}
use Rattle.theory.specs.Sheets.{each_past, from_4_to, in_two_ticks, level_terms, three_terms}
use Rattle.theory.specs.Unsound.{SeparateArrangementsSuffice, SpanAllowedInBlocks, WaitingSuffices}
use Rattle.theory.proofs.Between.{accepted_to, by_spans_to_5, by_table_to_5, instants_met, levels_met, no_tick_between, nothing_implied}
use Rattle.theory.proofs.TwoTicks.{accepted_in_two_ticks, allowed_in_blocks, no_third_tick}

pub waiting_is_unsound : WaitingSuffices → ⊥
waiting_is_unsound claim =
    no_tick_between (claim level_terms (from_4_to (pos 5)) (accepted_to 5 (omega arith)) (instants_met 4 (omega arith) (omega arith)) levels_met nothing_implied)

pub separate_is_unsound : SeparateArrangementsSuffice → ⊥
separate_is_unsound claim =
    let (codes_arranged, by_table) = by_table_to_5 in
    let (others_arranged, by_spans) = by_spans_to_5 in
    no_tick_between (claim level_terms (from_4_to (pos 5)) _ _ (accepted_to 5 (omega arith)) codes_arranged by_table others_arranged by_spans)

pub branching_is_unsound : SoundTogether TableAllowed SpanAllowedInBlocks → ⊥
branching_is_unsound claim = no_third_tick (claim three_terms in_two_ticks accepted_in_two_ticks (each_past, allowed_in_blocks))
