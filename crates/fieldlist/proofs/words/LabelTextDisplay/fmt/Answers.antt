use Rattle.std.proofs.Common.{◌≡◌, ◌+◌, [], ◌++◌, get_or, take, sym, refl, ap, ◌∙◌}
use lib.Utf8.{encode}
use Rattle.std.proofs.Output.{has_written_of_eq, has_written_append, writes_in_calls_nil}
use Rattle.std.proofs.lemmas.List.{flat_map_more, take_all, take_more}
use Rattle.fieldlist.specs.Lines.{text_of_label}
use Rattle.fieldlist.proofs.words.LabelTextDisplay.fmt.Goals as goal

pub loop-byte-init : goal.loop-byte-init
loop-byte-init g c plain = record { wrote = writes_in_calls_nil g.W.Write.write_str_gives c.args.f.now.writer; plain = plain }

pub loop-byte-preserved : goal.loop-byte-preserved
loop-byte-preserved g c plain =
    let took = g.W.Write.write_str_gives in
    let l = c.args.self.now.0.now in
    let i = c.loop-byte.byte-index in
    let before = c.loop-byte.invariant plain in
    let one = c.in_ok-write_char.ensures.writes before.plain refl in
    let text : text_of_label (take i l) ++ encode (get_or l i 0) ≡ text_of_label (take (i + 1) l) =
    flat_map_more encode [] (take i l) (get_or l i 0) ∙ ap text_of_label (sym (take_more l i 0 c.loop-byte-test.true)) in
    has_written_of_eq took _ _ _ _ text (has_written_append took _ _ _ _ _ before one)

pub returns-clause-writes : goal.returns-clause-writes
returns-clause-writes g c plain ok =
    let l = c.args.self.now.0.now in
    has_written_of_eq g.W.Write.write_str_gives _ _ _ _ (ap text_of_label (take_all c.loop-byte.byte-index l c.loop-byte-test.false)) (c.loop-byte.invariant plain)
