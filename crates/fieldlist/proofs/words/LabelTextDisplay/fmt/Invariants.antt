use Rattle.std.proofs.Common.{take}
use Rattle.std.specs.Fmt.{IsPlainFormatter, HasWritten}
use Rattle.fieldlist.specs.Lines.{text_of_label}
use Rattle.fieldlist.proofs.words.LabelTextDisplay.fmt.Given as goal

-- the bytes passed are written
abbrev pub invariant-loop-byte : goal.invariant-loop-byte
invariant-loop-byte g l = IsPlainFormatter l.initial.f → HasWritten g.W.Write.write_str_gives l.initial.f (text_of_label (take l.byte-index l.self.0.now)) l.f
