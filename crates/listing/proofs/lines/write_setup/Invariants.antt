use Rattle.std.proofs.Common.{◌≡◌, ◌++◌, codes, drop, string_bytes}
use Rattle.std.specs.List.{enumerate_from, flat_map}
use Rattle.listing.specs.Lines.{entry_line, line_feed, setup_text, term_line}
use Rattle.listing.proofs.lines.write_setup.Given as goal

-- with the lines of the terms that are left come those of all terms
abbrev pub invariant-loop-term : goal.invariant-loop-term
invariant-loop-term l =
    string_bytes l.text ++ flat_map term_line (enumerate_from l.term-counter (drop l.term-counter l.numbers)) ≡ codes "setup" ++ (line_feed ++ flat_map term_line (enumerate_from 0 l.numbers))

-- with those of the entries that are left comes the whole text
abbrev pub invariant-loop-entry : goal.invariant-loop-entry
invariant-loop-entry l = string_bytes l.text ++ flat_map entry_line (drop l.entry-index l.entries) ≡ setup_text l.numbers l.entries
