use Rattle.std.proofs.Common.{length}
use Rattle.text_lines.specs.Grammar.{BeginsWith}
use Rattle.text_lines.proofs.reader.read_lines.Given as goal

abbrev pub invariant-loop-text : goal.invariant-loop-text
invariant-loop-text g l =
    BeginsWith g.R.LineReader.after (g.R.LineReader.seen l.fn.reader) l.bytes
    (g.R.LineReader.seen l.reader) l.line l.rest

abbrev pub decreases-loop-text : goal.decreases-loop-text
decreases-loop-text g l = length l.rest
