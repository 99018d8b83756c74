use Rattle.std.proofs.Common.{arith}
use Rattle.text_lines.proofs.GrammarLemmas.{begins_after, cut_shorter, number_bound, refused_line}
use Rattle.text_lines.proofs.reader.read_lines.Goals as goal

pub overflow_add-line : goal.overflow_add-line
overflow_add-line g c =
    let bound =
    number_bound g.R.LineReader.after (g.R.LineReader.seen c.args.reader.now) c.args.bytes.now
    (g.R.LineReader.seen c.loop-text.reader)
    c.loop-text.line c.loop-text.rest.now c.loop-text.invariant in
    let shorter = cut_shorter c.loop-text.rest.now c.in-Some.text.now c.in-Some.after.now
    c.in-Some.ensures in
    omega (arith, bound, shorter)

pub loop-text-preserved : goal.loop-text-preserved
loop-text-preserved g c =
    begins_after g.R.LineReader.after (g.R.LineReader.seen c.args.reader.now) c.args.bytes.now
    (g.R.LineReader.seen c.loop-text.reader)
    (g.R.LineReader.seen c.add_numbered.new.reader) c.loop-text.line c.loop-text.rest.now
    c.in-Some.text.now c.in-Some.after.now
    c.loop-text.invariant c.in-Some.ensures c.in-Ok.ensures.ok

pub returns-in-Err-clause-err : goal.returns-in-Err-clause-err
returns-in-Err-clause-err g c =
    refused_line g.R.LineReader.after (g.R.LineReader.seen c.args.reader.now) c.args.bytes.now _
    (g.R.LineReader.seen c.loop-text.reader)
    c.loop-text.line c.loop-text.rest.now c.in-Some.text.now c.in-Some.after.now _
    c.loop-text.invariant c.in-Some.ensures c.in-Err.ensures.err
