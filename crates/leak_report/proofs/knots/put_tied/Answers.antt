use Rattle.std.proofs.Common.{string_bytes, rules}
use Rattle.leak_report.proofs.KnotLemmas.{tied_is}
use Rattle.leak_report.proofs.knots.put_tied.Goals as goal

pub returns : goal.returns
returns c =
    tied_is c.args.found.now.cuts.items c.args.shared c.args.ties.now (string_bytes c.args.text.now)
    (string_bytes c.put_cycle.new.text) (string_bytes c.put_cuts.new.text)
    (let e = c.is_empty.ensures in let n = c.if-is_empty.false in search rules)
    c.in_ok-put_cycle.ensures c.in_ok-put_cuts.ensures
