use Rattle.std.proofs.Common.{List, length, take, ap, arith}
use Rattle.leak_report.proofs.Prelude.{Holding}
use Rattle.leak_report.proofs.NumberLemmas.{length_numbered, numbered_more}
use Rattle.leak_report.proofs.found.numbered.Goals as goal

pub loop-holding-preserved : goal.loop-holding-preserved
loop-holding-preserved c =
    let hs = c.args.holdings.now in
    let i = c.loop-holding.holding-index in
    let size = c.loop-holding.moved.ok.0 in
    let len = c.len-place.ensures in
    let e = ap (length {A = Holding}) c.loop-holding.invariant in
    let same = length_numbered 0 (take i hs) in
    numbered_more hs i c.len-place.result _ _ c.loop-holding.moved.items c.push.new.self.items
    c.loop-holding-test.true c.loop-holding.invariant c.in_ok-push.ensures.items
    (omega (arith, size, len, e, same)) c.placed.ensures
