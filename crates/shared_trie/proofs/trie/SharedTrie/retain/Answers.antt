use Rattle.shared_trie.proofs.Sweeps.{goes_on, is_over}
use Rattle.shared_trie.proofs.trie.SharedTrie.retain.Goals as goal

pub loop-preserved : goal.loop-preserved
loop-preserved g c =
    goes_on g.K.Keep.judges g.D.Domain.opened c.args.self.now.root c.args.keep.now c.loop.place c.loop.keep
    c.loop.removed c.in_ok-end.end.node c.in_ok-end.end.level c.in_ok-end.end.held c.in_ok-sifted.sifted
    c.sift.new.keep c.number.result c.saturating_add-removed.result c.key_at-key.result c.in-Some-place_after.next
    c.place_after.result c.loop.invariant c.key_at-key.ensures c.in_ok-end.ensures.ends c.in_ok-sifted.ensures.sifted
    c.number.ensures c.saturating_add-removed.ensures c.in-Some-place_after.is c.place_after.ensures

pub returns-in-None-place_after-clause-retained : goal.returns-in-None-place_after-clause-retained
returns-in-None-place_after-clause-retained g c =
    is_over g.K.Keep.judges g.D.Domain.opened c.args.self.now.root c.args.keep.now c.loop.place c.loop.keep
    c.loop.removed c.in_ok-end.end.node c.in_ok-end.end.level c.in_ok-end.end.held c.in_ok-sifted.sifted
    c.sift.new.keep c.number.result c.saturating_add-removed.result c.key_at-key.result c.place_after.result
    c.loop.invariant c.key_at-key.ensures c.in_ok-end.ensures.ends c.in_ok-sifted.ensures.sifted c.number.ensures
    c.saturating_add-removed.ensures c.in-None-place_after.is c.place_after.ensures
