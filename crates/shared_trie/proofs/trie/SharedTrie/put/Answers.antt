use Rattle.shared_trie.proofs.Steps.{puts}
use Rattle.shared_trie.proofs.trie.SharedTrie.put.Goals as goal

pub returns-in-Out-clause-done : goal.returns-in-Out-clause-done
returns-in-Out-clause-done g c =
    puts g.D.Domain.opened c.args.self.now.root c.args.key c.number_at.result c.loop.end.node c.loop.end.level
    c.loop.end.held c.loop.new c.args.new c.owner.result c.in_ok-old.field-0 c.in-Out.old c.loop.invariant.0
    c.loop.invariant.1 c.loop.invariant.2 c.number_at.ensures c.owner.ensures c.in_ok-old.ensures.done c.in-Out.is
