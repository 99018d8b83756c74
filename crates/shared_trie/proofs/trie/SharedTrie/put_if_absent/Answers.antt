use Rattle.shared_trie.proofs.Steps.{is_there, puts_if_absent}
use Rattle.shared_trie.proofs.trie.SharedTrie.put_if_absent.Goals as goal

pub returns-in-Some-held-clause-done : goal.returns-in-Some-held-clause-done
returns-in-Some-held-clause-done g c =
    is_there g.D.Domain.opened c.args.self.now.root c.args.key c.loop.end.node c.loop.end.level c.loop.end.held
    c.in-Some-held.there c.loop.new c.args.new c.loop.invariant.0 c.loop.invariant.1 c.in-Some-held.is c.loop.invariant.2

pub returns-in-Out-clause-done : goal.returns-in-Out-clause-done
returns-in-Out-clause-done g c =
    puts_if_absent g.D.Domain.opened c.args.self.now.root c.args.key c.number_at.result c.loop.end.node
    c.loop.end.level c.loop.end.held c.loop.new c.args.new c.owner.result c.in_ok-swap.field-0 c.in-Out.field-0
    c.loop.invariant.0 c.loop.invariant.2 c.number_at.ensures c.owner.ensures c.in_ok-swap.ensures.done c.in-Out.is
