use Rattle.shared_trie.proofs.Steps.{finds_none, finds_other, removes}
use Rattle.shared_trie.proofs.trie.SharedTrie.remove.Goals as goal

pub returns-in_default-clause-done : goal.returns-in_default-clause-done
returns-in_default-clause-done g c =
    finds_none g.D.Domain.opened c.args.self.now.root c.args.key c.loop.end.node c.loop.end.level c.loop.end.held
    c.loop.invariant c.in_default.is

pub returns-then-branch-key-clause-done : goal.returns-then-branch-key-clause-done
returns-then-branch-key-clause-done g c =
    finds_other g.D.Domain.opened c.args.self.now.root c.args.key c.in_ok-key_of.field-0 c.loop.end.node
    c.loop.end.level c.loop.end.held c.in-Some-held.entry c.loop.invariant c.in-Some-held.is c.in_ok-key_of.ensures.key
    c.if-branch-key.true

pub returns-in-Some-2-clause-done : goal.returns-in-Some-2-clause-done
returns-in-Some-2-clause-done g c =
    removes g.D.Domain.opened c.args.self.now.root c.args.key c.in_ok-key_of.field-0 c.number_at.result
    c.loop.end.node c.loop.end.level c.loop.end.held c.in-Some-held.entry c.in-Some-2.out c.owner.result
    c.in_ok-out.field-0 c.loop.invariant c.in_ok-key_of.ensures.key c.if-branch-key.false c.number_at.ensures
    c.owner.ensures c.in_ok-out.ensures.done c.in-Some-2.is
