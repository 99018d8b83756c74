use Rattle.std.proofs.Common.{◌∙◌, refl, sym, None, Some}
use Rattle.shared_trie.proofs.Steps.{finds, finds_none, finds_other}
use Rattle.shared_trie.proofs.Ways.{ends_here, holds_first, holds_on}
use Rattle.shared_trie.proofs.trie.SharedTrie.get.Goals as goal

pub loop-init : goal.loop-init
loop-init g c =
    holds_first g.D.Domain.opened c.args.self.now.root c.args.key c.number_at.result c.owner.result c.in_ok-held.held
    c.number_at.ensures c.owner.ensures c.in_ok-held.ensures.loaded

pub loop-preserved : goal.loop-preserved
loop-preserved g c =
    holds_on g.D.Domain.opened c.args.self.now.root c.args.key c.loop.level c.in_ok-level.level c.number_at-in-loop.result
    c.in-Some-held.next c.loop.held c.owner-in-loop.result c.in_ok-held-2.held c.loop.invariant c.in-Some-held.is
    (sym c.is_node.ensures ∙ c.if-not-is_node.false) c.in_ok-level.ensures.below.0 c.in_ok-level.ensures.below.1
    c.number_at-in-loop.ensures c.owner-in-loop.ensures c.in_ok-held-2.ensures.loaded

pub returns-in_default-clause-done : goal.returns-in_default-clause-done
returns-in_default-clause-done g c =
    let o = g.D.Domain.opened in
    finds_none o c.args.self.now.root c.args.key c.loop.invariant.node c.loop.level None
    (ends_here o c.args.self.now.root c.args.key c.loop.level c.loop.held None c.loop.invariant c.in_default.is tt) refl

pub returns-then-branch-key-clause-done : goal.returns-then-branch-key-clause-done
returns-then-branch-key-clause-done g c =
    let o = g.D.Domain.opened in
    finds o c.args.self.now.root c.args.key c.in_ok-key_of.field-0 c.loop.invariant.node c.loop.level (Some c.in-Some-held.next)
    c.in-Some-held.next
    (ends_here o c.args.self.now.root c.args.key c.loop.level c.loop.held (Some c.in-Some-held.next) c.loop.invariant
    c.in-Some-held.is c.in_ok-key_of.ensures.entry) refl c.in_ok-key_of.ensures.key c.if-branch-key.true

pub returns-then-not-is_node-clause-done : goal.returns-then-not-is_node-clause-done
returns-then-not-is_node-clause-done g c =
    let o = g.D.Domain.opened in
    finds_other o c.args.self.now.root c.args.key c.in_ok-key_of.field-0 c.loop.invariant.node c.loop.level
    (Some c.in-Some-held.next) c.in-Some-held.next
    (ends_here o c.args.self.now.root c.args.key c.loop.level c.loop.held (Some c.in-Some-held.next) c.loop.invariant
    c.in-Some-held.is c.in_ok-key_of.ensures.entry) refl c.in_ok-key_of.ensures.key c.if-branch-key.false
