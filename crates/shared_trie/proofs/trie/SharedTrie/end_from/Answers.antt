use Rattle.std.proofs.Common.{◌∙◌, None, Some, sym}
use Rattle.shared_trie.proofs.Ways.{ends_at, ends_empty, leads_on, loaded_at}
use Rattle.shared_trie.proofs.trie.SharedTrie.end_from.Goals as goal

pub returns-in_default-clause-ends : goal.returns-in_default-clause-ends
returns-in_default-clause-ends g c =
    let o = g.D.Domain.opened in
    ends_empty o c.args.self.now.root c.args.key c.loop.level c.loop.node c.loop.invariant.0 c.loop.invariant.1
    (loaded_at o c.args.key c.loop.level c.number_at.result c.loop.node c.owner.result c.in_ok-held.held None
    c.number_at.ensures c.owner.ensures c.in_ok-held.ensures.loaded c.in_default.is)

pub returns-then-not-is_node-clause-ends : goal.returns-then-not-is_node-clause-ends
returns-then-not-is_node-clause-ends g c =
    let o = g.D.Domain.opened in
    ends_at o c.args.self.now.root c.args.key c.loop.level c.loop.node c.in-Some-held.next c.loop.invariant.0
    c.loop.invariant.1
    (loaded_at o c.args.key c.loop.level c.number_at.result c.loop.node c.owner.result c.in_ok-held.held
    (Some c.in-Some-held.next) c.number_at.ensures c.owner.ensures c.in_ok-held.ensures.loaded c.in-Some-held.is)
    (sym c.is_node.ensures ∙ c.if-not-is_node.true)

pub loop-preserved : goal.loop-preserved
loop-preserved g c =
    let o = g.D.Domain.opened in (
      leads_on o c.args.self.now.root c.args.key c.loop.level c.in_ok-level.level c.loop.node c.in-Some-held.next
          c.loop.invariant.0
          (loaded_at o c.args.key c.loop.level c.number_at.result c.loop.node c.owner.result c.in_ok-held.held
          (Some c.in-Some-held.next) c.number_at.ensures c.owner.ensures c.in_ok-held.ensures.loaded c.in-Some-held.is)
          (sym c.is_node.ensures ∙ c.if-not-is_node.false) c.in_ok-level.ensures.below.0,
      c.in_ok-level.ensures.below.1,
    )
