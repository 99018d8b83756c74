use Rattle.std.proofs.Common.{refl}
use Rattle.shared_trie.proofs.Nodes.{is_new_if}
use Rattle.shared_trie.proofs.node.new_node.Goals as goal

pub returns-in-Some-clause-new : goal.returns-in-Some-clause-new
returns-in-Some-clause-new g c =
    is_new_if g.D.Domain.opened c.alias.result c.in_ok-new.new _ _ c.in-Some.place c.in_ok-new.ensures.made
    c.alias.ensures.one c.alias.ensures.place refl c.in-Some.ensures.0
