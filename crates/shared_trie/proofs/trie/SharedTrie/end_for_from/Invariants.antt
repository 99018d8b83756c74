use Rattle.shared_trie.specs.Tries.{Ends}
use Rattle.shared_trie.proofs.trie.SharedTrie.end_for_from.Given as goal

abbrev pub invariant-loop : goal.invariant-loop
invariant-loop g l = Ends g.D.Domain.opened l.fn.self.root l.fn.key l.end.node l.end.level l.end.held
