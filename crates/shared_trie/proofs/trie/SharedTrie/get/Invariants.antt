use Rattle.shared_trie.proofs.Ways.{Holds}
use Rattle.shared_trie.proofs.trie.SharedTrie.get.Given as goal

abbrev pub invariant-loop : goal.invariant-loop
invariant-loop g l = Holds g.D.Domain.opened l.fn.self.root l.fn.key l.level l.held
