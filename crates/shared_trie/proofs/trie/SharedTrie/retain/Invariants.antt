use Rattle.shared_trie.proofs.Sweeps.{Swept}
use Rattle.shared_trie.proofs.trie.SharedTrie.retain.Given as goal

abbrev pub invariant-loop : goal.invariant-loop
invariant-loop g l =
    Swept g.K.Keep.judges g.D.Domain.opened l.fn.self.root l.fn.keep l.place l.keep l.removed
