use Rattle.std.proofs.Common.{◌≡◌}
use Rattle.shared_trie.specs.Tries.{Ends, IsOf}
use Rattle.shared_trie.proofs.trie.SharedTrie.put.Given as goal

abbrev pub invariant-loop : goal.invariant-loop
invariant-loop g l =
    let o = g.D.Domain.opened in
    Ends o l.fn.self.root l.fn.key l.end.node l.end.level l.end.held × IsOf o l.fn.key l.end.held
    × (l.new ≡ l.fn.new)
