use Rattle.std.proofs.Common.{◌≤◌}
use Rattle.shared_trie.specs.Tries.{Leads}
use Rattle.shared_trie.proofs.trie.SharedTrie.end_from.Given as goal

abbrev pub invariant-loop : goal.invariant-loop
invariant-loop g l = Leads g.D.Domain.opened l.fn.self.root l.fn.key l.level l.node × (l.level ≤ 21)
