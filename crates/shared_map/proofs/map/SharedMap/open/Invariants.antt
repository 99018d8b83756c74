use Rattle.std.proofs.Common.{◌≡◌, length}
use Rattle.pointers.specs.Sites.{free_site}
use Rattle.shared_map.specs.Openings.{IsMany}
use Rattle.shared_map.proofs.Openings.{Reaches, first_of}
use Rattle.shared_map.proofs.map.SharedMap.open.Given as goal

abbrev pub invariant-loop-number : goal.invariant-loop-number
invariant-loop-number g l = record {
  reaches : Reaches g.D.Domain.opened (λ b. b.node) (λ b. b.is_entry) (free_site l.fn.cell.0) l.buckets.items l.node;
  many : IsMany g.D.Domain.opened (first_of g.D.Domain.opened (λ b. b.node) l.buckets.items l.node) l.others;
  count : length l.buckets.items ≡ l.number;
}
