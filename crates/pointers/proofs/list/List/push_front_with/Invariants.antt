use Rattle.std.specs.Prelude.{◌≡◌, Some}
use Rattle.pointers.specs.ListChanges.{IsNode}
use Rattle.pointers.specs.declared.known.Known.{Known}
use Rattle.pointers.proofs.list.List.push_front_with.Given as goal

abbrev pub invariant-loop : goal.invariant-loop
invariant-loop g l =
    (c : Known g.row.D-Value.Denot) × IsNode g.D.Domain.opened g.E.Element.goes_in l.fn.element l.fn.value c × (l.node ≡ Some c)
