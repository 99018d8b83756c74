use Rattle.std.proofs.Common.{◌≡◌, Bool, List, false, subst, true}
use Rattle.owner_graph.proofs.Prelude.{slice_index_or}
use Rattle.owner_graph.proofs.certificates.knots.lead_down.Goals as goal

pub returns-in-Ok : goal.returns-in-Ok
returns-in-Ok c = λ yes b some le.
    (c.in-Ok.ensures.reached b le).0
    (subst (λ (l : List Bool). slice_index_or l b false ≡ true) c.as_slice.ensures.value
    (c.are_marked.ensures yes b some le))
