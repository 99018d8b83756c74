use Rattle.std.proofs.Common.{◌∙◌, List, ap, subst, sym}
use Rattle.owner_graph.proofs.Prelude.{All, held_on, Holding, IsAmong}
use Rattle.owner_graph.proofs.TieLemmas.{label_among}
use Rattle.owner_graph.proofs.index.members.Goals as goal

pub homes-requires : goal.homes-requires
homes-requires c = λ b some le.
    (label_among c.args.vertices c.args.handles.now c.args.knots.now c.requires.among
    c.requires.knots b some le).1

pub by_vertex-requires : goal.by_vertex-requires
by_vertex-requires c = subst (All (IsAmong c.args.vertices)) (sym c.as_slice.ensures.value)
    c.in_ok-homes.ensures.among

pub returns : goal.returns
returns c = λ k.
    c.in_ok-rows.ensures.rows k ∙ ap (λ (l : List Holding). held_on l k) (c.as_slice.ensures.value
    ∙ c.in_ok-homes.ensures.homes)
