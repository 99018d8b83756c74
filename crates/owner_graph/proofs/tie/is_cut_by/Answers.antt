use Rattle.std.proofs.Common.{refl, subst, sym, true≢false}
use Rattle.owner_graph.proofs.CircleLemmas.{circle_ends}
use Rattle.owner_graph.proofs.CutLemmas.{own_label}
use Rattle.owner_graph.specs.Rings.{HasRingHolder}
use Rattle.owner_graph.proofs.Inside.{placed_inside}
use Rattle.owner_graph.proofs.RingLemmas.{knot_stays}
use Rattle.owner_graph.proofs.StageLemmas.{stages_end}
use Rattle.owner_graph.proofs.tie.is_cut_by.Goals as goal

pub returns-then-is_known_cut : goal.returns-then-is_known_cut
returns-then-is_known_cut c =
    let known = c.is_known_cut.ensures c.if-is_known_cut.true in
    let lookup = c.args.lookup.now in
    let own = own_label c.args.vertices c.args.handles.now c.args.knots.now c.requires.knots
    c.args.tie.from c.args.tie.to
    c.requires.tied.0 c.requires.tie.0 c.requires.vertex.0 c.requires.vertex.1
    c.requires.tied.1 in (
      λ _.
          circle_ends c.args.vertices c.args.handles.now c.args.knots.now c.requires.knots
          c.requires.among lookup.index.stays.items
          c.requires.index.stays lookup.circles (c.requires.circles known.0) c.args.tie
          c.requires.vertex.0 c.requires.vertex.1
          own known.1,
      λ _. refl,
    )

pub ends_without-requires-clause-own : goal.ends_without-requires-clause-own
ends_without-requires-clause-own c =
    own_label c.args.vertices c.args.handles.now c.args.knots.now c.requires.knots c.args.tie.from
    c.args.tie.to c.requires.tied.0 c.requires.tie.0
    c.requires.vertex.0 c.requires.vertex.1 c.requires.tied.1

pub ends_without-requires-clause-inside : goal.ends_without-requires-clause-inside
ends_without-requires-clause-inside c = placed_inside c.args.knots.now c.args.tie c.args.tie.to
    c.requires.tied.0 c.requires.tied.1

pub returns-then-leads_from_stage : goal.returns-then-leads_from_stage
returns-then-leads_from_stage c =
    let known = c.leads_from_stage.ensures c.if-leads_from_stage.true in
    let lookup = c.args.lookup.now in
    let own = own_label c.args.vertices c.args.handles.now c.args.knots.now c.requires.knots
    c.args.tie.from c.args.tie.to
    c.requires.tied.0 c.requires.tie.0 c.requires.vertex.0 c.requires.vertex.1
    c.requires.tied.1 in (
      λ _.
          stages_end c.args.vertices c.args.handles.now c.args.knots.now c.requires.knots
          c.requires.among lookup.index.stays.items
          c.requires.index.stays lookup.knot_rings.stages (c.requires.stages known.0) c.args.tie
          c.requires.vertex.0 c.requires.vertex.1
          own known.1,
      λ _. refl,
    )

pub returns-then-is_beside_one : goal.returns-then-is_beside_one
returns-then-is_beside_one c =
    let known = c.is_beside_one.ensures c.if-is_beside_one.true in
    let index = c.args.lookup.now.index in
    let own = own_label c.args.vertices c.args.handles.now c.args.knots.now c.requires.knots
    c.args.tie.from c.args.tie.to
    c.requires.tied.0 c.requires.tie.0 c.requires.vertex.0 c.requires.vertex.1
    c.requires.tied.1 in (
      λ yes. absurd (true≢false (sym yes)),
      λ cut.
          absurd (knot_stays c.args.vertices c.args.handles.now c.args.knots.now c.requires.knots
          c.requires.among index.stays.items c.requires.index.stays known.0
          (λ b one within some. subst (HasRingHolder index.stays.items c.args.knots.now known.0 b)
          (c.requires.index.rows b) (known.1 b one within some)) c.args.tie c.requires.tied.0
          c.requires.tied.1 c.requires.vertex.0 c.requires.vertex.1 own known.2 cut),
    )
