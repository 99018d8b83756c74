use Rattle.std.proofs.Common.{◌∙◌, [], List, subst, sym, true≢false}
use Rattle.owner_graph.proofs.Prelude.{All, All-nil, All-push, AreCuts, Holding, IsAmong, NoTies}
use Rattle.owner_graph.proofs.TieLemmas.{cut_more, cut_no_more}
use Rattle.owner_graph.proofs.tie.cuts_by.Goals as goal

pub loop-tie-init : goal.loop-tie-init
loop-tie-init c = (
  subst (λ (l : List Holding). AreCuts c.args.vertices c.args.handles.now [] l)
      (sym c.new-cuts.ensures.items) NoTies,
  subst (All (IsAmong c.args.vertices)) (sym c.new-cuts.ensures.items)
      (All-nil (IsAmong c.args.vertices)),
)

pub loop-tie-preserved : goal.loop-tie-preserved
loop-tie-preserved c = (
  cut_more c.args.vertices c.args.handles.now c.args.ties.now c.loop-tie.cuts.items
      c.push.new.self.items c.loop-tie.tie-index _
      c.loop-tie-test.true c.loop-tie.invariant.0 c.in_ok-push.ensures.items
      (c.in_ok-is_cut_by.ensures.0 c.if-not-branch.false),
  subst (All (IsAmong c.args.vertices)) (sym c.in_ok-push.ensures.items)
      (All-push (IsAmong c.args.vertices) c.loop-tie.cuts.items _ c.loop-tie.invariant.1
      (c.requires.ties c.loop-tie.tie-index _ c.loop-tie-test.true)),
)

pub loop-tie-preserved-then-not-branch : goal.loop-tie-preserved-then-not-branch
loop-tie-preserved-then-not-branch c = (
  cut_no_more c.args.vertices c.args.handles.now c.args.ties.now c.loop-tie.cuts.items
      c.loop-tie.tie-index _
      c.loop-tie-test.true c.loop-tie.invariant.0
      (λ is. true≢false (sym (c.in_ok-is_cut_by.ensures.1 is) ∙ c.if-not-branch.true)),
  c.loop-tie.invariant.1,
)
