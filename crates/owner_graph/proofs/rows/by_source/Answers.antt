use Rattle.std.proofs.Common.{refl}
use Rattle.owner_graph.proofs.Prelude.{held_in, Holding}
use Rattle.owner_graph.proofs.RowLemmas.{held_more}
use Rattle.owner_graph.proofs.rows.by_source.Goals as goal

pub loop-handle-preserved : goal.loop-handle-preserved
loop-handle-preserved c =
    held_more (λ (h : Holding). h.from) held_in (λ v. refl) (λ h hs v. refl)
    c.loop-handle.rows.items c.args.handles.now c.args.vertices
    c.loop-handle.handle-index c.as_index-in-loop-handle.result _ c.index_mut.result.now
    c.push.new.self
    (c.requires c.loop-handle.handle-index _ c.loop-handle-test.true).0 c.loop-handle-test.true
    c.loop-handle.invariant.0
    c.loop-handle.invariant.1 c.as_index-in-loop-handle.ensures c.index_mut.ensures.value
    c.in_ok-push.ensures.items
