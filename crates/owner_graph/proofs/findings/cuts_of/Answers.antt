use Rattle.std.proofs.Common.{◌≡◌, ◌↔◌, Bool, ℕ, subst, true}
use Rattle.owner_graph.proofs.Prelude.{at, EndsWhenCut, handle_listed, Holding, is_tie}
use Rattle.owner_graph.specs.Rows.{no_handle}
use Rattle.owner_graph.proofs.Steps.{marks_pushed, same_at}
use Rattle.owner_graph.proofs.findings.cuts_of.Goals as goal

pub loop-handle-preserved : goal.loop-handle-preserved
loop-handle-preserved c =
    let hs = c.args.handles.now in
    let cut = λ (h : Holding). (is_tie c.args.kept.now c.args.knots.now h ≡ true)
    × EndsWhenCut c.args.vertices hs (at c.args.knots.now h.from) h in
    marks_pushed (λ (i : ℕ) (b : Bool). b ≡ true ↔ cut (handle_listed hs i))
    c.loop-handle.cuts.items c.push.new.self.items c.in_ok-is_cut.is_cut
    c.loop-handle.handle-index c.in_ok-push.ensures.items c.loop-handle.invariant.0
    c.loop-handle.invariant.1
    (subst (λ (h : Holding). c.in_ok-is_cut.is_cut ≡ true ↔ cut h)
    (same_at hs c.loop-handle.handle-index _ no_handle c.loop-handle-test.true)
    c.in_ok-is_cut.ensures)
