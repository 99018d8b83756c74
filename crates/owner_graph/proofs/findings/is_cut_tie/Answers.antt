use Rattle.std.proofs.Common.{◌∙◌, ℕ, ap, arith, subst, sym}
use Rattle.owner_graph.proofs.Prelude.{at, EndsWhenCut}
use Rattle.owner_graph.proofs.TieLemmas.{tie_label}
use Rattle.owner_graph.proofs.findings.is_cut_tie.Goals as goal

pub overflow_cast-least : goal.overflow_cast-least
overflow_cast-least c =
    let low = tie_label c.args.vertices c.args.handles.now c.args.kept.now c.args.knots.now
    c.requires.among c.requires.knots c.args.handle
    (sym c.is_tie.ensures ∙ c.if-not-is_tie.false) c.requires.handle.0 c.at-least.result
    (c.at-least.ensures ∙ ap (at c.args.knots.now) c.as_index.ensures) in
    let fits = c.ranges.vertices.fits in
    omega (arith, low, fits)

pub is_cut_by-requires-clause-vertex : goal.is_cut_by-requires-clause-vertex
is_cut_by-requires-clause-vertex c =
    tie_label c.args.vertices c.args.handles.now c.args.kept.now c.args.knots.now c.requires.among
    c.requires.knots c.args.handle
    (sym c.is_tie.ensures ∙ c.if-not-is_tie.false) c.requires.handle.0 c.at-least.result
    (c.at-least.ensures ∙ ap (at c.args.knots.now) c.as_index.ensures)

pub is_cut_by-requires-clause-tie : goal.is_cut_by-requires-clause-tie
is_cut_by-requires-clause-tie c =
    let low = tie_label c.args.vertices c.args.handles.now c.args.kept.now c.args.knots.now
    c.requires.among c.requires.knots c.args.handle
    (sym c.is_tie.ensures ∙ c.if-not-is_tie.false) c.requires.handle.0 c.at-least.result
    (c.at-least.ensures ∙ ap (at c.args.knots.now) c.as_index.ensures) in
    (c.requires.handle.0, low.1)

pub returns : goal.returns
returns c =
    let e = c.at-least.ensures ∙ ap (at c.args.knots.now) c.as_index.ensures in (
      λ yes. (
        sym c.is_tie.ensures ∙ c.if-not-is_tie.false,
        subst (λ (n : ℕ). EndsWhenCut c.args.vertices c.args.handles.now n c.args.handle) e
            (c.in_ok-is.ensures.0 yes),
      ),
      λ p. c.in_ok-is.ensures.1
          (subst (λ (n : ℕ). EndsWhenCut c.args.vertices c.args.handles.now n c.args.handle) (sym e)
          p.1),
    )
