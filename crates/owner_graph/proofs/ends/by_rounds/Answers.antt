use Rattle.std.proofs.Common.{◌≡◌, ◌↔◌, ◌∙◌, ℕ, Bool, List, false, subst, sym}
use Rattle.owner_graph.proofs.Prelude.{EndsWithOwners, is_weakened, IsFed, marked, without, ◌≤◌}
use Rattle.owner_graph.proofs.Feeds.{ended_more, stay_or_end}
use Rattle.owner_graph.proofs.ends.by_rounds.Goals as goal

pub loop-stays-preserved : goal.loop-stays-preserved
loop-stays-preserved c =
    let hs = without (is_weakened c.args.knots.now c.args.weakening) c.args.handles.now in
    let is_fed = subst (λ (f : List Bool). IsFed hs c.loop-stays.stays.items f)
    (sym c.as_slice-in-loop-stays.ensures.value)
    (subst (λ (s : List Bool). IsFed hs s c.in_ok-fed.fed.items) c.as_slice.ensures.value
    c.in_ok-fed.ensures) in (
      c.starve.ensures.starves.size ∙ c.loop-stays.invariant.0,
      ended_more c.args.vertices (is_weakened c.args.knots.now c.args.weakening) c.args.handles.now
          c.loop-stays.stays.items c.as_slice-in-loop-stays.result.now c.requires
          c.loop-stays.invariant.0 is_fed c.loop-stays.invariant.1 c.starve.new.stays.items
          c.starve.ensures.starves,
    )

pub returns-then-not-starve-clause-ends : goal.returns-then-not-starve-clause-ends
returns-then-not-starve-clause-ends c =
    let hs = without (is_weakened c.args.knots.now c.args.weakening) c.args.handles.now in
    let is_fed = subst (λ (f : List Bool). IsFed hs c.loop-stays.stays.items f)
    (sym c.as_slice-in-loop-stays.ensures.value)
    (subst (λ (s : List Bool). IsFed hs s c.in_ok-fed.fed.items) c.as_slice.ensures.value
    c.in_ok-fed.ensures) in
    let less = c.if-not-starve.ensures.less in
    subst (λ (l : List Bool). (b : ℕ) → b ≤ c.args.vertices → marked l b ≡ false
    ↔ EndsWithOwners hs b) (sym less.0)
    (stay_or_end c.args.vertices (is_weakened c.args.knots.now c.args.weakening) c.args.handles.now
    c.loop-stays.stays.items c.as_slice-in-loop-stays.result.now c.requires
    c.loop-stays.invariant.0 is_fed c.loop-stays.invariant.1 less.1)
