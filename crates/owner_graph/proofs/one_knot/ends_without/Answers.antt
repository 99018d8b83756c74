use Rattle.std.proofs.Common.{◌≡◌, ◌∙◌, List, ap, get_or, refl, subst, sym, true≢false}
use Rattle.owner_graph.proofs.Prelude.{All, held_on, Holding, homes, is_weakened, Rises, row_at}
use Rattle.owner_graph.proofs.Prelude.{Vec}
use Rattle.owner_graph.specs.OneKnot.{HasHolder}
use Rattle.owner_graph.proofs.Homes.{home_listed}
use Rattle.owner_graph.proofs.OneKnot.{all_rise, ring_stays}
use Rattle.owner_graph.proofs.one_knot.ends_without.Goals as goal

pub returns-then-is_risen : goal.returns-then-is_risen
returns-then-is_risen c =
    let gone = is_weakened c.args.knots.now c.args.weakening in
    let index = c.args.index.now in
    let walk = c.run.new.self in
    let hs = c.args.handles.now in
    let members : c.row-members.result.now ≡ held_on (homes c.args.knots.now c.args.vertices)
    c.args.least =
    c.row-members.ensures ∙ ap (λ (rows : List (Vec Holding)). row_at rows c.as_index.result)
    c.as_slice.ensures.value
    ∙ ap (row_at index.members.items) c.as_index.ensures ∙ c.requires.index.members c.args.least in
    let P = λ (m : Holding). All (Rises gone index.stays.items c.args.knots.now walk.ranks.items
    c.args.least m.from) (row_at index.rows.items m.from) in (
      λ _.
          all_rise c.args.vertices hs c.args.knots.now c.requires.knots c.requires.among gone
          index.stays.items c.requires.index.stays c.args.least
          c.requires.least.0 c.requires.least.1 c.requires.own walk.ranks.items
          (λ b one within same. subst
          (All (Rises gone index.stays.items c.args.knots.now walk.ranks.items c.args.least b))
          (c.requires.index.rows b)
          (home_listed P c.args.knots.now c.args.least c.args.vertices
          (subst (All P) members (c.is_risen.ensures c.if-is_risen.true)) b one within same)),
      λ _. refl,
    )

pub returns-then-is_stuck : goal.returns-then-is_stuck
returns-then-is_stuck c =
    let gone = is_weakened c.args.knots.now c.args.weakening in
    let index = c.args.index.now in
    let ring = c.run.new.self.ring.items in
    let witness = c.is_stuck.ensures.witness c.if-is_stuck.true in
    let holders = c.is_stuck.ensures.holders c.if-is_stuck.true in (
      λ yes. absurd (true≢false (sym yes)),
      λ cut.
          absurd (ring_stays c.args.vertices c.args.handles.now c.args.knots.now c.requires.knots
          c.requires.among gone
          index.stays.items c.requires.index.stays c.args.least c.requires.least.0
          c.requires.least.1 c.requires.own
          c.requires.inside ring
          (λ i d lt. subst (HasHolder gone index.stays.items c.args.knots.now ring c.args.least)
          (c.requires.index.rows (get_or ring i d)) (holders i d lt)) witness.0 witness.1 cut),
    )
