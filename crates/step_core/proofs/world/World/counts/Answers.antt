use Rattle.std.proofs.Common.{ℕ, ◌+◌, ◌-◌, slice_index, ap, ◌∙◌, arith}
use Rattle.step_core.proofs.Prelude.{loads_on, model_state, number_of, spot, Weak}
use Rattle.step_core.proofs.telling.Between.{Shown, counts_now, few_now}
use Rattle.step_core.proofs.world.World.counts.Goals as goal

pub loads-requires : goal.loads-requires
loads-requires c =
    let shown : Shown c.args.self.now c.self.inside.table c.self.inside.threads.items c.self.inside.made c.self.inside.ended c.args.block.0 =
    record {
      is = c.self.view_is;
      fit = c.self.invariant.0;
      told = c.self.invariant.1;
      kept = c.assert_invariant.ensures;
      some = c.requires.some;
      within = c.requires.within;
    } in
    (few_now c.args.self.now c.self.inside.table c.self.inside.threads.items c.self.inside.made c.self.inside.ended c.args.block.0 shown).0

pub more-owners-requires : goal.more-owners-requires
more-owners-requires c =
    let shown : Shown c.args.self.now c.self.inside.table c.self.inside.threads.items c.self.inside.made c.self.inside.ended c.args.block.0 =
    record {
      is = c.self.view_is;
      fit = c.self.invariant.0;
      told = c.self.invariant.1;
      kept = c.assert_invariant.ensures;
      some = c.requires.some;
      within = c.requires.within;
    } in
    let few = (few_now c.args.self.now c.self.inside.table c.self.inside.threads.items c.self.inside.made c.self.inside.ended c.args.block.0 shown).1 in
    let n = c.number.ensures in
    let l = c.loads.ensures in omega (arith, few, n, l)

pub more-weaks-requires : goal.more-weaks-requires
more-weaks-requires c =
    let shown : Shown c.args.self.now c.self.inside.table c.self.inside.threads.items c.self.inside.made c.self.inside.ended c.args.block.0 =
    record {
      is = c.self.view_is;
      fit = c.self.invariant.0;
      told = c.self.invariant.1;
      kept = c.assert_invariant.ensures;
      some = c.requires.some;
      within = c.requires.within;
    } in
    let few = (few_now c.args.self.now c.self.inside.table c.self.inside.threads.items c.self.inside.made c.self.inside.ended c.args.block.0 shown).2 in
    let n = c.number-2.ensures in
    let l = c.loads-2.ensures in omega (arith, few, n, l)

pub returns : goal.returns
returns c =
    let shown : Shown c.args.self.now c.self.inside.table c.self.inside.threads.items c.self.inside.made c.self.inside.ended c.args.block.0 =
    record {
      is = c.self.view_is;
      fit = c.self.invariant.0;
      told = c.self.invariant.1;
      kept = c.assert_invariant.ensures;
      some = c.requires.some;
      within = c.requires.within;
    } in
    counts_now c.args.self.now c.self.inside.table c.self.inside.threads.items c.self.inside.made c.self.inside.ended c.args.block.0
    c.more-owners.result c.less.result c.ends.result c.counted.result shown
    (c.more-owners.ensures ∙ ap (λ (n : ℕ). n + c.loads.result) c.number.ensures
    ∙ ap (λ (n : ℕ). number_of (slice_index c.args.self.now.ghost_state.words (spot c.args.block.0 0)) + n) c.loads.ensures)
    (c.less.ensures
    ∙ ap (λ (n : ℕ). n - c.makes.result)
    (c.more-weaks.ensures ∙ ap (λ (n : ℕ). n + c.loads-2.result) c.number-2.ensures
    ∙ ap (λ (n : ℕ). number_of (slice_index c.args.self.now.ghost_state.words (spot c.args.block.0 1)) + n) c.loads-2.ensures)
    ∙ ap (λ (n : ℕ).
    (number_of (slice_index c.args.self.now.ghost_state.words (spot c.args.block.0 1))
    + loads_on (model_state c.args.self.now.ghost_state) c.args.block.0 Weak c.args.self.now.pending_calls) - n) c.makes.ensures) c.ends.ensures
    c.counted.ensures
