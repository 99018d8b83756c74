use Rattle.std.proofs.Common.{◌≡◌, ◌<◌, ◌≢◌, map, length, set, sym, ap, ◌∙◌, subst, arith}
use Rattle.std.proofs.Common.{length-set}
use Rattle.step_core.proofs.Prelude.{Advances, AllFit, Extent, HasBegun, length-map, Steps}
use Rattle.step_core.proofs.Prelude.{thread_frame, Waited, WorldState}
use Rattle.step_core.proofs.Worlds.{all_fit, has_begun, world_state, steps, thread_at}
use Rattle.step_core.proofs.runs.Extents.{extent_step}
use Rattle.step_core.proofs.runs.Taking.{advances, all_hold, all_idle}
use Rattle.step_core.proofs.telling.Worlds.{never_now, told_now}
use Rattle.step_core.proofs.world.World.advance.Goals as goal

pub step-stepped-requires : goal.step-stepped-requires
step-stepped-requires c =
    let l = ap (λ (u : WorldState). length u.frame_views) c.self.view_is in
    let m = length-map c.self.inside.threads.items thread_frame in
    let lt : c.args.number < length c.self.inside.threads.items = omega (arith, l, m, c.requires) in
    record {
      fits = c.self.invariant.0.each c.args.number c.index_mut-thread.result.now
          (thread_at c.self.inside.threads.items c.args.number c.index_mut-thread.result.now lt
          c.index_mut-thread.ensures.value);
    }

pub invariant_of-self : goal.invariant_of-self
invariant_of-self c =
    let l = ap (λ (u : WorldState). length u.frame_views) c.self.view_is in
    let m = length-map c.self.inside.threads.items thread_frame in
    let lt : c.args.number < length c.self.inside.threads.items = omega (arith, l, m, c.requires) in (
      all_fit c.self.inside.table c.step-stepped.new.table c.self.inside.threads.items c.args.number
          c.index_mut-thread.result.now c.step-stepped.new.self
          c.step-stepped.result c.assert_invariant.ensures c.assert_invariant-2.ensures c.self.invariant.0 lt c.step-stepped.ensures.stepped
          c.step-stepped.ensures.fits,
      told_now c.self.inside.table c.step-stepped.new.table c.self.inside.threads.items c.args.number
          c.index_mut-thread.result.now c.step-stepped.new.self
          c.step-stepped.result c.self.inside.made c.self.inside.ended c.makes.result c.ends.result c.assert_invariant.ensures
          c.assert_invariant-2.ensures
          (has_begun c.self.inside.table c.self.inside.threads.items c.args.number c.index_mut-thread.result.now lt
          c.index_mut-thread.ensures.value
          (c.self.invariant.0.each c.args.number c.index_mut-thread.result.now
          (thread_at c.self.inside.threads.items c.args.number c.index_mut-thread.result.now lt
          c.index_mut-thread.ensures.value)) c.assert_invariant.ensures c.self.invariant.0
          c.self.invariant.1.threads (c.self.invariant.1.tidy c.args.number)) lt
          c.index_mut-thread.ensures.value c.step-stepped.ensures.stepped c.self.invariant.1 c.makes.ensures
          c.ends.ensures,
    )

-- the thread that was read, and all threads, once it made its step
module _ (c : goal.After-self-3-1) where
  within : c.args.number < length c.self.inside.threads.items
  within =
      let l = ap (λ (u : WorldState). length u.frame_views) c.self.view_is in
      let m = length-map c.self.inside.threads.items thread_frame in
      omega (arith, l, m, c.requires)

  begun : HasBegun c.args.number (world_state c.self.inside.table c.self.inside.threads.items)
  begun =
      has_begun c.self.inside.table c.self.inside.threads.items c.args.number c.index_mut-thread.result.now within
      c.index_mut-thread.ensures.value
      (c.self.invariant.0.each c.args.number c.index_mut-thread.result.now
      (thread_at c.self.inside.threads.items c.args.number c.index_mut-thread.result.now within
      c.index_mut-thread.ensures.value)) c.assert_invariant.ensures
      c.self.invariant.0 c.self.invariant.1.threads (c.self.invariant.1.tidy c.args.number)

  all : AllFit c.step-stepped.new.table (set c.self.inside.threads.items c.args.number c.step-stepped.new.self)
  all =
      all_fit c.self.inside.table c.step-stepped.new.table c.self.inside.threads.items c.args.number
      c.index_mut-thread.result.now c.step-stepped.new.self
      c.step-stepped.result c.assert_invariant.ensures c.assert_invariant-2.ensures c.self.invariant.0 within c.step-stepped.ensures.stepped
      c.step-stepped.ensures.fits

  went : Steps c.args.number (world_state c.self.inside.table c.self.inside.threads.items) c.step-stepped.result
      (world_state c.step-stepped.new.table (set c.self.inside.threads.items c.args.number c.step-stepped.new.self))
  went =
      steps c.self.inside.table c.step-stepped.new.table c.self.inside.threads.items c.args.number
      c.index_mut-thread.result.now c.step-stepped.new.self
      c.step-stepped.result within c.index_mut-thread.ensures.value c.step-stepped.ensures.stepped

  as_many : length (world_state c.step-stepped.new.table
      (set c.self.inside.threads.items c.args.number c.step-stepped.new.self)).frame_views
      ≡ length (world_state c.self.inside.table c.self.inside.threads.items).frame_views
  as_many =
      let m = length-map c.self.inside.threads.items thread_frame in
      let n = length-map (set c.self.inside.threads.items c.args.number c.step-stepped.new.self) thread_frame in
      let k = length-set c.self.inside.threads.items c.args.number c.step-stepped.new.self in
      omega (arith, m, n, k)

  as_large : length (map thread_frame (set c.self.inside.threads.items c.args.number c.step-stepped.new.self))
      ≡ c.step-stepped.new.table.extent.actors
  as_large =
      as_many ∙ c.self.invariant.1.threads
      ∙ ap (λ (z : Extent). z.actors)
      (sym (extent_step c.args.number (world_state c.self.inside.table c.self.inside.threads.items) _ c.step-stepped.result went))

  never : c.step-stepped.result ≢ Waited
  never =
      never_now c.self.inside.table c.step-stepped.new.table c.self.inside.threads.items c.args.number
      c.index_mut-thread.result.now c.step-stepped.new.self
      c.step-stepped.result c.self.inside.made c.self.inside.ended c.assert_invariant.ensures begun within
      c.index_mut-thread.ensures.value
      c.step-stepped.ensures.stepped c.self.invariant.1

pub returns-clause-was : goal.returns-clause-was
returns-clause-was c = subst (λ (u : WorldState). HasBegun c.args.number u) c.self.view_is (begun c)

pub returns-clause-never : goal.returns-clause-never
returns-clause-never c = never c

pub returns-clause-steps : goal.returns-clause-steps
returns-clause-steps c =
    subst (λ (u : WorldState). Steps c.args.number u c.step-stepped.result (world_state c.step-stepped.new.table
    (set c.self.inside.threads.items c.args.number c.step-stepped.new.self)))
    c.self.view_is (went c)

pub returns-clause-advances : goal.returns-clause-advances
returns-clause-advances c =
    let threads = set c.self.inside.threads.items c.args.number c.step-stepped.new.self in
    subst (λ (u : WorldState). Advances c.args.number u c.step-stepped.result (world_state c.step-stepped.new.table threads))
    c.self.view_is
    (advances c.args.number (world_state c.self.inside.table c.self.inside.threads.items)
    (world_state c.step-stepped.new.table threads) c.step-stepped.result
    (begun c) (went c) (never c) (as_many c) c.assert_invariant-2.ensures (all_hold c.step-stepped.new.table threads (all c))
    (all_idle c.step-stepped.new.table threads (all c) (as_large c) c.assert_invariant-2.ensures))

pub returns-clause-actors : goal.returns-clause-actors
returns-clause-actors c =
    let l = ap (λ (u : WorldState). length u.frame_views) c.self.view_is in let m = as_many c in omega (arith, l, m)
