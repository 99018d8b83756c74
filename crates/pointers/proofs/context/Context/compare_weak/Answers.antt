use Rattle.std.proofs.Common.{[], ◌∷◌, refl, ◌∙◌}
use Rattle.pointers.proofs.Prelude.{Differs, Swapped, Weak, weak_cell}
use Rattle.control_block.specs.declared.handles.Held.TheVariants as held
use Rattle.control_block.specs.declared.handles.Weak.{Weak as WeakHandle}
use Rattle.pointers.proofs.Calls.{by_weak_leave}
use Rattle.pointers.proofs.CellCalls.{open_weak, stays, weak_alike}
use Rattle.pointers.proofs.Compares.{at_same, differed, hand_more, hand_swapped, says_by, swapped}
use Rattle.pointers.proofs.Handles.{weak_held, was_at}
use Rattle.pointers.proofs.InHand.{bears_same, in_hand, leaves, nothing_beside, whole_again}
use Rattle.pointers.proofs.Later.{by_event}
use Rattle.pointers.proofs.context.Context.compare_weak.Goals as goal

pub weak_handles-requires-clause-cell : goal.weak_handles-requires-clause-cell
weak_handles-requires-clause-cell g c =
    let o = g.D.Domain.opened in let d = c.self.inside.desk in let p = c.self.inside.pile in let cs = c.self.inside.claims.entries in
    open_weak o d p [] cs c.args.how.now.at.site _ (nothing_beside o d p cs c.self.invariant) c.requires.cell c.look_at.ensures.has

pub weak_handles-requires-clause-holds : goal.weak_handles-requires-clause-holds
weak_handles-requires-clause-holds g c =
    let o = g.D.Domain.opened in let d = c.self.inside.desk in let p = c.self.inside.pile in let cs = c.self.inside.claims.entries in
    let first = c.look-hoped.ensures in let second = c.split-new.ensures in let same = c.look_at.ensures.claims in (
      weak_held o d p cs _ _ _ c.self.invariant (at_same cs _ _ _ same first.has) first.handle,
      weak_held o d p cs _ _ _ c.self.invariant (at_same cs _ _ _ (first.claims ∙ same) second.has) second.handle,
    )

pub release_weak-requires-clause-holds : goal.release_weak-requires-clause-holds
release_weak-requires-clause-holds g c =
    let o = g.D.Domain.opened in let d = c.self.inside.desk in let e = c.weak_handles.new.desk in let p = c.self.inside.pile in
    let cs = c.self.inside.claims.entries in let w = c.self.invariant in
    let first = c.look-hoped.ensures in let second = c.split-new.ensures in let same = c.look_at.ensures.claims in
    let x = weak_cell d c.args.how.now.at.site in let hoped = c.look-hoped.result.now in let new = c.split-new.result.0 in
    let raw = c.in-Ok-Swapped.ensures in
    let says = says_by d x Weak hoped.block hoped.place new.block new.place c.args.how.now.weak e
    (λ (h : WeakHandle). h.block) (λ (h : WeakHandle). h.place) _ (Swapped c.in-Ok-Swapped.found)
    c.in-Ok-Swapped.field-0-is raw.compared raw.bag raw.held in
    let f = held.Weak c.in-Ok-Swapped.found in
    let v = hand_swapped o d e p cs _ _ _ _ _ (held.Weak new) f w c.assert_invariant.ensures (at_same cs _ _ _ (first.claims ∙ same) second.has) second.handle
    (second.claims ∙ (first.claims ∙ same)) second.entry.0 c.remove.ensures.entries (by_event d _ e says.compared) raw.keeps says.bag says.held in
    in_hand o e p f [] _ v

pub invariant_of-self : goal.invariant_of-self
invariant_of-self g c =
    let o = g.D.Domain.opened in let d = c.self.inside.desk in let e = c.weak_handles.new.desk in let p = c.self.inside.pile in
    let cs = c.self.inside.claims.entries in let w = c.self.invariant in
    let first = c.look-hoped.ensures in let second = c.split-new.ensures in let same = c.look_at.ensures.claims in
    let x = weak_cell d c.args.how.now.at.site in let hoped = c.look-hoped.result.now in let new = c.split-new.result.0 in
    let raw = c.in-Ok-Swapped.ensures in
    let says = says_by d x Weak hoped.block hoped.place new.block new.place c.args.how.now.weak e
    (λ (h : WeakHandle). h.block) (λ (h : WeakHandle). h.place) _ (Swapped c.in-Ok-Swapped.found)
    c.in-Ok-Swapped.field-0-is raw.compared raw.bag raw.held in
    let f = held.Weak c.in-Ok-Swapped.found in
    let v = hand_swapped o d e p cs _ _ _ _ _ (held.Weak new) f w c.assert_invariant.ensures (at_same cs _ _ _ (first.claims ∙ same) second.has) second.handle
    (second.claims ∙ (first.claims ∙ same)) second.entry.0 c.remove.ensures.entries (by_event d _ e says.compared) raw.keeps says.bag says.held in
    let y = c.in-Ok-Swapped.found in let m = c.release_weak.new.desk in let left = c.release_weak.ensures in
    whole_again o m p _
    (leaves o e m p p f [] _ v (by_weak_leave e y.block y.place left.event.0 m left.event.1)
    (bears_same o e m p (f ∷ []) _ v left.desk left.endings left.count) left.bag left.held)

pub arrived_weak-held-requires-clause-hand : goal.arrived_weak-held-requires-clause-hand
arrived_weak-held-requires-clause-hand g c =
    let o = g.D.Domain.opened in let d = c.self.inside.desk in let e = c.weak_handles.new.desk in let p = c.self.inside.pile in
    let cs = c.self.inside.claims.entries in let w = c.self.invariant in
    let first = c.look-hoped.ensures in let second = c.split-new.ensures in let same = c.look_at.ensures.claims in
    let x = weak_cell d c.args.how.now.at.site in let hoped = c.look-hoped.result.now in let new = c.split-new.result.0 in
    let raw = c.in-Ok-Differs.ensures in
    let says = says_by d x Weak hoped.block hoped.place new.block new.place c.args.how.now.weak e
    (λ (h : WeakHandle). h.block) (λ (h : WeakHandle). h.place) _ (Differs c.in-Ok-Differs.held c.in-Ok-Differs.desired)
    c.in-Ok-Differs.field-0-is raw.compared raw.bag raw.held in
    hand_more o d e p cs _ (held.Weak c.in-Ok-Differs.held) w c.assert_invariant.ensures (second.claims ∙ (first.claims ∙ same)) (by_event d _ e says.compared)
    raw.keeps says.bag says.held

pub returns-in-Ok-Swapped-clause-compared : goal.returns-in-Ok-Swapped-clause-compared
returns-in-Ok-Swapped-clause-compared g c =
    let o = g.D.Domain.opened in let d = c.self.inside.desk in let e = c.weak_handles.new.desk in let p = c.self.inside.pile in
    let cs = c.self.inside.claims.entries in let w = c.self.invariant in
    let first = c.look-hoped.ensures in let second = c.split-new.ensures in let same = c.look_at.ensures.claims in
    let x = weak_cell d c.args.how.now.at.site in let hoped = c.look-hoped.result.now in let new = c.split-new.result.0 in
    let raw = c.in-Ok-Swapped.ensures in
    let says = says_by d x Weak hoped.block hoped.place new.block new.place c.args.how.now.weak e
    (λ (h : WeakHandle). h.block) (λ (h : WeakHandle). h.place) _ (Swapped c.in-Ok-Swapped.found)
    c.in-Ok-Swapped.field-0-is raw.compared raw.bag raw.held in
    let of = stays o d p [] cs _ (nothing_beside o d p cs w) c.look_at.ensures.has in
    swapped o d e _ _ _ Weak (held.Weak hoped) (held.Weak new) (held.Weak c.in-Ok-Swapped.found) _ _ c.args.how.now.weak w.opened of
    (w.lives _ _ (at_same cs _ _ _ same first.has)) (w.lives _ _ (at_same cs _ _ _ (first.claims ∙ same) second.has))
    (weak_alike o d c.args.how.now.at.site _ of c.requires.cell) first.handle second.handle says.compared

pub returns-in-Ok-Differs-clause-compared : goal.returns-in-Ok-Differs-clause-compared
returns-in-Ok-Differs-clause-compared g c =
    let o = g.D.Domain.opened in let d = c.self.inside.desk in let e = c.weak_handles.new.desk in let p = c.self.inside.pile in
    let cs = c.self.inside.claims.entries in let w = c.self.invariant in
    let first = c.look-hoped.ensures in let second = c.split-new.ensures in let same = c.look_at.ensures.claims in
    let x = weak_cell d c.args.how.now.at.site in let hoped = c.look-hoped.result.now in let new = c.split-new.result.0 in
    let raw = c.in-Ok-Differs.ensures in
    let says = says_by d x Weak hoped.block hoped.place new.block new.place c.args.how.now.weak e
    (λ (h : WeakHandle). h.block) (λ (h : WeakHandle). h.place) _ (Differs c.in-Ok-Differs.held c.in-Ok-Differs.desired)
    c.in-Ok-Differs.field-0-is raw.compared raw.bag raw.held in
    let of = stays o d p [] cs _ (nothing_beside o d p cs w) c.look_at.ensures.has in
    differed o d e _ _ _ Weak (held.Weak hoped) (held.Weak new) (held.Weak c.in-Ok-Differs.held) _ _ _ c.args.how.now.weak w.opened of
    (w.lives _ _ (at_same cs _ _ _ same first.has)) (w.lives _ _ (at_same cs _ _ _ (first.claims ∙ same) second.has))
    (weak_alike o d c.args.how.now.at.site _ of c.requires.cell) first.handle second.handle says.compared
    c.arrived_weak-held.ensures.came

pub returns-in-Err-clause-refused : goal.returns-in-Err-clause-refused
returns-in-Err-clause-refused g c =
    let o = g.D.Domain.opened in let d = c.self.inside.desk in let says = c.in-Err.ensures in (
      says.refused.0,
      was_at o d c.self.inside.pile c.self.inside.claims.entries _ c.self.invariant c.look_at.ensures.has (says.limit.0 refl),
    )
