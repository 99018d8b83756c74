use Rattle.std.proofs.Common.{[], ◌∷◌, Some, ap, refl, ◌∙◌}
use Rattle.pointers.proofs.Prelude.{Differs, Owner, Shared, shared_cell, Swapped}
use Rattle.control_block.specs.declared.handles.Held.TheVariants as held
use Rattle.pointers.proofs.Calls.{by_drop}
use Rattle.pointers.proofs.CellCalls.{open_shared, stays, shared_alike}
use Rattle.pointers.proofs.Compares.{at_same, differed, hand_more, hand_swapped, says_by, swapped}
use Rattle.pointers.proofs.Handles.{owner_held, was_at}
use Rattle.pointers.proofs.InHand.{bears_more, carries_here, in_hand, leaves, nothing_beside}
use Rattle.pointers.proofs.InHand.{whole_again}
use Rattle.pointers.proofs.HandCompares.{differs_now, swaps_now}
use Rattle.pointers.proofs.Later.{by_event}
use Rattle.pointers.specs.Whole.{ContextNow}
use Rattle.pointers.proofs.context.Context.compare.Goals as goal

pub handles-requires-clause-cell : goal.handles-requires-clause-cell
handles-requires-clause-cell g c =
    let o = g.D.Domain.opened in let d = c.self.inside.desk in let p = c.self.inside.pile in let cs = c.self.inside.claims.entries in
    open_shared o d p [] cs c.args.how.now.at.site _ (nothing_beside o d p cs c.self.invariant) c.requires.cell c.look_at.ensures.has

pub handles-requires-clause-holds : goal.handles-requires-clause-holds
handles-requires-clause-holds g c =
    let o = g.D.Domain.opened in let d = c.self.inside.desk in let p = c.self.inside.pile in let cs = c.self.inside.claims.entries in
    let first = c.look-hoped.ensures in let second = c.split-new.ensures in let same = c.look_at.ensures.claims in (
      owner_held o d p cs _ _ _ c.self.invariant (at_same cs _ _ _ same first.has) first.handle,
      owner_held o d p cs _ _ _ c.self.invariant (at_same cs _ _ _ (first.claims ∙ same) second.has) second.handle,
    )

pub drop_shared-gone-requires-clause-holds : goal.drop_shared-gone-requires-clause-holds
drop_shared-gone-requires-clause-holds g c =
    let o = g.D.Domain.opened in let d = c.self.inside.desk in let e = c.handles.new.desk in let p = c.self.inside.pile in
    let cs = c.self.inside.claims.entries in let w = c.self.invariant in
    let first = c.look-hoped.ensures in let second = c.split-new.ensures in let same = c.look_at.ensures.claims in
    let x = shared_cell d c.args.how.now.at.site in let hoped = c.look-hoped.result.now in let new = c.split-new.result.0 in
    let raw = c.in-Ok-Swapped.ensures in
    let says = says_by d x Owner hoped.block hoped.place new.block new.place c.args.how.now.weak e
    (λ (h : Shared). h.block) (λ (h : Shared). h.place) _ (Swapped c.in-Ok-Swapped.found)
    c.in-Ok-Swapped.field-0-is raw.compared raw.bag raw.held in
    let f = held.Owner c.in-Ok-Swapped.found in
    let v = hand_swapped o d e p cs _ _ _ _ _ (held.Owner new) f w c.assert_invariant.ensures (at_same cs _ _ _ (first.claims ∙ same) second.has) second.handle
    (second.claims ∙ (first.claims ∙ same)) second.entry.0 c.remove.ensures.entries (by_event d _ e says.compared) raw.keeps says.bag says.held in
    in_hand o e p f [] _ v

pub drop_shared-gone-requires-clause-carries : goal.drop_shared-gone-requires-clause-carries
drop_shared-gone-requires-clause-carries g c =
    let o = g.D.Domain.opened in let d = c.self.inside.desk in let e = c.handles.new.desk in let p = c.self.inside.pile in
    let cs = c.self.inside.claims.entries in let w = c.self.invariant in
    let first = c.look-hoped.ensures in let second = c.split-new.ensures in let same = c.look_at.ensures.claims in
    let x = shared_cell d c.args.how.now.at.site in let hoped = c.look-hoped.result.now in let new = c.split-new.result.0 in
    let raw = c.in-Ok-Swapped.ensures in
    let says = says_by d x Owner hoped.block hoped.place new.block new.place c.args.how.now.weak e
    (λ (h : Shared). h.block) (λ (h : Shared). h.place) _ (Swapped c.in-Ok-Swapped.found)
    c.in-Ok-Swapped.field-0-is raw.compared raw.bag raw.held in
    let f = held.Owner c.in-Ok-Swapped.found in
    let v = hand_swapped o d e p cs _ _ _ _ _ (held.Owner new) f w c.assert_invariant.ensures (at_same cs _ _ _ (first.claims ∙ same) second.has) second.handle
    (second.claims ∙ (first.claims ∙ same)) second.entry.0 c.remove.ensures.entries (by_event d _ e says.compared) raw.keeps says.bag says.held in
    carries_here o c.args.domain.now e p (f ∷ []) _ v c.requires.domain

pub invariant_of-self : goal.invariant_of-self
invariant_of-self g c =
    let o = g.D.Domain.opened in let d = c.self.inside.desk in let e = c.handles.new.desk in let p = c.self.inside.pile in
    let cs = c.self.inside.claims.entries in let w = c.self.invariant in
    let first = c.look-hoped.ensures in let second = c.split-new.ensures in let same = c.look_at.ensures.claims in
    let x = shared_cell d c.args.how.now.at.site in let hoped = c.look-hoped.result.now in let new = c.split-new.result.0 in
    let raw = c.in-Ok-Swapped.ensures in
    let says = says_by d x Owner hoped.block hoped.place new.block new.place c.args.how.now.weak e
    (λ (h : Shared). h.block) (λ (h : Shared). h.place) _ (Swapped c.in-Ok-Swapped.found)
    c.in-Ok-Swapped.field-0-is raw.compared raw.bag raw.held in
    let f = held.Owner c.in-Ok-Swapped.found in
    let v = hand_swapped o d e p cs _ _ _ _ _ (held.Owner new) f w c.assert_invariant.ensures (at_same cs _ _ _ (first.claims ∙ same) second.has) second.handle
    (second.claims ∙ (first.claims ∙ same)) second.entry.0 c.remove.ensures.entries (by_event d _ e says.compared) raw.keeps says.bag says.held in
    let m = c.drop_shared-gone.new.desk in let q = c.drop_shared-gone.new.pile in let left = c.drop_shared-gone.ensures in
    whole_again o m q _
    (leaves o e m p q f [] _ v (by_drop e _ _ _ _ m _ left.left)
    (bears_more o c.args.domain.now e m p q (f ∷ []) _ v c.requires.domain left.carries left.elsewhere) left.bag left.held)

pub arrived-held-requires-clause-hand : goal.arrived-held-requires-clause-hand
arrived-held-requires-clause-hand g c =
    let o = g.D.Domain.opened in let d = c.self.inside.desk in let e = c.handles.new.desk in let p = c.self.inside.pile in
    let cs = c.self.inside.claims.entries in let w = c.self.invariant in
    let first = c.look-hoped.ensures in let second = c.split-new.ensures in let same = c.look_at.ensures.claims in
    let x = shared_cell d c.args.how.now.at.site in let hoped = c.look-hoped.result.now in let new = c.split-new.result.0 in
    let raw = c.in-Ok-Differs.ensures in
    let says = says_by d x Owner hoped.block hoped.place new.block new.place c.args.how.now.weak e
    (λ (h : Shared). h.block) (λ (h : Shared). h.place) _ (Differs c.in-Ok-Differs.held c.in-Ok-Differs.desired)
    c.in-Ok-Differs.field-0-is raw.compared raw.bag raw.held in
    hand_more o d e p cs _ (held.Owner c.in-Ok-Differs.held) w c.assert_invariant.ensures (second.claims ∙ (first.claims ∙ same)) (by_event d _ e says.compared)
    raw.keeps says.bag says.held

pub returns-in-Ok-Swapped-clause-compared : goal.returns-in-Ok-Swapped-clause-compared
returns-in-Ok-Swapped-clause-compared g c =
    let o = g.D.Domain.opened in let d = c.self.inside.desk in let e = c.handles.new.desk in let p = c.self.inside.pile in
    let cs = c.self.inside.claims.entries in let w = c.self.invariant in
    let first = c.look-hoped.ensures in let second = c.split-new.ensures in let same = c.look_at.ensures.claims in
    let x = shared_cell d c.args.how.now.at.site in let hoped = c.look-hoped.result.now in let new = c.split-new.result.0 in
    let raw = c.in-Ok-Swapped.ensures in
    let says = says_by d x Owner hoped.block hoped.place new.block new.place c.args.how.now.weak e
    (λ (h : Shared). h.block) (λ (h : Shared). h.place) _ (Swapped c.in-Ok-Swapped.found)
    c.in-Ok-Swapped.field-0-is raw.compared raw.bag raw.held in
    let of = stays o d p [] cs _ (nothing_beside o d p cs w) c.look_at.ensures.has in
    swapped o d e _ _ _ Owner (held.Owner hoped) (held.Owner new) (held.Owner c.in-Ok-Swapped.found) _ _ c.args.how.now.weak w.opened of
    (w.lives _ _ (at_same cs _ _ _ same first.has)) (w.lives _ _ (at_same cs _ _ _ (first.claims ∙ same) second.has))
    (shared_alike o d c.args.how.now.at.site _ of c.requires.cell) first.handle second.handle says.compared

pub returns-in-Ok-Differs-clause-compared : goal.returns-in-Ok-Differs-clause-compared
returns-in-Ok-Differs-clause-compared g c =
    let o = g.D.Domain.opened in let d = c.self.inside.desk in let e = c.handles.new.desk in let p = c.self.inside.pile in
    let cs = c.self.inside.claims.entries in let w = c.self.invariant in
    let first = c.look-hoped.ensures in let second = c.split-new.ensures in let same = c.look_at.ensures.claims in
    let x = shared_cell d c.args.how.now.at.site in let hoped = c.look-hoped.result.now in let new = c.split-new.result.0 in
    let raw = c.in-Ok-Differs.ensures in
    let says = says_by d x Owner hoped.block hoped.place new.block new.place c.args.how.now.weak e
    (λ (h : Shared). h.block) (λ (h : Shared). h.place) _ (Differs c.in-Ok-Differs.held c.in-Ok-Differs.desired)
    c.in-Ok-Differs.field-0-is raw.compared raw.bag raw.held in
    let of = stays o d p [] cs _ (nothing_beside o d p cs w) c.look_at.ensures.has in
    differed o d e _ _ _ Owner (held.Owner hoped) (held.Owner new) (held.Owner c.in-Ok-Differs.held) _ _ _ c.args.how.now.weak w.opened of
    (w.lives _ _ (at_same cs _ _ _ same first.has)) (w.lives _ _ (at_same cs _ _ _ (first.claims ∙ same) second.has))
    (shared_alike o d c.args.how.now.at.site _ of c.requires.cell) first.handle second.handle says.compared
    c.arrived-held.ensures.came

pub returns-in-Err-clause-refused : goal.returns-in-Err-clause-refused
returns-in-Err-clause-refused g c =
    let o = g.D.Domain.opened in let d = c.self.inside.desk in let says = c.in-Err.ensures in (
      says.refused.0,
      was_at o d c.self.inside.pile c.self.inside.claims.entries _ c.self.invariant c.look_at.ensures.has (says.limit.0 refl),
    )

pub returns-in-Ok-Swapped-clause-exact : goal.returns-in-Ok-Swapped-clause-exact
returns-in-Ok-Swapped-clause-exact g c =
    let o = g.D.Domain.opened in let d = c.self.inside.desk in let e = c.handles.new.desk in let p = c.self.inside.pile in
    let cs = c.self.inside.claims.entries in let w = c.self.invariant in
    let first = c.look-hoped.ensures in let second = c.split-new.ensures in
    let x = shared_cell d c.args.how.now.at.site in let hoped = c.look-hoped.result.now in let new = c.split-new.result.0 in
    let raw = c.in-Ok-Swapped.ensures in
    let says = says_by d x Owner hoped.block hoped.place new.block new.place c.args.how.now.weak e
    (λ (h : Shared). h.block) (λ (h : Shared). h.place) _ (Swapped c.in-Ok-Swapped.found)
    c.in-Ok-Swapped.field-0-is raw.compared raw.bag raw.held in
    let of = stays o d p [] cs _ (nothing_beside o d p cs w) c.look_at.ensures.has in let out = c.drop_shared-gone.ensures.left in
    swaps_now c.args.self.now.desk d e c.drop_shared-gone.new.desk _ _ (held.Owner hoped) (held.Owner new) (held.Owner c.in-Ok-Swapped.found)
    (Some c.args.expected.now.known) (Some c.args.desired.known) c.args.how.now.weak out.left
    (shared_alike o d c.args.how.now.at.site _ of c.requires.cell) first.handle second.handle says.compared out.leaves
    (ap (λ (x : ContextNow g.row.D-Value.Denot). x.desk) c.self.view_is)

pub returns-in-Ok-Differs-clause-exact : goal.returns-in-Ok-Differs-clause-exact
returns-in-Ok-Differs-clause-exact g c =
    let o = g.D.Domain.opened in let d = c.self.inside.desk in let e = c.handles.new.desk in let p = c.self.inside.pile in
    let cs = c.self.inside.claims.entries in let w = c.self.invariant in
    let first = c.look-hoped.ensures in let second = c.split-new.ensures in
    let x = shared_cell d c.args.how.now.at.site in let hoped = c.look-hoped.result.now in let new = c.split-new.result.0 in
    let raw = c.in-Ok-Differs.ensures in
    let says = says_by d x Owner hoped.block hoped.place new.block new.place c.args.how.now.weak e
    (λ (h : Shared). h.block) (λ (h : Shared). h.place) _ (Differs c.in-Ok-Differs.held c.in-Ok-Differs.desired)
    c.in-Ok-Differs.field-0-is raw.compared raw.bag raw.held in
    let of = stays o d p [] cs _ (nothing_beside o d p cs w) c.look_at.ensures.has in
    differs_now c.args.self.now.desk d e c.arrived-held.new.desk _ _ (held.Owner hoped) (held.Owner new) (held.Owner c.in-Ok-Differs.held)
    (Some c.args.expected.now.known) (Some c.args.desired.known) _ c.args.how.now.weak
    (shared_alike o d c.args.how.now.at.site _ of c.requires.cell) first.handle second.handle says.compared
    c.arrived-held.ensures.came c.arrived-held.ensures.count (ap (λ (x : ContextNow g.row.D-Value.Denot). x.desk) c.self.view_is)
