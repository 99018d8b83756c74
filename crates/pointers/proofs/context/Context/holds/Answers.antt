use Rattle.std.proofs.Common.{[], sym, ◌∙◌, subst}
use Rattle.pointers.proofs.Prelude.{block_of, Cell, Held, owned, Owner, place_of, pointed}
use Rattle.pointers.proofs.Prelude.{shared_cell, TellsHeld}
use Rattle.pointers.proofs.CellCalls.{open_shared, shared_alike, stays}
use Rattle.pointers.proofs.Compares.{at_same}
use Rattle.pointers.proofs.Handles.{alike, bears_by, owner_held, since}
use Rattle.pointers.proofs.InHand.{nothing_beside}
use Rattle.pointers.proofs.Later.{by_event}
use Rattle.pointers.proofs.context.Context.holds.Goals as goal

pub holds-requires-clause-cell : goal.holds-requires-clause-cell
holds-requires-clause-cell g c =
    let o = g.D.Domain.opened in let d = c.self.inside.desk in let p = c.self.inside.pile in let cs = c.self.inside.claims.entries in
    open_shared o d p [] cs c.args.at.site _ (nothing_beside o d p cs c.self.invariant) c.requires.cell c.look_at.ensures.has

pub holds-requires-clause-holds : goal.holds-requires-clause-holds
holds-requires-clause-holds g c =
    let o = g.D.Domain.opened in let d = c.self.inside.desk in let p = c.self.inside.pile in let cs = c.self.inside.claims.entries in
    let mine = c.look-handle.ensures in
    owner_held o d p cs _ _ _ c.self.invariant (at_same cs _ _ _ c.look_at.ensures.claims mine.has) mine.handle

pub invariant_of-self : goal.invariant_of-self
invariant_of-self g c =
    let o = g.D.Domain.opened in let d = c.self.inside.desk in let e = c.holds.new.desk in let p = c.self.inside.pile in
    let cs = c.self.inside.claims.entries in let says = c.holds.ensures in
    alike o d e p p cs _ c.self.invariant (by_event d _ e says.event) (bears_by o d e p cs c.self.invariant says.keeps) says.bag says.held
    (c.look-handle.ensures.claims ∙ c.look_at.ensures.claims)

pub returns : goal.returns
returns g c =
    let o = g.D.Domain.opened in let d = c.self.inside.desk in let e = c.holds.new.desk in let p = c.self.inside.pile in
    let cs = c.self.inside.claims.entries in let mine = c.look-handle.ensures in let known = c.args.mine.now.known in
    let there = stays o d p [] cs _ (nothing_beside o d p cs c.self.invariant) c.look_at.ensures.has in
    since o d e p cs _ known c.self.invariant (at_same cs _ _ _ c.look_at.ensures.claims mine.has) (
      there,
      subst (λ (x : Cell). TellsHeld d x Owner (owned known) (pointed known) c.holds.result e) (shared_alike o d c.args.at.site _ there c.requires.cell)
          (subst (λ (h : Held). TellsHeld d (shared_cell d c.args.at.site) Owner (block_of h) (place_of h) c.holds.result e) (sym mine.handle)
          c.holds.ensures.event),
    )
