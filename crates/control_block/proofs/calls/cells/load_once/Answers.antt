use Rattle.std.proofs.Common.{◌+◌, None, sym, refl, ap, ◌∙◌, arith}
use Rattle.control_block.proofs.Prelude.{Load, site_place}
use Rattle.control_block.proofs.cells.CellDesks.{one, one_few}
use Rattle.control_block.proofs.cells.CellOutcomes.{Came, bag_then, desk_then, event_of, holds_it}
use Rattle.control_block.proofs.cells.CellOutcomes.{is_proper, keeps_else, loaded, size_now}
use Rattle.control_block.proofs.cells.CellSites.{aim_of, word_there}
use Rattle.control_block.proofs.desks.DeskBags.{not_full, room_left}
use Rattle.control_block.proofs.calls.cells.load_once.Goals as goal

pub site_word-word-requires : goal.site_word-word-requires
site_word-word-requires g c =
    let r = c.requires in
    (word_there c.desk.inside c.desk.invariant c.args.cell.kind (site_place c.domain.inside.shape.blocks c.args.cell.site) c.args.desk.now
    c.domain.inside.table.shared.table_id c.domain.inside.shape c.args.cell.site c.desk.view_is
    (ap (λ z. z.domain) c.desk.view_is ∙ (r.domain.table ∙ sym (ap (λ z. z.id) c.domain.view_is)))
    (ap (λ z. z.shape) c.desk.view_is ∙ (r.domain.shape ∙ sym (ap (λ z. z.shape) c.domain.view_is))) r.cell.0 refl).0

pub load_once-requires-clause-aim : goal.load_once-requires-clause-aim
load_once-requires-clause-aim g c =
    let r = c.requires in let d = c.desk.inside in let h = c.desk.invariant in let k = c.args.cell.kind in let y = c.args.desk.now in
    let id = c.domain.inside.table.shared.table_id in let z = c.domain.inside.shape in let site = c.args.cell.site in
    let table = ap (λ z. z.domain) c.desk.view_is ∙ (r.domain.table ∙ sym (ap (λ z. z.id) c.domain.view_is)) in
    let shape = ap (λ z. z.shape) c.desk.view_is ∙ (r.domain.shape ∙ sym (ap (λ z. z.shape) c.domain.view_is)) in
    let i = c.site_word-word.result in
    aim_of d h k i y id z site g.A.CellArgs.cell c.desk.view_is table shape r.cell.0 r.cell.1 c.site_word-word.ensures

pub load_once-requires-clause-room : goal.load_once-requires-clause-room
load_once-requires-clause-room g c =
    room_left c.desk.inside c.desk.invariant (not_full c.desk.inside c.args.desk.now _ c.desk.invariant c.desk.view_is c.if-is_full.ensures refl)

module _ (g : _) (c : goal.After-result-1 g) where
  came : Came c.desk.inside c.load_once.new.seat.me.0 g.A.CellArgs.cell (λ y. Load g.A.CellArgs.cell y) c.args.cell.kind c.in-Ok.seen None None
  came = loaded _ _ _ _ _ c.in-Ok.ensures.loaded.out

pub invariant_of-desk : goal.invariant_of-desk
invariant_of-desk g c =
    let d = c.desk.inside in let h = c.desk.invariant in let t = c.in-Ok.ensures in let few = one_few c.in-Ok.seen.owned in
    let ne = not_full d c.args.desk.now _ h c.desk.view_is c.if-is_full.ensures refl in
    desk_then _ h (came g c) t.table t.loaded.rests.none refl refl refl (λ size. omega (arith, size, few, h.holding)) (omega (arith, h.within, ne))

pub returns-in-Ok-clause-event : goal.returns-in-Ok-clause-event
returns-in-Ok-clause-event g c = rw c.handle.ensures (event_of c.desk.invariant (came g c) _ _ _ c.desk.view_is c.load_once.ensures.table)

pub returns-in-Ok-clause-bag : goal.returns-in-Ok-clause-bag
returns-in-Ok-clause-bag g c = rw c.handle.ensures (bag_then c.desk.invariant (came g c) _ c.desk.view_is)

pub returns-in-Ok-clause-holds : goal.returns-in-Ok-clause-holds
returns-in-Ok-clause-holds g c =
    let h = c.desk.invariant in let size = size_now h (came g c) in
    rw c.handle.ensures
    (holds_it h (came g c) c.load_once.new.seat.table_id (c.desk.inside.held + 1) (λ none. let m = ap one none in omega (arith, size, m, h.holding)))

pub invariant_of-result : goal.invariant_of-result
invariant_of-result g c = record { proper = rw c.handle.ensures (is_proper c.desk.invariant (loaded _ _ g.A.CellArgs.cell _ _ c.in-Ok.ensures.loaded.out)) }

pub returns-in-Ok-clause-keeps : goal.returns-in-Ok-clause-keeps
returns-in-Ok-clause-keeps g c = keeps_else c.desk.invariant (came g c) _ _ _ c.desk.view_is c.load_once.ensures.table
