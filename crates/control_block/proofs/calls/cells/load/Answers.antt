use Rattle.std.proofs.Common.{◌+◌, None, sym, refl, ap, ◌∙◌, arith}
use Rattle.control_block.proofs.Prelude.{DeskNow, Load, site_place}
use Rattle.control_block.proofs.cells.CellDesks.{one, one_few}
use Rattle.control_block.proofs.cells.CellOutcomes.{Came, bag_then, desk_then, event_of, holds_it}
use Rattle.control_block.proofs.cells.CellOutcomes.{is_proper, keeps_else, loaded, size_now}
use Rattle.control_block.proofs.cells.CellSites.{aim_of, word_there}
use Rattle.control_block.proofs.desks.DeskBags.{not_full, not_limit, room_left}
use Rattle.control_block.proofs.calls.cells.load.Goals as goal

pub site_word-word-requires : goal.site_word-word-requires
site_word-word-requires g c =
    let r = c.requires in
    (word_there c.desk.inside c.desk.invariant c.args.cell.kind (site_place c.domain.inside.shape.blocks c.args.cell.site) c.args.desk.now
    c.domain.inside.table.shared.table_id c.domain.inside.shape c.args.cell.site c.desk.view_is
    (ap (λ z. z.domain) c.desk.view_is ∙ (r.domain.table ∙ sym (ap (λ z. z.id) c.domain.view_is)))
    (ap (λ z. z.shape) c.desk.view_is ∙ (r.domain.shape ∙ sym (ap (λ z. z.shape) c.domain.view_is))) r.cell.0 refl).0

pub load-seen-requires-clause-aim : goal.load-seen-requires-clause-aim
load-seen-requires-clause-aim g c =
    let r = c.requires in let d = c.desk.inside in let h = c.desk.invariant in let k = c.args.cell.kind in let y = c.args.desk.now in
    let id = c.domain.inside.table.shared.table_id in let z = c.domain.inside.shape in let site = c.args.cell.site in
    let table = ap (λ z. z.domain) c.desk.view_is ∙ (r.domain.table ∙ sym (ap (λ z. z.id) c.domain.view_is)) in
    let shape = ap (λ z. z.shape) c.desk.view_is ∙ (r.domain.shape ∙ sym (ap (λ z. z.shape) c.domain.view_is)) in
    let i = c.site_word-word.result in
    aim_of d h k i y id z site g.A.CellArgs.cell c.desk.view_is table shape r.cell.0 r.cell.1 c.site_word-word.ensures

module _ (g : _) (c : goal.After-result-1 g) where
  came : Came c.desk.inside c.load-seen.new.seat.me.0 g.A.CellArgs.cell (λ y. Load g.A.CellArgs.cell y) c.args.cell.kind c.load-seen.result None None
  came = loaded _ _ _ _ _ c.load-seen.ensures.loaded.out

pub invariant_of-desk : goal.invariant_of-desk
invariant_of-desk g c =
    let d = c.desk.inside in let h = c.desk.invariant in let t = c.load-seen.ensures in let few = one_few c.load-seen.result.owned in
    let ne = not_full d c.args.desk.now _ h c.desk.view_is c.if-is_full.ensures refl in
    desk_then _ h (came g c) t.table t.loaded.rests.none refl refl refl (λ size. omega (arith, size, few, h.holding)) (omega (arith, h.within, ne))

pub returns-clause-event : goal.returns-clause-event
returns-clause-event g c = rw c.handle.ensures (event_of c.desk.invariant (came g c) _ _ _ c.desk.view_is c.load-seen.ensures.table)

pub returns-clause-bag : goal.returns-clause-bag
returns-clause-bag g c = rw c.handle.ensures (bag_then c.desk.invariant (came g c) _ c.desk.view_is)

pub returns-clause-holds : goal.returns-clause-holds
returns-clause-holds g c =
    let h = c.desk.invariant in let size = size_now h (came g c) in
    rw c.handle.ensures
    (holds_it h (came g c) c.load-seen.new.seat.table_id (c.desk.inside.held + 1) (λ none. let m = ap one none in omega (arith, size, m, h.holding)))

pub invariant_of-result : goal.invariant_of-result
invariant_of-result g c = record { proper = rw c.handle.ensures (is_proper c.desk.invariant (loaded _ _ g.A.CellArgs.cell _ _ c.load-seen.ensures.loaded.out)) }

pub returns-clause-keeps : goal.returns-clause-keeps
returns-clause-keeps g c = keeps_else c.desk.invariant (came g c) _ _ _ c.desk.view_is c.load-seen.ensures.table

pub returns-then-is_full-clause-limit : goal.returns-then-is_full-clause-limit
returns-then-is_full-clause-limit g c = (λ _. c.is_full.ensures.0 c.if-is_full.true, λ _. refl)

pub returns-then-is_full-clause-refused : goal.returns-then-is_full-clause-refused
returns-then-is_full-clause-refused g c = (refl, refl)

pub returns-then-is_full-clause-event : goal.returns-then-is_full-clause-event
returns-then-is_full-clause-event g c = tt

pub returns-then-is_full-clause-bag : goal.returns-then-is_full-clause-bag
returns-then-is_full-clause-bag g c = tt

pub returns-then-is_full-clause-held : goal.returns-then-is_full-clause-held
returns-then-is_full-clause-held g c = tt

pub returns-then-is_full-clause-holds : goal.returns-then-is_full-clause-holds
returns-then-is_full-clause-holds g c = tt

pub returns-then-is_full-clause-kind : goal.returns-then-is_full-clause-kind
returns-then-is_full-clause-kind g c = tt

pub returns-then-is_full-clause-keeps : goal.returns-then-is_full-clause-keeps
returns-then-is_full-clause-keeps g c = tt

pub load-seen-requires-clause-room : goal.load-seen-requires-clause-room
load-seen-requires-clause-room g c =
    room_left c.desk.inside c.desk.invariant (not_full c.desk.inside c.args.desk.now _ c.desk.invariant c.desk.view_is c.if-is_full.ensures refl)

pub returns-clause-limit : goal.returns-clause-limit
returns-clause-limit g c = not_limit c.args.desk.now c.is_full.result c.is_full.ensures c.if-is_full.false

pub returns-clause-refused : goal.returns-clause-refused
returns-clause-refused g c = tt

pub returns-clause-held : goal.returns-clause-held
returns-clause-held g c = ap (λ (z : DeskNow g.row.V.Denot). z.held + 1) c.desk.view_is

pub returns-clause-kind : goal.returns-clause-kind
returns-clause-kind g c = refl
