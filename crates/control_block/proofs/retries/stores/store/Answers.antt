use Rattle.std.proofs.Common.{refl, sym, subst}
use Rattle.control_block.proofs.Prelude.{Gave, IsSized, Kind, Swap, TableId}
use Rattle.control_block.proofs.cells.CellTrades.{swap_trades}
use Rattle.control_block.proofs.leavings.LetGo.{gave_holds, gave_owes, gave_there, meant_out, out_and_gone}
use Rattle.control_block.proofs.retries.stores.store.Goals as goal

pub let_go-released-requires-clause-meant : goal.let_go-released-requires-clause-meant
let_go-released-requires-clause-meant g c = (refl, meant_out c.args.kind c.swap-old.new.seat.me.0 c.swap-old.result)

pub let_go-released-requires-clause-count : goal.let_go-released-requires-clause-count
let_go-released-requires-clause-count g c =
    let a = g.A.CellArgs in let r = c.requires in
    gave_there (λ h. Swap a.cell a.new h) c.args.kind c.args.seat.now.me.0 c.swap-old.result a.new (swap_trades g.row.V.Denot a.cell a.new)
    c.swap-old.new.seat.me.0 c.args.table.now.table_id (subst (λ (y : Kind). Gave (λ h. Swap a.cell a.new h) y c.args.seat.now.me.0 c.swap-old.result
    c.swap-old.new.seat.me.0) (sym c.requires.cell.1)
    c.swap-old.ensures.gave)
    (subst (λ (y : TableId). IsSized y c.args.seat.now.me.0.shape) r.table.0 r.table.1)

pub let_go-released-requires-clause-owes : goal.let_go-released-requires-clause-owes
let_go-released-requires-clause-owes g c =
    let a = g.A.CellArgs in let t = c.swap-old.ensures in
    gave_owes (λ h. Swap a.cell a.new h) c.args.kind c.args.seat.now.me.0 c.swap-old.result a.new (swap_trades g.row.V.Denot a.cell a.new)
    c.swap-old.new.seat.me (subst (λ (y : Kind). Gave (λ h. Swap a.cell a.new h) y c.args.seat.now.me.0 c.swap-old.result c.swap-old.new.seat.me.0) (sym
    c.requires.cell.1)
    c.swap-old.ensures.gave) c.requires.rests.awake t.seat.2

pub returns-clause-stored : goal.returns-clause-stored
returns-clause-stored g c =
    let a = g.A.CellArgs in
    out_and_gone (λ h. Swap a.cell a.new h) c.args.kind c.args.seat.now.me.0 c.swap-old.new.seat.me.0 c.let_go-released.new.seat.me.0 c.swap-old.result
    c.let_go-released.result (subst (λ (y : Kind). Gave (λ h. Swap a.cell a.new h) y c.args.seat.now.me.0 c.swap-old.result c.swap-old.new.seat.me.0) (sym
    c.requires.cell.1)
    c.swap-old.ensures.gave) c.let_go-released.ensures.gone

pub let_go-released-requires-clause-holds : goal.let_go-released-requires-clause-holds
let_go-released-requires-clause-holds g c =
    let a = g.A.CellArgs in
    gave_holds (λ h. Swap a.cell a.new h) c.args.kind c.args.seat.now.me.0 c.swap-old.result a.new (swap_trades g.row.V.Denot a.cell a.new)
    c.swap-old.new.seat.me (subst (λ (y : Kind). Gave (λ h. Swap a.cell a.new h) y c.args.seat.now.me.0 c.swap-old.result c.swap-old.new.seat.me.0) (sym
    c.requires.cell.1)
    c.swap-old.ensures.gave)
