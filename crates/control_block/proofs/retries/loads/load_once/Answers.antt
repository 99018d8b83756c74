use Rattle.std.proofs.Common.{sym, subst}
use Rattle.control_block.proofs.Prelude.{empty, Event, Kind, Load, NumberedHandle, Took}
use Rattle.control_block.proofs.cells.CellRetries.{took_owes}
use Rattle.control_block.proofs.cells.CellTrades.{load_trades}
use Rattle.control_block.proofs.cells.CellTries.{aim_at, counted_out, none_shown, out_since}
use Rattle.control_block.proofs.cells.CellTries.{out_turned}
use Rattle.control_block.proofs.retries.loads.load_once.Goals as goal

pub turn-requires-clause-word : goal.turn-requires-clause-word
turn-requires-clause-word g c =
    let k = c.args.kind in let l = c.look-shown.ensures in let x = c.look-shown.result in let me = c.look-shown.new.seat.me in
    let e : NumberedHandle → Event g.row.V.Denot = λ h. Load g.A.CellArgs.cell h in
    let aim = aim_at c.requires.aim l.seat.0 (l.same (none_shown (sym c.in-Some.ensures.owned))) in
    let t = subst (λ (y : Kind). Took e y me.0 x c.take.new.seat.me.0) (sym aim.kind) c.in-Ok.ensures.took in
    counted_out e g.A.CellArgs.cell k c.args.word c.args.table.now.table_id c.look-shown.new.seat.table_id x (empty k) c.in-Some.block
    me c.take.new.seat.me aim (load_trades g.row.V.Denot g.A.CellArgs.cell k) t (sym c.in-Some.ensures.owned)

pub turn-requires-clause-owes : goal.turn-requires-clause-owes
turn-requires-clause-owes g c =
    let k = c.args.kind in let l = c.look-shown.ensures in let x = c.look-shown.result in let me = c.look-shown.new.seat.me in
    let e : NumberedHandle → Event g.row.V.Denot = λ h. Load g.A.CellArgs.cell h in
    let aim = aim_at c.requires.aim l.seat.0 (l.same (none_shown (sym c.in-Some.ensures.owned))) in
    let t = subst (λ (y : Kind). Took e y me.0 x c.take.new.seat.me.0) (sym aim.kind) c.in-Ok.ensures.took in
    took_owes e k me.0 c.take.new.seat.me x c.in-Some.block t (sym c.in-Some.ensures.owned) aim.rests.awake c.take.ensures.seat.2

pub returns-in-Ok-clause-loaded : goal.returns-in-Ok-clause-loaded
returns-in-Ok-clause-loaded g c =
    let k = c.args.kind in let l = c.look-shown.ensures in let x = c.look-shown.result in let me = c.look-shown.new.seat.me in
    let e : NumberedHandle → Event g.row.V.Denot = λ h. Load g.A.CellArgs.cell h in
    let same = l.same (none_shown (sym c.in-Some.ensures.owned)) in let aim = aim_at c.requires.aim l.seat.0 same in
    let t = subst (λ (y : Kind). Took e y me.0 x c.take.new.seat.me.0) (sym aim.kind) c.in-Ok.ensures.took in
    let u = c.turn.ensures in
    out_since (out_turned e g.A.CellArgs.cell k c.args.word c.args.table.now.table_id c.look-shown.new.seat.table_id x (empty k) c.in-Some.block
    me c.take.new.seat.me c.turn.new.seat.me aim l.cell t u.settled u.seat.2) same
