use Rattle.std.proofs.Common.{sym, ◌∙◌, subst}
use Rattle.control_block.proofs.Prelude.{empty, Event, Kind, Load, NumberedHandle, Took}
use Rattle.control_block.proofs.cells.CellRetries.{took_owes}
use Rattle.control_block.proofs.cells.CellTrades.{load_keeps, load_trades}
use Rattle.control_block.proofs.cells.CellTries.{aim_out, counted_out, holding_out, out_at}
use Rattle.control_block.proofs.cells.CellTries.{out_turned}
use Rattle.control_block.proofs.retries.loads.try_load.Goals as goal

pub turn-requires-clause-word : goal.turn-requires-clause-word
turn-requires-clause-word g c =
    let r = c.requires in let k = c.args.kind in let me = c.args.seat.now.me in
    let e : NumberedHandle → Event g.row.V.Denot = λ h. Load g.A.CellArgs.cell h in
    let i = c.args.word in let id = c.args.table.now.table_id in let own = c.args.seat.now.table_id in let x = c.args.seen in let b = c.in-Some.block in
    let t = subst (λ (y : Kind). Took e y me.0 x c.take.new.seat.me.0) (sym r.aim.kind) c.in-Ok.ensures.took in
    counted_out e g.A.CellArgs.cell k i id own x (empty k) b me c.take.new.seat.me r.aim (load_trades g.row.V.Denot g.A.CellArgs.cell k) t c.in-Some.ensures.0

pub turn-requires-clause-owes : goal.turn-requires-clause-owes
turn-requires-clause-owes g c =
    let r = c.requires in let k = c.args.kind in let me = c.args.seat.now.me in
    let e : NumberedHandle → Event g.row.V.Denot = λ h. Load g.A.CellArgs.cell h in
    let i = c.args.word in let id = c.args.table.now.table_id in let own = c.args.seat.now.table_id in let x = c.args.seen in let b = c.in-Some.block in
    let t = subst (λ (y : Kind). Took e y me.0 x c.take.new.seat.me.0) (sym r.aim.kind) c.in-Ok.ensures.took in
    took_owes e k me.0 c.take.new.seat.me x b t c.in-Some.ensures.0 r.aim.rests.awake c.take.ensures.seat.2

pub top_up-requires-clause-aim : goal.top_up-requires-clause-aim
top_up-requires-clause-aim g c =
    let r = c.requires in let k = c.args.kind in let me = c.args.seat.now.me in let u = c.turn.ensures in
    let e : NumberedHandle → Event g.row.V.Denot = λ h. Load g.A.CellArgs.cell h in
    let i = c.args.word in let id = c.args.table.now.table_id in let own = c.args.seat.now.table_id in let x = c.args.seen in let b = c.in-Some.block in
    let t = subst (λ (y : Kind). Took e y me.0 x c.take.new.seat.me.0) (sym r.aim.kind) c.in-Ok.ensures.took in
    let out = out_turned e g.A.CellArgs.cell k i id own x (empty k) b me c.take.new.seat.me c.turn.new.seat.me r.aim r.seen t u.settled u.seat.2 in
    aim_out e g.A.CellArgs.cell k i id own x (empty k) b me c.turn.new.seat.me c.turn.new.seat.table_id r.aim out (u.seat.0 ∙ c.take.ensures.seat.0)
    (load_keeps g.row.V.Denot g.A.CellArgs.cell out.out.handle)

pub top_up-requires-clause-holds : goal.top_up-requires-clause-holds
top_up-requires-clause-holds g c =
    let r = c.requires in let k = c.args.kind in let me = c.args.seat.now.me in let u = c.turn.ensures in
    let e : NumberedHandle → Event g.row.V.Denot = λ h. Load g.A.CellArgs.cell h in
    let i = c.args.word in let id = c.args.table.now.table_id in let own = c.args.seat.now.table_id in let x = c.args.seen in let b = c.in-Some.block in
    let t = subst (λ (y : Kind). Took e y me.0 x c.take.new.seat.me.0) (sym r.aim.kind) c.in-Ok.ensures.took in
    let out = out_turned e g.A.CellArgs.cell k i id own x (empty k) b me c.take.new.seat.me c.turn.new.seat.me r.aim r.seen t u.settled u.seat.2 in
    holding_out e g.A.CellArgs.cell k i id own x (empty k) b me c.turn.new.seat.me (load_trades g.row.V.Denot g.A.CellArgs.cell k) out c.in-Some.ensures.0

pub top_up-requires-clause-count : goal.top_up-requires-clause-count
top_up-requires-clause-count g c =
    let r = c.requires in let k = c.args.kind in let me = c.args.seat.now.me in
    let e : NumberedHandle → Event g.row.V.Denot = λ h. Load g.A.CellArgs.cell h in
    let i = c.args.word in let id = c.args.table.now.table_id in let own = c.args.seat.now.table_id in let x = c.args.seen in let b = c.in-Some.block in
    let t = subst (λ (y : Kind). Took e y me.0 x c.take.new.seat.me.0) (sym r.aim.kind) c.in-Ok.ensures.took in
    counted_out e g.A.CellArgs.cell k i id own x (empty k) b me c.take.new.seat.me r.aim (load_trades g.row.V.Denot g.A.CellArgs.cell k) t c.in-Some.ensures.0

pub returns-in-Ok-clause-loaded : goal.returns-in-Ok-clause-loaded
returns-in-Ok-clause-loaded g c =
    let r = c.requires in let k = c.args.kind in let me = c.args.seat.now.me in let u = c.turn.ensures in
    let e : NumberedHandle → Event g.row.V.Denot = λ h. Load g.A.CellArgs.cell h in
    let i = c.args.word in let id = c.args.table.now.table_id in let own = c.args.seat.now.table_id in let x = c.args.seen in let b = c.in-Some.block in
    let t = subst (λ (y : Kind). Took e y me.0 x c.take.new.seat.me.0) (sym r.aim.kind) c.in-Ok.ensures.took in
    let out = out_turned e g.A.CellArgs.cell k i id own x (empty k) b me c.take.new.seat.me c.turn.new.seat.me r.aim r.seen t u.settled u.seat.2 in
    out_at out c.top_up.ensures.same
