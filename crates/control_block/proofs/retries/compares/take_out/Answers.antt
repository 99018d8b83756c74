use Rattle.std.proofs.Common.{false, sym, refl, ◌∙◌, subst, inl}
use Rattle.control_block.proofs.Prelude.{Compare, empty, Event, Kind, NumberedHandle, Took}
use Rattle.control_block.proofs.cells.CellRetries.{took_owes}
use Rattle.control_block.proofs.cells.CellTrades.{differ_keeps, differ_trades}
use Rattle.control_block.proofs.cells.CellTries.{aim_out, counted_out, hand_of_kind, holding_out}
use Rattle.control_block.proofs.cells.CellTries.{none_shown, out_at, out_turned}
use Rattle.control_block.proofs.retries.compares.take_out.Goals as goal

pub take_differing-requires-clause-table : goal.take_differing-requires-clause-table
take_differing-requires-clause-table g c = c.requires.aim.table

pub take_differing-requires-clause-rests : goal.take_differing-requires-clause-rests
take_differing-requires-clause-rests g c = c.requires.aim.rests

pub take_differing-requires-clause-word : goal.take_differing-requires-clause-word
take_differing-requires-clause-word g c = c.requires.aim.word

pub take_differing-requires-clause-cell : goal.take_differing-requires-clause-cell
take_differing-requires-clause-cell g c = c.requires.aim.cell

pub take_differing-requires-clause-seen : goal.take_differing-requires-clause-seen
take_differing-requires-clause-seen g c = let s = c.requires.seen in (s.0, none_shown s.1, s.2)

pub take_differing-requires-clause-room : goal.take_differing-requires-clause-room
take_differing-requires-clause-room g c = c.requires.room

pub take_differing-requires-clause-expected : goal.take_differing-requires-clause-expected
take_differing-requires-clause-expected g c = hand_of_kind g.A.CellArgs.expected c.requires.aim c.requires.hands.0

pub take_differing-requires-clause-hand : goal.take_differing-requires-clause-hand
take_differing-requires-clause-hand g c = hand_of_kind g.A.CellArgs.new c.requires.aim c.requires.hands.1

pub take_differing-requires-clause-differs : goal.take_differing-requires-clause-differs
take_differing-requires-clause-differs g c = inl c.requires.differs

pub turn-requires-clause-table : goal.turn-requires-clause-table
turn-requires-clause-table g c = c.take_differing.ensures.seat.0 ∙ c.requires.aim.table

pub turn-requires-clause-word : goal.turn-requires-clause-word
turn-requires-clause-word g c =
    let r = c.requires in let k = c.args.kind in let me = c.args.seat.now.me in
    let e : NumberedHandle → Event g.row.V.Denot = λ h. Compare g.A.CellArgs.cell g.A.CellArgs.expected g.A.CellArgs.new h false g.A.CellArgs.weak in
    let t = subst (λ (y : Kind). Took e y me.0 c.args.seen c.take_differing.new.seat.me.0) (sym r.aim.kind) (c.if-not-take_differing.ensures.took refl) in
    counted_out e g.A.CellArgs.cell k c.args.word c.args.table.now.table_id c.args.seat.now.table_id c.args.seen (empty k) c.args.block
    me c.take_differing.new.seat.me r.aim (differ_trades g.row.V.Denot g.A.CellArgs.cell k g.A.CellArgs.expected g.A.CellArgs.new g.A.CellArgs.weak) t r.seen.1

pub turn-requires-clause-owes : goal.turn-requires-clause-owes
turn-requires-clause-owes g c =
    let r = c.requires in let k = c.args.kind in let v = c.args.seat.now.me.0 in
    let e : NumberedHandle → Event g.row.V.Denot = λ h. Compare g.A.CellArgs.cell g.A.CellArgs.expected g.A.CellArgs.new h false g.A.CellArgs.weak in
    let t = subst (λ (y : Kind). Took e y v c.args.seen c.take_differing.new.seat.me.0) (sym r.aim.kind) (c.if-not-take_differing.ensures.took refl) in
    took_owes e k v c.take_differing.new.seat.me c.args.seen c.args.block t r.seen.1 r.aim.rests.awake c.take_differing.ensures.seat.2

pub top_up-requires-clause-aim : goal.top_up-requires-clause-aim
top_up-requires-clause-aim g c =
    let r = c.requires in let k = c.args.kind in let me = c.args.seat.now.me in
    let e : NumberedHandle → Event g.row.V.Denot = λ h. Compare g.A.CellArgs.cell g.A.CellArgs.expected g.A.CellArgs.new h false g.A.CellArgs.weak in
    let t = subst (λ (y : Kind). Took e y me.0 c.args.seen c.take_differing.new.seat.me.0) (sym r.aim.kind) (c.if-not-take_differing.ensures.took refl) in
    let i = c.args.word in let id = c.args.table.now.table_id in let own = c.args.seat.now.table_id in let u = c.turn.ensures in
    let out = out_turned e g.A.CellArgs.cell k i id own c.args.seen (empty k) c.args.block me c.take_differing.new.seat.me c.turn.new.seat.me r.aim r.seen.0 t
    u.settled u.seat.2 in
    aim_out e g.A.CellArgs.cell k i id own c.args.seen (empty k) c.args.block me c.turn.new.seat.me c.turn.new.seat.table_id r.aim out
    (u.seat.0 ∙ c.take_differing.ensures.seat.0) (differ_keeps g.row.V.Denot g.A.CellArgs.cell g.A.CellArgs.expected g.A.CellArgs.new out.out.handle
    g.A.CellArgs.weak)

pub top_up-requires-clause-seen : goal.top_up-requires-clause-seen
top_up-requires-clause-seen g c = c.requires.seen.2

pub top_up-requires-clause-holds : goal.top_up-requires-clause-holds
top_up-requires-clause-holds g c =
    let r = c.requires in let k = c.args.kind in let me = c.args.seat.now.me in
    let e : NumberedHandle → Event g.row.V.Denot = λ h. Compare g.A.CellArgs.cell g.A.CellArgs.expected g.A.CellArgs.new h false g.A.CellArgs.weak in
    let t = subst (λ (y : Kind). Took e y me.0 c.args.seen c.take_differing.new.seat.me.0) (sym r.aim.kind) (c.if-not-take_differing.ensures.took refl) in
    let i = c.args.word in let id = c.args.table.now.table_id in let own = c.args.seat.now.table_id in let u = c.turn.ensures in
    let out = out_turned e g.A.CellArgs.cell k i id own c.args.seen (empty k) c.args.block me c.take_differing.new.seat.me c.turn.new.seat.me r.aim r.seen.0 t
    u.settled u.seat.2 in
    holding_out e g.A.CellArgs.cell k i id own c.args.seen (empty k) c.args.block me c.turn.new.seat.me
    (differ_trades g.row.V.Denot g.A.CellArgs.cell k g.A.CellArgs.expected g.A.CellArgs.new g.A.CellArgs.weak) out r.seen.1

pub top_up-requires-clause-count : goal.top_up-requires-clause-count
top_up-requires-clause-count g c =
    let r = c.requires in let k = c.args.kind in let me = c.args.seat.now.me in
    let e : NumberedHandle → Event g.row.V.Denot = λ h. Compare g.A.CellArgs.cell g.A.CellArgs.expected g.A.CellArgs.new h false g.A.CellArgs.weak in
    let t = subst (λ (y : Kind). Took e y me.0 c.args.seen c.take_differing.new.seat.me.0) (sym r.aim.kind) (c.if-not-take_differing.ensures.took refl) in
    counted_out e g.A.CellArgs.cell k c.args.word c.args.table.now.table_id c.args.seat.now.table_id c.args.seen (empty k) c.args.block
    me c.take_differing.new.seat.me r.aim (differ_trades g.row.V.Denot g.A.CellArgs.cell k g.A.CellArgs.expected g.A.CellArgs.new g.A.CellArgs.weak) t r.seen.1

pub returns-then-not-take_differing-clause-table : goal.returns-then-not-take_differing-clause-table
returns-then-not-take_differing-clause-table g c = c.take_differing.ensures.seat.0

pub returns-clause-table : goal.returns-clause-table
returns-clause-table g c = c.top_up.ensures.table ∙ (c.turn.ensures.seat.0 ∙ c.take_differing.ensures.seat.0)

pub returns-clause-differed : goal.returns-clause-differed
returns-clause-differed g c = λ _.
    let r = c.requires in let k = c.args.kind in let me = c.args.seat.now.me in
    let e : NumberedHandle → Event g.row.V.Denot = λ h. Compare g.A.CellArgs.cell g.A.CellArgs.expected g.A.CellArgs.new h false g.A.CellArgs.weak in
    let t = subst (λ (y : Kind). Took e y me.0 c.args.seen c.take_differing.new.seat.me.0) (sym r.aim.kind) (c.if-not-take_differing.ensures.took refl) in
    let i = c.args.word in let id = c.args.table.now.table_id in let own = c.args.seat.now.table_id in let u = c.turn.ensures in
    let out = out_turned e g.A.CellArgs.cell k i id own c.args.seen (empty k) c.args.block me c.take_differing.new.seat.me c.turn.new.seat.me r.aim r.seen.0 t
    u.settled u.seat.2 in
    out_at out c.top_up.ensures.same
