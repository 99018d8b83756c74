use Rattle.std.proofs.Common.{ℕ, sym, refl, ap, ◌∙◌, subst}
use Rattle.control_block.proofs.Prelude.{At, CellWord, ClearMember, empty, Ends, Gave, IsSized, Kind}
use Rattle.control_block.proofs.Prelude.{kind_of_member, OutAndGone, Rests, TableId, tells}
use Rattle.control_block.proofs.cells.CellTries.{room_at, told_rests}
use Rattle.control_block.proofs.cells.CellTrades.{clear_trades}
use Rattle.control_block.proofs.leavings.LetGo.{gave_holds, gave_owes, gave_there, meant_out, out_and_gone}
use Rattle.control_block.proofs.steps.clears.clear.Goals as goal

pub let_go-released-requires-clause-meant : goal.let_go-released-requires-clause-meant
let_go-released-requires-clause-meant g c = (refl, meant_out c.args.kind c.swap_out-out.new.seat.me.0 c.swap_out-out.result)

pub let_go-released-requires-clause-count : goal.let_go-released-requires-clause-count
let_go-released-requires-clause-count g c =
    let r = c.requires in let o = g.M.StepArgs.object in let q = c.args.member in let x = c.swap_out-out.result in let w = c.swap_out-out.new.seat.me.0 in
    let v = c.args.seat.now.me.0 in
    let t : Gave (λ h. ClearMember o q h) c.args.kind v x w =
    subst (λ (y : Kind). Gave (λ h. ClearMember o q h) y v x w) r.kind
    (subst (λ y. Gave (λ h. ClearMember o y h) (kind_of_member v.shape.owners y) v x w) r.word.2
    (subst (λ (y : At g.row.V.Denot). Gave (λ h. ClearMember o g.M.StepArgs.word h) (kind_of_member y.0.shape.owners g.M.StepArgs.word) y.0 x w)
    (c.is_empty.ensures.same c.if-is_empty.false) c.swap_out-out.ensures.gave)) in
    gave_there (λ h. ClearMember o q h) c.args.kind v x (empty c.args.kind) (clear_trades g.row.V.Denot o q c.args.kind) w c.args.table.now.table_id t
    (subst (λ (y : TableId). IsSized y v.shape) r.table.0 r.table.1)

pub let_go-released-requires-clause-owes : goal.let_go-released-requires-clause-owes
let_go-released-requires-clause-owes g c =
    let r = c.requires in let o = g.M.StepArgs.object in let q = c.args.member in let x = c.swap_out-out.result in let w = c.swap_out-out.new.seat.me.0 in
    let v = c.args.seat.now.me.0 in
    let t : Gave (λ h. ClearMember o q h) c.args.kind v x w =
    subst (λ (y : Kind). Gave (λ h. ClearMember o q h) y v x w) r.kind
    (subst (λ y. Gave (λ h. ClearMember o y h) (kind_of_member v.shape.owners y) v x w) r.word.2
    (subst (λ (y : At g.row.V.Denot). Gave (λ h. ClearMember o g.M.StepArgs.word h) (kind_of_member y.0.shape.owners g.M.StepArgs.word) y.0 x w)
    (c.is_empty.ensures.same c.if-is_empty.false) c.swap_out-out.ensures.gave)) in
    gave_owes (λ h. ClearMember o q h) c.args.kind v x (empty c.args.kind) (clear_trades g.row.V.Denot o q c.args.kind) c.swap_out-out.new.seat.me t
    r.rests.awake
    c.swap_out-out.ensures.seat.2

pub let_go-released-requires-clause-holds : goal.let_go-released-requires-clause-holds
let_go-released-requires-clause-holds g c =
    let r = c.requires in let o = g.M.StepArgs.object in let q = c.args.member in let x = c.swap_out-out.result in let w = c.swap_out-out.new.seat.me.0 in
    let v = c.args.seat.now.me.0 in
    let t : Gave (λ h. ClearMember o q h) c.args.kind v x w =
    subst (λ (y : Kind). Gave (λ h. ClearMember o q h) y v x w) r.kind
    (subst (λ y. Gave (λ h. ClearMember o y h) (kind_of_member v.shape.owners y) v x w) r.word.2
    (subst (λ (y : At g.row.V.Denot). Gave (λ h. ClearMember o g.M.StepArgs.word h) (kind_of_member y.0.shape.owners g.M.StepArgs.word) y.0 x w)
    (c.is_empty.ensures.same c.if-is_empty.false) c.swap_out-out.ensures.gave)) in
    gave_holds (λ h. ClearMember o q h) c.args.kind v x (empty c.args.kind) (clear_trades g.row.V.Denot o q c.args.kind) c.swap_out-out.new.seat.me t

pub returns-clause-cleared : goal.returns-clause-cleared
returns-clause-cleared g c =
    let r = c.requires in let o = g.M.StepArgs.object in let q = c.args.member in let x = c.swap_out-out.result in let w = c.swap_out-out.new.seat.me.0 in
    let v = c.args.seat.now.me.0 in
    let t : Gave (λ h. ClearMember o q h) c.args.kind v x w =
    subst (λ (y : Kind). Gave (λ h. ClearMember o q h) y v x w) r.kind
    (subst (λ y. Gave (λ h. ClearMember o y h) (kind_of_member v.shape.owners y) v x w) r.word.2
    (subst (λ (y : At g.row.V.Denot). Gave (λ h. ClearMember o g.M.StepArgs.word h) (kind_of_member y.0.shape.owners g.M.StepArgs.word) y.0 x w)
    (c.is_empty.ensures.same c.if-is_empty.false) c.swap_out-out.ensures.gave)) in
    out_and_gone (λ h. ClearMember o q h) c.args.kind v w c.let_go-released.new.seat.me.0 x c.let_go-released.result t c.let_go-released.ensures.gone

pub is_empty-requires-clause-table : goal.is_empty-requires-clause-table
is_empty-requires-clause-table g c = c.requires.table.0

pub is_empty-requires-clause-rests : goal.is_empty-requires-clause-rests
is_empty-requires-clause-rests g c = c.requires.rests

pub is_empty-requires-clause-word : goal.is_empty-requires-clause-word
is_empty-requires-clause-word g c = c.requires.word

pub is_empty-requires-clause-ends : goal.is_empty-requires-clause-ends
is_empty-requires-clause-ends g c = c.requires.ends

pub is_empty-requires-clause-room : goal.is_empty-requires-clause-room
is_empty-requires-clause-room g c = c.requires.room

pub returns-then-is_empty-clause-seat : goal.returns-then-is_empty-clause-seat
returns-then-is_empty-clause-seat g c =
    let r = c.requires in let t = c.is_empty.ensures.cleared c.if-is_empty.true in let e = c.is_empty.ensures.seat in
    (e.0, e.1, told_rests c.is_empty.new.seat.me t.0 r.rests.awake (t.1 ∙ r.rests.none))

pub returns-then-is_empty-clause-cleared : goal.returns-then-is_empty-clause-cleared
returns-then-is_empty-clause-cleared g c =
    let r = c.requires in let t = c.is_empty.ensures.cleared c.if-is_empty.true in let v = c.args.seat.now.me.0 in let w = c.is_empty.new.seat.me.0 in
    let o = g.M.StepArgs.object in
    subst (λ (x : CellWord). OutAndGone (λ h. ClearMember o c.args.member h) c.args.kind v x c.nothing.result w) (sym c.empty.ensures)
    record {
      between = w;
      out = record {
        handle = empty c.args.kind;
        kind = refl;
        shows = refl;
        event = subst (λ (y : ℕ × Kind). tells (ClearMember g.M.StepArgs.object y.0 (empty y.1)) v w)
            (λ i. (r.word.2 i, (ap (kind_of_member v.shape.owners) r.word.2 ∙ r.kind) i)) t.0;
      };
      gone = (c.nothing.ensures, refl);
    }

pub swap_out-out-requires-clause-table : goal.swap_out-out-requires-clause-table
swap_out-out-requires-clause-table g c = c.is_empty.ensures.seat.0 ∙ c.requires.table.0

pub swap_out-out-requires-clause-rests : goal.swap_out-out-requires-clause-rests
swap_out-out-requires-clause-rests g c =
    let r = c.requires in let same = c.is_empty.ensures.same c.if-is_empty.false in subst (λ (y : At g.row.V.Denot). Rests y) (sym same) r.rests

pub swap_out-out-requires-clause-word : goal.swap_out-out-requires-clause-word
swap_out-out-requires-clause-word g c = c.requires.word

pub swap_out-out-requires-clause-ends : goal.swap_out-out-requires-clause-ends
swap_out-out-requires-clause-ends g c =
    let r = c.requires in let same = c.is_empty.ensures.same c.if-is_empty.false in
    subst (λ (y : At g.row.V.Denot). Ends y.0 g.M.StepArgs.object c.args.block.0) (sym same) r.ends

pub swap_out-out-requires-clause-room : goal.swap_out-out-requires-clause-room
swap_out-out-requires-clause-room g c =
    let r = c.requires in let same = c.is_empty.ensures.same c.if-is_empty.false in room_at c.is_empty.new.seat.me c.args.seat.now.me same r.room

pub let_go-released-requires-clause-table : goal.let_go-released-requires-clause-table
let_go-released-requires-clause-table g c = c.swap_out-out.ensures.seat.0 ∙ (c.is_empty.ensures.seat.0 ∙ c.requires.table.0)

pub let_go-released-requires-clause-cell : goal.let_go-released-requires-clause-cell
let_go-released-requires-clause-cell g c = c.swap_out-out.ensures.cell

pub returns-clause-seat : goal.returns-clause-seat
returns-clause-seat g c =
    let a = c.let_go-released.ensures.seat in let b = c.swap_out-out.ensures.seat in let e = c.is_empty.ensures.seat in
    (a.0 ∙ (b.0 ∙ e.0), a.1 ∙ (b.1 ∙ e.1), a.2)
