use Rattle.std.proofs.Common.{◌≡◌, Bool, false, cond, slice_set, None, Option, option_map, sym}
use Rattle.std.proofs.Common.{refl, ap, ◌∙◌, ⊎_elim}
use Rattle.step_threads.proofs.Prelude.{done_on, ended_by, ending_by, Event, frame_view, FrameView}
use Rattle.step_threads.proofs.Prelude.{Handle, is_last, leave, model_state, on, plain, Quiet}
use Rattle.step_threads.proofs.Prelude.{Rest, rest, slot_pointer, step_of_act, task_at}
use Rattle.step_threads.specs.declared.programs.act.Act.TheVariants as act
use Rattle.step_threads.proofs.Frames.{left_taken}
use Rattle.step_threads.proofs.Endings.{HasLeft, begins_room, ending_left, fits_left, room_weak}
use Rattle.step_threads.proofs.LeaveSteps.{stepped_left, went_left}
use Rattle.step_threads.proofs.Threads.{leave_empty}
use Rattle.step_threads.proofs.thread.Thread.leave.Goals as goal

pub left-ended-requires-clause-ending : goal.left-ended-requires-clause-ending
left-ended-requires-clause-ending c = λ x.
    let v = c.args.table.now in
    let slots = c.args.self.now.frame.registers.slots.items in
    let h : c.get-held.result ≡ slot_pointer slots c.args.name = c.get-held.ensures ∙ ap (slot_pointer slots) c.from.ensures in
    let is : c.leave-last.new.table ≡ done_on (leave (model_state v)) v c.args.desk c.get-held.result =
    c.leave-last.ensures.table ∙ ap (done_on (leave (model_state v)) v c.args.desk) (sym h) in
    let said : c.leave-last.result ≡ on (is_last (model_state v)) false c.get-held.result =
    c.leave-last.ensures.last ∙ ap (on (is_last (model_state v)) false) (sym h) in
    ending_left v c.leave-last.new.table c.args.desk c.get-held.result c.leave-last.result x is said

pub left-ended-requires-clause-begins : goal.left-ended-requires-clause-begins
left-ended-requires-clause-begins c = λ x.
    let v = c.args.table.now in
    let slots = c.args.self.now.frame.registers.slots.items in
    let h : c.get-held.result ≡ slot_pointer slots c.args.name = c.get-held.ensures ∙ ap (slot_pointer slots) c.from.ensures in
    let is : c.leave-last.new.table ≡ done_on (leave (model_state v)) v c.args.desk c.get-held.result =
    c.leave-last.ensures.table ∙ ap (done_on (leave (model_state v)) v c.args.desk) (sym h) in
    let said : c.leave-last.result ≡ on (is_last (model_state v)) false c.get-held.result =
    c.leave-last.ensures.last ∙ ap (on (is_last (model_state v)) false) (sym h) in
    begins_room v c.leave-last.new.table c.args.desk c.args.self.now c.leave-last.new.self
    c.get-held.result c.leave-last.result x c.assert_invariant-2.ensures c.requires.begins.fits c.requires.begins.none c.leave-last.ensures.on.endings is said

pub left-ended-requires-clause-room : goal.left-ended-requires-clause-room
left-ended-requires-clause-room c = λ x.
    let v = c.args.table.now in
    let slots = c.args.self.now.frame.registers.slots.items in
    let h : c.get-held.result ≡ slot_pointer slots c.args.name = c.get-held.ensures ∙ ap (slot_pointer slots) c.from.ensures in
    let is : c.leave-last.new.table ≡ done_on (leave (model_state v)) v c.args.desk c.get-held.result =
    c.leave-last.ensures.table ∙ ap (done_on (leave (model_state v)) v c.args.desk) (sym h) in
    let said : c.leave-last.result ≡ on (is_last (model_state v)) false c.get-held.result =
    c.leave-last.ensures.last ∙ ap (on (is_last (model_state v)) false) (sym h) in
    room_weak v c.leave-last.new.table c.args.desk c.args.self.now c.get-held.result c.leave-last.result x c.assert_invariant.ensures
    c.assert_invariant-2.ensures c.requires.begins.fits c.requires.begins.rest is said

pub returns-clause-fits : goal.returns-clause-fits
returns-clause-fits c =
    let v = c.args.table.now in
    let slots = c.args.self.now.frame.registers.slots.items in
    let h : c.get-held.result ≡ slot_pointer slots c.args.name = c.get-held.ensures ∙ ap (slot_pointer slots) c.from.ensures in
    let is : c.leave-last.new.table ≡ done_on (leave (model_state v)) v c.args.desk c.get-held.result =
    c.leave-last.ensures.table ∙ ap (done_on (leave (model_state v)) v c.args.desk) (sym h) in
    let said : c.leave-last.result ≡ on (is_last (model_state v)) false c.get-held.result =
    c.leave-last.ensures.last ∙ ap (on (is_last (model_state v)) false) (sym h) in
    let has : HasLeft c.args.desk c.args.self.now.frame c.leave-last.new.self c.left-ended.new.self.frame c.leave-last.new.table c.statement-statement.result
    c.get-held.result c.leave-last.result =
    record {
      gone = c.leave-last.ensures.on;
      empty = ap (λ (w : FrameView). w.taken) c.leave-last.ensures.frame_view ∙ left_taken c.args.self.now.frame (slice_set slots c.args.name plain)
          (leave_empty c.args.self.now.frame c.args.name c.requires.begins.within c.requires.begins.fits.ready c.requires.act);
      same = c.left-ended.ensures.frame;
      list = c.left-ended.ensures.endings;
      roomy = c.left-ended.ensures.roomy;
    } in
    fits_left c.args.desk c.args.self.now c.left-ended.new.self v c.leave-last.new.table c.leave-last.new.self
    c.statement-statement.result c.get-held.result c.leave-last.result c.assert_invariant.ensures c.assert_invariant-2.ensures
    c.requires.begins.fits c.requires.begins.rest c.requires.begins.none is said has c.left-ended.ensures.pending_call c.left-ended.ensures.stock

pub returns-clause-stepped : goal.returns-clause-stepped
returns-clause-stepped c =
    let v = c.args.table.now in
    let slots = c.args.self.now.frame.registers.slots.items in
    let h : c.get-held.result ≡ slot_pointer slots c.args.name = c.get-held.ensures ∙ ap (slot_pointer slots) c.from.ensures in
    let is : c.leave-last.new.table ≡ done_on (leave (model_state v)) v c.args.desk c.get-held.result =
    c.leave-last.ensures.table ∙ ap (done_on (leave (model_state v)) v c.args.desk) (sym h) in
    let said : c.leave-last.result ≡ on (is_last (model_state v)) false c.get-held.result =
    c.leave-last.ensures.last ∙ ap (on (is_last (model_state v)) false) (sym h) in
    let has : HasLeft c.args.desk c.args.self.now.frame c.leave-last.new.self c.left-ended.new.self.frame c.leave-last.new.table c.statement-statement.result
    c.get-held.result c.leave-last.result =
    record {
      gone = c.leave-last.ensures.on;
      empty = ap (λ (w : FrameView). w.taken) c.leave-last.ensures.frame_view ∙ left_taken c.args.self.now.frame (slice_set slots c.args.name plain)
          (leave_empty c.args.self.now.frame c.args.name c.requires.begins.within c.requires.begins.fits.ready c.requires.act);
      same = c.left-ended.ensures.frame;
      list = c.left-ended.ensures.endings;
      roomy = c.left-ended.ensures.roomy;
    } in
    ⊎_elim
    (λ e. stepped_left c.args.desk c.args.self.now c.left-ended.new.self v c.leave-last.new.table c.says.result
    (act.Leave c.args.name) c.get-held.result c.leave-last.result
    c.left-ended.result c.statement-statement.result c.statement-statement.ensures c.requires.begins.rest c.requires.begins.none c.requires.begins.within e refl
    (ap (λ (o : Option Handle). step_of_act v c.args.desk (frame_view c.args.self.now.frame) (task_at c.args.self.now.frame).statement
    (rest c.args.self.now.frame)
    (act.Leave c.args.name) (option_map (leave (model_state v)) o) Rest) (sym h))
    refl (ap (λ (o : Option Handle). ended_by (model_state v) o) (sym h)) is said
    c.left-ended.ensures.ended c.left-ended.ensures.pending_call
    (went_left c.args.desk c.args.self.now.frame c.leave-last.new.self c.left-ended.new.self.frame v c.leave-last.new.table
    (act.Leave c.args.name) c.get-held.result c.leave-last.result c.statement-statement.result has
    (ap (λ (o : Option Handle). ending_by (on (is_last (model_state v)) false o) o) (sym h)) said c.leave-last.ensures.frame_view)
    (c.says.ensures ∙ ap (λ (b : Bool). cond b (Event (record { statement = c.statement-statement.result; answer = None; ended = c.left-ended.result }))
    (Quiet (record { statement = c.statement-statement.result; answer = None; ended = c.left-ended.result }))) c.is_some.ensures))
    (λ e. stepped_left c.args.desk c.args.self.now c.left-ended.new.self v c.leave-last.new.table c.says.result
    (act.Clear c.args.name) c.get-held.result c.leave-last.result
    c.left-ended.result c.statement-statement.result c.statement-statement.ensures c.requires.begins.rest c.requires.begins.none c.requires.begins.within e refl
    (ap (λ (o : Option Handle). step_of_act v c.args.desk (frame_view c.args.self.now.frame) (task_at c.args.self.now.frame).statement
    (rest c.args.self.now.frame)
    (act.Clear c.args.name) (option_map (leave (model_state v)) o) Rest) (sym h))
    refl (ap (λ (o : Option Handle). ended_by (model_state v) o) (sym h)) is said
    c.left-ended.ensures.ended c.left-ended.ensures.pending_call
    (went_left c.args.desk c.args.self.now.frame c.leave-last.new.self c.left-ended.new.self.frame v c.leave-last.new.table
    (act.Clear c.args.name) c.get-held.result c.leave-last.result c.statement-statement.result has
    (ap (λ (o : Option Handle). ending_by (on (is_last (model_state v)) false o) o) (sym h)) said c.leave-last.ensures.frame_view)
    (c.says.ensures ∙ ap (λ (b : Bool). cond b (Event (record { statement = c.statement-statement.result; answer = None; ended = c.left-ended.result }))
    (Quiet (record { statement = c.statement-statement.result; answer = None; ended = c.left-ended.result }))) c.is_some.ensures))
    c.requires.act
