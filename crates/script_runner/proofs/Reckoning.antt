-- What a thread does, in what it makes, ends and says, and in the tasks that are left.
use Rattle.std.proofs.Common.{◌≡◌, ◌+◌, Bool, true, false, cond, List, [], ◌∷◌, IfSome, sym, refl}
use Rattle.std.proofs.Common.{ap, ◌∙◌, inl, inr, arith}
use Rattle.script_runner.proofs.Prelude.{Act, Ahead, ahead, ahead_of, AnAct, AnEnd, asked_in}
use Rattle.script_runner.proofs.Prelude.{cond_both, DoesAhead, Ending, Form, frame_settled}
use Rattle.script_runner.proofs.Prelude.{FrameView, hand, idle, is_full, KeepsDesks, objects_asked}
use Rattle.script_runner.proofs.Prelude.{Over, refuses, row, Said, slot_pointer, Slots, slots_idle}
use Rattle.script_runner.proofs.Prelude.{State, taken_idle, Task, TraceLabel}
use Rattle.script_runner.proofs.Tallying.{act_counts, ends_of, makes_of, mild_some, tells}
use Rattle.step_threads.specs.declared.programs.act.Act.TheVariants as act

-- tasks that are passed over ask for no object
idle_asks : (a : Act) (l : Slots) (taken : Bool) → idle a l taken ≡ true → objects_asked a ≡ 0
idle_asks (act.Make form) l taken is = absurd cc
idle_asks (act.Share k) l taken is = refl
idle_asks (act.Put k) l taken is = refl
idle_asks (act.Leave k) l taken is = refl
idle_asks (act.Clear k) l taken is = refl
idle_asks act.Drop l taken is = refl
idle_asks (act.Count k) l taken is = refl
idle_asks (act.Downgrade k) l taken is = refl
idle_asks (act.Lock k must) l taken is = refl
idle_asks (act.Expired k) l taken is = refl
idle_asks (act.Read k) l taken is = refl
idle_asks (act.FromThis k kind) l taken is = refl
idle_asks (act.Alias k j field) l taken is = refl
idle_asks (act.Move k) l taken is = refl
idle_asks (act.Ask q) l taken is = refl
idle_asks (act.Offer k c) l taken is = refl
idle_asks (act.Swap c) l taken is = refl
idle_asks (act.Exchange k c) l taken is = refl
idle_asks (act.Holds k c) l taken is = refl
idle_asks (act.Load c) l taken is = refl
idle_asks (act.Compare k c weak) l taken is = refl
idle_asks (act.OnShelf x) l taken is = refl

pub settled_asks : (l : Slots) (taken : Bool) (es : List Ending) (ts : List Task) → asked_in (frame_settled l taken es ts).todo ≡ asked_in ts
settled_asks l taken es [] = refl
settled_asks l taken es (t ∷ ts) =
    cond_both (idle t.act l taken) (frame_settled (slots_idle t.act l taken) (taken_idle t.act taken) es ts)
    (record { slots = l; taken = taken; endings = es; todo = t ∷ ts }) (λ w. asked_in w.todo ≡ asked_in (t ∷ ts))
    (λ is. let no = idle_asks t.act l taken is in
    let ih = settled_asks (slots_idle t.act l taken) (taken_idle t.act taken) es ts in omega (arith, no, ih))
    (λ is. refl)

ahead_asks : (l : Slots) (es : List Ending) (ts us : List Task) (t : Task) → ahead_of l es ts ≡ AnAct t us
    → objects_asked t.act + asked_in us ≡ asked_in ts
ahead_asks l [] [] us t is = absurd cc
ahead_asks l [] (v ∷ ts) us t is = same is
  where
    task_of : Ahead → Task
    task_of (AnAct a b) = a
    task_of _ = v

    rest_of : Ahead → List Task
    rest_of (AnAct a b) = b
    rest_of _ = ts

    same : AnAct v ts ≡ AnAct t us → objects_asked t.act + asked_in us ≡ objects_asked v.act + asked_in ts
    same e =
        let a : objects_asked v.act ≡ objects_asked t.act = ap (λ x. objects_asked (task_of x).act) e in
        let b : asked_in ts ≡ asked_in us = ap (λ x. asked_in (rest_of x)) e in omega (arith, a, b)
ahead_asks l (e ∷ es) ts us t is = go (is_full (slot_pointer l (hand l))) is
  where
    leave : Task
    leave = record { statement = e.statement; act = act.Leave (hand l) }

    task_of : Ahead → Task
    task_of (AnAct a b) = a
    task_of _ = leave

    rest_of : Ahead → List Task
    rest_of (AnAct a b) = b
    rest_of _ = ts

    go : (b : Bool) → cond b (AnAct leave ts) (AnEnd e es) ≡ AnAct t us → objects_asked t.act + asked_in us ≡ asked_in ts
    go true is =
        let a : 0 ≡ objects_asked t.act = ap (λ x. objects_asked (task_of x).act) is in
        let b : asked_in ts ≡ asked_in us = ap (λ x. asked_in (rest_of x)) is in omega (arith, a, b)
    go false is = absurd cc

module _ {V : Type 0} (worth : Form → V) where
  -- what a thread does, in the tasks that are left
  pub record Steps (m : FrameView) (x : TraceLabel V) (u : FrameView) : Type 0 where
    pub makes : makes_of x.event + refuses x.said.answer + asked_in u.todo ≡ asked_in m.todo
    pub ends : ends_of x.event ≡ tells x.said.ended
    pub keeps : IfSome x.event KeepsDesks

  pub does_at : (s : State) (m u : FrameView) (x : TraceLabel V) (a : Ahead) → ahead m ≡ a → DoesAhead worth s m x u a → Steps m x u
  does_at s m u x Over is does = absurd does
  does_at s m u x (AnAct t ts) is does =
      let y = row t.act m.slots m.taken does.reply in
      let c = act_counts worth s x.desk m.slots m.taken t.act does.reply x.event does.makes in
      let a = ahead_asks m.slots m.endings m.todo ts t is in
      let left : asked_in u.todo ≡ asked_in ts =
      ap (λ (w : FrameView). asked_in w.todo) does.goes ∙ settled_asks y.slots y.taken _ ts in
      let says : refuses x.said.answer ≡ refuses y.answer = ap (λ (z : Said). refuses z.answer) does.says in
      let made = c.makes in
      record {
        makes = omega (arith, a, left, says, made);
        ends = c.ends ∙ sym (ap (λ (z : Said). tells z.ended) does.says);
        keeps = c.keeps;
      }
  does_at s m u x (AnEnd e es) is (inl c) =
      let left : asked_in u.todo ≡ asked_in m.todo = ap (λ (w : FrameView). asked_in w.todo) c.goes in
      let mild = mild_some x.event _ c.makes refl refl tt in
      let made = mild.makes in
      let says : refuses x.said.answer ≡ 0 = ap (λ (z : Said). refuses z.answer) c.says in
      record {
        makes = omega (arith, left, made, says);
        ends = mild.ends ∙ sym (ap (λ (z : Said). tells z.ended) c.says);
        keeps = mild.keeps;
      }
  does_at s m u x (AnEnd e es) is (inr c) =
      let left : asked_in u.todo ≡ asked_in m.todo = ap (λ (w : FrameView). asked_in w.todo) c.goes in
      let mild = mild_some x.event _ c.makes refl refl tt in
      let made = mild.makes in
      let says : refuses x.said.answer ≡ 0 = ap (λ (z : Said). refuses z.answer) c.says in
      record {
        makes = omega (arith, left, made, says);
        ends = mild.ends ∙ sym (ap (λ (z : Said). tells z.ended) c.says);
        keeps = mild.keeps;
      }
