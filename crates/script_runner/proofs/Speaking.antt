-- How many lines a thread has: one at most for each task, and one for each object that ends by it.
use Rattle.std.proofs.Common.{◌≡◌, ℕ, ◌+◌, ◌≤◌, Bool, true, false, cond, ◌||◌, ◌≢◌, List, [], ◌∷◌}
use Rattle.std.proofs.Common.{◌++◌, length, is_some, ◌==◌, Some, None, Option, refl, ap, ◌∙◌, inl}
use Rattle.std.proofs.Common.{inr, append-nil, arith, length-append, ne_eqb}
use Rattle.script_runner.proofs.Prelude
use Prelude.{Ahead, ahead, ahead_of, AnAct, AnEnd, Answer, cond-false, cond_both, DoesAhead, Ended}
use Prelude.{Ending, Entry, first_frame, Form, frame_settled, FrameView, GoesThrough, hand, idle}
use Prelude.{is_full, leads, Left, lines, Marked, no_slots, onto, Opening, Over, Part, Reply, row}
use Prelude.{Said, said_on, slot_pointer, Slots, slots_idle, spoken, State, taken_idle, Task}
use Prelude.{tasks_from, told_in, TraceLabel, with_end}
use Rattle.script_runner.proofs.Logging.{own_said, said_append}
use Rattle.script_runner.proofs.Summing.{line_tells, told_append}
use Rattle.step_threads.specs.declared.programs.act.Act.TheVariants as act

-- the tasks of a part of a script, from its first act to the end of its names
abbrev pub tasks_of : Part → List Task
tasks_of part = tasks_from 1 part.calls (length part.kinds)

-- 1 where an act answers
abbrev answers : Option Answer → ℕ
answers a = cond (is_some a) 1 0

answers_once : (a : Option Answer) → answers a ≤ 1
answers_once None = omega arith
answers_once (Some a) = omega arith

-- a line answers, or tells of an object
line_short : (a : Option Answer) (e : Option Ended) (x : Said)
    → length (cond (is_some a || is_some e) (x ∷ []) []) ≤ answers a + cond (is_some e) 1 0
line_short None None x = omega arith
line_short None (Some e) x = omega arith
line_short (Some a) None x = omega arith
line_short (Some a) (Some e) x = omega arith

-- of tasks that are passed over none comes again
settled_fewer : (l : Slots) (taken : Bool) (es : List Ending) (ts : List Task) → length (frame_settled l taken es ts).todo ≤ length ts
settled_fewer l taken es [] = omega arith
settled_fewer l taken es (t ∷ ts) =
    cond_both (idle t.act l taken) (frame_settled (slots_idle t.act l taken) (taken_idle t.act taken) es ts)
    (record { slots = l; taken = taken; endings = es; todo = t ∷ ts }) (λ w. length w.todo ≤ length (t ∷ ts))
    (λ is. let ih = settled_fewer (slots_idle t.act l taken) (taken_idle t.act taken) es ts in omega (arith, ih))
    (λ is. omega arith)

-- what came out of a member leaves without an answer
leave_silent : (k : ℕ) (l : Slots) (taken : Bool) (r : Reply) → answers (row (act.Leave k) l taken r).answer ≡ 0
leave_silent k l taken (Left last e) = refl
leave_silent k l taken r = refl

-- an act that answers is one of the tasks
ahead_takes : (l : Slots) (es : List Ending) (ts us : List Task) (t : Task) (taken : Bool) (r : Reply) → ahead_of l es ts ≡ AnAct t us
    → answers (row t.act l taken r).answer + length us ≤ length ts
ahead_takes l [] [] us t taken r is = absurd cc
ahead_takes l [] (v ∷ ts) us t taken r is =
    let a = answers_once (row t.act l taken r).answer in
    let b : length ts ≡ length us = ap (λ x. length (rest_of x)) is in omega (arith, a, b)
  where
    rest_of : Ahead → List Task
    rest_of (AnAct a b) = b
    rest_of _ = ts
ahead_takes l (e ∷ es) ts us t taken r is = go (is_full (slot_pointer l (hand l))) is
  where
    leave : Task
    leave = record { statement = e.statement; act = act.Leave (hand l) }

    task_of : Ahead → Task
    task_of (AnAct a b) = a
    task_of _ = leave

    rest_of : Ahead → List Task
    rest_of (AnAct a b) = b
    rest_of _ = ts

    go : (b : Bool) → cond b (AnAct leave ts) (AnEnd e es) ≡ AnAct t us → answers (row t.act l taken r).answer + length us ≤ length ts
    go true is =
        let a : answers (row (act.Leave (hand l)) l taken r).answer ≡ answers (row t.act l taken r).answer =
        ap (λ x. answers (row (task_of x).act l taken r).answer) is in
        let b : length ts ≡ length us = ap (λ x. length (rest_of x)) is in
        let c = leave_silent (hand l) l taken r in omega (arith, a, b, c)
    go false is = absurd cc

first_fewer : (part : Part) → length (first_frame part).todo ≤ length (tasks_of part)
first_fewer part = settled_fewer (no_slots (length part.kinds)) false [] (tasks_of part)

-- what another says is passed
passed_over : (n d : ℕ) (x : Said) (b : Bool) → d ≢ n → said_on n (cond b ((d, x) ∷ []) []) ≡ []
passed_over n d x true ne = cond-false (d == n) (x ∷ []) [] (ne_eqb d n ne)
passed_over n d x false ne = refl

module _ {V : Type 0} where
  does_briefly : (worth : Form → V) (s : State) (m u : FrameView) (x : TraceLabel V) (a : Ahead) → ahead m ≡ a → DoesAhead worth s m x u a
      → answers x.said.answer + length u.todo ≤ length m.todo
  does_briefly worth s m u x Over is does = absurd does
  does_briefly worth s m u x (AnAct t ts) is does =
      let y = row t.act m.slots m.taken does.reply in
      let a = ahead_takes m.slots m.endings m.todo ts t m.taken does.reply is in
      let es = with_end t.statement y.ending m.endings in
      let left : length u.todo ≡ length (frame_settled y.slots y.taken es ts).todo = ap (λ (w : FrameView). length w.todo) does.goes in
      let few = settled_fewer y.slots y.taken es ts in
      let says : answers x.said.answer ≡ answers y.answer = ap (λ (z : Said). answers z.answer) does.says in
      omega (arith, a, left, few, says)
  does_briefly worth s m u x (AnEnd e es) is (inl c) =
      let left : length u.todo ≡ length m.todo = ap (λ (w : FrameView). length w.todo) c.goes in
      let says : answers x.said.answer ≡ 0 = ap (λ (z : Said). answers z.answer) c.says in omega (arith, left, says)
  does_briefly worth s m u x (AnEnd e es) is (inr c) =
      let left : length u.todo ≡ length m.todo = ap (λ (w : FrameView). length w.todo) c.goes in
      let says : answers x.said.answer ≡ 0 = ap (λ (z : Said). answers z.answer) c.says in omega (arith, left, says)

  module _ (worth : Form → V) (z : Opening) (n : ℕ) (w : FrameView) where
    -- each line takes a task, or tells of an object that ends
    pub lines_few : (l : List (TraceLabel V)) (u : FrameView) → GoesThrough worth z [] n w l u
        → length (said_on n (lines l)) + length u.todo ≤ length w.todo + told_in (said_on n (lines l))
    lines_few [] u goes = let left : length u.todo ≡ length w.todo = ap (λ (x : FrameView). length x.todo) goes in omega (arith, left)
    lines_few (x ∷ l) u (inl goes) =
        let ih = lines_few l u goes.1 in
        let y = x.said in
        let same : said_on n (lines (x ∷ l)) ≡ said_on n (lines l) =
        said_append n (lines l) (spoken x.desk y)
        ∙ (ap (λ k. said_on n (lines l) ++ k) (passed_over n x.desk y (is_some y.answer || is_some y.ended) goes.0)
        ∙ append-nil (said_on n (lines l))) in
        let a = ap length same in let b = ap told_in same in omega (arith, ih, a, b)
    lines_few (x ∷ l) u (inr goes) =
        let m = goes.1.0 in
        let ih = lines_few l m goes.1.1 in
        let y = x.said in
        let line = cond (is_some y.answer || is_some y.ended) (y ∷ []) [] in
        let step = does_briefly worth (leads z (onto [] l)) m u x (ahead m) refl goes.1.2 in
        let own : said_on n (spoken x.desk y) ≡ line =
        ap (λ d. said_on n (spoken d y)) goes.0 ∙ own_said n y (is_some y.answer || is_some y.ended) in
        let more : said_on n (lines (x ∷ l)) ≡ said_on n (lines l) ++ line =
        said_append n (lines l) (spoken x.desk y) ∙ ap (λ k. said_on n (lines l) ++ k) own in
        let a = ap length more ∙ length-append (said_on n (lines l)) line in
        let b = ap told_in more ∙ told_append (said_on n (lines l)) line in
        let c = line_short y.answer y.ended y in
        let d = line_tells y.statement y.answer y.ended y refl in
        omega (arith, ih, step, a, b, c, d)

  -- and all that it has at the end
  pub marked_few : (worth : Form → V) (z : Opening) (h : List (Entry V)) (n : ℕ) (part : Part) (l : List Said)
      → Marked worth z h n part l → length l ≤ length (tasks_of part) + told_in l
  marked_few worth z h n part l m =
      let few = lines_few worth z n (first_frame part) m.trace_labels m.last m.goes in
      let a = ap length m.says in let b = ap told_in m.says in
      let first = first_fewer part in omega (arith, few, a, b, first)
