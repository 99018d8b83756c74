-- Each turn leaves its thread fewer turns, and no other thread more.
use Rattle.std.proofs.Common.{◌≡◌, ℕ, suc, ◌+◌, ◌*◌, ◌<◌, ◌≤◌, true, ◌≢◌, List, [], ◌∷◌, length}
use Rattle.std.proofs.Common.{is_some, slice_set, Some, None, Option, sym, refl, ap, ◌∙◌, subst}
use Rattle.std.proofs.Common.{inl, inr, arith, get_or-set_other, get_or-set_same}
use Rattle.script_stepper.proofs.Prelude
use Prelude.{AbstractState, Act, acted, cases_eq, cases_lt, ended_in, Ending, exact, frame_of}
use Prelude.{FrameView, get_or_past, hand, Leave, made_in, next, next_of, nowhere, opening}
use Prelude.{parts_left, rest_of, rested_frame, same_Some, state_in, Task, turns_left, went, Wound}
use Rattle.std.proofs.lemmas.List.Sums.{sum_by-set}
use Rattle.script_stepper.specs.Running.{tasks_in}
use Rattle.script_stepper.proofs.Plays.{play, play_from}
use Rattle.script_stepper.proofs.Acting.{went_free, went_less}
use Rattle.step_core.proofs.telling.Leaves.{act_endings}
use Rattle.script_stepper.proofs.Tallies.{Tally, may_make, tally}
use Rattle.script_stepper.proofs.Unwinding.{rested_less, rested_parts, rested_totals}

-- the thread by an act, and where its endings have come then
abbrev pub by_act : AbstractState → ℕ → FrameView → ℕ → List Task → Act → FrameView
by_act c d w k ts a = went (state_in c) d w k ts a

abbrev pub wound_by : AbstractState → ℕ → FrameView → ℕ → List Task → Act → Wound
wound_by c d w k ts a = rested_frame (opening c.extent) d (acted exact (opening c.extent) d w.slots c.history a) (by_act c d w k ts a)

-- at most so many objects were made and so many last owners left; of the tasks at most these are left, and of the
-- endings' parts so many fewer or more
pub record Goes (most fewer : ℕ) (c : AbstractState) (w w' : FrameView) (ts : List Task) (x : Wound) : Type 0 where
  pub made : made_in x.history ≤ made_in c.history + most
  pub last : ℕ
  pub ended : ended_in x.history ≡ ended_in c.history + last
  pub parts : parts_left x.endings + fewer ≤ parts_left w.endings + 4 * last
  pub todo : length w'.todo ≤ length ts

by_tally : (c : AbstractState) (d : ℕ) (w : FrameView) (k : ℕ) (ts : List Task) (a : Act) (fewer : ℕ)
    → Tally (may_make a) c.history w.endings (acted exact (opening c.extent) d w.slots c.history a) (by_act c d w k ts a).endings
    → parts_left (wound_by c d w k ts a).endings + fewer ≤ parts_left (by_act c d w k ts a).endings
    → Goes (may_make a) fewer c w (by_act c d w k ts a) ts (wound_by c d w k ts a)
by_tally c d w k ts a fewer t p =
    let q = rested_totals (opening c.extent) d (acted exact (opening c.extent) d w.slots c.history a) (by_act c d w k ts a) in
    let q0 = q.0 in
    let q1 = q.1 in
    let m = t.made in
    let e = t.ended in
    let b = t.parts in
    record {
      made = omega (arith, m, q0);
      last = t.last;
      ended = omega (arith, e, q1);
      parts = omega (arith, b, p);
      todo = went_less (state_in c) d w k ts a;
    }

tallied : (c : AbstractState) (d : ℕ) (w : FrameView) (k : ℕ) (ts : List Task) (a : Act)
    → Tally (may_make a) c.history w.endings (acted exact (opening c.extent) d w.slots c.history a) (by_act c d w k ts a).endings
tallied c d w k ts a =
    subst (λ (es : List Ending). Tally (may_make a) c.history w.endings (acted exact (opening c.extent) d w.slots c.history a) es)
    (sym (act_endings (state_in c) d k w ts a)) (tally (opening c.extent) d k w.slots c.history w.endings a)

goes : (c : AbstractState) (d : ℕ) (w : FrameView) (k : ℕ) (ts : List Task) (a : Act)
    → Goes (may_make a) 0 c w (by_act c d w k ts a) ts (wound_by c d w k ts a)
goes c d w k ts a =
    let p = rested_parts (opening c.extent) d (acted exact (opening c.extent) d w.slots c.history a) (by_act c d w k ts a) in
    by_tally c d w k ts a 0 (tallied c d w k ts a) (omega (arith, p))

-- what was in hand leaves, and the endings get on
goes_less : (c : AbstractState) (d : ℕ) (w : FrameView) (k : ℕ) (ts : List Task) → 0 < parts_left w.endings
    → Goes 0 1 c w (by_act c d w k ts (Leave (hand w.slots))) ts (wound_by c d w k ts (Leave (hand w.slots)))
goes_less c d w k ts some =
    let a : Act = Leave (hand w.slots) in
    let t = tallied c d w k ts a in
    let b = t.parts in
    let p = rested_less (opening c.extent) d (acted exact (opening c.extent) d w.slots c.history a) (by_act c d w k ts a)
    (went_free (state_in c) d w k ts) (omega (arith, some, b)) in
    by_tally c d w k ts a 1 t (omega (arith, p))

makes_one : (a : Act) → may_make a ≤ 1
makes_one a = search arith

-- a thread's next act, with the tasks after it
abbrev pub next_frame : AbstractState → ℕ → FrameView → Task → FrameView
next_frame c d w t = by_act c d w t.statement (rest_of w.endings w.todo) t.act

abbrev pub next_wound : AbstractState → ℕ → FrameView → Task → Wound
next_wound c d w t = wound_by c d w t.statement (rest_of w.endings w.todo) t.act

-- it is a task, which may make an object, or it gets the endings further
pub record GoesNext (c : AbstractState) (d : ℕ) (w : FrameView) (t : Task) : Type 0 where
  pub most : ℕ
  pub fewer : ℕ
  pub goes : Goes most fewer c w (next_frame c d w t) (rest_of w.endings w.todo) (next_wound c d w t)
  pub own : 5 * length (rest_of w.endings w.todo) + 4 * most < 5 * length w.todo + fewer
  pub tasks : length (rest_of w.endings w.todo) + most ≤ length w.todo

goes_next : (c : AbstractState) (d : ℕ) (w : FrameView) (t : Task) (es : List Ending) (ts : List Task) → w.endings ≡ es → w.todo ≡ ts
    → next_of w.slots es ts ≡ Some t → GoesNext c d w t
goes_next c d w t [] [] p q e = absurd cc
goes_next c d w t [] (u ∷ ts) p q e =
    let rest : length (rest_of w.endings w.todo) ≡ length ts =
    ap (λ (l : List Ending). length (rest_of l w.todo)) p ∙ ap (λ (l : List Task). length (rest_of [] l)) q in
    let all : length w.todo ≡ suc (length ts) = ap length q in
    let one = makes_one t.act in
    record {
      most = may_make t.act;
      fewer = 0;
      goes = goes c d w t.statement (rest_of w.endings w.todo) t.act;
      own = omega (arith, rest, all, one);
      tasks = omega (arith, rest, all, one);
    }
goes_next c d w t (f ∷ es) ts p q e =
    let rest : length (rest_of w.endings w.todo) ≡ length w.todo = ap (λ (l : List Ending). length (rest_of l w.todo)) p in
    let some : parts_left w.endings ≡ parts_left (f ∷ es) = ap parts_left p in
    let leaves : Leave (hand w.slots) ≡ t.act = ap (λ (u : Task). u.act) (same_Some _ _ e) in
    record {
      most = 0;
      fewer = 1;
      goes =
          subst (λ (a : Act). Goes 0 1 c w (by_act c d w t.statement (rest_of w.endings w.todo) a) (rest_of w.endings w.todo)
          (wound_by c d w t.statement (rest_of w.endings w.todo) a)) leaves
          (goes_less c d w t.statement (rest_of w.endings w.todo) (omega (arith, some)));
      own = omega (arith, rest);
      tasks = omega (arith, rest);
    }

-- ---- turns

abbrev pub put : FrameView → Wound → FrameView
put w x = record { slots = x.slots; taken = w.taken; endings = x.endings; todo = w.todo }

tasks_put : (c : AbstractState) (d : ℕ) (w : FrameView) → d < length c.frame_views
    → tasks_in (slice_set c.frame_views d w) + length (frame_of c d).todo ≡ tasks_in c.frame_views + length w.todo
tasks_put c d w lt = sum_by-set (λ (u : FrameView). length u.todo) c.frame_views d w nowhere lt

own_less : (c : AbstractState) (d : ℕ) (t : Task) → d < length c.frame_views → GoesNext c d (frame_of c d) t
    → ended_in (play_from c d (frame_of c d) (Some t)).history ≤ made_in (play_from c d (frame_of c d) (Some t)).history
    → turns_left d (play_from c d (frame_of c d) (Some t)) < turns_left d c
own_less c d t lt g sound =
    let w = next_frame c d (frame_of c d) t in
    let x = next_wound c d (frame_of c d) t in
    let here : frame_of (play_from c d (frame_of c d) (Some t)) d ≡ put w x = get_or-set_same c.frame_views d (put w x) nowhere lt in
    let n = ap (λ (z : FrameView). length z.todo) here in
    let p = ap (λ (z : FrameView). parts_left z.endings) here in
    let s = tasks_put c d (put w x) lt in
    let a = g.goes.made in
    let b = g.goes.ended in
    let e = g.goes.parts in
    let f = g.goes.todo in
    let o = g.own in
    omega (arith, n, p, s, a, b, e, f, o, sound)

others_most : (c : AbstractState) (d e : ℕ) (t : Task) → e ≢ d → d < length c.frame_views → GoesNext c d (frame_of c d) t
    → turns_left e (play_from c d (frame_of c d) (Some t)) ≤ turns_left e c
others_most c d e t ne lt g =
    let w = next_frame c d (frame_of c d) t in
    let x = next_wound c d (frame_of c d) t in
    let there : frame_of (play_from c d (frame_of c d) (Some t)) e ≡ frame_of c e = get_or-set_other c.frame_views d e (put w x) nowhere ne in
    let n = ap (λ (z : FrameView). length z.todo) there in
    let p = ap (λ (z : FrameView). parts_left z.endings) there in
    let s = tasks_put c d (put w x) lt in
    let a = g.goes.made in
    let b = g.goes.ended in
    let f = g.goes.todo in
    let o = g.tasks in
    omega (arith, n, p, s, a, b, f, o)

-- the history so far is one in which no more objects ended than were made
abbrev pub InOrder : AbstractState → Type 0
InOrder c = ended_in c.history ≤ made_in c.history

most_at : (c : AbstractState) (d e : ℕ) (o : Option Task) → o ≡ next (frame_of c d) → d < length c.frame_views → InOrder (play_from c d (frame_of c d) o)
    → turns_left e (play_from c d (frame_of c d) o) ≤ turns_left e c
most_at c d e None q lt sound = omega arith
most_at c d e (Some t) q lt sound =
    let g = goes_next c d (frame_of c d) t (frame_of c d).endings (frame_of c d).todo refl refl (sym q) in
    elim (cases_eq e d) [
      | inl same ↦ (let l = own_less c d t lt g sound in
          let m : turns_left d (play_from c d (frame_of c d) (Some t)) ≤ turns_left d c = omega (arith, l) in
          subst (λ (i : ℕ). turns_left i (play_from c d (frame_of c d) (Some t)) ≤ turns_left i c) (sym same) m)
      | inr ne ↦ others_most c d e t ne lt g
    ]

less_at : (c : AbstractState) (d : ℕ) (o : Option Task) → o ≡ next (frame_of c d) → d < length c.frame_views
    → is_some o ≡ true → InOrder (play_from c d (frame_of c d) o)
    → turns_left d (play_from c d (frame_of c d) o) < turns_left d c
less_at c d None q lt e sound = absurd cc
less_at c d (Some t) q lt e sound =
    own_less c d t lt (goes_next c d (frame_of c d) t (frame_of c d).endings (frame_of c d).todo refl refl (sym q)) sound

pub play_less : (d : ℕ) (c : AbstractState) → d < length c.frame_views → is_some (next (frame_of c d)) ≡ true → InOrder (play d c)
    → turns_left d (play d c) < turns_left d c
play_less d c lt e sound = less_at c d (next (frame_of c d)) refl lt e sound

none_past : (c : AbstractState) (d : ℕ) → length c.frame_views ≤ d → play d c ≡ c
none_past c d le = ap (λ (w : FrameView). play_from c d w (next w)) (get_or_past c.frame_views d nowhere le)

-- no turn gives a thread more to do
pub play_most : (d e : ℕ) (c : AbstractState) → InOrder (play d c) → turns_left e (play d c) ≤ turns_left e c
play_most d e c sound =
    elim (cases_lt d (length c.frame_views)) [
      | inl lt ↦ most_at c d e (next (frame_of c d)) refl lt sound
      | inr le ↦ (let same = ap (turns_left e) (none_past c d le) in omega (arith, same))
    ]
