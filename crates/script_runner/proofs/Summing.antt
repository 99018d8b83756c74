-- What a history makes and ends is what its threads do, and what these say of it.
use Rattle.std.proofs.Common.{◌≡◌, ℕ, ◌+◌, ◌<◌, Bool, true, false, cond, ◌||◌, ◌≢◌, ◌⊎◌, List, []}
use Rattle.std.proofs.Common.{◌∷◌, ◌++◌, length, is_some, IfSome, ◌==◌, Some, None, Option, sym}
use Rattle.std.proofs.Common.{refl, ap, ◌∙◌, subst, inl, inr, append-nil, arith, eq-eqb, ne_eqb}
use Rattle.script_runner.proofs.Prelude
use Prelude.{ahead, ahead_of, AllAbove, AllByRecursion, AnAct, AnEnd, Answer, AreRising, asked_in}
use Prelude.{cond-false, cond-true, cond_both, count_ended_by, count_ended_in, count_made_in}
use Prelude.{Ended, Ending, ends, Entry, Event, first_frame, Form, FrameView, GoesThrough, hand}
use Prelude.{Has, is_full, IsSplitOrJoin, KeepsDesks, leads, lines, made_by, makes, Marked}
use Prelude.{no_slots, onto, Opening, Over, Part, refuses, Said, said_on, slot_pointer, Slots}
use Prelude.{spoken, Task, tasks_from, told_in, TraceLabel}
use Rattle.control_word.specs.declared.model.event.Event.TheVariants as event
use Rattle.script_runner.proofs.Logging.{own_said, said_append}
use Rattle.script_runner.proofs.Reckoning.{does_at, settled_asks}
use Rattle.script_runner.proofs.Tallying.{ends_of, makes_of}
use Rattle.script_runner.specs.Totals.{refused_in}
use Rattle.step_threads.specs.declared.programs.act.Act.TheVariants as act
use Rattle.step_threads.specs.TraceLabels.{put_on}

-- lines of two lists
pub refused_append : (xs ys : List Said) → refused_in (xs ++ ys) ≡ refused_in xs + refused_in ys
refused_append [] ys = omega arith
refused_append (x ∷ xs) ys = let ih = refused_append xs ys in omega (arith, ih)

pub told_append : (xs ys : List Said) → told_in (xs ++ ys) ≡ told_in xs + told_in ys
told_append [] ys = omega arith
told_append (x ∷ xs) ys = let ih = told_append xs ys in omega (arith, ih)

pub line_refuses : (k : ℕ) (a : Option Answer) (e : Option Ended) (x : Said) → x ≡ record { statement = k; answer = a; ended = e }
    → refused_in (cond (is_some a || is_some e) (x ∷ []) []) ≡ refuses a
line_refuses k None None x is = refl
line_refuses k None (Some e) x is = let t : refuses x.answer ≡ 0 = ap (λ (y : Said). refuses y.answer) is in omega (arith, t)
line_refuses k (Some a) e x is = let t : refuses x.answer ≡ refuses (Some a) = ap (λ (y : Said). refuses y.answer) is in omega (arith, t)

pub line_tells : (k : ℕ) (a : Option Answer) (e : Option Ended) (x : Said) → x ≡ record { statement = k; answer = a; ended = e }
    → told_in (cond (is_some a || is_some e) (x ∷ []) []) ≡ cond (is_some e) 1 0
line_tells k None None x is = refl
line_tells k None (Some e) x is =
    let t : ◌≡◌ {A = ℕ} (cond (is_some x.ended) 1 0) 1 = ap {B = ℕ} (λ (y : Said). cond (is_some y.ended) 1 0) is in
    omega (arith, t)
line_tells k (Some a) e x is =
    let t : ◌≡◌ {A = ℕ} (cond (is_some x.ended) 1 0) (cond (is_some e) 1 0) =
    ap {B = ℕ} (λ (y : Said). cond (is_some y.ended) 1 0) is in
    omega (arith, t)

others_said : (n d : ℕ) (x : Said) → d ≢ n → (b : Bool) → said_on n (cond b ((d, x) ∷ []) []) ≡ []
others_said n d x ne true = cond-false (d == n) (x ∷ []) [] (ne_eqb d n ne)
others_said n d x ne false = refl

-- a thread at its end has no task left
none_left : (l : Slots) (es : List Ending) (ts : List Task) → ahead_of l es ts ≡ Over → asked_in ts ≡ 0
none_left l [] [] over = refl
none_left l [] (t ∷ ts) over = absurd cc
none_left l (e ∷ es) ts over = absurd (go (is_full (slot_pointer l (hand l))) over)
  where
    go : (b : Bool) → cond b (AnAct (record { statement = e.statement; act = act.Leave (hand l) }) ts) (AnEnd e es) ≡ Over → ⊥
    go true is = cc
    go false is = cc

-- a number that is counted once, under one of the names
abbrev once : List ℕ → ℕ → ℕ → ℕ
once [] d k = 0
once (n ∷ ns) d k = cond (d == n) k 0 + once ns d k

once_above : (n k : ℕ) (ns : List ℕ) → AllAbove n ns → once ns n k ≡ 0
once_above n k [] above = refl
once_above n k (m ∷ ns) above =
    let low = above.0 in
    let a = cond-false (n == m) k 0 (ne_eqb n m (λ is. omega (arith, low, is))) in
    let ih = once_above n k ns above.1 in omega (arith, a, ih)

once_in : (d k : ℕ) (ns : List ℕ) → AreRising ns → Has d ns → once ns d k ≡ k
once_in d k [] rising has = absurd has
once_in d k (n ∷ ns) rising (inl is) =
    let a = cond-true (d == n) k 0 (eq-eqb d n is) in
    let b : once ns d k ≡ 0 = ap (λ x. once ns x k) is ∙ once_above n k ns rising.0 in omega (arith, a, b)
once_in d k (n ∷ ns) rising (inr has) =
    let low = above_in n d ns rising.0 has in
    let a = cond-false (d == n) k 0 (ne_eqb d n (λ is. omega (arith, low, is))) in
    let ih = once_in d k ns rising.1 has in omega (arith, a, ih)
  where
    above_in : (n d : ℕ) (ns : List ℕ) → AllAbove n ns → Has d ns → n < d
    above_in n d [] above has = absurd has
    above_in n d (m ∷ ns) above (inl is) = subst (λ x. n < x) (sym is) above.0
    above_in n d (m ∷ ns) above (inr has) = above_in n d ns above.1 has

once_none : (d : ℕ) (ns : List ℕ) → once ns d 0 ≡ 0
once_none d [] = refl
once_none d (n ∷ ns) =
    let a = cond_both {A = ℕ} (d == n) 0 0 (λ k. k ≡ 0) (λ is. refl) (λ is. refl) in let ih = once_none d ns in omega (arith, a, ih)

module _ {V : Type 0} where
  -- an event of another
  made_else : (n d : ℕ) (e : Option (Event V)) (h : List (Entry V)) → d ≢ n → made_by n (put_on d e h) ≡ made_by n h
  made_else n d None h ne = refl
  made_else n d (Some v) h ne = let t = cond-false (d == n) (makes v) 0 (ne_eqb d n ne) in omega (arith, t)

  ended_else : (n d : ℕ) (e : Option (Event V)) (h : List (Entry V)) → d ≢ n → count_ended_by n (put_on d e h) ≡ count_ended_by n h
  ended_else n d None h ne = refl
  ended_else n d (Some v) h ne = let t = cond-false (d == n) (ends v) 0 (ne_eqb d n ne) in omega (arith, t)

  -- and the name's own
  made_own : (n d : ℕ) (e : Option (Event V)) (h : List (Entry V)) → d ≡ n → made_by n (put_on d e h) ≡ makes_of e + made_by n h
  made_own n d None h is = omega arith
  made_own n d (Some v) h is = ap (λ k. k + made_by n h) (cond-true (d == n) (makes v) 0 (eq-eqb d n is))

  ended_own : (n d : ℕ) (e : Option (Event V)) (h : List (Entry V)) → d ≡ n → count_ended_by n (put_on d e h) ≡ ends_of e + count_ended_by n h
  ended_own n d None h is = omega arith
  ended_own n d (Some v) h is = ap (λ k. k + count_ended_by n h) (cond-true (d == n) (ends v) 0 (eq-eqb d n is))

  -- what a name does in a history are no splits and joins
  abbrev pub KeepsAt : ℕ → List (Entry V) → Type 0
  KeepsAt n h = AllByRecursion (λ (e : Entry V). e.desk ≡ n → KeepsDesks e.event) h

  keeps_on : (n d : ℕ) (e : Option (Event V)) (h : List (Entry V)) → (d ≡ n → IfSome e KeepsDesks) → KeepsAt n h → KeepsAt n (put_on d e h)
  keeps_on n d None h new keeps = keeps
  keeps_on n d (Some v) h new keeps = (new, keeps)

  record Tallied (n : ℕ) (w : FrameView) (l : List (TraceLabel V)) (u : FrameView) : Type 0 where
    pub made : made_by n (onto [] l) + refused_in (said_on n (lines l)) + asked_in u.todo ≡ asked_in w.todo
    pub ended : count_ended_by n (onto [] l) ≡ told_in (said_on n (lines l))
    pub keeps : KeepsAt n (onto [] l)

  module _ (worth : Form → V) (z : Opening) (n : ℕ) (w : FrameView) where
    tallied : (l : List (TraceLabel V)) (u : FrameView) → GoesThrough worth z [] n w l u → Tallied n w l u
    tallied [] u goes =
        let left : asked_in u.todo ≡ asked_in w.todo = ap (λ (x : FrameView). asked_in x.todo) goes in
        record { made = omega (arith, left); ended = refl; keeps = tt }
    tallied (x ∷ l) u (inl goes) =
        let ih = tallied l u goes.1 in
        let h = onto [] l in
        let same : said_on n (lines (x ∷ l)) ≡ said_on n (lines l) =
        said_append n (lines l) (spoken x.desk x.said)
        ∙ (ap (λ k. said_on n (lines l) ++ k) (others_said n x.desk x.said goes.0 (is_some x.said.answer || is_some x.said.ended))
        ∙ append-nil (said_on n (lines l))) in
        let a = made_else n x.desk x.event h goes.0 in
        let b = ap refused_in same in
        let c = ih.made in
        record {
          made = omega (arith, a, b, c);
          ended = ended_else n x.desk x.event h goes.0 ∙ (ih.ended ∙ sym (ap told_in same));
          keeps = keeps_on n x.desk x.event h (λ is. absurd (goes.0 is)) ih.keeps;
        }
    tallied (x ∷ l) u (inr goes) =
        let m = goes.1.0 in
        let ih = tallied l m goes.1.1 in
        let h = onto [] l in
        let y = x.said in
        let step = does_at worth (leads z h) m u x (ahead m) refl goes.1.2 in
        let own : said_on n (spoken x.desk y) ≡ cond (is_some y.answer || is_some y.ended) (y ∷ []) [] =
        ap (λ d. said_on n (spoken d y)) goes.0 ∙ own_said n y (is_some y.answer || is_some y.ended) in
        let more : said_on n (lines (x ∷ l)) ≡ said_on n (lines l) ++ cond (is_some y.answer || is_some y.ended) (y ∷ []) [] =
        said_append n (lines l) (spoken x.desk y) ∙ ap (λ k. said_on n (lines l) ++ k) own in
        let a = made_own n x.desk x.event h goes.0 in
        let b = ap refused_in more ∙ refused_append (said_on n (lines l)) (cond (is_some y.answer || is_some y.ended) (y ∷ []) []) in
        let c = line_refuses y.statement y.answer y.ended y refl in
        let d = ih.made in
        let f = step.makes in
        let p = ended_own n x.desk x.event h goes.0 in
        let q = ap told_in more ∙ told_append (said_on n (lines l)) (cond (is_some y.answer || is_some y.ended) (y ∷ []) []) in
        let r = line_tells y.statement y.answer y.ended y refl in
        let s = ih.ended in
        let t = step.ends in
        record {
          made = omega (arith, a, b, c, d, f);
          ended = omega (arith, p, q, r, s, t);
          keeps = keeps_on n x.desk x.event h (λ is. step.keeps) ih.keeps;
        }

  module _ (worth : Form → V) (z : Opening) (h : List (Entry V)) (n : ℕ) (part : Part) (l : List Said) (m : Marked worth z h n part l) where
    all : Tallied n (first_frame part) m.trace_labels m.last
    all = tallied worth z n (first_frame part) m.trace_labels m.last m.goes

    -- a thread made as many objects as its tasks ask for, but those that were refused
    pub marked_made : made_by n h + refused_in l ≡ asked_in (tasks_from 1 part.calls (length part.kinds))
    marked_made =
        let a = all.made in
        let b = none_left m.last.slots m.last.endings m.last.todo m.over in
        let c = settled_asks (no_slots (length part.kinds)) false [] (tasks_from 1 part.calls (length part.kinds)) in
        let d = ap (made_by n) m.events in
        let e = ap refused_in m.says in
        omega (arith, a, b, c, d, e)

    -- and of as many it told that they end as it was the last owner of
    pub marked_ended : count_ended_by n h ≡ told_in l
    marked_ended = ap (count_ended_by n) (sym m.events) ∙ (all.ended ∙ ap told_in m.says)

    pub marked_keeps : KeepsAt n h
    marked_keeps = subst (KeepsAt n) m.events all.keeps

  -- what is so of all names together
  abbrev pub all_made : List ℕ → List (Entry V) → ℕ
  all_made [] h = 0
  all_made (n ∷ ns) h = made_by n h + all_made ns h

  abbrev pub all_ended : List ℕ → List (Entry V) → ℕ
  all_ended [] h = 0
  all_ended (n ∷ ns) h = count_ended_by n h + all_ended ns h

  made_more : (e : Entry V) (h : List (Entry V)) (ns : List ℕ) → all_made ns (e ∷ h) ≡ once ns e.desk (makes e.event) + all_made ns h
  made_more e h [] = refl
  made_more e h (n ∷ ns) = let ih = made_more e h ns in omega (arith, ih)

  ended_more : (e : Entry V) (h : List (Entry V)) (ns : List ℕ) → all_ended ns (e ∷ h) ≡ once ns e.desk (ends e.event) + all_ended ns h
  ended_more e h [] = refl
  ended_more e h (n ∷ ns) = let ih = ended_more e h ns in omega (arith, ih)

  made_empty : (ns : List ℕ) (h : List (Entry V)) → h ≡ [] → all_made ns h ≡ 0
  made_empty [] h none = refl
  made_empty (n ∷ ns) h none = let a : made_by n h ≡ 0 = ap (made_by n) none in let ih = made_empty ns h none in omega (arith, a, ih)

  ended_empty : (ns : List ℕ) (h : List (Entry V)) → h ≡ [] → all_ended ns h ≡ 0
  ended_empty [] h none = refl
  ended_empty (n ∷ ns) h none = let a : count_ended_by n h ≡ 0 = ap (count_ended_by n) none in let ih = ended_empty ns h none in omega (arith, a, ih)

  parting_makes : (v : Event V) → IsSplitOrJoin v → (makes v ≡ 0) × (ends v ≡ 0)
  parting_makes (event.Split to n hs bs) is = (refl, refl)
  parting_makes (event.Join other) is = (refl, refl)
  parting_makes (event.Make b enabled null fields val) is = absurd is
  parting_makes (event.Share y p) is = absurd is
  parting_makes (event.Leave y last) is = absurd is
  parting_makes (event.Count y c) is = absurd is
  parting_makes (event.Expired y c) is = absurd is
  parting_makes (event.Read y c) is = absurd is
  parting_makes (event.Same c y so) is = absurd is
  parting_makes (event.WeakShare o p) is = absurd is
  parting_makes (event.WeakLeave y v) is = absurd is
  parting_makes (event.Lock y g) is = absurd is
  parting_makes (event.Load c y) is = absurd is
  parting_makes (event.Swap c y w) is = absurd is
  parting_makes (event.Compare c u y w b k) is = absurd is
  parting_makes (event.ClearMember o m y) is = absurd is
  parting_makes (event.Finish o v val) is = absurd is
  parting_makes (event.Visit y c w) is = absurd is
  parting_makes (event.Shelve b) is = absurd is
  parting_makes (event.Unshelve b) is = absurd is

  -- each event is some name's, or counts for nothing
  counted : (k : ℕ) (ns : List ℕ) (e : Entry V) → AreRising ns → (IsSplitOrJoin e.event → k ≡ 0)
      → Has e.desk ns ⊎ IsSplitOrJoin e.event → once ns e.desk k ≡ k
  counted k ns e rising none (inl has) = once_in e.desk k ns rising has
  counted k ns e rising none (inr is) = ap (once ns e.desk) (none is) ∙ (once_none e.desk ns ∙ sym (none is))

  pub sum_made : (ns : List ℕ) (h : List (Entry V)) → AreRising ns → AllByRecursion (λ (e : Entry V). Has e.desk ns ⊎ IsSplitOrJoin e.event) h
      → all_made ns h ≡ count_made_in h
  sum_made ns [] rising all = made_empty ns [] refl
  sum_made ns (e ∷ h) rising all =
      let a = made_more e h ns in
      let b = counted (makes e.event) ns e rising (λ is. (parting_makes e.event is).0) all.0 in
      let ih = sum_made ns h rising all.1 in omega (arith, a, b, ih)

  pub sum_ended : (ns : List ℕ) (h : List (Entry V)) → AreRising ns → AllByRecursion (λ (e : Entry V). Has e.desk ns ⊎ IsSplitOrJoin e.event) h
      → all_ended ns h ≡ count_ended_in h
  sum_ended ns [] rising all = ended_empty ns [] refl
  sum_ended ns (e ∷ h) rising all =
      let a = ended_more e h ns in
      let b = counted (ends e.event) ns e rising (λ is. (parting_makes e.event is).1) all.0 in
      let ih = sum_ended ns h rising all.1 in omega (arith, a, b, ih)
