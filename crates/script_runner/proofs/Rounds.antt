-- Rounds of what a table was left to end, as acts of a thread.
use Rattle.std.proofs.Common.{◌≡◌, ℕ, ◌+◌, ◌-◌, ◌<◌, Bool, true, false, List, [], ◌∷◌, ◌++◌}
use Rattle.std.proofs.Common.{length, slice_set, Some, None, Option, sym, refl, ap, ◌∙◌, subst}
use Rattle.std.proofs.Common.{append-nil, arith}
use Rattle.script_runner.proofs.Prelude
use Prelude.{AddsEvent, AllEnd, Block, Cleared, counting, ClearsOf, DeskNow, Ending, Event, Form}
use Prelude.{frame_settled, FrameView, Gone, handle_in, HasScriptMembers, IsEnding, IsGone}
use Prelude.{IsHand, IsLeft, IsMakeEvent, IsRound, Kind, latest_of, Leave, LeavesWeakly}
use Prelude.{object_in, on_latest, Piled, piled, Place, plain, remains, Round, RoundSays}
use Prelude.{Said, Settled, shown_slots, slot_of, slot_value, Slots, staged, TableNow, TakesThread}
use Prelude.{Task, TellsThread, told_line, with_clear, with_end}
use Rattle.control_word.specs.declared.model.event.Event.TheVariants as event
use Rattle.control_word.specs.declared.model.handle.Kind.TheVariants as kind
use Rattle.script_runner.proofs.Calling as law
use Rattle.script_runner.proofs.Ending as ending
use Rattle.script_runner.proofs.Leavings.{remains_kept}
use Rattle.script_runner.proofs.Seating.{hand_is, quietly, shown_at, shown_many}
use Rattle.script_runner.proofs.Stages.{all_clear, clearing_starts, ends_last, IsStarting}
use Rattle.script_runner.proofs.Stages.{last_same, next_low, some_last}
use Rattle.script_runner.proofs.Takings.{stayed}
use Rattle.script_runner.specs.Calls as calls
use Rattle.script_runner.specs.EndCalls.{RoundsIn}
use Rattle.shared_handle.specs.Piles.{ClearsTop, gone_of}
use Rattle.shared_handle.specs.declared.endings.Ending as pile
use Rattle.shared_handle.specs.declared.endings.Left.TheVariants as left
use Rattle.shared_handle.specs.declared.endings.Left.{Left}
use Rattle.shared_handle.specs.declared.pile.Round.TheVariants.{Ended}
use Rattle.step_table.specs.declared.memory.ended.Ended as said_end
use Rattle.step_table.specs.declared.slots.slot.Slot.TheVariants.{Full}
use Rattle.step_threads.specs.Frames.{hand as hand_of}
use Rattle.step_threads.specs.Rows as rows

-- by a round the thread goes on, with this in hand and these tasks after it
record ByRound {V : Type 0} (worth : Form → V) (m k : ℕ) (t u : TableNow V) (round : Round V) (es : List Ending)
    (taken : Bool) (todo : List Task) : Type 0 where
  pub endings : List Ending
  pub piled : Piled k u.endings endings
  pub lines : List Said
  pub says : RoundSays k u.desk u.endings round lines
  pub takes : (log : List Said) → TakesThread worth t.desk (frame_settled (shown_slots m t.slots) taken es todo) log u.desk
      (frame_settled (shown_slots m u.slots) taken endings todo) (log ++ lines)

module _ {V : Type 0} (worth : Form → V) (m i k : ℕ) (t u : TableNow V) (is : IsHand m i t) (same : u.slots ≡ t.slots)
    (taken : Bool) (todo : List Task) where
  abbrev slots : Slots
  slots = shown_slots m t.slots

  free : slot_value slots (hand_of slots) ≡ plain
  free = ap (λ n. slot_value slots n) (hand_is m i t is) ∙ shown_at m t.slots i None (let e = is.last in omega (arith, e)) is.vacant

  few : hand_of slots < length slots
  few = let a = hand_is m i t is in let b = shown_many m t.slots is.many in let e = is.last in omega (arith, a, b, e)

  abbrev frame_at : List Ending → FrameView
  frame_at es = frame_settled slots taken es todo

  silent_lines : (d e : DeskNow V) (w v : FrameView) → ((log : List Said) → TakesThread worth d w log e v log) → (log : List Said)
      → TakesThread worth d w log e v (log ++ [])
  silent_lines d e w v takes log part n tells = subst (λ l. TellsThread worth part n e v l) (sym (append-nil log)) (takes log part n tells)

  module _ (f : Ending) (fs : List Ending) (top : pile.Ending V) (block : f.block ≡ top.block) (statement : f.statement ≡ k)
      (ends : IsEnding t.desk top.block.0 top.value) (j : ℕ) (stage : f.stage ≡ j) (low : j < 3) where
    -- it was empty
    none_gone : (q : Kind) (p : Option Place) (between : DeskNow V)
        → AddsEvent t.desk (event.ClearMember (latest_of t.desk top.block.0) j (handle_in between q None p)) between
        → (n : ℕ) → u.desk ≡ counting n between
        → (log : List Said) → TakesThread worth t.desk (frame_at (f ∷ fs)) log u.desk (frame_at (staged f ∷ fs)) log
    none_gone q p between adds n is log part name tells =
        ending.by_quiet worth between u.desk (quietly between u.desk n is) (frame_at (staged f ∷ fs)) log part name
        (subst (λ w. TellsThread worth part name between w log) (sym (ending.frame_is worth slots taken todo free few (staged f ∷ fs)))
        (ending.clears worth slots taken todo free few t.desk between top.block.0 j (handle_in between q None p) adds top.value ends f fs
        (ap (λ b. b.0) block) stage low log part name tells))

    -- or a handle of an object
    some_gone : (q : Kind) (c : Block) (p : Option Place) (between : DeskNow V)
        → AddsEvent t.desk (event.ClearMember (latest_of t.desk top.block.0) j (handle_in between q (Some c) p)) between
        → (v : Event V) (adds : AddsEvent between v u.desk) (last : Bool) (left : Option said_end.Ended)
        → ((l : Slots) → calls.HasPointer V between l (hand_of l) q c p
        → IsMakeEvent worth (calls.state_before_event V adds) between.name l (Leave (hand_of l)) (rows.Left last left) (Some v))
        → (log : List Said)
        → TakesThread worth t.desk (frame_at (f ∷ fs)) log u.desk
        (frame_at (with_end k (rows.ending_by last (Some (calls.pointer q c p))) (staged f ∷ fs)))
        (log ++ told_line record { statement = k; answer = None; ended = left })
    some_gone q c p between cleared v adds last left makes log part name tells =
        let out = ending.came_out t.desk between (latest_of t.desk top.block.0) j q c p cleared in
        let rest = ending.rest worth slots taken todo free few in
        let filled = slice_set rest.slots (hand_of rest.slots) (Full (calls.pointer q c p)) in
        let one = ending.clears worth slots taken todo free few t.desk between top.block.0 j (handle_in between q (Some c) p) cleared top.value ends f fs
        (ap (λ b. b.0) block) stage low log part name tells in
        let is : slot_of (calls.state_before_event V cleared) (handle_in between q (Some c) p) ≡ Full (calls.pointer q c p) =
        ap (λ n. Full (calls.pointer q (record { 0 = n }) p)) (ending.block_before t.desk between _ j q c p cleared) in
        subst (λ s. TakesThread worth between
        (record { slots = filled; taken = rest.taken; endings = staged f ∷ fs; todo = rest.todo }) log u.desk
        (frame_at (with_end s (rows.ending_by last (Some (calls.pointer q c p))) (staged f ∷ fs)))
        (log ++ told_line record { statement = s; answer = None; ended = left })) statement
        (ending.hand_leaves worth slots taken todo free few between u.desk v adds q c p last left (makes filled) out.0 (staged f) fs log) part name
        (subst (λ x. TellsThread worth part name between
        (record { slots = slice_set rest.slots (hand_of rest.slots) x; taken = rest.taken; endings = staged f ∷ fs; todo = rest.todo }) log) is one)

  -- the endings once what came out left, and what is told
  abbrev with_left : Left V → List Ending → List Ending
  with_left left.Empty es = es
  with_left left.Others es = es
  with_left (left.Last x) es = record { block = x.block; stage = 0; statement = k } ∷ es

  abbrev left_lines : Left V → DeskNow V → List Said
  left_lines left.Empty d = []
  left_lines left.Others d = []
  left_lines (left.Last x) d =
      record { statement = k; answer = None; ended = Some (remains (object_in d x.block.0)) } ∷ []

  module _ (f : Ending) (fs : List Ending) (top : pile.Ending V) (block : f.block ≡ top.block) (statement : f.statement ≡ k)
      (ends : IsEnding t.desk top.block.0 top.value) (j : ℕ) (stage : f.stage ≡ j) (low : j < 3) where
    abbrev MemberGone : Left V → Type 0
    MemberGone y = (log : List Said)
        → TakesThread worth t.desk (frame_at (f ∷ fs)) log u.desk (frame_at (with_left y (staged f ∷ fs))) (log ++ left_lines y u.desk)

    shared_gone : (b : Option Block) (p : Option Place) (between : DeskNow V)
        → AddsEvent t.desk (event.ClearMember (latest_of t.desk top.block.0) j (handle_in between kind.Owner b p)) between
        → (y : Left V) → IsLeft between b p y u.desk → MemberGone y
    shared_gone b p between adds left.Empty leaves log =
        silent_lines t.desk u.desk (frame_at (f ∷ fs)) (frame_at (staged f ∷ fs))
        (none_gone f fs top block statement ends j stage low kind.Owner p between
        (subst (λ x. AddsEvent t.desk (event.ClearMember (latest_of t.desk top.block.0) j (handle_in between kind.Owner x p)) between) leaves.0 adds)
        (between.held - 1) leaves.1) log
    shared_gone b p between adds left.Others leaves log =
        let c = leaves.0 in
        some_gone f fs top block statement ends j stage low kind.Owner c p between
        (subst (λ x. AddsEvent t.desk (event.ClearMember (latest_of t.desk top.block.0) j (handle_in between kind.Owner x p)) between) leaves.1 adds)
        (event.Leave (on_latest between kind.Owner p c.0) false) leaves.2 false None
        (λ l has. law.gone worth between.name between u.desk l (Leave (hand_of l)) (hand_of l) false c p refl has leaves.2) log
    shared_gone b p between adds (left.Last x) leaves log =
        let cleared = subst (λ x. AddsEvent t.desk (event.ClearMember (latest_of t.desk top.block.0) j (handle_in between kind.Owner x p)) between)
        leaves.0 adds in
        let has = (ending.came_out t.desk between (latest_of t.desk top.block.0) j kind.Owner x.block p cleared).0 in
        subst (λ r. TakesThread worth t.desk (frame_at (f ∷ fs)) log u.desk (frame_at (with_left (left.Last x) (staged f ∷ fs)))
        (log ++ record { statement = k; answer = None; ended = Some r } ∷ []))
        (remains_kept between u.desk _ leaves.1 kind.Owner p x.block.0 has)
        (some_gone f fs top block statement ends j stage low kind.Owner x.block p between cleared
        (event.Leave (on_latest between kind.Owner p x.block.0) true) leaves.1 true (Some (remains (object_in between x.block.0)))
        (λ l has. law.gone worth between.name between u.desk l (Leave (hand_of l)) (hand_of l) true x.block p refl has leaves.1) log)

    weak_end : (vacant : Bool) (c : Block) (p : Option Place) (es : List Ending)
        → with_end k (rows.ending_by vacant (Some (calls.pointer kind.Weak c p))) es ≡ es
    weak_end false c p es = refl
    weak_end true c p es = refl

    weak_gone : (b : Option Block) (p : Option Place) (between : DeskNow V)
        → AddsEvent t.desk (event.ClearMember (latest_of t.desk top.block.0) j (handle_in between kind.Weak b p)) between
        → (vacant : Bool) → LeavesWeakly between b p vacant u.desk → (y : Left V) → IsGone b y → MemberGone y
    weak_gone b p between adds vacant leaves (left.Last x) gone log = absurd gone
    weak_gone b p between adds vacant leaves left.Empty gone log =
        silent_lines t.desk u.desk (frame_at (f ∷ fs)) (frame_at (staged f ∷ fs))
        (none_gone f fs top block statement ends j stage low kind.Weak p between
        (subst (λ x. AddsEvent t.desk (event.ClearMember (latest_of t.desk top.block.0) j (handle_in between kind.Weak x p)) between) gone adds)
        (between.held - 1) (subst (λ x. LeavesWeakly between x p vacant u.desk) gone leaves).0) log
    weak_gone b p between adds vacant leaves left.Others gone log =
        let c = gone.0 in
        let left = subst (λ x. LeavesWeakly between x p vacant u.desk) gone.1 leaves in
        subst (λ es. TakesThread worth t.desk (frame_at (f ∷ fs)) log u.desk (frame_at es) (log ++ [])) (weak_end vacant c p (staged f ∷ fs))
        (some_gone f fs top block statement ends j stage low kind.Weak c p between
        (subst (λ x. AddsEvent t.desk (event.ClearMember (latest_of t.desk top.block.0) j (handle_in between kind.Weak x p)) between) gone.1 adds)
        (event.WeakLeave (on_latest between kind.Weak p c.0) vacant) left vacant None
        (λ l has. law.gone_weakly worth between.name between u.desk l (Leave (hand_of l)) (hand_of l) vacant c p refl has left) log)

  member_gone : (f : Ending) (fs : List Ending) (top : pile.Ending V) → f.block ≡ top.block → f.statement ≡ k → IsEnding t.desk top.block.0 top.value
      → f.stage ≡ top.cleared → top.cleared < 3 → (q : Kind) (y : Left V) → ClearsOf q t.desk top top.cleared y u.desk
      → (log : List Said)
      → TakesThread worth t.desk (frame_at (f ∷ fs)) log u.desk (frame_at (with_left y (staged f ∷ fs))) (log ++ left_lines y u.desk)
  member_gone f fs top block statement ends stage low kind.Owner y c =
      shared_gone f fs top block statement ends top.cleared stage low c.0.block c.0.place c.0.between c.0.takes.event y c.0.leaves
  member_gone f fs top block statement ends stage low kind.Weak y c =
      weak_gone f fs top block statement ends top.cleared stage low c.block c.place c.between c.takes.event c.vacant c.leaves y c.told

  -- what lies on the pile then
  piled_then : (below : List (pile.Ending V)) (top : pile.Ending V) (f : Ending) (fs : List Ending) (y : Left V)
      → f.block ≡ top.block → f.statement ≡ k → (with_clear top).cleared ≡ (staged f).stage → Piled k below fs → IsStarting y
      → Piled k (piled (below ++ with_clear top ∷ []) y) (with_left y (staged f ∷ fs))
  piled_then below top f fs left.Empty block statement at rest starts = (below, with_clear top, refl, block, statement, at, rest)
  piled_then below top f fs left.Others block statement at rest starts = (below, with_clear top, refl, block, statement, at, rest)
  piled_then below top f fs (left.Last x) block statement at rest starts =
      (below ++ with_clear top ∷ [], x, refl, refl, refl, starts, (below, with_clear top, refl, block, statement, at, rest))

  round_says : (q : ℕ) (gone : Gone) (c : ClearsTop t.desk t.endings q gone u.desk u.endings)
      → RoundSays k u.desk u.endings (Cleared q gone) (left_lines c.left u.desk)
  round_says q gone c =
      subst (λ g. RoundSays k u.desk u.endings (Cleared q g) (left_lines c.left u.desk)) (sym c.told) (go c.left c.are)
    where
      go : (y : Left V) → u.endings ≡ piled (c.below ++ with_clear c.top ∷ []) y
          → RoundSays k u.desk u.endings (Cleared q (gone_of y)) (left_lines y u.desk)
      go left.Empty are = refl
      go left.Others are = refl
      go (left.Last x) are = (c.below ++ with_clear c.top ∷ [], x, are, refl)

  goes_by_round : HasScriptMembers t.desk.shape → AllEnd t.desk t.endings → (round : Round V) → IsRound t.desk t.endings round u.desk u.endings
      → (es : List Ending) → Piled k t.endings es → ByRound worth m k t u round es taken todo
  goes_by_round script all Settled r es p =
      record {
        endings = es;
        piled = subst (λ xs. Piled k xs es) (r.0 ∙ sym r.1) p;
        lines = [];
        says = refl;
        takes = λ log. silent_lines t.desk u.desk (frame_at es) _
            (λ log part n tells. subst (λ ss. TellsThread worth part n u.desk (frame_settled (shown_slots m ss) taken es todo) log) (sym same)
            (ending.by_quiet worth t.desk u.desk (stayed t.desk u.desk r.2) (frame_at es) log part n tells)) log;
      }
  goes_by_round script all (Cleared q gone) c [] p = absurd (some_last c.below c.top (sym p ∙ c.were))
  goes_by_round script all (Cleared q gone) c (f ∷ fs) p =
      let parts = last_same c.below p.0 c.top p.1 (sym c.were ∙ p.2) in
      let block : f.block ≡ c.top.block = p.3 ∙ sym (ap (λ (x : pile.Ending V). x.block) parts.1) in
      let at : c.top.cleared ≡ f.stage = ap (λ (x : pile.Ending V). x.cleared) parts.1 ∙ p.5 in
      let rest : Piled k c.below fs = subst (λ xs. Piled k xs fs) (sym parts.0) p.6 in
      let top = ends_last t.desk c.below c.top (subst (λ xs. AllEnd t.desk xs) c.were all) in
      record {
        endings = with_left c.left (staged f ∷ fs);
        piled = subst (λ xs. Piled k xs (with_left c.left (staged f ∷ fs))) (sym c.are)
            (piled_then c.below c.top f fs c.left block p.4 (ap (λ (n : ℕ). n + 1) at) rest
            (clearing_starts t.desk u.desk c.top c.left c.clears));
        lines = left_lines c.left u.desk;
        says = round_says q gone c;
        takes = λ log. subst (λ ss. TakesThread worth t.desk (frame_at (f ∷ fs)) log u.desk
            (frame_settled (shown_slots m ss) taken (with_left c.left (staged f ∷ fs)) todo) (log ++ left_lines c.left u.desk)) (sym same)
            (member_gone f fs c.top block p.4 top.ends (sym at) (next_low t.desk c.top q script top c.next) _ c.left c.clears log);
      }
  goes_by_round script all (Ended v) c [] p = absurd (some_last u.endings c.top (sym p ∙ c.were))
  goes_by_round script all (Ended v) c (f ∷ fs) p =
      let parts = last_same u.endings p.0 c.top p.1 (sym c.were ∙ p.2) in
      let block : f.block ≡ c.top.block = p.3 ∙ sym (ap (λ (x : pile.Ending V). x.block) parts.1) in
      let at : c.top.cleared ≡ f.stage = ap (λ (x : pile.Ending V). x.cleared) parts.1 ∙ p.5 in
      let top = ends_last t.desk u.endings c.top (subst (λ xs. AllEnd t.desk xs) c.were all) in
      record {
        endings = fs;
        piled = subst (λ xs. Piled k xs fs) (sym parts.0) p.6;
        lines = [];
        says = refl;
        takes = λ log. silent_lines t.desk u.desk (frame_at (f ∷ fs)) _
            (λ log part n tells. subst (λ ss. TellsThread worth part n u.desk (frame_settled (shown_slots m ss) taken fs todo) log) (sym same)
            (ending.finishes worth slots taken todo free few t.desk u.desk c.top.block.0 c.finish.vacant v c.finish.event c.top.value top.ends f fs
            (ap (λ (b : Block). b.0) block) (all_clear t.desk c.top f.stage script top at c.finish.clear) log part n tells)) log;
      }

module _ {V : Type 0} where
  pub rounds : RoundsIn V
  unfolding goes_by_round
  rounds worth m hand k t u is same script all Settled r es p =
      let g : (taken : Bool) (todo : List Task) → ByRound worth m k t u Settled es taken todo =
      λ taken todo. goes_by_round worth m hand k t u is same taken todo script all Settled r es p in
      let y = g false [] in
      record { endings = y.endings; piled = y.piled; lines = y.lines; says = y.says; takes = λ taken todo log. (g taken todo).takes log }
  rounds worth m hand k t u is same script all (Cleared q gone) r [] p = absurd (some_last r.below r.top (sym p ∙ r.were))
  rounds worth m hand k t u is same script all (Cleared q gone) r (f ∷ fs) p =
      let g : (taken : Bool) (todo : List Task) → ByRound worth m k t u (Cleared q gone) (f ∷ fs) taken todo =
      λ taken todo. goes_by_round worth m hand k t u is same taken todo script all (Cleared q gone) r (f ∷ fs) p in
      let y = g false [] in
      record { endings = y.endings; piled = y.piled; lines = y.lines; says = y.says; takes = λ taken todo log. (g taken todo).takes log }
  rounds worth m hand k t u is same script all (Ended v) r [] p = absurd (some_last u.endings r.top (sym p ∙ r.were))
  rounds worth m hand k t u is same script all (Ended v) r (f ∷ fs) p =
      let g : (taken : Bool) (todo : List Task) → ByRound worth m k t u (Ended v) (f ∷ fs) taken todo =
      λ taken todo. goes_by_round worth m hand k t u is same taken todo script all (Ended v) r (f ∷ fs) p in
      let y = g false [] in
      record { endings = y.endings; piled = y.piled; lines = y.lines; says = y.says; takes = λ taken todo log. (g taken todo).takes log }
