-- Whole turns.
use Rattle.std.proofs.Common.{◌≡◌, ℕ, List, set, Some, None, Option, sym, ap, ◌∙◌, subst, set-set}
use Rattle.step_core.proofs.Prelude.{abstraction, AbstractState, Acted, ActsNow, CountsAll, Event}
use Rattle.step_core.proofs.Prelude.{GoesTo, IsChosen, Nothing, NumberedHandle, pending_call_of}
use Rattle.step_core.proofs.Prelude.{PendingCall, Plays, Rest, rested, returned, Said, State}
use Rattle.step_core.proofs.Prelude.{state_in, TakesWholeTurn, Task, Turned, TurnIs, WorldState}
use Rattle.control_word.specs.declared.model.event.Event.TheVariants as event
use Rattle.step_threads.specs.declared.said.Turned.TheVariants.{Waited, Done}
use Rattle.step_core.specs.Turning.{HasRested}
use Rattle.step_core.proofs.turning.Playing.{over_returned}
use Rattle.step_core.proofs.turning.Telling.{counts_on}

-- where fewer counts are to be exact
module _ (Exact Fewer : NumberedHandle → Type 0) (all : (h : NumberedHandle) → Fewer h → Exact h) (d : ℕ) where
  chosen_less : (s : State) (e : Option (Event Nothing)) → IsChosen Exact s d e → IsChosen Fewer s d e
  chosen_less s None p = p
  chosen_less s (Some (event.Count h n)) p = λ q. p (all h q)
  chosen_less s (Some _) p = p

  acts_less : (c c' : AbstractState) (t : Task) (x : Said) → ActsNow Exact d c t x c' → ActsNow Fewer d c t x c'
  acts_less c c' t x a =
      record {
        event = a.event;
        frame_view = a.frame_view;
        acts = a.acts;
        legal = a.legal;
        chosen = chosen_less (state_in c) a.event a.chosen;
        goes = a.goes;
      }

  pub turn_less : (c c' : AbstractState) (r : Turned) → TurnIs Exact d c r c' → TurnIs Fewer d c r c'
  turn_less c c' (Acted x) a = (a.0, a.1, acts_less c c' a.0 x a.2)
  turn_less c c' Waited a = a
  turn_less c c' Done a = a

-- what is done after steps of the thread's own that lead here
module _ (d : ℕ) (u v w : WorldState) (r : Turned) (h : PendingCall) (goes : GoesTo d u v) (pending_calls : v.pending_calls ≡ set u.pending_calls d h)
    (c : AbstractState) (is : abstraction v ≡ c) where
  plays_from : Plays d v r w → TurnIs (CountsAll d u (state_in c)) d c r (rested d (abstraction w))
  plays_from plays =
      subst (λ (b : AbstractState). TurnIs (CountsAll d u (state_in b)) d b r (rested d (abstraction w))) is
      (let s = state_in (abstraction v) in
      turn_less (CountsAll d v s) (CountsAll d u s) (counts_on d u v h goes pending_calls s) d (abstraction v) (rested d (abstraction w)) r plays.turn)

-- what is done from the same abstract state, after steps of the thread's own
pub plays_on : (d : ℕ) (u v w : WorldState) (r : Turned) → GoesTo d u v → abstraction v ≡ abstraction u
    → v.pending_calls ≡ set u.pending_calls d (pending_call_of v d) → Plays d v r w
    → Plays d u r w
plays_on d u v w r goes same pending_calls plays =
    record {
      turn = plays_from d u v w r (pending_call_of v d) goes pending_calls (abstraction u) same plays;
      done = plays.done;
      pending_calls = plays.pending_calls ∙ ap (λ (l : List PendingCall). set l d (pending_call_of w d)) pending_calls ∙ set-set u.pending_calls d
          (pending_call_of v d) _;
    }

-- the rest that was under way, the act, and the rest that goes on after it
pub turns : (d : ℕ) (u v w u' : WorldState) (r : Turned) → GoesTo d u v → HasRested d u v → Plays d v r w → HasRested d w u'
    → TakesWholeTurn d u r u'
turns d u v w u' r goes before plays behind =
    let c = rested d (abstraction u) in (
      subst (TurnIs (CountsAll d u (state_in c)) d c r) (sym behind.abstraction)
          (plays_from d u v w r (returned (pending_call_of u d)) goes before.pending_calls c before.abstraction plays),
      behind.pending_calls ∙ ap (set w.pending_calls d) (over_returned (pending_call_of w d) plays.done)
          ∙ ap (λ (l : List PendingCall). set l d Rest) (plays.pending_calls ∙ ap (λ (l : List PendingCall). set l d (pending_call_of w d)) before.pending_calls
          ∙ set-set u.pending_calls d (returned (pending_call_of u d)) (pending_call_of w d)) ∙ set-set u.pending_calls d (pending_call_of w d) Rest,
    )
