-- Turns by replies are the turns of the machine.
use Rattle.std.proofs.Common.{◌≡◌, ℕ, ◌-◌, Bool, true, false, cond, List, [], ◌∷◌, ◌++◌, Some}
use Rattle.std.proofs.Common.{None, Option, option_map, sym, refl, ap, ◌∙◌}
use Rattle.script_stepper.proofs.Prelude
use Prelude.{AbstractState, Act, Alias, Always, Ask, Clear, Compare, copies, Count, Downgrade}
use Prelude.{Drop, Event, exact, Exchange, Expired, frame_of, FrameView, FromThis, giving, hand}
use Prelude.{Handle, heard, History, Holds, inside, is_there, IsChosen, Item, Kind, leads, least}
use Prelude.{Leave, leaves_as, Load, Lock, Make, may_go, Move, next, Nothing, Offer, offered}
use Prelude.{OnShelf, Opening, opening, other, owned, Owner, owner_slot, Place, Put, put_on, Read}
use Prelude.{reply_in, rest_of, row, row_in, Said, said_by_row, Share, Shelve, slot_pointer, State}
use Prelude.{state_in, Swap, TakesTurn, TakeTurns, Task, Unshelve, Weak, weak_slot, went}
use Rattle.control_word.specs.declared.model.event.Event.TheVariants as event
use Rattle.step_table.specs.AtomicSteps.{field_at, last_as}
use Rattle.step_threads.specs.Rows.{Row, frame_after_act}
use Rattle.step_core.proofs.following.Replies.{replied}
use Rattle.step_core.specs.Turns.{ActsNow, abstraction_after}
use Rattle.script_stepper.proofs.Plays.{play_from, plays, said, said_from, items_told}
use Rattle.script_stepper.proofs.OneAct.{comes, one_reply}
use Rattle.script_stepper.proofs.OneEvent.{Events, Right}

-- ---- the machine's replies are right and chosen

module _ (s : State) (d : ℕ) where
  abbrev pub Fine : Events → Type 0
  Fine e = Right s d e × IsChosen Always s d e

  of_map : {A : Type 0} (f : A → Event Nothing) → ((x : A) → Fine (Some (f x))) → (o : Option A) → Fine (option_map f o)
  of_map f h None = (tt, tt)
  of_map f h (Some x) = h x

  of_copies : (k : Kind) (p : Option Place) (x : Handle) → Fine (Some (copies s k p x))
  of_copies Owner p x = (tt, tt)
  of_copies Weak p x = (tt, tt)

  of_leaves : (k : Kind) (x : Handle) → Fine (Some (leaves_as s k (last_as k s (owned s x)) x))
  of_leaves Owner x = (refl, tt)
  of_leaves Weak x = (refl, tt)

  of_test : (b : Bool) (e : Event Nothing) → Fine (Some e) → Fine (cond b (Some e) None)
  of_test true e h = h
  of_test false e h = (tt, tt)

module _ (z : Opening) (d : ℕ) (h : History) (w : FrameView) where
  abbrev now : State
  now = leads z h

  abbrev event_of_act : Act → Events
  event_of_act a = (replied exact z d h w a).event

  of_make : (o : Option ℕ) (f : ℕ → Event Nothing) → ((b : ℕ) → least d now.stores ≡ Some b → Fine now d (Some (f b)))
      → least d now.stores ≡ o
      → Fine now d (option_map f o)
  of_make None f g e = (tt, tt)
  of_make (Some b) f g e = g b e

  fine : (a : Act) → Fine now d (event_of_act a)
  unfolding replied
  fine (Make form) = of_make (least d now.stores) _ (λ b e. (tt, e)) refl
  fine (Share i) = of_map now d _ (λ x. of_copies now d x.kind x.place x) (slot_pointer w.slots i)
  fine (Put i) = of_map now d _ (λ x. of_leaves now d x.kind x) (slot_pointer w.slots i)
  fine (Leave i) = of_map now d _ (λ x. of_leaves now d x.kind x) (slot_pointer w.slots i)
  fine (Clear i) = of_map now d _ (λ x. of_leaves now d x.kind x) (slot_pointer w.slots i)
  fine Drop = of_map now d _ (λ x. of_leaves now d x.kind x) (slot_pointer w.slots (other w.slots))
  fine (OnShelf Shelve) = of_make (least d now.stores) _ (λ b e. (tt, e)) refl
  fine (OnShelf (Unshelve b)) = of_test now d (now.shelved b.0) (event.Unshelve b) (tt, tt)
  fine (Count i) = of_map now d _ (λ x. (tt, λ _. refl)) (slot_pointer w.slots i)
  fine (Downgrade i) = of_map now d _ (λ x. (tt, tt)) (slot_pointer w.slots i)
  fine (Lock i must) = of_map now d _ (λ x. (refl, tt)) (weak_slot (slot_pointer w.slots i))
  fine (Expired i) = of_map now d _ (λ x. (refl, tt)) (slot_pointer w.slots i)
  fine (Read i) = of_map now d _ (λ x. (λ p e. ap (field_at (now.object (owned now x))) e, tt)) (inside (slot_pointer w.slots i))
  fine (FromThis i q) = of_map now d _ (λ x. of_copies now d q _ x) (giving now (inside (slot_pointer w.slots i)))
  fine (Alias i j field) = of_map now d _ (λ x. (tt, tt)) (owner_slot (slot_pointer w.slots i))
  fine (Move i) = (tt, tt)
  fine (Ask q) = (tt, tt)
  fine (Offer i c) = of_map now d _ (λ x. of_copies now d x.kind x.place x) (offered w.slots i c)
  fine (Swap c) = of_test now d (may_go w.slots c (hand w.slots)) _ (refl, tt)
  fine (Exchange i c) = of_test now d (may_go w.slots c i) _ (refl, tt)
  fine (Holds i c) = of_test now d (may_go w.slots c i) _ (refl, tt)
  fine (Load c) = of_test now d (is_there w.slots c) _ (refl, tt)
  fine (Compare i c weak) = (refl, refl)

-- ---- and no others are

module _ (d : ℕ) (c : AbstractState) (t : Task) where
  abbrev frame_view : FrameView
  frame_view = frame_of c d

  abbrev rest : List Task
  rest = rest_of frame_view.endings frame_view.todo

  abbrev opened : Opening
  opened = opening c.extent

  played : let q = replied exact opened d c.history frame_view t.act in
      play_from c d frame_view (Some t) ≡ abstraction_after d c (put_on d q.event c.history) (went (state_in c) d frame_view t.statement rest t.act)
  played =
      let q = replied exact opened d c.history frame_view t.act in
      ap (λ (h : History). abstraction_after d c h (went (state_in c) d frame_view t.statement rest t.act)) q.history

  act_is : (x : Said) (a : AbstractState) → ActsNow Always d c t x a
      → (x ≡ said_by_row t.statement (row_in exact (state_in c) d frame_view.slots frame_view.taken t.act)) × (a ≡ play_from c d frame_view (Some t))
  act_is x a p =
      let q = replied exact opened d c.history frame_view t.act in
      let f = fine opened d c.history frame_view t.act in
      let r =
      one_reply (state_in c) d frame_view.slots frame_view.taken t.act p.acts.reply (reply_in exact (state_in c) d frame_view.slots t.act) p.event q.event
      p.acts.makes q.makes
      (comes opened d c.history p.event p.legal) f.0 p.chosen f.1 in (
        p.acts.says ∙ ap (said_by_row t.statement) r.0,
        p.goes ∙ ap (abstraction_after d c (put_on d p.event c.history)) p.acts.goes
            ∙ ap (λ (e : Events). abstraction_after d c (put_on d e c.history)
            (frame_after_act frame_view t.statement rest (row t.act frame_view.slots frame_view.taken p.acts.reply))) r.1
            ∙ ap (λ (y : Row). abstraction_after d c (put_on d q.event c.history) (frame_after_act frame_view t.statement rest y)) r.0 ∙ sym played,
      )

pub turn_is : (thread : ℕ) (c : AbstractState) (o : Option Task) (i : List Item) (a : AbstractState) → TakesTurn thread c o i a
    → let w = frame_of c (thread - 1) in
    (i ≡ heard thread (said_from c (thread - 1) w o)) × (a ≡ play_from c (thread - 1) w o)
turn_is thread c None i a p = p
turn_is thread c (Some t) i a p =
    let r = act_is (thread - 1) c t p.0 a p.1 in
    (p.2 ∙ ap (λ (x : Said). (thread, x) ∷ []) r.0, r.1)

pub turns_are : (turns : List ℕ) (c : AbstractState) (i : List Item) (a : AbstractState) → TakeTurns turns c i a → (i ≡ items_told turns c) ×
    (a ≡ plays turns c)
turns_are [] c i a p = p
turns_are (thread ∷ turns) c i a p =
    let d = thread - 1 in
    let first = turn_is thread c (next (frame_of c d)) p.0 p.2 p.3 in
    let later = turns_are turns p.2 p.1 a p.4 in (
      p.5 ∙ ap (λ (l : List Item). l ++ p.1) first.0 ∙ ap (λ (l : List Item). heard thread (said d c) ++ l) later.0
          ∙ ap (λ (m : AbstractState). heard thread (said d c) ++ items_told turns m) first.1,
      later.1 ∙ ap (plays turns) first.1,
    )
