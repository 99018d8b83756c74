-- What steps tell of objects that end.
use Rattle.std.proofs.Common.{◌≡◌, ℕ, ◌-◌, Bool, true, false, cond, Some, None, Option}
use Rattle.std.proofs.Common.{MatchOption, sym, refl, ap, ◌∙◌, subst, inl, inr, ⊎_elim, eqb-true}
use Rattle.step_core.proofs.Prelude
use Prelude.{abstraction, AbstractState, ActsNext, Ahead, ahead, AnAct, AnEnd, DoesAhead, Ended}
use Prelude.{false≢true, frame_of, FrameView, Handle, IsLeaveEvent, Kind, LastLeft, leaves_as}
use Prelude.{model_state, no_worth, Nothing, Over, owned, Owner, owner, PassesQuietly, Performs}
use Prelude.{put_on, remains, remains_as, Reply, row, Said, State, step_ended, Task, TraceLabel}
use Prelude.{TraceStep, Weak, WorldState}
use Rattle.control_word.specs.declared.model.event.Event.TheVariants as event
use Rattle.step_core.specs.Headline.{TellsWhatIsLeft}
use Rattle.step_core.proofs.runs.TraceLabels.{Events, Another, IsDone, Locks, Leaves, Other, each}
use Rattle.step_core.proofs.runs.TraceLabels.{is_last_in, is_said, put, says_none, sort_of}
use Rattle.step_core.proofs.runs.Headline.{IsStep, asked}

module _ (u : WorldState) (x : TraceStep) (u' : WorldState) (step : IsStep u x u') where
  abbrev d : ℕ
  d = x.actor - 1

  abbrev s : State
  s = model_state u.ghost_state

  abbrev w : FrameView
  w = frame_of (abstraction u) d

  abbrev Tells : Option Ended → Type 0
  Tells r = MatchOption r ((o : ℕ) → LastLeft o u x u' → ⊥) (λ y. (o : ℕ) × LastLeft o u x u' × (y ≡ remains (s.object o)))

  -- nobody's last owner left
  none_left : (e : Events) → is_last_in e ≡ false → u'.ghost_state.history ≡ put_on d e u.ghost_state.history → step_ended x.stepped ≡ None
      → TellsWhatIsLeft u x u'
  none_left e other now says =
      subst Tells (sym says)
      (λ o l. false≢true (sym other ∙ ap is_last_in (put d e (event.Leave l.owner true) u.ghost_state.history (sym now ∙ l.left))))

  -- an owner left
  one_left : (p : Handle) (last : Bool) → u'.ghost_state.history ≡ put_on d (Some (leaves_as s Owner last p)) u.ghost_state.history
      → step_ended x.stepped ≡ cond last (remains_as Owner (s.object (owned s p))) None → TellsWhatIsLeft u x u'
  one_left p false now says = none_left (Some (leaves_as s Owner false p)) refl now says
  one_left p true now says =
      let asks = asked u x u' (event.Leave (owner (owned s p) p.place) true) step now in
      let l : LastLeft (owned s p) u x u' = record {
        owner = owner (owned s p) p.place;
        left = now;
        object = refl;
        last = eqb-true _ 1 (sym asks.1);
      } in
      subst Tells (sym says) (owned s p, l, refl)

  -- a weak pointer left
  weak_left : (p : Handle) (last : Bool) → u'.ghost_state.history ≡ put_on d (Some (leaves_as s Weak last p)) u.ghost_state.history
      → step_ended x.stepped ≡ cond last (remains_as Weak (s.object (owned s p))) None → TellsWhatIsLeft u x u'
  weak_left p true now says = none_left (Some (leaves_as s Weak true p)) refl now says
  weak_left p false now says = none_left (Some (leaves_as s Weak false p)) refl now says

  any_left : (o : Option Handle) (last : Bool) (r : Option Ended) (e : Events) → IsLeaveEvent s o last r e
      → u'.ghost_state.history ≡ put_on d e u.ghost_state.history → step_ended x.stepped ≡ r → TellsWhatIsLeft u x u'
  any_left None last r e is now says = none_left e (ap is_last_in is.2) now (says ∙ is.1)
  any_left (Some p) last r e is now says = go p.kind (now ∙ ap (λ (q : Events). put_on d q u.ghost_state.history) is.0) (says ∙ is.1)
    where
      go : (k : Kind) → u'.ghost_state.history ≡ put_on d (Some (leaves_as s k last p)) u.ghost_state.history
          → step_ended x.stepped ≡ cond last (remains_as k (s.object (owned s p))) None → TellsWhatIsLeft u x u'
      go Owner n t = one_left p last n t
      go Weak n t = weak_left p last n t

  no_leave : (e : Events) → sort_of e ≡ Another → is_last_in e ≡ false
  no_leave None is = refl
  no_leave (Some (event.Leave h last)) is = absurd cc
  no_leave (Some (event.Lock h got)) is = refl
  no_leave (Some _) is = refl

  module _ (p : ActsNext d u x.stepped u') where
    abbrev y : TraceLabel Nothing
    y = p.trace_label

    says : step_ended x.stepped ≡ y.said.ended
    says = (is_said x.stepped y.said p.says).ended

    by_act : (t : Task) (r : Reply) → y.said.ended ≡ (row t.act w.slots w.taken r).ended → IsDone s w.slots w.taken t.act r y.event
        → TellsWhatIsLeft u x u'
    by_act t r tells (Other other) = none_left y.event (no_leave y.event other.sort) p.history (says ∙ tells ∙ other.ended)
    by_act t r tells (Leaves o last l is silent ended) = any_left o last l y.event is p.history (says ∙ tells ∙ ended)
    by_act t r tells (Locks i must got e f leaves ended) = none_left y.event leaves p.history (says ∙ tells ∙ ended)

    by_ahead : (a : Ahead) → DoesAhead no_worth s w y (frame_of (abstraction u') d) a → TellsWhatIsLeft u x u'
    by_ahead Over does = absurd does
    by_ahead (AnEnd e es) (inl clears) =
        none_left y.event (ap is_last_in clears.makes) p.history (says ∙ ap (λ (a : Said). a.ended) clears.says)
    by_ahead (AnEnd e es) (inr ends) = none_left y.event (ap is_last_in ends.makes) p.history (says ∙ ap (λ (a : Said). a.ended) ends.says)
    by_ahead (AnAct t ts) m =
        by_act t m.reply (ap (λ (a : Said). a.ended) m.says) (each s y.desk w.slots w.taken t.act m.reply y.event m.makes)

  pub tells : Performs d u x.stepped u' → TellsWhatIsLeft u x u'
  tells performs =
      ⊎_elim
      (λ (p : PassesQuietly d u x.stepped u').
      none_left None refl (ap (λ (c : AbstractState). c.history) p.stays) (says_none d x.stepped p.silent).1)
      (λ (p : ActsNext d u x.stepped u'). by_ahead p (ahead w) p.does) performs
