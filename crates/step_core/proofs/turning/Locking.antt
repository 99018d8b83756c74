-- What a step of a lock does.
use Rattle.std.proofs.Common.{◌≡◌, ℕ, Bool, true, false, ◌||◌, List, ◌==◌, Some, None, Option, sym}
use Rattle.std.proofs.Common.{refl, ap, ◌∙◌, inl, inr}
use Rattle.step_core.proofs.Prelude.{abstraction, Act, cond_both, false≢true, frame_of, Handle}
use Rattle.step_core.proofs.Prelude.{is_full, Lock, lock, locked_pointer, Locking, looks}
use Rattle.step_core.proofs.Prelude.{model_state, on, owner_word, PendingCall, Rest, step_of_act}
use Rattle.step_core.proofs.Prelude.{Task, tries, trying, WorldState}
use Rattle.step_core.proofs.turning.Saying.{lock_so}
use Rattle.step_core.proofs.turning.Trials.{Outcome, is_at_cell, is_looking, is_on}

pub full_some : (o : Option Handle) → is_full o ≡ true → (y : Handle) × (o ≡ Some y)
full_some None e = absurd (false≢true e)
full_some (Some y) e = (y, refl)

module _ (d : ℕ) (u : WorldState) (k : ℕ) (ts : List Task) (a : Act) (y : Handle)
    (locks : locked_pointer (frame_of (abstraction u) d).slots a ≡ Some y) where
  looking : is_looking (frame_of (abstraction u) d).slots a ≡ true
  looking = ap (λ (o : Option Handle). is_full o || is_at_cell (frame_of (abstraction u) d).slots a) locks

  -- a try that finds another word goes on with that one, and one that finds 0 begins again
  trying_on : Outcome d u k ts a (trying (frame_of (abstraction u) d) k (owner_word u.ghost_state y))
  trying_on =
      let w = frame_of (abstraction u) d in
      let n = owner_word u.ghost_state y in
      inr (record {
        quiet = refl;
        said = refl;
        frame_view = refl;
        history = refl;
        extent = refl;
        pending_call = cond_both (n == 0) Rest (Locking n) (λ (q : PendingCall). is_on w.slots a q ≡ true) (λ e. looking) (λ e. refl);
      })

  -- a try with this word
  pub tries_out : (word : ℕ) → Outcome d u k ts a (tries u.ghost_state d (frame_of (abstraction u) d) k ts a word y)
  tries_out word =
      let w = frame_of (abstraction u) d in
      let n = owner_word u.ghost_state y in
      cond_both (n == word) (step_of_act u.ghost_state d w k ts a (Some (lock (model_state u.ghost_state) y)) Rest) (trying w k n)
      (Outcome d u k ts a)
      (λ t. inl (record { event = refl; so = lock_so d u k ts a y locks; over = refl }))
      (λ f. trying_on)

  -- the first look: where no owner is left that is all
  looks_out : Outcome d u k ts a (looks u.ghost_state d (frame_of (abstraction u) d) k ts a y)
  looks_out =
      let w = frame_of (abstraction u) d in
      let n = owner_word u.ghost_state y in
      cond_both (n == 0) (step_of_act u.ghost_state d w k ts a (Some (lock (model_state u.ghost_state) y)) Rest) (trying w k n)
      (Outcome d u k ts a)
      (λ t. inl (record { event = refl; so = lock_so d u k ts a y locks; over = refl }))
      (λ f. trying_on)

pub lock_rest : (d : ℕ) (u : WorldState) (k : ℕ) (ts : List Task) (i : ℕ) (must : Bool) (o : Option Handle)
    → locked_pointer (frame_of (abstraction u) d).slots (Lock i must) ≡ o → is_looking (frame_of (abstraction u) d).slots (Lock i must) ≡ true
    → let w = frame_of (abstraction u) d in
    let a = Lock i must in
    Outcome d u k ts a (on (looks u.ghost_state d w k ts a) (step_of_act u.ghost_state d w k ts a None Rest) o)
lock_rest d u k ts i must None e is = absurd (false≢true (sym (ap (λ (o : Option Handle). is_full o || false) e) ∙ is))
lock_rest d u k ts i must (Some y) e is = looks_out d u k ts (Lock i must) y e
