-- Runs follow the statements of all threads.
use Rattle.std.proofs.Common.{◌≡◌, ℕ, ◌-◌, ◌≢◌, List, [], ◌∷◌, ◌++◌, Option, sym, refl, ap, ◌∙◌}
use Rattle.std.proofs.Common.{subst, inl, inr, ⊎_elim, append_assoc, append-nil}
use Rattle.step_core.proofs.Prelude.{abstraction, AbstractState, ActsNext, Advances, cases_eq}
use Rattle.step_core.proofs.Prelude.{DoesNext, Extent, frame_of, FrameView, History, IsRun, leads}
use Rattle.step_core.proofs.Prelude.{no_worth, opening, PassesQuietly, put_on, Said, said_by}
use Rattle.step_core.proofs.Prelude.{spoken, spoken_by, TraceStep, WorldState}
use Rattle.step_threads.specs.TraceLabels.{GoesThrough, onto}
use Rattle.step_core.specs.Following.{Follows, lines_of}

-- the lines of one step more
lines_more : (xs : List TraceStep) (x : TraceStep) → lines_of (xs ++ x ∷ []) ≡ lines_of xs ++ spoken_by (x.actor - 1) (said_by x.stepped)
lines_more [] x = append-nil (spoken_by (x.actor - 1) (said_by x.stepped))
lines_more (y ∷ xs) x =
    let a = spoken_by (y.actor - 1) (said_by y.stepped) in
    ap (λ (l : List (ℕ × Said)). a ++ l) (lines_more xs x)
    ∙ sym (append_assoc a (lines_of xs) (spoken_by (x.actor - 1) (said_by x.stepped)))

module _ (u m m' : WorldState) (xs : List TraceStep) (x : TraceStep) (f : Follows u xs m) (a : Advances (x.actor - 1) m x.stepped m') where
  -- a step that is no act
  pass : PassesQuietly (x.actor - 1) m x.stepped m' → Follows u (xs ++ x ∷ []) m'
  pass p =
      record {
        trace_labels = f.trace_labels;
        history = ap (λ (c : AbstractState). c.history) p.stays ∙ f.history;
        each = λ e. subst (λ (w : FrameView). GoesThrough no_worth (opening u.ghost_state.extent) u.ghost_state.history e (frame_of (abstraction u) e)
            f.trace_labels w)
            (sym (ap (λ (c : AbstractState). frame_of c e) p.stays)) (f.each e);
        says = f.says ∙ sym (lines_more xs x ∙ ap (λ (l : List (ℕ × Said)). lines_of xs ++ l) p.silent ∙ append-nil (lines_of xs));
        extent = a.takes.extent ∙ f.extent;
      }

  -- an act
  act : ActsNext (x.actor - 1) m x.stepped m' → Follows u (xs ++ x ∷ []) m'
  act p =
      let d = x.actor - 1 in
      let z = opening u.ghost_state.extent in
      let h = u.ghost_state.history in
      let y = p.trace_label in
      let does : DoesNext no_worth (leads z (onto h f.trace_labels)) (frame_of (abstraction m) d) y (frame_of (abstraction m') d) =
      subst (λ (q : History). DoesNext no_worth (leads z q) (frame_of (abstraction m) d) y (frame_of (abstraction m') d)) f.history
      (subst (λ (k : Extent). DoesNext no_worth (leads (opening k) m.ghost_state.history) (frame_of (abstraction m) d) y (frame_of (abstraction m') d)) f.extent
      p.does) in
      record {
        trace_labels = y ∷ f.trace_labels;
        history = p.history ∙ ap (λ (n : ℕ). put_on n y.event m.ghost_state.history) (sym p.desk) ∙ ap (put_on y.desk y.event) f.history;
        each = λ e. ⊎_elim
            (λ (q : d ≡ e). inr (
              p.desk ∙ q,
              (
                frame_of (abstraction m) e,
                f.each e,
                subst (λ (k : ℕ). DoesNext no_worth (leads z (onto h f.trace_labels)) (frame_of (abstraction m) k) y (frame_of (abstraction m') k)) q does,
              ),
            ))
            (λ (n : d ≢ e). inl (
              λ q. n (sym p.desk ∙ q),
              subst (λ (w : FrameView). GoesThrough no_worth z h e (frame_of (abstraction u) e) f.trace_labels w) (sym (a.takes.frame_views e (λ q. n (sym q))))
                  (f.each e),
            ))
            (cases_eq d e);
        says = ap (λ (l : List (ℕ × Said)). l ++ spoken y.desk y.said) f.says
            ∙ ap (λ (n : ℕ). lines_of xs ++ spoken n y.said) p.desk
            ∙ ap (λ (o : Option Said). lines_of xs ++ spoken_by d o) (sym p.says) ∙ sym (lines_more xs x);
        extent = a.takes.extent ∙ f.extent;
      }

follow_step : (u m m' : WorldState) (xs : List TraceStep) (x : TraceStep) → Follows u xs m → Advances (x.actor - 1) m x.stepped m'
    → Follows u (xs ++ x ∷ []) m'
follow_step u m m' xs x f a =
    ⊎_elim (λ (p : PassesQuietly (x.actor - 1) m x.stepped m'). pass u m m' xs x f a p)
    (λ (p : ActsNext (x.actor - 1) m x.stepped m'). act u m m' xs x f a p) a.performs

follow_on : (u m u' : WorldState) (xs ys : List TraceStep) → Follows u xs m → IsRun m ys u' → Follows u (xs ++ ys) u'
follow_on u m u' xs [] f run =
    subst (λ (w : WorldState). Follows u (xs ++ []) w) (sym run) (subst (λ (l : List TraceStep). Follows u l m) (sym (append-nil xs)) f)
follow_on u m u' xs (y ∷ ys) f run =
    subst (λ (l : List TraceStep). Follows u l u') (append_assoc xs (y ∷ []) ys)
    (follow_on u run.0 u' (xs ++ y ∷ []) ys (follow_step u m run.0 xs y f run.1) run.2)

-- the steps of a run
pub follows : (u u' : WorldState) (xs : List TraceStep) → IsRun u xs u' → Follows u xs u'
follows u u' xs run =
    follow_on u u u' [] xs (record { trace_labels = []; history = refl; each = λ d. refl; says = refl; extent = refl }) run
