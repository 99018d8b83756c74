-- Each thread to its end, in number order.
use Rattle.std.proofs.Common.{◌≡◌, ℕ, ◌+◌, ◌-◌, ◌<◌, ◌≤◌, List, [], ◌∷◌, ◌++◌, length, replicate}
use Rattle.std.proofs.Common.{None, sym, refl, ap, ◌∙◌, subst, inl, inr, append_assoc, append-nil}
use Rattle.std.proofs.Common.{arith, length-append}
use Rattle.script_stepper.proofs.Prelude.{abstraction, AbstractState, AllOver, cases_eq, cases_lt}
use Rattle.script_stepper.proofs.Prelude.{frame_of, HasRun, in_order, next, RunsAlone, WorldState}
use Rattle.script_stepper.proofs.TraceLemmas.{done_past, plays_over}
use Rattle.script_stepper.proofs.RunLemmas.{run_plays, run_same, run_size, run_then}

pub in_order-more : (ns : List ℕ) (n t : ℕ) → in_order t (ns ++ n ∷ []) ≡ in_order t ns ++ replicate n (t + length ns)
in_order-more [] n t = let e : t ≡ t + 0 = omega arith in append-nil (replicate n t) ∙ ap (λ (k : ℕ). replicate n k) e
in_order-more (m ∷ ns) n t =
    let e : (t + 1) + length ns ≡ t + length (m ∷ ns) = omega arith in
    ap (λ (l : List ℕ). replicate m t ++ l)
    (in_order-more ns n (t + 1) ∙ ap (λ (k : ℕ). in_order (t + 1) ns ++ replicate n k) e)
    ∙ sym (append_assoc (replicate m t) (in_order (t + 1) ns) (replicate n (t + length (m ∷ ns))))

-- the threads before this one are at their ends, by these turns and some more of each
pub record Ended (turns : List ℕ) (i : ℕ) (u v : WorldState) (a b : List ℕ) : Type 0 where
  pub more : List ℕ
  pub each : length more ≡ i
  pub run : HasRun (turns ++ in_order 1 more) u v a b
  pub over : (d : ℕ) → d < i → next (frame_of (abstraction v) d) ≡ None

pub none_ended : (turns : List ℕ) (u v : WorldState) (a b : List ℕ) → HasRun turns u v a b → Ended turns 0 u v a b
none_ended turns u v a b h =
    record { more = []; each = refl; run = run_same _ _ u v a b (sym (append-nil turns)) h; over = λ d lt. absurd (omega (arith, lt)) }

over_then : (i : ℕ) (v w : WorldState) (b e : List ℕ) → ((d : ℕ) → d < i → next (frame_of (abstraction v) d) ≡ None)
    → RunsAlone (i + 1) v w b e → next (frame_of (abstraction w) (i + 1 - 1)) ≡ None → (d : ℕ) → d < i + 1 → next (frame_of (abstraction w) d) ≡ None
over_then i v w b e h alone over d lt =
    elim (cases_eq d i) [
      | inl same ↦ (let s : i + 1 - 1 ≡ d = omega (arith, same) in subst (λ (z : ℕ). next (frame_of (abstraction w) z) ≡ None) s over)
      | inr ne ↦ subst (λ (c : AbstractState). next (frame_of c d) ≡ None) (sym (run_plays (replicate alone.0 (i + 1)) v w b e alone.1))
          (plays_over (replicate alone.0 (i + 1)) d (abstraction v) (h d (omega (arith, lt, ne))))
    ]

-- one thread more at its end
pub ended_then : (turns : List ℕ) (i : ℕ) (u v w : WorldState) (a b e : List ℕ) → Ended turns i u v a b → RunsAlone (i + 1) v w b e
    → next (frame_of (abstraction w) (i + 1 - 1)) ≡ None → Ended turns (i + 1) u w a e
ended_then turns i u v w a b e p alone over =
    let here : 1 + length p.more ≡ i + 1 = (let n = p.each in omega (arith, n)) in
    let all : (turns ++ in_order 1 p.more) ++ replicate alone.0 (i + 1) ≡ turns ++ in_order 1 (p.more ++ alone.0 ∷ []) =
    append_assoc turns (in_order 1 p.more) (replicate alone.0 (i + 1))
    ∙ ap (λ (l : List ℕ). turns ++ l)
    (ap (λ (k : ℕ). in_order 1 p.more ++ replicate alone.0 k) (sym here) ∙ sym (in_order-more p.more alone.0 1)) in
    record {
      more = p.more ++ alone.0 ∷ [];
      each = (let n = p.each in let m = length-append p.more (alone.0 ∷ []) in omega (arith, n, m));
      run = run_same _ _ u w a e all (run_then (turns ++ in_order 1 p.more) (replicate alone.0 (i + 1)) u v w a b e p.run alone.1);
      over = over_then i v w b e p.over alone over;
    }

pub all_over : (ts : List ℕ) (i : ℕ) (u v : WorldState) (a b : List ℕ) → length u.frame_views ≤ i → HasRun ts u v a b
    → ((d : ℕ) → d < i → next (frame_of (abstraction v) d) ≡ None) → AllOver v
all_over ts i u v a b le h over d =
    let size = run_size ts u v a b h in
    elim (cases_lt d i) [ inl lt ↦ over d lt | inr ge ↦ done_past (abstraction v) d (omega (arith, size, le, ge)) ]
