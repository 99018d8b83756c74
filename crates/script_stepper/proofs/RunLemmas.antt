-- Turns of a world, one after the other.
use Rattle.std.proofs.Common.{◌≡◌, ℕ, ◌+◌, ◌-◌, ◌<◌, ◌≤◌, false, List, [], ◌∷◌, ◌++◌, length}
use Rattle.std.proofs.Common.{get_or, take, replicate, is_some, Some, None, Option, sym, refl, ap}
use Rattle.std.proofs.Common.{◌∙◌, subst, append_assoc, append-nil, arith}
use Rattle.script_stepper.proofs.Prelude.{abstraction, AbstractState, AllRest, ended, ended-append}
use Rattle.script_stepper.proofs.Prelude.{flat_map, flat_map-append, frame_of, HasRun, IsThread}
use Rattle.script_stepper.proofs.Prelude.{Item, item_lines, next, RunsAlone, take_more, TakeTurns}
use Rattle.script_stepper.proofs.Prelude.{Task, turns_left, WorldState}
use Rattle.std.proofs.lemmas.List.{replicate_more}
use Rattle.script_stepper.proofs.Plays.{plays}
use Rattle.script_stepper.proofs.Takings.{turns_are}
use Rattle.script_stepper.proofs.TraceLemmas.{play_done, plays_size}

-- turns, and turns after them
pub takes_then : (xs ys : List ℕ) (c m c' : AbstractState) (is js : List Item) → TakeTurns xs c is m → TakeTurns ys m js c'
    → TakeTurns (xs ++ ys) c (is ++ js) c'
takes_then [] ys c m c' is js p q =
    subst (λ (a : AbstractState). TakeTurns ys a (is ++ js) c') p.1
    (subst (λ (l : List Item). TakeTurns ys m l c') (sym (ap (λ (l : List Item). l ++ js) p.0)) q)
takes_then (x ∷ xs) ys c m c' is js p q = (
  p.0,
  p.1 ++ js,
  p.2,
  p.3,
  takes_then xs ys p.2 m c' p.1 js p.4 q,
  ap (λ (l : List Item). l ++ js) p.5 ∙ append_assoc p.0 p.1 js,
)

pub run_none : (u : WorldState) (a : List ℕ) → AllRest u → HasRun [] u u a a
run_none u a rests =
    record { rests = rests; items = []; takes = (refl, refl); text_is = sym (append-nil a); most = λ d. omega arith }

pub run_then : (xs ys : List ℕ) (u v w : WorldState) (a b e : List ℕ) → HasRun xs u v a b → HasRun ys v w b e → HasRun (xs ++ ys) u w a e
run_then xs ys u v w a b e p q =
    let l = flat_map item_lines p.items in
    let m = flat_map item_lines q.items in
    record {
      rests = q.rests;
      items = p.items ++ q.items;
      takes = takes_then xs ys (abstraction u) (abstraction v) (abstraction w) p.items q.items p.takes q.takes;
      text_is =
          q.text_is ∙ ap (λ (t : List ℕ). t ++ ended m) p.text_is ∙ append_assoc a (ended l) (ended m)
          ∙ ap (λ (t : List ℕ). a ++ t) (sym (ended-append l m))
          ∙ ap (λ (t : List (List ℕ)). a ++ ended t) (sym (flat_map-append item_lines p.items q.items));
      most = λ d. let l = p.most d in let m = q.most d in omega (arith, l, m);
    }

-- where the turns lead
pub run_plays : (xs : List ℕ) (u v : WorldState) (a b : List ℕ) → HasRun xs u v a b → abstraction v ≡ plays xs (abstraction u)
run_plays xs u v a b h = (turns_are xs (abstraction u) h.items (abstraction v) h.takes).1

pub run_same : (xs ys : List ℕ) (u v : WorldState) (a b : List ℕ) → xs ≡ ys → HasRun xs u v a b → HasRun ys u v a b
run_same xs ys u v a b e h = subst (λ (zs : List ℕ). HasRun zs u v a b) e h

-- one number more of a list
pub run_more : (ts : List ℕ) (i : ℕ) (u v w : WorldState) (a b e : List ℕ) → i < length ts → HasRun (take i ts) u v a b
    → HasRun (get_or ts i 0 ∷ []) v w b e → HasRun (take (i + 1) ts) u w a e
run_more ts i u v w a b e lt p q = run_same _ _ u w a e (sym (take_more ts i 0 lt)) (run_then (take i ts) (get_or ts i 0 ∷ []) u v w a b e p q)

-- as many threads as before
pub run_size : (xs : List ℕ) (u v : WorldState) (a b : List ℕ) → HasRun xs u v a b → length v.frame_views ≡ length u.frame_views
run_size xs u v a b h = ap (λ (c : AbstractState). length c.frame_views) (run_plays xs u v a b h) ∙ plays_size xs (abstraction u)

pub run_thread : (xs : List ℕ) (u v : WorldState) (a b : List ℕ) (thread : ℕ) → HasRun xs u v a b → IsThread u thread → IsThread v thread
run_thread xs u v a b thread h t = let e = run_size xs u v a b h in (t.0, omega (arith, e, t.1))

none_of : (o : Option Task) → is_some o ≡ false → o ≡ None
none_of None e = refl
none_of (Some t) e = absurd cc

-- a turn of a thread at its end leaves it there
pub still_over : (thread : ℕ) (u v : WorldState) (a b : List ℕ) → HasRun (thread ∷ []) u v a b
    → is_some (next (frame_of (abstraction u) (thread - 1))) ≡ false → next (frame_of (abstraction v) (thread - 1)) ≡ None
still_over thread u v a b h e =
    let none = none_of (next (frame_of (abstraction u) (thread - 1))) e in
    ap (λ (c : AbstractState). next (frame_of c (thread - 1)))
    (run_plays (thread ∷ []) u v a b h ∙ play_done (thread - 1) (abstraction u) none)
    ∙ none

-- ---- a thread that runs alone

-- so far a thread took turns alone, each of which left it fewer
pub record Alone (thread : ℕ) (u v : WorldState) (a b : List ℕ) : Type 0 where
  pub turns : ℕ
  pub run : HasRun (replicate turns thread) u v a b
  pub less : turns + turns_left (thread - 1) (abstraction v) ≤ turns_left (thread - 1) (abstraction u)

pub alone_none : (thread : ℕ) (u : WorldState) (a : List ℕ) → AllRest u → Alone thread u u a a
alone_none thread u a rests = record { turns = 0; run = run_none u a rests; less = omega arith }

pub alone_more : (thread : ℕ) (u v w : WorldState) (a b e : List ℕ) → Alone thread u v a b → HasRun (thread ∷ []) v w b e
    → turns_left (thread - 1) (abstraction w) < turns_left (thread - 1) (abstraction v) → Alone thread u w a e
alone_more thread u v w a b e p q k =
    let l = p.less in
    record {
      turns = p.turns + 1;
      run = run_same _ _ u w a e (replicate_more p.turns thread) (run_then (replicate p.turns thread) (thread ∷ []) u v w a b e p.run q);
      less = omega (arith, k, l);
    }

-- and then one more, at its end
pub alone_ends : (thread : ℕ) (u v w : WorldState) (a b e : List ℕ) → Alone thread u v a b → HasRun (thread ∷ []) v w b e → RunsAlone thread u w a e
alone_ends thread u v w a b e p q =
    (p.turns + 1, run_same _ _ u w a e (replicate_more p.turns thread) (run_then (replicate p.turns thread) (thread ∷ []) u v w a b e p.run q))
