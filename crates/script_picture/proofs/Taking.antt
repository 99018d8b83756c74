-- Turns of a world whose acts are recorded, one after the other.
use Rattle.std.proofs.Common.{◌≡◌, ℕ, ◌+◌, ◌-◌, ◌<◌, ◌≤◌, List, [], ◌∷◌, ◌++◌, replicate, length, get_or, map, refl, sym, ap, subst, ◌∙◌, arith}
use Rattle.std.proofs.Common.{append_assoc, take}
use Rattle.std.specs.Prelude.{Option}
use Rattle.std.specs.List.{flat_map}
use Rattle.std.proofs.lemmas.List.{append-nil, replicate_more, take_more}
use Rattle.step_threads.specs.declared.said.Said.{Said}
use Rattle.step_threads.specs.AbstractStates.{AbstractState}
use Rattle.step_core.specs.Worlds.{WorldState, abstraction}
use Rattle.script_text.specs.Grammar.{ended}
use Rattle.script_stepper.specs.Lines.{item_lines}
use Rattle.script_stepper.specs.Running.{AllRest, IsThread, heard, turns_left}
use Rattle.script_stepper.proofs.OneTurn.{Turn, turn_run}
use Rattle.script_stepper.proofs.RunLemmas.{run_thread, takes_then}
use Rattle.script_stepper.proofs.StepLemmas.{same_shape}
use Rattle.script_picture.specs.declared.recording.Rows.{Rows}
use Rattle.script_picture.specs.Acts.{Seen, seen_in}
use Rattle.control_word.specs.declared.shape.Shape.{Shape}
use Rattle.leak_report.specs.Holders.{free_cells}
use Rattle.script_picture.specs.declared.recording.Source.{Source}
use Rattle.script_picture.specs.Recording.{Adds, Fits, HasTaken, Sees, TakesAlone}
use Rattle.script_picture.proofs.Recordings.{adds_none, adds_then}

-- some turns, and then others
sees_then : (xs ys : List ℕ) (c m c' : AbstractState) (seen later : List Seen) → Sees xs c seen m → Sees ys m later c' → Sees (xs ++ ys) c (seen ++ later) c'
sees_then [] ys c m c' seen later p q =
    subst (λ (l : List Seen). Sees ys c (l ++ later) c') (sym p.0) (subst (λ (b : AbstractState). Sees ys b later c') p.1 q)
sees_then (x ∷ xs) ys c m c' seen later p q =
    let first = map (seen_in p.2) p.0 in (
      p.0,
      p.1 ++ later,
      p.2,
      p.3,
      sees_then xs ys p.2 m c' p.1 later p.4 q,
      ap (λ (l : List Seen). l ++ later) p.5 ∙ append_assoc first p.1 later,
    )

-- a turn, and what it said
pub taken_turn : (thread : ℕ) (u u' : WorldState) (x : Option Said) (r r' : Rows) → Turn thread u u' x
    → Adds (map (seen_in (abstraction u')) (heard thread x)) r r' → HasTaken (thread ∷ []) u u' r r'
taken_turn thread u u' x r r' t adds =
    record {
      text = ended (flat_map item_lines (heard thread x));
      run = record {
        rests = t.rests;
        items = heard thread x;
        takes = (heard thread x, [], abstraction u', t.takes, (refl, refl), sym (append-nil (heard thread x)));
        text_is = refl;
        most = (turn_run thread u u' x [] _ t refl).most;
      };
      seen = map (seen_in (abstraction u')) (heard thread x);
      sees = (
        heard thread x,
        [],
        abstraction u',
        t.takes,
        (refl, refl),
        sym (append-nil (map (seen_in (abstraction u')) (heard thread x))),
      );
      adds = adds;
    }

-- no turn
pub taken_none : (u : WorldState) (r : Rows) → AllRest u → HasTaken [] u u r r
taken_none u r rests =
    record {
      text = [];
      run = record { rests = rests; items = []; takes = (refl, refl); text_is = refl; most = λ d. omega arith };
      seen = [];
      sees = (refl, refl);
      adds = adds_none r;
    }

pub taken_then : (xs ys : List ℕ) (u v w : WorldState) (r m s : Rows) → HasTaken xs u v r m
    → HasTaken ys v w m s → HasTaken (xs ++ ys) u w r s
taken_then xs ys u v w r m s p q =
    record {
      text = ended (flat_map item_lines (p.run.items ++ q.run.items));
      run = record {
        rests = q.run.rests;
        items = p.run.items ++ q.run.items;
        takes = takes_then xs ys (abstraction u) (abstraction v) (abstraction w) p.run.items q.run.items p.run.takes
            q.run.takes;
        text_is = refl;
        most = λ d. let l = p.run.most d in let m = q.run.most d in omega (arith, l, m);
      };
      seen = p.seen ++ q.seen;
      sees = sees_then xs ys (abstraction u) (abstraction v) (abstraction w) p.seen q.seen p.sees q.sees;
      adds = adds_then p.seen q.seen r m s p.adds q.adds;
    }

pub taken_same : (xs ys : List ℕ) (u v : WorldState) (r m : Rows) → xs ≡ ys → HasTaken xs u v r m → HasTaken ys u v r m
taken_same xs ys u v r m e h = subst (λ (zs : List ℕ). HasTaken zs u v r m) e h

-- one number more of a list
pub taken_more : (ts : List ℕ) (i : ℕ) (u v w : WorldState) (r m s : Rows) → i < length ts → HasTaken (take i ts) u v r m
    → HasTaken (get_or ts i 0 ∷ []) v w m s → HasTaken (take (i + 1) ts) u w r s
taken_more ts i u v w r m s lt p q = taken_same _ _ u w r s (sym (take_more ts i 0 lt)) (taken_then (take i ts) (get_or ts i 0 ∷ []) u v w r m s p q)

pub taken_thread : (xs : List ℕ) (u v : WorldState) (r m : Rows) (thread : ℕ) → HasTaken xs u v r m → IsThread u thread → IsThread v thread
taken_thread xs u v r m thread h t = run_thread xs u v [] h.text thread h.run t

-- a world of the same shape is as large
pub fits_still : (r m : Source) (u v : WorldState) → m.blocks ≡ r.blocks
    → v.ghost_state.extent.shape ≡ u.ghost_state.extent.shape → Fits r u → Fits m v
fits_still r m u v blocks same h = record {
  blocks = blocks ∙ h.blocks ∙ sym (ap (λ (x : Shape). x.blocks) same);
  cells = ap (λ (x : Shape). free_cells x) same ∙ h.cells;
}

-- the table and the rows' blocks are as they were
pub taken_fits : (xs : List ℕ) (u v : WorldState) (r m : Rows) → HasTaken xs u v r m → Fits r.source u
    → Fits m.source v
taken_fits xs u v r m h fits =
    fits_still r.source m.source u v h.adds.blocks (same_shape xs u v [] h.text h.run) fits

-- ---- a thread that runs alone

-- so far a thread took turns alone, each of which left it fewer
pub record Alone (thread : ℕ) (u v : WorldState) (r m : Rows) : Type 0 where
  pub turns : ℕ
  pub taken : HasTaken (replicate turns thread) u v r m
  pub less : turns + turns_left (thread - 1) (abstraction v) ≤ turns_left (thread - 1) (abstraction u)

pub alone_none : (thread : ℕ) (u : WorldState) (r : Rows) → AllRest u → Alone thread u u r r
alone_none thread u r rests = record { turns = 0; taken = taken_none u r rests; less = omega arith }

pub alone_more : (thread : ℕ) (u v w : WorldState) (r m s : Rows) → Alone thread u v r m → HasTaken (thread ∷ []) v w m s
    → turns_left (thread - 1) (abstraction w) < turns_left (thread - 1) (abstraction v) → Alone thread u w r s
alone_more thread u v w r m s p q k =
    let l = p.less in
    record {
      turns = p.turns + 1;
      taken = taken_same _ _ u w r s (replicate_more p.turns thread) (taken_then (replicate p.turns thread) (thread ∷ []) u v w r m s p.taken q);
      less = omega (arith, k, l);
    }

-- and then one more, at its end
pub alone_ends : (thread : ℕ) (u v w : WorldState) (r m s : Rows) → Alone thread u v r m → HasTaken (thread ∷ []) v w m s → TakesAlone thread u w r s
alone_ends thread u v w r m s p q =
    (p.turns + 1, taken_same _ _ u w r s (replicate_more p.turns thread) (taken_then (replicate p.turns thread) (thread ∷ []) u v w r m s p.taken q))
