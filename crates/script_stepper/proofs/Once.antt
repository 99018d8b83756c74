-- A run by single steps has no choice: there is one for each list of turns.
use Rattle.std.proofs.Common.{◌≡◌, ℕ, zero, suc, ◌-◌, Bool, true, false, List, [], ◌∷◌, ◌++◌, map}
use Rattle.std.proofs.Common.{length, get_or, All, sym, refl, ap, ◌∙◌, subst, arith}
use Rattle.script_stepper.proofs.Prelude.{All-head, All-tail, ended, IsRun, IsStepText, TraceStep}
use Rattle.script_stepper.proofs.Prelude.{WorldState}
use Rattle.std.proofs.lemmas.Bool.{false≢true}
use Rattle.step_threads.specs.declared.said.Stepped.{Stepped}
use Rattle.step_core.specs.Runs.{CallsOn, InOrder, IsScheduled, IsStepOf, RunsToEnd, Settles}
use Rattle.step_core.specs.Runs.{call_under_way, is_calling, is_owing}
use Rattle.step_core.specs.WorldStates.{IsOver}
use Rattle.step_core.specs.Worlds.{Advances, answer_at, world_state_by, step_of}
use Rattle.script_stepper.specs.StepRuns.{shown_steps}

-- the same steps, which lead to the same
abbrev Same : List TraceStep → List TraceStep → WorldState → WorldState → Type 0
Same xs ys a b = (xs ≡ ys) × (a ≡ b)

abbrev rest_of : List ℕ → List ℕ
rest_of [] = []
rest_of (x ∷ xs) = xs

no_steps : (u a b : WorldState) → a ≡ u → b ≡ u → Same [] [] a b
no_steps u a b p q = (refl, p ∙ sym q)

-- a step of one thread is what it is
module _ (u m n : WorldState) (x y : TraceStep) (p : Advances (x.actor - 1) u x.stepped m) (q : Advances (y.actor - 1) u y.stepped n)
    (actor : x.actor ≡ y.actor) where
  same_place : m ≡ n
  same_place =
      p.steps.1 ∙ ap (λ (k : ℕ). world_state_by (k - 1) u (step_of (k - 1) u)) actor ∙ sym q.steps.1

  same_step : x ≡ y
  same_step =
      let said : x.stepped ≡ y.stepped = p.steps.0 ∙ ap (λ (k : ℕ). answer_at (k - 1) u) actor ∙ sym q.steps.0 in
      ap (λ (k : ℕ). record { actor = k; stepped = x.stepped }) actor ∙ ap (λ (r : Stepped). record { actor = y.actor; stepped = r }) said

  -- and so is what comes after it, if that is
  more : (xs ys : List TraceStep) (a b : WorldState) → Same xs ys a b → Same (x ∷ xs) (y ∷ ys) a b
  more xs ys a b same = (ap (λ (z : TraceStep). z ∷ xs) same_step ∙ ap (λ (l : List TraceStep). y ∷ l) same.0, same.1)

-- one step for each number
numbered : (u a b : WorldState) (xs ys : List TraceStep) → map (λ (x : TraceStep). x.actor) xs ≡ map (λ (x : TraceStep). x.actor) ys
    → IsRun u xs a → IsRun u ys b → Same xs ys a b
numbered u a b [] [] e p q = no_steps u a b p q
numbered u a b [] (y ∷ ys) e p q = absurd cc
numbered u a b (x ∷ xs) [] e p q = absurd cc
numbered u a b (x ∷ xs) (y ∷ ys) e p q =
    let actor : x.actor ≡ y.actor = ap (λ (l : List ℕ). get_or l 0 0) e in
    let here = same_place u p.0 q.0 x y p.1 q.1 actor in
    more u p.0 q.0 x y p.1 q.1 actor xs ys a b
    (numbered p.0 a b xs ys (ap rest_of e) p.2 (subst (λ (m : WorldState). IsRun m ys b) (sym here) q.2))

-- a call that goes on to its end
calls : (c d : ℕ) (u a b : WorldState) (xs ys : List TraceStep) → CallsOn c d u xs a → is_calling c a d ≡ false → CallsOn c d u ys b
    → is_calling c b d ≡ false
    → Same xs ys a b
calls c d u a b [] [] p over q done = no_steps u a b p q
calls c d u a b [] (y ∷ ys) p over q done = absurd (false≢true (sym over ∙ ap (λ (m : WorldState). is_calling c m d) p ∙ q.0))
calls c d u a b (x ∷ xs) [] p over q done = absurd (false≢true (sym done ∙ ap (λ (m : WorldState). is_calling c m d) q ∙ p.0))
calls c d u a b (x ∷ xs) (y ∷ ys) p over q done =
    let n : d ≡ x.actor - 1 = let e = p.1 in omega (arith, e) in
    let k : d ≡ y.actor - 1 = let e = q.1 in omega (arith, e) in
    let f = subst (λ (i : ℕ). Advances i u x.stepped p.2) n p.3 in
    let g = subst (λ (i : ℕ). Advances i u y.stepped q.2) k q.3 in
    let actor = p.1 ∙ sym q.1 in
    let here = same_place u p.2 q.2 x y f g actor in
    more u p.2 q.2 x y f g actor xs ys a b
    (calls c d p.2 a b xs ys p.4 over (subst (λ (m : WorldState). CallsOn c d m ys b) (sym here) q.4) done)

settle : (d : ℕ) (u a b : WorldState) (xs ys : List TraceStep) → Settles d u xs a → Settles d u ys b → Same xs ys a b
settle d u a b xs ys p q = go (is_owing u d) refl
  where
    go : (o : Bool) → is_owing u d ≡ o → Same xs ys a b
    go true e = calls (call_under_way d u) d u a b xs ys (p.owing e).calls (p.owing e).done (q.owing e).calls (q.owing e).done
    go false e =
        ((p.none e).0 ∙ sym (q.none e).0, (p.none e).1 ∙ sym (q.none e).1)

-- a thread that isn't at its end
not_over : (d : ℕ) (u m : WorldState) (x : TraceStep) → IsStepOf d x → Advances (x.actor - 1) u x.stepped m → IsOver d u → ⊥
not_over d u m x is p over =
    let n : d ≡ x.actor - 1 = let e = is.0 in omega (arith, e) in
    is.1 (p.takes.over.1 (subst (λ (i : ℕ). IsOver i u) n over))

-- a thread alone to its end
alone : (d : ℕ) (u a b : WorldState) (xs ys : List TraceStep) → IsRun u xs a → All (IsStepOf d) xs → IsOver d a
    → IsRun u ys b → All (IsStepOf d) ys → IsOver d b → Same xs ys a b
alone d u a b [] [] p all over q each done = no_steps u a b p q
alone d u a b [] (y ∷ ys) p all over q each done =
    absurd (not_over d u q.0 y (All-head (IsStepOf d) y ys each) q.1 (subst (IsOver d) p over))
alone d u a b (x ∷ xs) [] p all over q each done =
    absurd (not_over d u p.0 x (All-head (IsStepOf d) x xs all) p.1 (subst (IsOver d) q done))
alone d u a b (x ∷ xs) (y ∷ ys) p all over q each done =
    let actor : x.actor ≡ y.actor = (All-head (IsStepOf d) x xs all).0 ∙ sym (All-head (IsStepOf d) y ys each).0 in
    let here = same_place u p.0 q.0 x y p.1 q.1 actor in
    more u p.0 q.0 x y p.1 q.1 actor xs ys a b
    (alone d p.0 a b xs ys p.2 (All-tail (IsStepOf d) x xs all) over (subst (λ (m : WorldState). IsRun m ys b) (sym here) q.2)
    (All-tail (IsStepOf d) y ys each) done)

ends : (d : ℕ) (u a b : WorldState) (xs ys : List TraceStep) → RunsToEnd d u xs a → RunsToEnd d u ys b → Same xs ys a b
ends d u a b xs ys p q = alone d u a b xs ys p.run p.alone p.over q.run q.alone q.over

-- threads in number order, each in a way that has no choice
in_order : (R : ℕ → WorldState → List TraceStep → WorldState → Type 0)
    → ((d : ℕ) (u a b : WorldState) (xs ys : List TraceStep) → R d u xs a → R d u ys b → Same xs ys a b)
    → (n : ℕ) (u a b : WorldState) (xs ys : List TraceStep) → InOrder R n u xs a → InOrder R n u ys b → Same xs ys a b
in_order R each zero u a b xs ys p q = (p.0 ∙ sym q.0, p.1 ∙ sym q.1)
in_order R each (suc n) u a b xs ys p q =
    let before = in_order R each n u p.2 q.2 p.0 q.0 p.4 q.4 in
    let mine = each n p.2 a b p.1 q.1 p.5 (subst (λ (m : WorldState). R n m q.1 b) (sym before.1) q.5) in
    (p.3 ∙ ap (λ (l : List TraceStep). l ++ p.1) before.0 ∙ ap (λ (l : List TraceStep). q.0 ++ l) mine.0 ∙ sym q.3, mine.1)

scheduled : (turns : List ℕ) (u a b : WorldState) (xs ys : List TraceStep) → IsScheduled turns u xs a → IsScheduled turns u ys b → Same xs ys a b
scheduled turns u a b xs ys p q =
    let n = length u.frame_views in
    let f = numbered u p.middle q.middle p.first q.first (p.numbers ∙ sym q.numbers) p.run q.run in
    let s = in_order Settles settle n p.middle p.calm q.calm p.settled q.settled p.settles
    (subst (λ (m : WorldState). InOrder Settles n m q.settled q.calm) (sym f.1) q.settles) in
    let e = in_order RunsToEnd ends n p.calm a b p.alone q.alone p.ends
    (subst (λ (m : WorldState). InOrder RunsToEnd n m q.alone b) (sym s.1) q.ends) in (
      p.parts ∙ ap (λ (l : List TraceStep). (l ++ p.settled) ++ p.alone) f.0 ∙ ap (λ (l : List TraceStep). (q.first ++ l) ++ p.alone) s.0
          ∙ ap (λ (l : List TraceStep). (q.first ++ q.settled) ++ l) e.0 ∙ sym q.parts,
      e.1,
    )

-- and so there is one text
pub one_text : (turns : List ℕ) (u : WorldState) (text other : List ℕ) → IsStepText turns u text → IsStepText turns u other → text ≡ other
one_text turns u text other p q =
    let s = scheduled turns u p.last q.last p.steps q.steps p.run.scheduled q.run.scheduled in
    p.says ∙ ap (λ (l : List TraceStep). ended (shown_steps l p.last)) s.0 ∙ ap (λ (m : WorldState). ended (shown_steps q.steps m)) s.1 ∙ sym q.says
