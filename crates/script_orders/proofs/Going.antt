-- A world that goes on by turns, and which threads have an act left.
use Rattle.std.proofs.Common.{◌≡◌, ℕ, zero, suc, ◌+◌, ◌-◌, ◌<◌, ◌≤◌, ◌||◌, Bool, true, false, List, [], ◌∷◌, ◌++◌, length}
use Rattle.std.proofs.Common.{All, Contains, Option, None, Some, ap, ap₂, append-nil, arith, cond, get_or, inl, inr, is_some, refl}
use Rattle.std.proofs.Common.{subst, sym, ◌∙◌}
use Rattle.std.proofs.lemmas.Bool.{cases_lt}
use Rattle.std.proofs.lemmas.List.Elements.{All-append, All-cons, All-get_or, All-nil, All-push}
use Rattle.std.proofs.lemmas.List.Elements.{All-weaker, Contains-append_left, Contains-append_right, Contains-push}
use Rattle.script_stepper.specs.Running.{AllRest, IsThread, heard}
use Rattle.script_stepper.proofs.OneTurn.{Turn, acted_turn, done_turn}
use Rattle.script_stepper.proofs.RunLemmas.{takes_then}
use Rattle.script_text.specs.Beginnings.{script_abstraction, script_world_state}
use Rattle.script_text.specs.Drafts.{ScriptView}
use Rattle.script_text.specs.Traces.{Item, TakeTurns}
use Rattle.step_core.specs.Showing.{first_act}
use Rattle.step_core.specs.Worlds.{TakesWholeTurn, WorldState, abstraction}
use Rattle.step_table.specs.GhostStates.{TableInvariant}
use Rattle.step_table.specs.Registers.{Slots}
use Rattle.step_threads.specs.declared.ending.Ending.{Ending}
use Rattle.step_threads.specs.declared.programs.act.Task.{Task}
use Rattle.step_threads.specs.declared.said.Said.{Said}
use Rattle.step_threads.specs.declared.said.Turned.{Turned}
use Rattle.step_threads.specs.declared.said.Turned.TheVariants.{Acted, Done, Waited}
use Rattle.step_threads.specs.AbstractStates.{AbstractState, frame_of, next, next_of}
use Rattle.step_threads.specs.Endings.{first_of}
use Rattle.step_threads.specs.Frames.{FrameView}
use Rattle.script_orders.specs.Coverage.{IsAfter, IsOver, acting_in}

-- ---- a world that goes on

pub after_none : (script : ScriptView) (turns : List ℕ) (u : WorldState) → turns ≡ [] → u ≡ script_world_state script
    → AllRest u → length u.frame_views ≡ length script.threads → IsAfter script turns u
after_none script turns u none same rests size =
    let P : List ℕ → Type 0 = λ ts. IsAfter script ts u in
    subst P (sym none)
    (record {
      named = All-nil (λ (t : ℕ). (1 ≤ t) × (t ≤ length script.threads));
      rests = rests;
      threads = size;
      items = [];
      takes = (refl, ap abstraction same);
    })

-- one more turn
pub after_more : (script : ScriptView) (turns : List ℕ) (t : ℕ) (u u' : WorldState) → IsAfter script turns u
    → (1 ≤ t) × (t ≤ length script.threads) → AllRest u' → length u'.frame_views ≡ length u.frame_views
    → (items : List Item) × TakeTurns (t ∷ []) (abstraction u) items (abstraction u')
    → IsAfter script (turns ++ t ∷ []) u'
after_more script turns t u u' a named rests size x = record {
  named = All-push (λ (k : ℕ). (1 ≤ k) × (k ≤ length script.threads)) turns t a.named named;
  rests = rests;
  threads = size ∙ a.threads;
  items = a.items ++ x.0;
  takes =
      takes_then turns (t ∷ []) (script_abstraction script) (abstraction u) (abstraction u') a.items x.0 a.takes x.1;
}

-- a thread of a script is one of the world
pub thread_there : (script : ScriptView) (turns : List ℕ) (t : ℕ) (u : WorldState) → IsAfter script turns u
    → (1 ≤ t) × (t ≤ length script.threads) → IsThread u t
thread_there script turns t u a named = let n = a.threads in let m = named.1 in (named.0, omega (arith, n, m))

-- a turn of a world
one_taken : (thread : ℕ) (u u' : WorldState) (x : Option Said) → Turn thread u u' x
    → (items : List Item) × TakeTurns (thread ∷ []) (abstraction u) items (abstraction u')
one_taken thread u u' x t = (
  heard thread x,
  (heard thread x, [], abstraction u', t.takes, (refl, refl), sym (append-nil (heard thread x))),
)

-- a turn of a world leaves all threads between two acts
pub turned : (thread : ℕ) (u u' : WorldState) (r : Turned) → AllRest u → thread - 1 < length u.frame_views
    → TableInvariant u'.ghost_state → TakesWholeTurn (thread - 1) u r u'
    → AllRest u' × ((items : List Item) × TakeTurns (thread ∷ []) (abstraction u) items (abstraction u'))
turned thread u u' (Acted x) rests lt kept takes =
    let t = acted_turn thread u u' x rests lt kept takes in (t.rests, one_taken thread u u' (Some x) t)
turned thread u u' Done rests lt kept takes =
    let t = done_turn thread u u' rests lt kept takes in (t.rests, one_taken thread u u' None t)
turned thread u u' Waited rests lt kept takes = absurd takes.0

-- ---- the threads that have an act left

pub act_left : (w : FrameView) → (is_some (first_of w.endings) || is_some (first_act w.todo)) ≡ is_some (next w)
act_left w = left_by w.slots w.endings w.todo
  where
    left_by : (slots : Slots) (es : List Ending) (ts : List Task)
        → (is_some (first_of es) || is_some (first_act ts)) ≡ is_some (next_of slots es ts)
    left_by slots (e ∷ es) ts = refl
    left_by slots [] [] = refl
    left_by slots [] (t ∷ ts) = refl

one_named : (n : ℕ) (b : Bool) → All (λ (t : ℕ). (1 ≤ t) × (t ≤ suc n)) (cond b (suc n ∷ []) [])
one_named n true =
    All-cons (λ (t : ℕ). (1 ≤ t) × (t ≤ suc n)) (suc n) [] (omega arith, omega arith)
    (All-nil (λ (t : ℕ). (1 ≤ t) × (t ≤ suc n)))
one_named n false = All-nil (λ (t : ℕ). (1 ≤ t) × (t ≤ suc n))

pub acting_named : (c : AbstractState) (n : ℕ) → All (λ (t : ℕ). (1 ≤ t) × (t ≤ n)) (acting_in c n)
acting_named c zero = All-nil (λ (t : ℕ). (1 ≤ t) × (t ≤ 0))
acting_named c (suc n) =
    let P : ℕ → Type 0 = λ t. (1 ≤ t) × (t ≤ suc n) in
    All-append P (acting_in c n) (cond (is_some (next (frame_of c n))) (suc n ∷ []) [])
    (All-weaker (λ (t : ℕ). (1 ≤ t) × (t ≤ n)) P (λ t h. let l = h.1 in (h.0, omega (arith, l))) (acting_in c n)
    (acting_named c n))
    (one_named n (is_some (next (frame_of c n))))

pub acting_there : (c : AbstractState) (n d : ℕ) → d < n → is_some (next (frame_of c d)) ≡ true
    → Contains (acting_in c n) (suc d)
acting_there c zero d lt acts = absurd (omega (arith, lt))
acting_there c (suc n) d lt acts =
    elim (cases_lt d n) [
      | inl less ↦
          Contains-append_left (acting_in c n) (cond (is_some (next (frame_of c n))) (suc n ∷ []) []) (suc d)
          (acting_there c n d less acts)
      | inr ge ↦
          let same : d ≡ n = omega (arith, lt, ge) in
          let here : is_some (next (frame_of c n)) ≡ true =
          subst (λ (k : ℕ). is_some (next (frame_of c k)) ≡ true) same acts in
          let listed : Contains (cond (is_some (next (frame_of c n))) (suc n ∷ []) []) (suc n) =
          subst (λ (b : Bool). Contains (cond b (suc n ∷ []) []) (suc n)) (sym here) (Contains-push [] (suc n)) in
          subst (λ (k : ℕ). Contains (acting_in c (suc n)) (suc k)) (sym same)
          (Contains-append_right (acting_in c n) (cond (is_some (next (frame_of c n))) (suc n ∷ []) []) (suc n) listed)
    ]

-- where all are at their ends none has one
pub acting_over : (c : AbstractState) (n : ℕ) → IsOver c → acting_in c n ≡ []
acting_over c zero over = refl
acting_over c (suc n) over =
    ap₂ (λ (l : List ℕ) (b : Bool). l ++ cond b (suc n ∷ []) []) (acting_over c n over) (ap is_some (over n))

-- one thread more was looked at
pub acting_more : (c : AbstractState) (n t : ℕ) (b : Bool) (old new : List ℕ) → old ≡ acting_in c n → t ≡ n + 1
    → b ≡ is_some (next (frame_of c (t - 1))) → b ≡ true → new ≡ old ++ t ∷ [] → new ≡ acting_in c (n + 1)
acting_more c n t b old new before is tells acts e =
    let more : n + 1 ≡ suc n = omega arith in
    let same : t ≡ suc n = omega (arith, is) in
    let less : t - 1 ≡ n = omega (arith, is) in
    let here : is_some (next (frame_of c n)) ≡ true =
    ap (λ (k : ℕ). is_some (next (frame_of c k))) (sym less) ∙ sym tells ∙ acts in
    e ∙ ap₂ (λ (l : List ℕ) (k : ℕ). l ++ k ∷ []) before same
    ∙ ap (λ (is_so : Bool). acting_in c n ++ cond is_so (suc n ∷ []) []) (sym here) ∙ ap (acting_in c) (sym more)

pub acting_same : (c : AbstractState) (n t : ℕ) (b : Bool) (old new : List ℕ) → old ≡ acting_in c n → t ≡ n + 1
    → b ≡ is_some (next (frame_of c (t - 1))) → b ≡ false → new ≡ old → new ≡ acting_in c (n + 1)
acting_same c n t b old new before is tells idle e =
    let more : n + 1 ≡ suc n = omega arith in
    let less : t - 1 ≡ n = omega (arith, is) in
    let here : is_some (next (frame_of c n)) ≡ false =
    ap (λ (k : ℕ). is_some (next (frame_of c k))) (sym less) ∙ sym tells ∙ idle in
    e ∙ before ∙ sym (append-nil (acting_in c n))
    ∙ ap (λ (is_so : Bool). acting_in c n ++ cond is_so (suc n ∷ []) []) (sym here) ∙ ap (acting_in c) (sym more)

-- one of them is a thread of the script
pub acting_at : (c : AbstractState) (n i t d : ℕ) (acting : List ℕ) → acting ≡ acting_in c n → i < length acting
    → t ≡ get_or acting i d → (1 ≤ t) × (t ≤ n)
acting_at c n i t d acting is lt same =
    let P : ℕ → Type 0 = λ k. (1 ≤ k) × (k ≤ n) in
    let named : All P acting = subst (All P) (sym is) (acting_named c n) in
    subst P (sym same) (All-get_or P acting i d lt named)
