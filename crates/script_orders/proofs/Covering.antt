-- Orders by their beginnings: where each way on is covered, so is the beginning.
use Rattle.std.specs.Prelude.{◌⊎◌}
use Rattle.std.proofs.Common.{◌≡◌, ℕ, suc, ◌+◌, ◌-◌, ◌<◌, ◌≤◌, Bool, true, false, List, [], ◌∷◌, ◌++◌, length}
use Rattle.std.proofs.Common.{All, Contains, Ok, Option, Result, None, Some, ap, ap₂, append_assoc, append-nil, arith}
use Rattle.std.proofs.Common.{get_or, inl, inr, is_some, refl, replicate, subst, sym, ◌∙◌}
use Rattle.std.proofs.lemmas.Bool.{cases_lt}
use Rattle.std.proofs.lemmas.List.Elements.{All-append, All-contains, All-from_get_or, All-head, All-nil}
use Rattle.std.proofs.lemmas.List.Elements.{All-replicate, All-tail, All-weaker}
use Rattle.script_text.specs.Beginnings.{script_abstraction}
use Rattle.script_text.specs.Drafts.{ScriptView}
use Rattle.script_text.specs.Grammar.{ReadsAs, ended}
use Rattle.script_text.specs.Traces.{Item, TakesTurn, TakeTurns, in_order}
use Rattle.script_text.proofs.OneReading.{reads_answer}
use Rattle.script_stepper.specs.Lines.{run_lines}
use Rattle.script_stepper.specs.Runs.{IsRunText, IsScriptRun, IsTurnText}
use Rattle.script_stepper.specs.TurnLists.{list_at}
use Rattle.script_stepper.proofs.RunLemmas.{takes_then}
use Rattle.script_stepper.proofs.Takings.{turns_are}
use Rattle.script_stepper.proofs.TraceLemmas.{done_past}
use Rattle.script_stepper.proofs.TurnBounds.{Names, listed_named}
use Rattle.step_core.specs.Worlds.{WorldState, abstraction}
use Rattle.step_threads.specs.AbstractStates.{AbstractState, frame_of, next}
use Rattle.step_threads.specs.declared.programs.act.Task.{Task}
use Rattle.script_orders.specs.Coverage.{Covers, IsAfter, IsOver, WasFound, acting_in, sorted_text}
use Rattle.script_orders.specs.Outcomes.{Outcome, texts_of}
use Rattle.script_orders.specs.Sorting.{by_threads}
use Rattle.script_orders.proofs.Going.{acting_over, acting_there}

-- ---- turns in two parts

pub record Parts (xs ys : List ℕ) (c : AbstractState) (items : List Item) (last : AbstractState) : Type 0 where
  pub first : List Item
  pub later : List Item
  pub middle : AbstractState
  pub begins : TakeTurns xs c first middle
  pub ends : TakeTurns ys middle later last
  pub both : items ≡ first ++ later

takes_parts : (xs ys : List ℕ) (c : AbstractState) (items : List Item) (last : AbstractState)
    → TakeTurns (xs ++ ys) c items last → Parts xs ys c items last
takes_parts [] ys c items last p =
    record { first = []; later = items; middle = c; begins = (refl, refl); ends = p; both = refl }
takes_parts (x ∷ xs) ys c items last p =
    let q = takes_parts xs ys p.2 p.1 last p.4 in
    record {
      first = p.0 ++ q.first;
      later = q.later;
      middle = q.middle;
      begins = (p.0, q.first, p.2, p.3, q.begins, refl);
      ends = q.ends;
      both = p.5 ∙ ap (λ (l : List Item). p.0 ++ l) q.both ∙ sym (append_assoc p.0 q.first q.later);
    }

-- where all threads are at their ends, nothing comes of more turns
over_stays : (ys : List ℕ) (c : AbstractState) (items : List Item) (last : AbstractState)
    → TakeTurns ys c items last → IsOver c → (items ≡ []) × (last ≡ c)
over_stays [] c items last p over = p
over_stays (t ∷ ys) c items last p over =
    let q : (p.0 ≡ []) × (p.2 ≡ c) = subst (λ (o : Option Task). TakesTurn t c o p.0 p.2) (over (t - 1)) p.3 in
    let r = over_stays ys p.2 p.1 last p.4 (subst IsOver (sym q.1) over) in
    (p.5 ∙ ap₂ (λ (a b : List Item). a ++ b) q.0 r.0, r.1 ∙ q.1)

-- a turn of a thread at its end may be left out
left_out : (xs ys : List ℕ) (t : ℕ) (c : AbstractState) (items : List Item) (last : AbstractState)
    → TakeTurns (xs ++ t ∷ ys) c items last
    → ((is : List Item) (m : AbstractState) → TakeTurns xs c is m → next (frame_of m (t - 1)) ≡ None)
    → TakeTurns (xs ++ ys) c items last
left_out xs ys t c items last p idle =
    let s = takes_parts xs (t ∷ ys) c items last p in
    let e = s.ends in
    let q : (e.0 ≡ []) × (e.2 ≡ s.middle) =
    subst (λ (o : Option Task). TakesTurn t s.middle o e.0 e.2) (idle s.first s.middle s.begins) e.3 in
    let rest : TakeTurns ys s.middle e.1 last = subst (λ (m : AbstractState). TakeTurns ys m e.1 last) q.1 e.4 in
    let same : items ≡ s.first ++ e.1 =
    s.both ∙ ap (λ (l : List Item). s.first ++ l) (e.5 ∙ ap (λ (l : List Item). l ++ e.1) q.0) in
    subst (λ (l : List Item). TakeTurns (xs ++ ys) c l last) (sym same)
    (takes_then xs ys c s.middle last s.first e.1 s.begins rest)

-- ---- what a beginning has

same_script : (bytes : List ℕ) (s t : ScriptView) → ReadsAs bytes s → ReadsAs bytes t → s ≡ t
same_script bytes s t h k = elim (reads_answer (Ok s) bytes t h k) [ inl e ↦ cc | inr e ↦ absurd cc ]

same_listed : (xs ys : List ℕ) (r : Result (List ℕ) ℕ) → r ≡ Ok xs → r ≡ Ok ys → xs ≡ ys
same_listed xs ys r p q = cc

none_of : (o : Option Task) → false ≡ is_some o → o ≡ None
none_of None e = refl
none_of (Some t) e = absurd cc

-- the run with these turns, after which all threads are at their ends
pub found_text : (bytes : List ℕ) (script : ScriptView) (outcomes : List Outcome) (turns : List ℕ) (n : ℕ) (items : List Item)
    (last : AbstractState) → ReadsAs bytes script → n ≡ length script.threads → WasFound bytes n outcomes turns
    → TakeTurns turns (script_abstraction script) items last → IsOver last
    → Contains (texts_of outcomes) (sorted_text items last)
found_text bytes script outcomes turns n items last reads all f takes over =
    let z = script_abstraction script in
    let o = f.is in
    let same : script ≡ o.runs.script = same_script bytes script o.runs.script reads o.runs.reads in
    let listed : turns ≡ o.runs.turns =
    same_listed turns o.runs.turns (list_at n f.list) f.listed
    (ap (λ (k : ℕ). list_at k f.list) (all ∙ ap (λ (u : ScriptView). length u.threads) same) ∙ o.runs.listed) in
    let x : IsTurnText turns z o.run =
    subst (λ (ts : List ℕ). IsTurnText ts z o.run) (sym listed)
    (subst (λ (u : ScriptView). IsRunText u o.runs.turns o.run) (sym same) o.runs.says) in
    let s = takes_parts turns (in_order 1 x.trace.more) z x.items x.last x.trace.takes in
    let a = turns_are turns z s.first s.middle s.begins in
    let b = turns_are turns z items last takes in
    let here : s.middle ≡ last = a.1 ∙ sym b.1 in
    let idle = over_stays (in_order 1 x.trace.more) s.middle s.later x.last s.ends (subst IsOver (sym here) over) in
    let says : x.items ≡ items =
    s.both ∙ ap (λ (l : List Item). s.first ++ l) idle.0 ∙ append-nil s.first ∙ a.0 ∙ sym b.0 in
    subst (Contains (texts_of outcomes))
    (o.sorted ∙ ap by_threads (x.says
    ∙ ap₂ (λ (i : List Item) (l : AbstractState). ended (run_lines i l)) says (idle.1 ∙ here)))
    f.there

-- whichever turns come after these and one of a thread, the outcome was found
abbrev pub CoversBy : ScriptView → List Outcome → List ℕ → ℕ → Type 0
CoversBy script outcomes turns thread = Covers script outcomes (turns ++ thread ∷ [])

module _ (script : ScriptView) (outcomes : List Outcome) (turns : List ℕ) (u : WorldState) (here : IsAfter script turns u)
    (each : All (CoversBy script outcomes turns) (acting_in (abstraction u) (length script.threads)))
    (end : acting_in (abstraction u) (length script.threads) ≡ [] → (items : List Item) (last : AbstractState)
    → TakeTurns turns (script_abstraction script) items last → IsOver last
    → Contains (texts_of outcomes) (sorted_text items last)) where
  abbrev Going : ℕ → Type 0
  Going thread =
      ((is : List Item) (m : AbstractState) → TakeTurns turns (script_abstraction script) is m
      → next (frame_of m (thread - 1)) ≡ None)
      ⊎ Covers script outcomes (turns ++ thread ∷ [])

  same_place : (is : List Item) (m : AbstractState) → TakeTurns turns (script_abstraction script) is m
      → m ≡ abstraction u
  same_place is m p =
      (turns_are turns (script_abstraction script) is m p).1
      ∙ sym (turns_are turns (script_abstraction script) here.items (abstraction u) here.takes).1

  idle : (thread : ℕ) → next (frame_of (abstraction u) (thread - 1)) ≡ None → Going thread
  idle thread none =
      inl (λ is m p. ap (λ (c : AbstractState). next (frame_of c (thread - 1))) (same_place is m p) ∙ none)

  -- past the threads there is none
  past : (thread : ℕ) → length script.threads < thread → Going thread
  past thread lt =
      let size = here.threads in
      idle thread (done_past (abstraction u) (thread - 1) (omega (arith, size, lt)))

  by_act : (thread : ℕ) → 1 ≤ thread → thread ≤ length script.threads → (b : Bool)
      → is_some (next (frame_of (abstraction u) (thread - 1))) ≡ b → Going thread
  by_act thread one le false e = idle thread (none_of (next (frame_of (abstraction u) (thread - 1))) (sym e))
  by_act thread one le true e =
      let n = length script.threads in
      let c = abstraction u in
      let same : suc (thread - 1) ≡ thread = omega (arith, one) in
      inr (All-contains (CoversBy script outcomes turns) (acting_in c n) thread each
      (subst (λ (t : ℕ). Contains (acting_in c n) t) same (acting_there c n (thread - 1) (omega (arith, one, le)) e)))

  going : (thread : ℕ) → 1 ≤ thread → Going thread
  going thread one =
      elim (cases_lt (length script.threads) thread) [
        | inl lt ↦ past thread lt
        | inr le ↦ by_act thread one le (is_some (next (frame_of (abstraction u) (thread - 1)))) refl
      ]

  pub covers : (more : List ℕ) (items : List Item) (last : AbstractState) → All (λ thread. 1 ≤ thread) more
      → TakeTurns (turns ++ more) (script_abstraction script) items last → IsOver last
      → Contains (texts_of outcomes) (sorted_text items last)
  covers [] items last named takes over =
      let p : TakeTurns turns (script_abstraction script) items last =
      subst (λ (l : List ℕ). TakeTurns l (script_abstraction script) items last) (append-nil turns) takes in
      end (acting_over (abstraction u) (length script.threads) (subst IsOver (same_place items last p) over)) items last p
      over
  covers (t ∷ more) items last named takes over =
      let rest = All-tail (λ (k : ℕ). 1 ≤ k) t more named in
      elim (going t (All-head (λ (k : ℕ). 1 ≤ k) t more named)) [
        | inl idle ↦
            covers more items last rest
            (left_out turns more t (script_abstraction script) items last takes idle) over
        | inr h ↦
            h more items last rest
            (subst (λ (l : List ℕ). TakeTurns l (script_abstraction script) items last)
            (sym (append_assoc turns (t ∷ []) more)) takes) over
      ]

-- ---- the ways on that were tried

none_clash : {A : Type 0} (l : List A) → l ≡ [] → 0 < length l → ⊥
none_clash l none some = let n : length l ≡ 0 = ap length none in omega (arith, n, some)

-- each thread that has an act left was tried
pub covers_each : (script : ScriptView) (outcomes : List Outcome) (turns acting : List ℕ) (u : WorldState)
    → IsAfter script turns u → acting ≡ acting_in (abstraction u) (length script.threads) → 0 < length acting
    → All (CoversBy script outcomes turns) acting → Covers script outcomes turns
covers_each script outcomes turns acting u here is some each =
    covers script outcomes turns u here (subst (All (CoversBy script outcomes turns)) is each)
    (λ none items last takes over. absurd (none_clash acting (is ∙ none) some))

-- one alone has
pub covers_one : (script : ScriptView) (outcomes : List Outcome) (turns acting : List ℕ) (t d : ℕ) (u : WorldState)
    → IsAfter script turns u → acting ≡ acting_in (abstraction u) (length script.threads) → length acting ≡ 1
    → t ≡ get_or acting 0 d → Covers script outcomes (turns ++ t ∷ []) → Covers script outcomes turns
covers_one script outcomes turns acting t d u here is one same h =
    covers_each script outcomes turns acting u here is (omega (arith, one))
    (All-from_get_or (CoversBy script outcomes turns) acting d
    (λ i lt. let zero' : 0 ≡ i = omega (arith, one, lt) in
    subst (λ (k : ℕ). CoversBy script outcomes turns (get_or acting k d)) zero'
    (subst (CoversBy script outcomes turns) same h)))

-- ---- the whole

ordered : (k : ℕ) (ns : List ℕ) → 1 ≤ k → All (λ (t : ℕ). 1 ≤ t) (in_order k ns)
ordered k [] h = All-nil (λ (t : ℕ). 1 ≤ t)
ordered k (n ∷ ns) h =
    All-append (λ (t : ℕ). 1 ≤ t) (replicate n k) (in_order (k + 1) ns) (All-replicate (λ (t : ℕ). 1 ≤ t) n k h)
    (ordered (k + 1) ns (omega arith))

pub complete : (bytes : List ℕ) (script : ScriptView) (outcomes : List Outcome) → ReadsAs bytes script
    → Covers script outcomes [] → (list run : List ℕ) → IsScriptRun IsRunText bytes list run
    → Contains (texts_of outcomes) (by_threads run)
complete bytes script outcomes reads covers list run h =
    let same : h.script ≡ script = same_script bytes h.script script h.reads reads in
    let x : IsTurnText h.turns (script_abstraction script) run =
    subst (λ (u : ScriptView). IsRunText u h.turns run) same h.says in
    let named : All (λ (t : ℕ). 1 ≤ t) (h.turns ++ in_order 1 x.trace.more) =
    All-append (λ (t : ℕ). 1 ≤ t) h.turns (in_order 1 x.trace.more)
    (All-weaker (Names (length h.script.threads)) (λ (t : ℕ). 1 ≤ t) (λ t n. n.0) h.turns
    (listed_named (length h.script.threads) list h.turns h.listed))
    (ordered 1 x.trace.more (omega arith)) in
    subst (λ (r : List ℕ). Contains (texts_of outcomes) (by_threads r)) (sym x.says)
    (covers (h.turns ++ in_order 1 x.trace.more) x.items x.last named x.trace.takes x.trace.over)
