-- Outcomes that are shown one after the other.
use Rattle.std.proofs.Common.{◌≡◌, ℕ, suc, ◌+◌, ◌<◌, List, [], ◌∷◌, ◌++◌, length, take, get_or, ap, ap₂, sym, ◌∙◌, refl, subst}
use Rattle.std.proofs.Common.{append_assoc, arith, Option, Some, Result, Ok, Err, option_map, map, All, inl, inr}
use Rattle.std.specs.Global.{Vec}
use Rattle.std.specs.Prelude.{◌≤◌, IfSome}
use Rattle.std.specs.List.{slice_get}
use Rattle.std.proofs.lemmas.List.{append-nil, length-map, length-take-le, take_all, take_more}
use Rattle.std.proofs.lemmas.List.Elements.{All-get_or}
use Rattle.std.proofs.lemmas.Option.{get_or_from_slice_get, slice_get-map, slice_get_within}
use Rattle.run_picture.specs.Pages.{head_text, lines_element, with_scripts}
use Rattle.script_orders.specs.Found.{outcomes_in}
use Rattle.script_orders.specs.Orders.{AreOutcomes, Closes, IsOutcome, Outcome, told_one}
use Rattle.script_picture.specs.Pictures.{IsLinesText, first_acts}
use Rattle.script_text.specs.Drafts.{ScriptView}
use Rattle.script_text.specs.Grammar.{ReadsAs}
use Rattle.script_text.proofs.OneReading.{reads_answer}
use Rattle.script_stepper.specs.Runs.{IsBadTurn, IsScriptRun}
use Rattle.script_stepper.specs.TurnLists.{list_at}
use Rattle.sptr.specs.OutcomePages.{AddsOne, Ends, IsPageOf, ShowsAll, ShowsFrom, outcome_part}

same_script : (bytes : List ℕ) (s t : ScriptView) → ReadsAs bytes s → ReadsAs bytes t → s ≡ t
same_script bytes s t h k = elim (reads_answer (Ok s) bytes t h k) [ inl e ↦ cc | inr e ↦ absurd cc ]

-- a list that gives an outcome isn't faulty
pub not_bad : (script list text : List ℕ) (position : ℕ) → IsOutcome script list text
    → IsBadTurn script list position → ⊥
not_bad script list text position o b =
    let same : b.script ≡ o.runs.script = same_script script b.script o.runs.script b.reads o.runs.reads in
    let both : Err position ≡ Ok o.runs.turns =
    sym b.faulty ∙ ap (λ (u : ScriptView). list_at (length u.threads) list) same ∙ o.runs.listed in
    cc

slice_get_entry : (es : List (Vec ℕ × Vec ℕ)) (i : ℕ) (e : Vec ℕ × Vec ℕ) → slice_get es i ≡ Some e
    → slice_get (outcomes_in es) i ≡ Some (e.0.items, e.1.items)
slice_get_entry es i e there =
    let f : Vec ℕ × Vec ℕ → Outcome = λ x. (x.0.items, x.1.items) in
    slice_get-map f es i ∙ ap (option_map f) there

-- the outcome at a place
pub outcome_at : (script : List ℕ) (es : List (Vec ℕ × Vec ℕ)) (i : ℕ) (e : Vec ℕ × Vec ℕ)
    → AreOutcomes script (outcomes_in es) → slice_get es i ≡ Some e → IsOutcome script e.1.items e.0.items
outcome_at script es i e all there =
    let o : Outcome = (e.0.items, e.1.items) in
    let Is : Outcome → Type 0 = λ x. IsOutcome script x.1 x.0 in
    let found : slice_get (outcomes_in es) i ≡ Some o = slice_get_entry es i e there in
    subst Is (get_or_from_slice_get (outcomes_in es) i o o found)
    (All-get_or Is (outcomes_in es) i o (slice_get_within (outcomes_in es) i o found) all)

-- one outcome more
shows_push : (script : List ℕ) (k : ℕ) (os : List Outcome) (o : Outcome) (shown run : List ℕ)
    → ShowsFrom script k os shown → IsScriptRun (IsLinesText first_acts) script o.1 run
    → ShowsFrom script k (os ++ o ∷ []) (shown ++ outcome_part (told_one (k + length os) o) run)
shows_push script k [] o shown run h is =
    let e : k + 0 ≡ k = omega arith in (
      run,
      [],
      is,
      refl,
      ap (λ (t : List ℕ). t ++ outcome_part (told_one (k + 0) o) run) h
          ∙ ap (λ (n : ℕ). outcome_part (told_one n o) run) e ∙ sym (append-nil (outcome_part (told_one k o) run)),
    )
shows_push script k (p ∷ ps) o shown run h is =
    let e : k + suc (length ps) ≡ suc k + length ps = omega arith in
    let last : ℕ → List ℕ = λ n. outcome_part (told_one n o) run in
    let first : List ℕ = outcome_part (told_one k p) h.0 in (
      h.0,
      h.1 ++ last (suc k + length ps),
      h.2,
      shows_push script (suc k) ps o h.1 run h.3 is,
      ap (λ (t : List ℕ). t ++ last (k + suc (length ps))) h.4 ∙ append_assoc first h.1 (last (k + suc (length ps)))
          ∙ ap (λ (n : ℕ). first ++ (h.1 ++ last n)) e,
    )

shows_more : (script : List ℕ) (os : List Outcome) (i : ℕ) (o : Outcome) (a b d run : List ℕ)
    → i < length os → get_or os i o ≡ o → ShowsAll script (take i os) a b
    → IsScriptRun (IsLinesText first_acts) script o.1 run
    → d ≡ b ++ outcome_part (told_one (i + 1) o) run → ShowsAll script (take (i + 1) os) a d
shows_more script os i o a b d run lt is h runs q =
    let few : length (take i os) ≡ i = length-take-le i os (omega arith) in
    let e : i + 1 ≡ 1 + length (take i os) = omega arith in
    let last : ℕ → List ℕ = λ n. outcome_part (told_one n o) run in
    let more : take (i + 1) os ≡ take i os ++ o ∷ [] =
    take_more os i o lt ∙ ap (λ (x : Outcome). take i os ++ x ∷ []) is in (
      h.0 ++ last (1 + length (take i os)),
      subst (λ (l : List Outcome). ShowsFrom script 1 l (h.0 ++ last (1 + length (take i os)))) (sym more)
          (shows_push script 1 (take i os) o h.0 run h.1 runs),
      q ∙ ap (λ (t : List ℕ). t ++ last (i + 1)) h.2 ∙ append_assoc a h.0 (last (i + 1))
          ∙ ap (λ (n : ℕ). a ++ (h.0 ++ last n)) e,
    )

-- one entry of a map more
pub shows_next : (script : List ℕ) (es : List (Vec ℕ × Vec ℕ)) (i : ℕ) (e : Vec ℕ × Vec ℕ) (a b d : List ℕ)
    → slice_get es i ≡ Some e → ShowsAll script (take i (outcomes_in es)) a b
    → AddsOne script (i + 1) (e.0.items, e.1.items) b d
    → ShowsAll script (take (i + 1) (outcomes_in es)) a d
shows_next script es i e a b d there h added =
    let o : Outcome = (e.0.items, e.1.items) in
    let found : slice_get (outcomes_in es) i ≡ Some o = slice_get_entry es i e there in
    shows_more script (outcomes_in es) i o a b d added.0 (slice_get_within (outcomes_in es) i o found)
    (get_or_from_slice_get (outcomes_in es) i o o found) h added.1 added.2

-- what is shown above what closes
pub page_shown : (script : List ℕ) (outcomes : List Outcome) (states : ℕ) (a b c : List ℕ) → a ≡ head_text
    → ShowsAll script outcomes a b → Ends outcomes states b c → IsPageOf script outcomes states c
page_shown script outcomes states a b c begun h k = record {
  shown = h.0;
  shows = h.1;
  closing = k.0;
  closes = k.1;
  says = k.2
      ∙ ap (λ (t : List ℕ). with_scripts (t ++ lines_element k.0)) (h.2 ∙ ap (λ (t : List ℕ). t ++ h.0) begun)
      ∙ ap (λ (t : List ℕ). with_scripts t) (append_assoc head_text h.0 (lines_element k.0));
}

-- none yet
pub shows_none : (script text : List ℕ) → ShowsAll script [] text text
shows_none script text = ([], refl, sym (append-nil text))

-- an outcome by other names of its text and its list
pub adds_as : (script : List ℕ) (number : ℕ) (x y text list b d : List ℕ) → x ≡ text → y ≡ list
    → AddsOne script number (x, y) b d → AddsOne script number (text, list) b d
adds_as script number x y text list b d e f =
    subst (λ (o : Outcome). AddsOne script number o b d) (ap₂ (λ (s t : List ℕ). (s, t)) e f)

pub outcome_as : (script x y text list : List ℕ) → x ≡ text → y ≡ list → IsOutcome script list text
    → IsOutcome script y x
outcome_as script x y text list e f h =
    subst (λ (l : List ℕ). IsOutcome script l x) (sym f) (subst (λ (t : List ℕ). IsOutcome script list t) (sym e) h)

-- what holds of what was found, where it was found
pub in_some : {A : Type 0} (found : Option A) (it : A) (Is : A → Type 0) → found ≡ Some it → IfSome found Is → Is it
in_some {A} found it Is is h = subst (λ (o : Option A). IfSome o Is) is h

-- all of them are shown
pub all_shown : (script : List ℕ) (es : List (Vec ℕ × Vec ℕ)) (n : ℕ) (a b : List ℕ) → length es ≤ n
    → ShowsAll script (take n (outcomes_in es)) a b → ShowsAll script (outcomes_in es) a b
all_shown script es n a b most =
    let same : length (outcomes_in es) ≡ length es = length-map es _ in
    subst (λ (os : List Outcome). ShowsAll script os a b) (take_all n (outcomes_in es) (omega (arith, same, most)))

-- what closes, and the scripts
pub ends_with : (outcomes : List Outcome) (states : ℕ) (old mid new : List ℕ)
    → (closing : List ℕ) × Closes outcomes states closing × (mid ≡ old ++ lines_element closing)
    → new ≡ with_scripts mid → Ends outcomes states old new
ends_with outcomes states old mid new h e =
    (h.0, h.1, e ∙ ap (λ (t : List ℕ). with_scripts t) h.2)
