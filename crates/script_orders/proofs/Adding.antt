-- Outcomes, and one more.
use Rattle.std.proofs.Common.{◌≡◌, ℕ, Bool, true, List, [], ◌∷◌, ◌++◌, ap, ◌∙◌, ◌≤◌, arith, subst, sym, inl, inr, length, refl}
use Rattle.std.specs.Prelude.{IfOk, IfSome, Option, Some, None, Result, Ok, Err}
use Rattle.std.specs.Global.{Vec}
use Rattle.std.proofs.lemmas.List.{map-append}
use Rattle.std.proofs.lemmas.List.Elements.{All-cons, All-nil, All-push}
use Rattle.script_stepper.specs.Runs.{Delivers, IsBadTurn, IsRunText, TellsRun}
use Rattle.script_stepper.specs.TurnLists.{list_at}
use Rattle.script_orders.specs.Coverage.{IsComplete}
use Rattle.script_orders.specs.Found.{outcomes_in}
use Rattle.script_orders.specs.Orders.{AllDiffer, AreOutcomes, BeginsAlone, IsAdded, IsAnswerText, IsOutcome}
use Rattle.script_orders.specs.Orders.{Outcome, TellsAll, TellsOutcomes, coverage_line, texts_of}
use Rattle.script_orders.specs.declared.answers.Reply.{Reply}
use Rattle.script_orders.specs.declared.orders.Answer.{Answer}
use Rattle.script_orders.specs.declared.orders.Answer.TheVariants.{Told}
use Rattle.script_text.specs.declared.fault.Fault.{Fault}
use Rattle.script_text.specs.declared.fault.Fault.TheVariants.{BadTurn}

pub one_more : (es es' : List (Vec ℕ × Vec ℕ)) (text list : Vec ℕ) → es' ≡ es ++ (text, list) ∷ []
    → outcomes_in es' ≡ outcomes_in es ++ (text.items, list.items) ∷ []
one_more es es' text list is = ap outcomes_in is ∙ map-append _ es ((text, list) ∷ [])

pub still_outcomes : (script list text : List ℕ) (old new : List Outcome) → IsAdded (text, list) old new
    → IsOutcome script list text → AreOutcomes script old → AreOutcomes script new
still_outcomes script list text old new (inl same) is all = subst (AreOutcomes script) (sym same) all
still_outcomes script list text old new (inr more) is all =
    subst (AreOutcomes script) (sym more) (All-push (λ (o : Outcome). IsOutcome script o.1 o.0) old (text, list) all is)

-- one more comes behind the others
pub still_first : (o : Outcome) (old new : List Outcome) → IsAdded o old new → BeginsAlone old → BeginsAlone new
still_first o old new (inl same) first = subst BeginsAlone (sym same) first
still_first o [] new (inr more) first = absurd first
still_first o (p ∷ ps) new (inr more) first = subst BeginsAlone (sym more) first

-- what holds of what was found, where it was found
pub in_some : {A : Type 0} (found : Option A) (it : A) (Is : A → Type 0) → found ≡ Some it → IfSome found Is → Is it
in_some {A} found it Is is h = subst (λ (o : Option A). IfSome o Is) is h

-- the outcome of a list that was told
pub outcome_told : (script given list : List ℕ) (told : Option (Vec ℕ)) (text : Vec ℕ)
    → told ≡ Some text → given ≡ list → IfSome told (λ t. IsOutcome script given t.items)
    → IsOutcome script list text.items
outcome_told script given list told text is same h =
    subst (λ (l : List ℕ). IsOutcome script l text.items) same
    (subst (λ (t : Option (Vec ℕ)). IfSome t (λ v. IsOutcome script given v.items)) is h)

-- what is told of outcomes is an answer
pub all_told : (script : List ℕ) (outcomes : List Outcome) (states : ℕ) (result : Result Reply Fault)
    → AreOutcomes script outcomes → BeginsAlone outcomes → AllDiffer (texts_of outcomes) → length outcomes ≤ states
    → IfOk result (λ reply. reply.answer ≡ Told)
    → IfOk result (λ reply. TellsOutcomes script outcomes states reply.text.items)
    → IfOk result (λ reply. IsAnswerText None reply.answer script reply.text.items)
all_told script outcomes states (Ok reply) each first once seen is tells =
    subst (λ (a : Answer). IsAnswerText None a script reply.text.items) (sym is)
    (record {
      outcomes = outcomes;
      each = each;
      first = first;
      once = once;
      states = states;
      seen = seen;
      tells = tells;
    })
all_told script outcomes states (Err fault) each first once seen is tells = tt

-- the one outcome that is there first
pub one_outcome : (script text list : List ℕ) (os : List Outcome) → os ≡ (text, list) ∷ [] → IsOutcome script list text
    → AreOutcomes script os
one_outcome script text list os is h =
    let P : Outcome → Type 0 = λ o. IsOutcome script o.1 o.0 in
    subst (AreOutcomes script) (sym is) (All-cons P (text, list) [] h (All-nil P))

pub begun_alone : (text list : List ℕ) (os : List Outcome) → os ≡ (text, list) ∷ [] → list ≡ [] → BeginsAlone os
begun_alone text list os is none = subst BeginsAlone (sym is) none

clash : (xs : List ℕ) (position : ℕ) (r : Result (List ℕ) ℕ) → r ≡ Ok xs → r ≡ Err position → ⊥
clash xs position r p q = cc

-- an empty list isn't faulty
pub not_empty : (script list : List ℕ) (position : ℕ) → IsBadTurn script list position → list ≡ [] → ⊥
unfolding list_at
not_empty script list position h e =
    let n = length h.script.threads in
    clash [] position (list_at n []) refl (subst (λ (l : List ℕ). list_at n l ≡ Err position) e h.faulty)

-- an empty list has no faulty turn
pub empty_runs : (script list : List ℕ) (fault : Fault) (position : ℕ) (old new : Option (List ℕ))
    → Delivers {A = Unit} (TellsRun IsRunText script list) (Err fault) old new → fault ≡ BadTurn position → list ≡ [] → ⊥
empty_runs script list fault position old new h is none =
    let told = subst (λ (f : Fault). Delivers {A = Unit} (TellsRun IsRunText script list) (Err f) old new) is h in
    not_empty script list position told.0 none

-- what is told, and whether none is missing
pub told_all : (script : List ℕ) (outcomes : List Outcome) (states : ℕ) (text : List ℕ) (is_complete : Bool)
    → (told : List ℕ) × TellsAll outcomes states told × (text ≡ told ++ coverage_line is_complete)
    → (is_complete ≡ true → IsComplete script outcomes) → TellsOutcomes script outcomes states text
told_all script outcomes states text is_complete h complete =
    record { told = h.0; tells = h.1; is_complete = is_complete; none_missing = complete; says = h.2 }

-- nothing is seen of no states
pub zero_none : {A B : Type 0} (most : ℕ) (P : A → Type 0) (r : Result A B) → 1 ≤ most → IfOk r (λ x. most ≡ 0 → P x)
zero_none most P (Ok x) one = λ none. absurd (omega (arith, one, none))
zero_none most P (Err e) one = tt

pub some_seen : {A B C : Type 0} (most : ℕ) (P : A → Type 0) (r : Result A B) (found : Option C) (it : C)
    → found ≡ Some it → (most ≡ 0 → found ≡ None) → IfOk r (λ x. most ≡ 0 → P x)
some_seen most P (Ok x) found it is none = λ zero. let clash : Some it ≡ None = sym is ∙ none zero in absurd cc
some_seen most P (Err e) found it is none = tt
