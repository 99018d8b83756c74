-- Outcomes that were found, looked at one by one.
use Rattle.std.proofs.Common.{◌≡◌, ℕ, ◌+◌, ◌<◌, ◌≤◌, ◌&&◌, Bool, true, false, List, [], ◌∷◌, ◌++◌, length, take, get_or, ap, sym}
use Rattle.std.proofs.Common.{Contains, ◌∙◌, arith, inl, inr, refl, subst}
use Rattle.std.proofs.Common.{Some, option_map}
use Rattle.std.specs.Prelude.{IsTrue, codes}
use Rattle.std.specs.Global.{Vec}
use Rattle.std.specs.List.{slice_get}
use Rattle.std.proofs.lemmas.List.{length-map, map-append, take_all, take_more}
use Rattle.std.proofs.lemmas.List.Elements.{Contains-push_cases}
use Rattle.std.proofs.lemmas.Option.{get_or_from_slice_get, slice_get-map, slice_get_within}
use Rattle.script_orders.specs.Coverage.{IsComplete}
use Rattle.script_orders.specs.Found.{outcomes_in}
use Rattle.script_orders.specs.Orders.{IsNeverText, NoneTells, Outcome, TellsLine, coverage_line, texts_of}
use Rattle.script_orders.specs.Sorting.{lines_in}

outcome_at : (es : List (Vec ℕ × Vec ℕ)) (i : ℕ) (e : Vec ℕ × Vec ℕ) → slice_get es i ≡ Some e
    → slice_get (outcomes_in es) i ≡ Some (e.0.items, e.1.items)
outcome_at es i e there =
    let f : Vec ℕ × Vec ℕ → Outcome = λ x. (x.0.items, x.1.items) in
    slice_get-map f es i ∙ ap (option_map f) there

-- an entry's text is one of theirs
pub text_there : (es : List (Vec ℕ × Vec ℕ)) (i : ℕ) (e : Vec ℕ × Vec ℕ) (wanted : List ℕ) → slice_get es i ≡ Some e
    → e.0.items ≡ wanted → Contains (texts_of (outcomes_in es)) wanted
text_there es i e wanted there same =
    let f : Outcome → List ℕ = λ o. o.0 in
    let found : slice_get (texts_of (outcomes_in es)) i ≡ Some e.0.items =
    slice_get-map f (outcomes_in es) i ∙ ap (option_map f) (outcome_at es i e there) in (
      i,
      slice_get_within (texts_of (outcomes_in es)) i e.0.items found,
      get_or_from_slice_get (texts_of (outcomes_in es)) i e.0.items wanted found ∙ same,
    )

none_more : (os : List Outcome) (i : ℕ) (o : Outcome) (line : List ℕ) → i < length os → get_or os i o ≡ o
    → NoneTells (take i os) line → (Contains (lines_in o.0) line → ⊥) → NoneTells (take (i + 1) os) line
none_more os i o line lt is before none text there tells =
    let f : Outcome → List ℕ = λ p. p.0 in
    let e : texts_of (take (i + 1) os) ≡ texts_of (take i os) ++ o.0 ∷ [] =
    ap texts_of (take_more os i o lt ∙ ap (λ (x : Outcome). take i os ++ x ∷ []) is)
    ∙ map-append f (take i os) (o ∷ []) in
    elim (Contains-push_cases (texts_of (take i os)) o.0 text (subst (λ (l : List (List ℕ)). Contains l text) e there)) [
      | inl h ↦ before text h tells
      | inr same ↦ none (subst (λ (t : List ℕ). Contains (lines_in t) line) (sym same) tells)
    ]

-- one more tells no such line
pub none_next : (es : List (Vec ℕ × Vec ℕ)) (i : ℕ) (e : Vec ℕ × Vec ℕ) (line : List ℕ) → slice_get es i ≡ Some e
    → NoneTells (take i (outcomes_in es)) line → (Contains (lines_in e.0.items) line → ⊥)
    → NoneTells (take (i + 1) (outcomes_in es)) line
none_next es i e line there before none =
    let o : Outcome = (e.0.items, e.1.items) in
    let found = outcome_at es i e there in
    none_more (outcomes_in es) i o line (slice_get_within (outcomes_in es) i o found)
    (get_or_from_slice_get (outcomes_in es) i o o found) before none

-- all were looked at
pub none_of_all : (es : List (Vec ℕ × Vec ℕ)) (i : ℕ) (line : List ℕ) → length es ≤ i
    → NoneTells (take i (outcomes_in es)) line → NoneTells (outcomes_in es) line
none_of_all es i line all h =
    let n : length (outcomes_in es) ≡ length es = length-map es (λ (x : Vec ℕ × Vec ℕ). (x.0.items, x.1.items)) in
    subst (λ (os : List Outcome). NoneTells os line) (take_all i (outcomes_in es) (omega (arith, n, all))) h

-- where none is missing, and none of them tells the line, no list of turns does
never_by : (script line : List ℕ) (os : List Outcome) → IsComplete script os → NoneTells os line → (list : List ℕ)
    → TellsLine script line list → ⊥
never_by script line os complete none list t =
    none t.outcome (subst (Contains (texts_of os)) (sym t.is.sorted) (complete list t.is.run t.is.runs)) t.tells

pub never_told : (script line text : List ℕ) (os : List Outcome) (all none never : Bool) → never ≡ (all && none)
    → (all ≡ true → IsComplete script os) → (IsTrue none → NoneTells os line)
    → text ≡ codes "never\n" ++ coverage_line never → IsNeverText script line text
never_told script line text os true true never is complete none says = record {
  is_complete = never;
  none = λ e. never_by script line os (complete refl) (none refl);
  says = says;
}
never_told script line text os true false never is complete none says = record {
  is_complete = never;
  none = λ e. let clash : true ≡ false = sym e ∙ is in absurd cc;
  says = says;
}
never_told script line text os false none never is complete h says = record {
  is_complete = never;
  none = λ e. let clash : true ≡ false = sym e ∙ is in absurd cc;
  says = says;
}
