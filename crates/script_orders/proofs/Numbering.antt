-- Outcomes that are told one after the other.
use Rattle.std.proofs.Common.{◌≡◌, ℕ, suc, ◌+◌, ◌<◌, List, [], ◌∷◌, ◌++◌, length, take, get_or, ap, sym, ◌∙◌}
use Rattle.std.proofs.Common.{append_assoc, arith}
use Rattle.std.proofs.Common.{Some, option_map}
use Rattle.std.specs.Global.{Vec}
use Rattle.std.specs.List.{slice_get}
use Rattle.std.proofs.lemmas.List.{append-nil, length-take-le, take_more}
use Rattle.std.proofs.lemmas.Option.{get_or_from_slice_get, slice_get-map, slice_get_within}
use Rattle.script_orders.specs.Found.{outcomes_in}
use Rattle.script_orders.specs.Orders.{Outcome, head_line, told_from, told_one}

told_push : (k : ℕ) (os : List Outcome) (o : Outcome)
    → told_from k (os ++ o ∷ []) ≡ told_from k os ++ told_one (k + length os) o
told_push k [] o =
    let e : k ≡ k + 0 = omega arith in
    append-nil (told_one k o) ∙ ap (λ (n : ℕ). told_one n o) e
told_push k (p ∷ ps) o =
    let e : suc k + length ps ≡ k + suc (length ps) = omega arith in
    ap (λ (t : List ℕ). told_one k p ++ t)
    (told_push (suc k) ps o ∙ ap (λ (n : ℕ). told_from (suc k) ps ++ told_one n o) e)
    ∙ sym (append_assoc (told_one k p) (told_from (suc k) ps) (told_one (k + suc (length ps)) o))

-- one outcome more
told_more : (os : List Outcome) (i : ℕ) (o : Outcome) (a b c d : List ℕ) → i < length os → get_or os i o ≡ o
    → b ≡ a ++ told_from 1 (take i os) → c ≡ b ++ head_line (i + 1) o.1 → d ≡ c ++ o.0
    → d ≡ a ++ told_from 1 (take (i + 1) os)
told_more os i o a b c d lt is p q r =
    let few : length (take i os) ≡ i = length-take-le i os (omega arith) in
    let e : 1 + length (take i os) ≡ i + 1 = omega arith in
    r
    ∙ ap (λ (t : List ℕ). t ++ o.0) (q ∙ ap (λ (t : List ℕ). t ++ head_line (i + 1) o.1) p)
    ∙ append_assoc (a ++ told_from 1 (take i os)) (head_line (i + 1) o.1) o.0
    ∙ append_assoc a (told_from 1 (take i os)) (told_one (i + 1) o)
    ∙ ap (λ (t : List ℕ). a ++ t)
    (sym (ap (told_from 1) (take_more os i o lt ∙ ap (λ (x : Outcome). take i os ++ x ∷ []) is)
    ∙ told_push 1 (take i os) o ∙ ap (λ (n : ℕ). told_from 1 (take i os) ++ told_one n o) e))

-- one entry of a map more
pub told_next : (es : List (Vec ℕ × Vec ℕ)) (i : ℕ) (e : Vec ℕ × Vec ℕ) (a b c d : List ℕ)
    → slice_get es i ≡ Some e → b ≡ a ++ told_from 1 (take i (outcomes_in es))
    → c ≡ b ++ head_line (i + 1) e.1.items → d ≡ c ++ e.0.items
    → d ≡ a ++ told_from 1 (take (i + 1) (outcomes_in es))
told_next es i e a b c d there p q r =
    let o : Outcome = (e.0.items, e.1.items) in
    let f : Vec ℕ × Vec ℕ → Outcome = λ x. (x.0.items, x.1.items) in
    let found : slice_get (outcomes_in es) i ≡ Some o =
    slice_get-map f es i ∙ ap (option_map f) there in
    told_more (outcomes_in es) i o a b c d (slice_get_within (outcomes_in es) i o found)
    (get_or_from_slice_get (outcomes_in es) i o o found) p q r
