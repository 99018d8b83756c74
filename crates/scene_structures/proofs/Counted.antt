-- What is counted in hands is in one.
use Rattle.std.proofs.Common.{◌≡◌, ℕ, ◌<◌, Bool, true, false, List, [], ◌∷◌, map, length, filter}
use Rattle.std.proofs.Common.{refl, ap, inl, inr, arith}
use Rattle.scene_structures.proofs.Prelude.{cond-false, Has, Held, in_cells, Owner, State, tally}
use Rattle.scene_structures.proofs.Prelude.{tally_append}
use Rattle.control_word.specs.Handles.{is_on}
use Rattle.control_word.specs.State.{count}

abbrev pub IsHandOf : ℕ → List Held → Held → Type 0
IsHandOf o l x = Has x l × (is_on Owner o x.handle ≡ true)

hand_first : (o : ℕ) (y : Held) (l : List Held) (b : Bool) → is_on Owner o y.handle ≡ b
    → (0 < tally Owner o (map (λ (x : Held). x.handle) l) → (x : Held) × IsHandOf o l x) → 0 < tally Owner o (map (λ (x : Held). x.handle) (y ∷ l))
    → (x : Held) × IsHandOf o (y ∷ l) x
hand_first o y l true e later lt = (y, (inl refl, e))
hand_first o y l false e later lt =
    let rest = map (λ (x : Held). x.handle) l in
    let less : tally Owner o (y.handle ∷ rest) ≡ tally Owner o rest =
    ap length (cond-false (is_on Owner o y.handle) (y.handle ∷ filter (is_on Owner o) rest) (filter (is_on Owner o) rest) e) in
    let r = later (omega arith) in (r.0, (inr r.1.0, r.1.1))

pub hand_of : (o : ℕ) (l : List Held) → 0 < tally Owner o (map (λ (x : Held). x.handle) l) → (x : Held) × IsHandOf o l x
hand_of o [] lt = absurd (omega arith)
hand_of o (y ∷ l) lt = hand_first o y l (is_on Owner o y.handle) refl (λ t. hand_of o l t) lt

pub in_hands : (s : State) (o : ℕ) → 0 < count s o → tally Owner o (in_cells s) ≡ 0 → 0 < tally Owner o (map (λ (x : Held). x.handle) s.hands)
unfolding count
in_hands s o some' none = omega (arith, tally_append Owner o (map (λ (x : Held). x.handle) s.hands) (in_cells s))
