-- Objects that live or end lie each in a block of its own, so they are no more than the blocks.
use Rattle.std.proofs.Common.{◌≡◌, ℕ, zero, suc, ◌-◌, ◌<◌, ◌≤◌, cond, nat_lt, ap, ◌∙◌, ⊎_elim}
use Rattle.std.proofs.Common.{arith, le-ltb, lt-ltb}
use Rattle.control_word.proofs.Prelude.{cases_lt, common, cond-false, cond-true, cond_both, ending}
use Rattle.control_word.proofs.Prelude.{gone, leads, live, Opening, Phase, State, sum_below}
use Rattle.control_word.proofs.Prelude.{unmade}
use Rattle.control_word.proofs.history.Legal.{sound}
use Rattle.control_word.proofs.history.Soundness.{Sound}
use Rattle.control_word.proofs.lists.Sums.{sum_le, sum_more, sum_ones}
use Rattle.control_word.specs.Laws.{FewAtOnce}

common_once : (p : Phase) → common p ≤ 1
common_once unmade = omega arith
common_once live = omega arith
common_once gone = omega arith
common_once (ending d) = omega arith

-- block j + 1 has an object below n as its latest
unfoldable has_below : State → ℕ → ℕ → ℕ
has_below s n j = cond (nat_lt (s.latest (suc j)) n) 1 0

below_once : (s : State) (n j : ℕ) → has_below s n j ≤ 1
unfolding has_below
below_once s n j = cond_both (nat_lt (s.latest (suc j)) n) 1 0 (λ x. x ≤ 1) (λ e. omega arith) (λ e. omega arith)

is_below : (s : State) (n j : ℕ) → s.latest (suc j) < n → has_below s n j ≡ 1
unfolding has_below
is_below s n j lt = cond-true (nat_lt (s.latest (suc j)) n) 1 0 (lt-ltb (s.latest (suc j)) n lt)

not_below : (s : State) (n j : ℕ) → n ≤ s.latest (suc j) → has_below s n j ≡ 0
unfolding has_below
not_below s n j le = cond-false (nat_lt (s.latest (suc j)) n) 1 0 (le-ltb (s.latest (suc j)) n le)

below_grows : (s : State) (n j : ℕ) → has_below s n j ≤ has_below s (suc n) j
below_grows s n j =
    ⊎_elim
    (λ lt. let a = is_below s (suc n) j (omega arith) in let b = below_once s n j in omega arith)
    (λ le. let a = not_below s n j le in omega arith)
    (cases_lt (s.latest (suc j)) n)

few_below : (z : Opening) (s : State) → Sound z s → (n : ℕ)
    → sum_below n (λ o. common (s.object o).phase) ≤ sum_below z.blocks (has_below s n)
few_below z s fine zero = omega arith
few_below z s fine (suc n) =
    let few = few_below z s fine n in
    let more = sum_le z.blocks (has_below s n) (has_below s (suc n)) (below_grows s n) in
    let once = common_once (s.object n).phase in
    ⊎_elim
    (λ (busy : 0 < common (s.object n).phase).
    let place = fine.placed n (omega arith) in
    let inside = place.1 in let low = inside.0 in
    let b = (s.object n).block in
    let is : suc (b - 1) ≡ b = omega arith in
    let at : s.latest (suc (b - 1)) ≡ n = ap s.latest is ∙ place.0 in
    let was = not_below s n (b - 1) (omega arith) in
    let now = is_below s (suc n) (b - 1) (omega arith) in
    let one = sum_more z.blocks (b - 1) 1 (has_below s n) (has_below s (suc n)) (below_grows s n)
    (omega arith) (omega arith) in
    omega arith)
    (λ none. omega arith)
    (cases_lt 0 (common (s.object n).phase))

module _ {V : Type 0} where
  pub few_at_once : FewAtOnce V
  few_at_once z h legal =
      let s = leads z h in
      let few = few_below z s (sound z h legal) (suc s.made) in
      let all = sum_ones z.blocks (has_below s (suc s.made)) (below_once s (suc s.made)) in
      omega arith
