-- Lists of endings.
use Rattle.std.proofs.Common.{◌≡◌, ℕ, ◌+◌, ◌≤◌, cond, ◌≢◌, List, [], ◌∷◌, drop, ◌==◌, Some, All}
use Rattle.std.proofs.Common.{sym, refl, ap, ◌∙◌, subst, inl, arith, eq-eqb}
use Rattle.step_threads.proofs.Prelude.{All-cons, All-head, All-tail, Block, cond-true, cond_both}
use Rattle.step_threads.proofs.Prelude.{Ending, endings_in_block, EndsAll, EndsFit, first_of}
use Rattle.step_threads.proofs.Prelude.{Frame, GhostState, IsEndingAtStage, same_Some, Stack}
use Rattle.step_threads.proofs.Prelude.{sum_by-cons}
use Rattle.std.proofs.lemmas.List.Elements.{All-nil}
use Rattle.step_table.specs.declared.memory.extent.Extent.{Extent}

-- what keeps each ending keeps them all
pub each_end : (d : ℕ) (v w : GhostState) (es : List Ending) → ((e : Ending) → IsEndingAtStage d e v → IsEndingAtStage d e w)
    → All (λ e. IsEndingAtStage d e v) es
    → All (λ e. IsEndingAtStage d e w) es
each_end d v w [] keep all = All-nil (λ e. IsEndingAtStage d e w)
each_end d v w (x ∷ xs) keep all =
    All-cons (λ e. IsEndingAtStage d e w) x xs (keep x (All-head (λ e. IsEndingAtStage d e v) x xs all))
    (each_end d v w xs keep (All-tail (λ e. IsEndingAtStage d e v) x xs all))

pub one_more : (b : ℕ) (x : Ending) (xs : List Ending) → endings_in_block b (x ∷ xs) ≡ cond (x.block.0 == b) 1 0 + endings_in_block b xs
one_more b x xs = sum_by-cons (λ (e : Ending). cond (e.block.0 == b) 1 0) x xs

-- also what keeps those of other blocks, where none is of this one
pub others_end : (d : ℕ) (v w : GhostState) (b : ℕ) (es : List Ending) → ((e : Ending) → e.block.0 ≢ b → IsEndingAtStage d e v → IsEndingAtStage d e w)
    → endings_in_block b es ≡ 0 → All (λ e. IsEndingAtStage d e v) es → All (λ e. IsEndingAtStage d e w) es
others_end d v w b [] keep none all = All-nil (λ e. IsEndingAtStage d e w)
others_end d v w b (x ∷ xs) keep none all =
    let a = one_more b x xs in
    All-cons (λ e. IsEndingAtStage d e w) x xs
    (keep x (λ q. absurd (let z = cond-true {A = ℕ} (x.block.0 == b) 1 0 (eq-eqb x.block.0 b q) in omega (arith, a, none, z)))
    (All-head (λ e. IsEndingAtStage d e v) x xs all))
    (others_end d v w b xs keep (omega (arith, a, none)) (All-tail (λ e. IsEndingAtStage d e v) x xs all))

-- the others are of other blocks than the first
pub once_first : (d : ℕ) (v : GhostState) (e : Ending) (es : List Ending) → EndsAll d (e ∷ es) v → endings_in_block e.block.0 es ≡ 0
once_first d v e es ends =
    let a = one_more e.block.0 e es in
    let o = ends.once e.block.0 in
    let z = cond-true {A = ℕ} (e.block.0 == e.block.0) 1 0 (eq-eqb e.block.0 e.block.0 refl) in omega (arith, a, o, z)

pub once_rest : (d : ℕ) (v : GhostState) (e : Ending) (es : List Ending) (b : ℕ) → EndsAll d (e ∷ es) v → endings_in_block b es ≤ 1
once_rest d v e es b ends = let a = one_more b e es in let o = ends.once b in omega (arith, a, o)

-- an ending that stands in another's place is of the same block
pub once_staged : (d : ℕ) (v : GhostState) (e e' : Ending) (es : List Ending) (b : ℕ) → e'.block ≡ e.block → EndsAll d (e ∷ es) v
    → endings_in_block b (e' ∷ es) ≤ 1
once_staged d v e e' es b same ends =
    let a = one_more b e es in
    let c = one_more b e' es in
    let k : ◌≡◌ {A = ℕ} (cond (e'.block.0 == b) 1 0) (cond (e.block.0 == b) 1 0) = ap (λ (x : Block). cond (x.0 == b) 1 0) same in
    let o = ends.once b in omega (arith, a, c, k, o)

pub ends_nothing : (d : ℕ) (v : GhostState) → EndsAll d [] v
ends_nothing d v = record { each = All-nil (λ e. IsEndingAtStage d e v); once = λ b. omega arith }

pub ends_one : (d : ℕ) (v : GhostState) (e : Ending) → IsEndingAtStage d e v → EndsAll d (e ∷ []) v
ends_one d v e is =
    record {
      each = All-cons (λ x. IsEndingAtStage d x v) e [] is (All-nil (λ x. IsEndingAtStage d x v));
      once = λ b.
          let a = one_more b e [] in
          let k = cond_both {A = ℕ} (e.block.0 == b) 1 0 (λ (n : ℕ). n ≤ 1) (λ t. omega arith) (λ t. omega arith) in omega (arith, a, k);
    }

-- without an ending nothing is asked but room
pub ends_none : (d : ℕ) (c : Frame) (w : GhostState) → c.endings.list ≡ [] → w.extent.shape.blocks ≤ c.endings.room → EndsFit d c w
ends_none d c w none room =
    record {
      all = subst (λ (es : List Ending). EndsAll d es w) (sym none) (ends_nothing d w);
      roomy = room;
      empty = inl none;
    }

pub ends_gone : (d : ℕ) (c c' : Frame) (v w : GhostState) → EndsFit d c v → c.endings.list ≡ [] → c'.endings ≡ c.endings
    → w.extent ≡ v.extent → EndsFit d c' w
ends_gone d c c' v w fit none same is =
    let r = fit.roomy in
    let e : c'.endings.room ≡ c.endings.room = ap (λ (x : Stack). x.room) same in
    let x : w.extent.shape.blocks ≡ v.extent.shape.blocks = ap (λ (x : Extent). x.shape.blocks) is in
    ends_none d c' w (ap (λ (x : Stack). x.list) same ∙ none) (omega (arith, r, e, x))

-- the ending begun last
pub ending_here : (d : ℕ) (v : GhostState) (es : List Ending) (e : Ending) → EndsAll d es v → first_of es ≡ Some e → IsEndingAtStage d e v
ending_here d v [] e ends is = absurd cc
ending_here d v (x ∷ xs) e ends is = subst (λ (y : Ending). IsEndingAtStage d y v) (same_Some x e is) (All-head (λ y. IsEndingAtStage d y v) x xs ends.each)

pub first_is : (es : List Ending) (e : Ending) → first_of es ≡ Some e → es ≡ e ∷ drop 1 es
first_is [] e is = absurd cc
first_is (x ∷ xs) e is = ap (λ (y : Ending). y ∷ xs) (same_Some x e is)
