-- A node goes out of a list. Two chains from one place are one list, so no object is listed twice, and what is put into
-- the `next` of one is in that of no other.
use Rattle.std.proofs.Common.{◌≡◌, ℕ, ◌<◌, ◌≤◌, List, [], ◌∷◌, length, Some, None, sym, refl, ap}
use Rattle.std.proofs.Common.{◌∙◌, subst, inl, inr, ⊎_elim, arith}
use Rattle.scene_structures.proofs.Prelude.{Cell, cell_of, Chain, Free, Has, IsList, Member}
use Rattle.scene_structures.proofs.Prelude.{NumberedHandle, Object, put, put_cases, put_other}
use Rattle.scene_structures.proofs.Prelude.{put_same, same_Some, State, swaps}
use Rattle.scene_structures.proofs.Frames.{AllKept, Keeps, chain_kept}
use Rattle.scene_structures.proofs.Heads.{IsHead, cell_put}

-- two chains from one place are one list
pub same_chain : (s : State) (h : NumberedHandle) (a b : List ℕ) → Chain s h a → Chain s h b → a ≡ b
same_chain s h [] [] x y = refl
same_chain s h [] (p ∷ b) x y = absurd (let e : None ≡ Some p = sym x ∙ ap (λ (k : NumberedHandle). k.object) y.0.1 in cc)
same_chain s h (o ∷ a) [] x y = absurd (let e : None ≡ Some o = sym y ∙ ap (λ (k : NumberedHandle). k.object) x.0.1 in cc)
same_chain s h (o ∷ a) (p ∷ b) x y =
    let e : Some o ≡ Some p = ap (λ (k : NumberedHandle). k.object) (sym x.0.1 ∙ y.0.1) in
    let same : o ≡ p = same_Some _ _ e in
    let rest = same_chain s ((s.object o).member 1) a b x.1 (subst (λ n. Chain s ((s.object n).member 1) b) (sym same) y.1) in
    λ i. same i ∷ rest i

-- a list with these in front, the last one first
abbrev pub onto : List ℕ → List ℕ → List ℕ
onto [] rest = rest
onto (o ∷ os) rest = onto os (o ∷ rest)

-- what the chain goes on by below them
abbrev pub below : State → NumberedHandle → List ℕ → NumberedHandle
below s h [] = h
below s h (o ∷ os) = (s.object o).member 1

pub chain_below : (s : State) (h : NumberedHandle) (os rest : List ℕ) → Chain s h (onto os rest) → Chain s (below s h os) rest
chain_below s h [] rest chain = chain
chain_below s h (o ∷ os) rest chain = (chain_below s h os (o ∷ rest) chain).1

-- another rest below them
relinked : (s t : State) (h : NumberedHandle) (os a b : List ℕ) → AllKept s t os → Chain s h (onto os a) → Chain t (below s h os) b → Chain t h (onto os b)
relinked s t h [] a b kept chain new = new
relinked s t h (o ∷ os) a b kept chain new =
    let was = chain_below s h os (o ∷ a) chain in
    relinked s t h os (o ∷ a) (o ∷ b) kept.1 chain
    ((was.0.0, was.0.1, was.0.2 ∙ sym kept.0.block), subst (λ (k : NumberedHandle). Chain t k b) (sym kept.0.next) new)

-- below one of those above a list stands a list that is no shorter
longer : (s : State) (h : NumberedHandle) (os rest : List ℕ) (x : ℕ) → Chain s h (onto os rest) → Has x os
    → (ys : List ℕ) × Chain s ((s.object x).member 1) ys × (length rest ≤ length ys)
longer s h [] rest x chain has = absurd has
longer s h (o ∷ os) rest x chain has =
    ⊎_elim (λ (e : x ≡ o). (rest, subst (λ n. Chain s ((s.object n).member 1) rest) (sym e) (chain_below s h (o ∷ os) rest chain), omega arith))
    (λ (later : Has x os). let r = longer s h os (o ∷ rest) x chain later in let le = r.2 in (r.0, r.1, omega arith)) has

-- and below one of a list a shorter one
pub shorter : (s : State) (h : NumberedHandle) (rest : List ℕ) (x : ℕ) → Chain s h rest → Has x rest
    → (ys : List ℕ) × Chain s ((s.object x).member 1) ys × (length ys < length rest)
shorter s h [] x chain has = absurd has
shorter s h (o ∷ rest) x chain has =
    ⊎_elim (λ (e : x ≡ o). (rest, subst (λ n. Chain s ((s.object n).member 1) rest) (sym e) chain.1, omega arith))
    (λ (later : Has x rest). let r = shorter s ((s.object o).member 1) rest x chain.1 later in let lt = r.2 in (r.0, r.1, omega arith)) has

others_kept : (s t : State) (o : ℕ) (os : List ℕ) → ((x : ℕ) → (x ≡ o → ⊥) → Keeps s t x) → (Has o os → ⊥) → AllKept s t os
others_kept s t o [] kept not = tt
others_kept s t o (x ∷ os) kept not = (kept x (λ e. not (inl (sym e))), others_kept s t o os kept (λ h. not (inr h)))

-- the `next` of the last of those above becomes what that of the one below it is
cut_below : (s t : State) (h : NumberedHandle) (o p : ℕ) (os rest : List ℕ) → ((x : ℕ) → (x ≡ o → ⊥) → Keeps s t x)
    → (t.object o).block ≡ (s.object o).block → (t.object o).member 1 ≡ (s.object p).member 1
    → Chain s h (onto os (o ∷ p ∷ rest)) → Chain t h (onto os (o ∷ rest))
cut_below s t h o p os rest kept block next chain =
    let at = chain_below s h os (o ∷ p ∷ rest) chain in
    let here : Chain s ((s.object o).member 1) (p ∷ rest) = at.1 in
    let not_above : Has o os → ⊥ = λ has.
    let r = longer s h os (o ∷ p ∷ rest) o chain has in
    let e : length (p ∷ rest) ≡ length r.0 = ap length (same_chain s ((s.object o).member 1) (p ∷ rest) r.0 here r.1) in
    let le = r.2 in absurd (omega arith) in
    let not_below : Has o rest → ⊥ = λ has.
    let r = shorter s ((s.object p).member 1) rest o here.1 has in
    let e : length (p ∷ rest) ≡ length r.0 = ap length (same_chain s ((s.object o).member 1) (p ∷ rest) r.0 here r.1) in
    let lt = r.2 in absurd (omega arith) in
    relinked s t h os (o ∷ p ∷ rest) (o ∷ rest) (others_kept s t o os kept not_above) chain (
      (at.0.0, at.0.1, at.0.2 ∙ sym block),
      subst (λ (k : NumberedHandle). Chain t k rest) (sym next)
          (chain_kept s t ((s.object p).member 1) rest (others_kept s t o rest kept not_below) here.1),
    )

-- a swap changes no `next` but in its cell
swaps_keep : (s : State) (d : ℕ) (c : Cell) (new old : NumberedHandle) (x : ℕ) → (c ≡ Member x 1 → ⊥) → Keeps s (swaps d c new old s) x
swaps_keep s d (Free n) new old x not = record { block = refl; next = refl }
swaps_keep s d (Member q m) new old x not =
    let u = record (s.object q) { member = put (s.object q).member m new } in
    let r = put_cases (λ j (y : Object). (y.block ≡ (s.object j).block) × (y.member 1 ≡ (s.object j).member 1)) s.object q u x
    (λ (e : x ≡ q). (
      ap (λ j. (s.object j).block) (sym e),
      put_other (s.object q).member m new 1 (λ (k : 1 ≡ m). not (λ i. Member (sym e i) (sym k i)))
          ∙ ap (λ j. (s.object j).member 1) (sym e),
    )) (λ n. (refl, refl)) in
    record { block = r.0; next = r.1 }

cell_else : (s : State) (d o : ℕ) (new old : NumberedHandle) (c : Cell) → (c ≡ Member o 1 → ⊥) → cell_of (swaps d (Member o 1) new old s) c ≡ cell_of s c
cell_else s d o new old (Free n) not = refl
cell_else s d o new old (Member q k) not =
    let u = record (s.object o) { member = put (s.object o).member 1 new } in
    put_cases (λ j (y : Object). y.member k ≡ (s.object j).member k) s.object o u q
    (λ (e : q ≡ o). put_other (s.object o).member 1 new k (λ (i : k ≡ 1). not (λ j. Member (e j) (i j)))
    ∙ ap (λ j. (s.object j).member k) (sym e)) (λ n. refl)

all_keep : (s t : State) (os : List ℕ) → ((x : ℕ) → Keeps s t x) → AllKept s t os
all_keep s t [] kept = tt
all_keep s t (o ∷ os) kept = (kept o, all_keep s t os kept)

-- the cell that holds what comes below these
abbrev pub end_of : Cell → List ℕ → Cell
end_of c [] = c
end_of c (o ∷ os) = Member o 1

pub end_holds : (s : State) (c : Cell) (os : List ℕ) → cell_of s (end_of c os) ≡ below s (cell_of s c) os
end_holds s c [] = refl
end_holds s c (o ∷ os) = refl

-- what a node's `next` holds goes into its place, and the node is out of the list
pub cut_at : (s : State) (d : ℕ) (c : Cell) (os rest : List ℕ) (p : ℕ) (new old : NumberedHandle) → IsHead c → new ≡ (s.object p).member 1
    → IsList s c (onto os (p ∷ rest)) → IsList (swaps d (end_of c os) new old s) c (onto os rest)
cut_at s d c [] rest p new old head is list =
    let t = swaps d c new old s in
    subst (λ (k : NumberedHandle). Chain t k rest) (sym (cell_put s d c new old ∙ is))
    (chain_kept s t ((s.object p).member 1) rest (all_keep s t rest (λ x. swaps_keep s d c new old x (head x))) list.1)
cut_at s d c (o ∷ os) rest p new old head is list =
    let t = swaps d (Member o 1) new old s in
    let u = record (s.object o) { member = put (s.object o).member 1 new } in
    let kept : (x : ℕ) → (x ≡ o → ⊥) → Keeps s t x = λ x not.
    swaps_keep s d (Member o 1) new old x (λ (e : Member o 1 ≡ Member x 1). not (let n : x ≡ o = cc in n)) in
    subst (λ (k : NumberedHandle). Chain t k (onto (o ∷ os) rest)) (sym (cell_else s d o new old c (head o)))
    (cut_below s t (cell_of s c) o p os rest kept (ap (λ (y : Object). y.block) (put_same s.object o u o refl))
    (cell_put s d (Member o 1) new old ∙ is) list)
