-- On a sole desk a list grows by just the node that rises.
use Rattle.std.proofs.Common.{◌≡◌, ℕ, ◌≤◌, Bool, true, false, ◌&&◌, List, [], ◌∷◌, ◌++◌, map, Some}
use Rattle.std.proofs.Common.{None, All, Option, sym, refl, ap, ◌∙◌, subst, ⊎_elim, append_assoc}
use Rattle.scene_structures.proofs.Prelude
use Prelude.{All-append, All-cons, All-nil, block_kept, Cell, cell_of, Chain, Compare, Entry}
use Prelude.{entry, equivalent, Event, Holds, in_no_cell, InState, IsLegal, IsList, IsParting}
use Prelude.{Kind, leads, legal_seen, live, map-append, Member, NextOf, NumberedHandle}
use Prelude.{Opening, Owner, owner, Place, put_same, PutsOnly, same_handle_true, same_kind, sound}
use Prelude.{State, Swap}
use Rattle.control_block.proofs.Endings.{owner_lives}
use Rattle.scene_structures.proofs.Frames.{AllKept, Apart, all_kept, chain_kept, chain_live}
use Rattle.scene_structures.proofs.Frames.{keeps_after}
use Rattle.scene_structures.proofs.Heads.{IsHead, Lives, cell_put, frames_at, in_later, lives_run}
use Rattle.scene_structures.proofs.Lives.{keeps_run}
use Rattle.scene_structures.proofs.Rows.{partings_put}

pub apart_nowhere : (os : List ℕ) → Apart in_no_cell os
apart_nowhere [] = tt
apart_nowhere (o ∷ os) = (λ e. e, apart_nowhere os)

-- nor is a cell that is nobody's `next`
pub apart_head : (c : Cell) (os : List ℕ) → IsHead c → Apart (λ k. k ≡ c) os
apart_head c [] head = tt
apart_head c (o ∷ os) head = (λ e. head o (sym e), apart_head c os head)

-- the same objects
pub all_same : (s t : State) (os : List ℕ) → t.object ≡ s.object → AllKept s t os
all_same s t [] e = tt
all_same s t (o ∷ os) e = (record { block = ap (λ f. (f o).block) e; next = ap (λ f. (f o).member 1) e }, all_same s t os e)

-- what is equivalent to an owner is that owner, if it is an owner
pub same_owner : (a b : NumberedHandle) → equivalent a b ≡ true → a.kind ≡ Owner → b.kind ≡ Owner → a ≡ b
same_owner a b same ka kb =
    same_handle_true a b (ap (λ (k : Kind). same_kind k b.kind && equivalent a b) ka ∙ (ap (λ (k : Kind). same_kind Owner k && equivalent a b) kb ∙ same))

pub none_alike : (a b : NumberedHandle) → equivalent a b ≡ true → a.object ≡ None → b.object ≡ None
none_alike a b same none = go b.object refl
  where
    go : (x : Option ℕ) → b.object ≡ x → b.object ≡ None
    go None e = e
    go (Some o) e = absurd (let t : equivalent a b ≡ false = (λ i. Rattle.control_word.specs.Handles.same_number (none i)
        (e i) && Rattle.control_word.specs.Handles.same_place a.place b.place) in let u : true ≡ false = sym same ∙ t in cc)

-- a chain from what is equivalent
pub chain_alike : (s : State) (a b : NumberedHandle) (os : List ℕ) → equivalent a b ≡ true → b.kind ≡ Owner → Chain s a os → Chain s b os
chain_alike s a b [] same kind chain = none_alike a b same chain
chain_alike s a b (o ∷ os) same kind chain =
    let e : a ≡ b = same_owner a b same (ap (λ (h : NumberedHandle). h.kind) chain.0.1) kind in ((chain.0.0, sym e ∙ chain.0.1, chain.0.2), chain.1)

-- what goes in or is expected by a compare, and has an object, is held
pub given_holds : (s : State) (d : ℕ) (k : Kind) (o : ℕ) (p : Option Place) → Rattle.control_word.specs.Events.InHand s d k (owner o p)
    → Holds s d Owner (owner o p)
given_holds s d k o p in' =
    ⊎_elim (λ t. absurd (let e : Some o ≡ None = t.0 in cc)) (λ (t : Holds s d k (owner o p)). (t.0, refl, t.2)) in'.1

module _ {V : Type 0} where
  -- events in a row, before others
  pub in_front : (d : ℕ) (a b : List (Event V)) (seen : List (Entry V))
      → (map (entry d) (a ++ b) ++ seen) ≡ (map (entry d) a ++ (map (entry d) b ++ seen))
  in_front d a b seen = ap (λ l. l ++ seen) (map-append (entry d) a b) ∙ append_assoc (map (entry d) a) (map (entry d) b) seen

  -- the state after the node rose in front of the list in a cell
  pub risen : (z : Opening) (d o : ℕ) (c : Cell) (q : Place) (below was old : NumberedHandle) (w : Bool)
      (before between late : List (Event V)) (seen : List (Entry V))
      (os : List ℕ)
      → IsLegal z (map (entry d) (late ++ Compare c below (owner o (Some q)) old true w ∷ (between ++ Swap (Member o 1) below was ∷ before)) ++ seen)
      → All (PutsOnly (NextOf o)) before → All IsParting between → All IsParting late → IsHead c → InState (leads z seen) c
      → Lives (leads z (map (entry d) (late ++ Compare c below (owner o (Some q)) old true w ∷
      (between ++ Swap (Member o 1) below was ∷ before)) ++ seen)) c
      → Apart (NextOf o) os → o ≤ (leads z seen).made
      → q.block.0 ≡ ((leads z seen).object o).block → IsList (leads z seen) c os
      → IsList (leads z (map (entry d) (late ++ Compare c below (owner o (Some q)) old true w ∷
      (between ++ Swap (Member o 1) below was ∷ before)) ++ seen)) c (o ∷ os)
  risen z d o c q below was old w before between late seen os legal early leaves last head there alive apart made block list =
      let at = NextOf o in
      let node = owner o (Some q) in
      let x = Compare c below node old true w in
      let row = between ++ Swap (Member o 1) below was ∷ before in
      let T = map (entry d) row ++ seen in
      let C = entry d x ∷ T in
      let split = in_front d late (x ∷ row) seen in
      let legal' : IsLegal z (map (entry d) late ++ C) = subst (IsLegal z) split legal in
      let legalC : IsLegal z C = legal_seen z (map (entry d) late) C legal' in
      let s = leads z T in
      let ends = partings_put in_no_cell late last in
      let there_s = in_later z (map (entry d) row) seen c there in
      let there_u = in_later z (entry d x ∷ []) T c there_s in
      let alive' = subst (λ l. Lives (leads z l) c) split alive in
      let alive_u = lives_run z d in_no_cell late C c ends there_u alive' in
      let only = λ (k : Cell). k ≡ c in
      let alive_s = lives_run z d only (x ∷ []) T c (All-cons (PutsOnly only) x [] refl (All-nil (PutsOnly only))) there_s alive_u in
      let n = frames_at z d at row seen c os legalC.0
      (All-append (PutsOnly at) between (Swap (Member o 1) below was ∷ before) (partings_put at between leaves)
      (All-cons (PutsOnly at) (Swap (Member o 1) below was) before refl early))
      there alive_s (head o) apart list in
      let asks = legalC.1.asks in
      let alike = ⊎_elim (λ (e : true ≡ equivalent old below). sym e) (λ t. absurd (let e : true ≡ false = t.1 in cc)) asks.4 in
      let cell : cell_of s c ≡ old = sym asks.3 in
      let kind : below.kind ≡ Owner = asks.1.0 ∙ sym asks.2.0 in
      let tail : Chain s below os = chain_alike s old below os alike kind (subst (λ (h : NumberedHandle). Chain s h os) cell n) in
      let A = map (entry d) (Swap (Member o 1) below was ∷ before) ++ seen in
      let inner = in_front d between (Swap (Member o 1) below was ∷ before) seen in
      let holds = given_holds s d _ o (Some q) asks.2 in
      let lives : (s.object o).phase ≡ live = owner_lives z s d node (sound z T legalC.0) holds in
      let kept = keeps_run z d o between A (subst (IsLegal z) inner legalC.0) leaves (subst (λ l. ((leads z l).object o).phase ≡ live) inner lives) in
      let B = map (entry d) before ++ seen in
      let put_in : ((leads z A).object o).member 1 ≡ below =
      ap (λ (y : Rattle.control_word.specs.State.Object). y.member 1) (put_same (leads z B).object o _ o refl) ∙ put_same
      ((leads z B).object o).member 1 below 1 refl in
      let next : (s.object o).member 1 ≡ below = ap (λ l. ((leads z l).object o).member 1) inner ∙ (kept.next ∙ put_in) in
      let later = block_kept z (map (entry d) row) seen o made in
      let u = leads z C in
      let stays = keeps_after s d x only o asks refl (λ e. head o (sym e)) lives later.1 in
      let here : q.block.0 ≡ (u.object o).block = block ∙ (sym later.0 ∙ sym stays.block) in
      let listed = chain_live z s c os (sound z T legalC.0) there_s n in
      let chain_u : Chain u node (o ∷ os) = (
        (q, refl, here),
        subst (λ (h : NumberedHandle). Chain u h os) (sym (stays.next ∙ next))
            (chain_kept s u below os (all_kept s d x only os asks refl (apart_head c os head) listed) tail),
      ) in
      let list_u : IsList u c (o ∷ os) = subst (λ (h : NumberedHandle). Chain u h (o ∷ os)) (sym (cell_put s d c node old)) chain_u in
      subst (λ l. IsList (leads z l) c (o ∷ os)) (sym split)
      (frames_at z d in_no_cell late C c (o ∷ os) legal' ends there_u alive' (λ e. e) (apart_nowhere (o ∷ os)) list_u)
