-- On a sole desk a list loses just the node that is taken, and one in which no node was found is empty.
use Rattle.std.proofs.Common.{◌≡◌, ℕ, ◌<◌, Bool, true, false, List, [], ◌∷◌, ◌++◌, map, Some, None}
use Rattle.std.proofs.Common.{All, sym, refl, ap, ◌∙◌, subst, ⊎_elim}
use Rattle.scene_structures.proofs.Prelude
use Prelude.{All-cons, Cell, cell_of, Chain, Compare, Entry, entry, equivalent, Event, Free}
use Prelude.{in_no_cell, IsLegal, IsList, IsParting, leads, legal_seen, live, Load, Member}
use Prelude.{NumberedHandle, Opening, owner, OwnsObject, Place, put_same, PutsOnly, Sees, State}
use Rattle.scene_structures.proofs.Frames.{cell_run, chain_kept, frames}
use Rattle.scene_structures.proofs.Grows.{all_same, apart_nowhere, in_front, none_alike}
use Rattle.scene_structures.proofs.Grows.{same_owner}
use Rattle.scene_structures.proofs.Lives.{keeps_run}
use Rattle.scene_structures.proofs.Rows.{partings_put}

-- a chain that begins with what is equivalent to a node has the node in front
front : (s : State) (old : NumberedHandle) (o : ℕ) (q : Place) (os : List ℕ) → Chain s old os → equivalent old (owner o (Some q)) ≡ true
    → (rest : List ℕ) × (os ≡ o ∷ rest) × OwnsObject s (owner o (Some q)) o × Chain s ((s.object o).member 1) rest
front s old o q [] chain alike = absurd (let e : Some o ≡ None = none_alike old (owner o (Some q)) alike chain in cc)
front s old o q (p ∷ rest) chain alike =
    let e : old ≡ owner o (Some q) = same_owner old (owner o (Some q)) alike (ap (λ (h : NumberedHandle). h.kind) chain.0.1) refl in
    let number : Some p ≡ Some o = ap (λ (h : NumberedHandle). h.object) (sym chain.0.1 ∙ e) in
    let same : p ≡ o = cc in
    let owns : OwnsObject s (owner o (Some q)) p = (chain.0.0, sym e ∙ chain.0.1, chain.0.2) in (
      rest,
      ap (λ n. n ∷ rest) same,
      subst (λ n. OwnsObject s (owner o (Some q)) n) same owns,
      subst (λ n. Chain s ((s.object n).member 1) rest) same chain.1,
    )

module _ {V : Type 0} where
  -- the row of a pop's own events
  abbrev pub taking : ℕ → ℕ → Place → NumberedHandle → NumberedHandle → Bool → List (Event V) → List (Event V) → List (Event V)
  taking m o q below old w before late = late ++ Compare (Free m) (owner o (Some q)) below old true w ∷ (Load (Member o 1) below ∷ before)

  -- the state after it: o lives still, since its owner is in hand
  pub taken : (z : Opening) (d o m : ℕ) (q : Place) (below old : NumberedHandle) (w : Bool) (before late : List (Event V)) (seen : List (Entry V)) (os : List ℕ)
      → IsLegal z (map (entry d) (taking m o q below old w before late) ++ seen) → All (PutsOnly in_no_cell) before → All IsParting late → m < z.cells
      → ((leads z (map (entry d) (taking m o q below old w before late) ++ seen)).object o).phase ≡ live → IsList (leads z seen) (Free m) os
      → (rest : List ℕ) × (os ≡ o ∷ rest) × IsList (leads z (map (entry d) (taking m o q below old w before late) ++ seen)) (Free m) rest
      × OwnsObject (leads z (map (entry d) (taking m o q below old w before late) ++ seen)) (owner o (Some q)) o
      × (((leads z (map (entry d) (taking m o q below old w before late) ++ seen)).object o).member 1
      ≡ (leads z (map (entry d) (taking m o q below old w before late) ++ seen)).cell m)
  taken z d o m q below old w before late seen os legal early last lt lives list =
      let node = owner o (Some q) in
      let x = Compare (Free m) node below old true w in let y = Load (Member o 1) below in
      let L = map (entry d) (y ∷ before) ++ seen in let C = entry d x ∷ L in
      let split = in_front d late (x ∷ (y ∷ before)) seen in
      let legal' : IsLegal z (map (entry d) late ++ C) = subst (IsLegal z) split legal in
      let legalC : IsLegal z C = legal_seen z (map (entry d) late) C legal' in
      let s = leads z L in let u = leads z C in
      let n = frames z d in_no_cell (y ∷ before) seen m os legalC.0 (All-cons (PutsOnly in_no_cell) y before tt early) lt (λ e. e) (apart_nowhere os) list in
      let asks = legalC.1.asks in
      let alike : equivalent old node ≡ true =
      ⊎_elim (λ (e : true ≡ equivalent old node). sym e) (λ t. absurd (let e : true ≡ false = t.1 in cc)) asks.4 in
      let cell : s.cell m ≡ old = sym asks.3 in
      let f = front s old o q os (subst (λ (h : NumberedHandle). Chain s h os) cell n) alike in
      let rest = f.0 in
      let below_is : (s.object o).member 1 ≡ below = sym legalC.0.1.asks.1 in
      let cell_now : u.cell m ≡ below = put_same s.cell m below m refl in
      let tail = chain_kept s u ((s.object o).member 1) rest (all_same s u rest refl) f.3 in
      let list_u : IsList u (Free m) rest = subst (λ (h : NumberedHandle). Chain u h rest) (below_is ∙ sym cell_now) tail in
      let puts = partings_put in_no_cell late last in
      let kept = keeps_run z d o late C legal' last (subst (λ l. ((leads z l).object o).phase ≡ live) split lives) in
      let F = map (entry d) late ++ C in
      let run = cell_run z d in_no_cell late C m puts (λ e. e) in
      let owns : OwnsObject (leads z F) node o = (f.2.0, f.2.1, f.2.2 ∙ sym kept.block) in
      let next : ((leads z F).object o).member 1 ≡ (leads z F).cell m = kept.next ∙ (below_is ∙ (sym cell_now ∙ sym run)) in (
        rest,
        f.1,
        subst (λ l. IsList (leads z l) (Free m) rest) (sym split) (frames z d in_no_cell late C m rest legal' puts lt (λ e. e) (apart_nowhere rest) list_u),
        subst (λ l. OwnsObject (leads z l) node o) (sym split) owns,
        subst (λ l. ((leads z l).object o).member 1 ≡ (leads z l).cell m) (sym split) next,
      )

  -- the look found what is in the cell
  pub seen_there : (z : Opening) (d : ℕ) (c : Cell) (found : NumberedHandle) (x : Event V) (h : List (Entry V)) → IsLegal z (entry d x ∷ h) → Sees c found x
      → (cell_of (leads z h) c ≡ found) × ((leads z (entry d x ∷ h)).object ≡ (leads z h).object)
  seen_there z d c found (Load k got) h legal sees = (sym (ap (cell_of (leads z h)) sees.0) ∙ (sym legal.1.asks.1 ∙ sees.1), refl)
  seen_there z d c found (Compare k ex new got false w) h legal sees = (sym (ap (cell_of (leads z h)) sees.0) ∙ (sym legal.1.asks.3 ∙ sees.1), refl)
  seen_there z d c found x h legal sees = absurd sees

  -- where the last look found no node, the list is empty
  pub none_found : (z : Opening) (d m : ℕ) (found : NumberedHandle) (look : Event V) (before : List (Event V)) (seen : List (Entry V)) (os : List ℕ)
      → IsLegal z (entry d look ∷ (map (entry d) before ++ seen)) → Sees (Free m) found look → All (PutsOnly in_no_cell) before → m < z.cells
      → ((o : ℕ) → OwnsObject (leads z (entry d look ∷ (map (entry d) before ++ seen))) found o → ⊥)
      → IsList (leads z seen) (Free m) os → os ≡ []
  none_found z d m found look before seen [] legal sees early lt none list = refl
  none_found z d m found look before seen (o ∷ os) legal sees early lt none list =
      let B = map (entry d) before ++ seen in let s = leads z B in
      let n = frames z d in_no_cell before seen m (o ∷ os) legal.0 early lt (λ e. e) (apart_nowhere (o ∷ os)) list in
      let t = seen_there z d (Free m) found look B legal sees in
      absurd (none o (n.0.0, sym t.0 ∙ n.0.1, n.0.2 ∙ ap (λ f. (f o).block) (sym t.1)))
