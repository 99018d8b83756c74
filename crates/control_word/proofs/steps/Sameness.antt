-- A look at a cell which tells whether it holds a handle that the desk has. The word says so: a desk's handle keeps its
-- object's block, so that no other object is there, and the funds taken lie above all else.
use Rattle.std.proofs.Common.{◌≡◌, ℕ, ◌+◌, ◌*◌, ◌&&◌, ◌≢◌, IfSome, ◌==◌, Some, None}
use Rattle.std.proofs.Common.{Option, sym, refl, ap, ◌∙◌, subst, ⊎_elim, arith, eq-eqb, ne_eqb}
use Rattle.control_word.proofs.Prelude
use Prelude.{block_of, blocks_of, cases_eq, cell_of, equivalent, handle, Holds, Idle}
use Prelude.{InHand, IsBlock, IsCellWord, IsFormed, IsPlace, Kind, kind_of, me, NumberedHandle}
use Prelude.{object_of, owned_bits, Place, place_bits, Point, Ready, Same, same_number, same_place}
use Prelude.{shown, state}
use Rattle.control_word.proofs.history.Allowances.{opened}
use Rattle.control_word.proofs.history.Formation.{formed}
use Rattle.control_word.proofs.history.Legal.{held_busy, sound, written}
use Rattle.control_word.proofs.history.Soundness.{IsBusy}
use Rattle.control_word.proofs.steps.Look.{look_event}
use Rattle.control_word.proofs.words.Banks.{open_kept}
use Rattle.control_word.proofs.words.Decoding.{cell_decodes, cell_taken, kept_busy, shown_fits}
use Rattle.control_word.specs.CellSteps.{TellsSame}
use Rattle.control_word.specs.Words.{packed}
use Rattle.control_word.proofs.packing.Cells.{field_fits, owned_fits as owned_limit}
use Rattle.control_word.proofs.packing.Fields.{same_parts}
use Rattle.control_word.specs.Limits.{one_place_low, one_field, one_owned_high, one_place_high}
use Rattle.control_word.specs.Packing.{block_number, high_part, low_part, place_block, place_field}
use Rattle.control_word.specs.Views.{Stands}

-- numbers of two parts are equal just where both parts are
both_parts : (a b c d e f : ℕ) → (a ≡ b → c ≡ d → e ≡ f) → (e ≡ f → (a ≡ b) × (c ≡ d)) → (e == f) ≡ (a == b && c == d)
both_parts a b c d e f to from =
    ⊎_elim
    (λ (x : a ≡ b). ⊎_elim
    (λ (y : c ≡ d). eq-eqb e f (to x y) ∙ sym (λ i. eq-eqb a b x i && eq-eqb c d y i))
    (λ (n : c ≢ d). ne_eqb e f (λ q. n (from q).1) ∙ sym (λ i. eq-eqb a b x i && ne_eqb c d n i)) (cases_eq c d))
    (λ (n : a ≢ b). ne_eqb e f (λ q. n (from q).0) ∙ sym (ap (λ z. z && (c == d)) (ne_eqb a b n))) (cases_eq a b)

-- a place's parts in a word
place_split : (p : Option Place) → place_bits p
    ≡ one_place_low * low_part (place_block p) + one_field * place_field p + one_place_high * high_part (place_block p)
place_split None = omega arith
place_split (Some p) = omega arith

places_alike : (p q : Option Place) → IfSome p IsPlace → IfSome q IsPlace → (place_bits p == place_bits q) ≡ same_place p q
places_alike None None f g = refl
places_alike None (Some q) f g = let a = g.0.0 in ne_eqb _ _ (λ e. omega arith)
places_alike (Some p) None f g = let a = f.0.0 in ne_eqb _ _ (λ e. omega arith)
places_alike (Some p) (Some q) f g =
    let a = f.0.1 in let b = g.0.1 in let c = f.1 in let d = g.1 in
    both_parts p.block.0 q.block.0 p.field q.field _ _ (λ x y. omega arith) (λ e. (omega arith, omega arith))

module _ (block : ℕ → ℕ) where
  -- the parts of an owned block in a word
  owned_split : (a : Option ℕ) → let n = block_number (block_of block a) in
      owned_bits block a ≡ low_part n + one_owned_high * high_part n
  owned_split None = omega arith
  owned_split (Some o) = omega arith

  owned_alike : (a b : Option ℕ) → IfSome (block_of block a) IsBlock → IfSome (block_of block b) IsBlock
      → ((o r : ℕ) → a ≡ Some o → b ≡ Some r → block o ≡ block r → o ≡ r)
      → (owned_bits block a == owned_bits block b) ≡ same_number a b
  owned_alike None None f g one = refl
  owned_alike None (Some r) f g one = let t = g.0 in let u = g.1 in ne_eqb _ _ (λ e. omega arith)
  owned_alike (Some o) None f g one = let t = f.0 in let u = f.1 in ne_eqb _ _ (λ e. omega arith)
  owned_alike (Some o) (Some r) f g one =
      let x = f.1 in let y = g.1 in
      ⊎_elim (λ (e : o ≡ r). eq-eqb (owned_bits block (Some o)) (owned_bits block (Some r)) (ap (λ q. owned_bits block (Some q)) e) ∙ sym (eq-eqb o r e))
      (λ (n : o ≢ r). ne_eqb (owned_bits block (Some o)) (owned_bits block (Some r)) (λ e. n (one o r refl refl (omega arith))) ∙ sym (ne_eqb o r n))
      (cases_eq o r)

  -- words of handles are equal just where the handles are equivalent, if no two objects share a block
  pub words_alike : (x y : NumberedHandle) (t u : ℕ) → IsCellWord (shown block x t) → IsCellWord (shown block y u)
      → ((o r : ℕ) → x.object ≡ Some o → y.object ≡ Some r → block o ≡ block r → o ≡ r)
      → (packed block x == packed block y) ≡ equivalent x y
  unfolding packed
  words_alike x y t u f g one =
      let a = owned_split x.object in let b = owned_split y.object in
      let p = place_split x.place in let q = place_split y.place in
      let a0 = owned_limit (block_of block x.object) f.owned in let b0 = owned_limit (block_of block y.object) g.owned in
      let p0 = field_fits x.place f.place in let q0 = field_fits y.place g.place in
      both_parts (owned_bits block x.object) (owned_bits block y.object) (place_bits x.place) (place_bits y.place) _ _
      (λ e d. omega arith) (λ e.
      let m = block_number (block_of block x.object) in let n = block_number (block_of block y.object) in
      let t' = same_parts (low_part m) (low_part (place_block x.place)) (place_field x.place) 0 (high_part m) (high_part (place_block x.place))
      (low_part n) (low_part (place_block y.place)) (place_field y.place) 0 (high_part n) (high_part (place_block y.place))
      (omega arith) (omega arith) p0 (omega arith) (omega arith) (omega arith) (omega arith) q0 (omega arith) (omega arith) (omega arith) in
      let t0 = t'.0 in let t1 = t'.1 in let t2 = t'.2 in let t4 = t'.4 in let t5 = t'.5 in (omega arith, omega arith))
      ∙ (λ i. owned_alike x.object y.object f.owned g.owned one i && places_alike x.place y.place f.place g.place i)

module _ {V : Type 0} where
  -- an object of which the desk has a handle is counted, and the handle well formed
  hand_busy : (at : Point V) → Ready at Idle → (k : Kind) (x : NumberedHandle) → InHand (state at) (me at) k x
      → IsFormed x × ((r : ℕ) → x.object ≡ Some r → IsBusy (state at) r)
  hand_busy at ready k x hand =
      let s = state at in let d = me at in
      ⊎_elim (λ n. (n.1, λ r e. absurd (some_none (sym e ∙ n.0))))
      (λ (t : Holds s d k x).
      let busy = held_busy at.opening s d (object_of x) k x.place (sound at.opening at.history ready.stands.legal) (written s.hands d k x t.0 t.1 t.2) in (
        ((formed at.opening at.history ready.stands.legal).bags _ t.0).0,
        λ r e. subst (λ o. IsBusy s o) (ap (λ (o : Option ℕ). object_of (handle k o x.place)) e) busy,
      )) hand.1
    where
      some_none : {r : ℕ} → Some r ≡ None → ⊥
      some_none e = cc

  pub tells_same : TellsSame V Stands
  tells_same at c x ready open' hand =
      let z = at.opening in let s = state at in let old = cell_of s c in let fine = sound z at.history ready.stands.legal in
      let kept = open_kept z s (me at) c fine open' in
      let mine = hand_busy at ready (kind_of s c) x hand in
      let shows = (cell_decodes z at.words at.views at.history ready.stands at.seat at.view ready.seated ready.awake c kept).1 in
      let limit = (opened z at.history ready.stands.legal).limits.0 in
      let fits = shown_fits (blocks_of s) x 0 mine.0 (λ r e. let p = (fine.placed r (mine.1 r e)).1 in let a = p.1 in (p.0, omega arith)) (omega arith) in
      let bare = (cell_taken z at.words at.views at.history ready.stands at.seat at.view ready.seated ready.awake c kept).1 in
      let alike = words_alike (blocks_of s) old x _ 0 shows fits (λ o r a b e.
      sym (fine.placed o (kept_busy z s fine c kept o a)).0 ∙ (ap s.latest e ∙ (fine.placed r (mine.1 r b)).0)) in
      look_event z at.words at.views at.history ready.stands at.seat at.view ready.seated ready.awake ready.pending 0 None (Same c x _) tt
      (open', hand, ap (λ n. n == packed (blocks_of s) x) bare ∙ alike) tt refl refl
