-- What a desk has it has still after what a member held came into its hands.
use Rattle.std.proofs.Common.{◌≡◌, ℕ, List, [], ◌∷◌, ◌++◌, map, Some, Option, sym, refl, ap, ◌∙◌}
use Rattle.std.proofs.Common.{subst, inl, inr, ⊎_elim}
use Rattle.pointers.proofs.Prelude.{AddsEvent, after, DeskNow, Entry, entry, Event, handle, Has}
use Rattle.pointers.proofs.Prelude.{has_object, HasHandle, IsLegal, Kind, leads, legal_seen}
use Rattle.pointers.proofs.Prelude.{NumberedHandle, Opening, opening_of, Place, same_kept, Shape}
use Rattle.pointers.proofs.Prelude.{State}
use Rattle.std.proofs.lemmas.Bool.{cond_both}
use Rattle.control_word.proofs.history.Given.{names_an_object}
use Rattle.control_word.proofs.history.Kept.{block_kept, has_same}
use Rattle.control_word.proofs.lists.Parts.{has_part}
use Rattle.control_word.specs.Events.{clears}
use Rattle.control_word.specs.State.{Held, bag, held}
use Rattle.control_word.specs.Views.{NoneBy}
use Rattle.control_block.proofs.Bags.{seen_as, shown, shown_held}

map_has : {A B : Type 0} (f : A → B) (x : A) (l : List A) → Has x l → Has (f x) (map f l)
map_has f x [] has = absurd has
map_has f x (y ∷ l) has = ⊎_elim (λ e. inl (ap f e)) (λ t. inr (map_has f x l t)) has

-- what a desk holds on an object its bag shows in the object's block
pub held_shown : (s : State) (n : ℕ) (k : Kind) (p : Option Place) (o b : ℕ) → Has (held n (handle k (Some o) p)) s.hands → (s.object o).block ≡ b
    → Has (handle k (Some b) p) (shown s n)
held_shown s n k p o b has there =
    let x = held n (handle k (Some o) p) in
    subst (λ (c : ℕ). Has (handle k (Some c) p) (shown s n)) there (map_has (seen_as s) x (bag s n) (has_part (λ (y : Held). y.desk) n x s.hands refl has))

-- a desk that empties a member keeps what is in all hands
pub has_cleared : (o m : ℕ) (h : NumberedHandle) (s : State) (d : ℕ) (y : Held) → Has y s.hands → Has y (clears d o m h s).hands
has_cleared o m h s d y has = cond_both (has_object h) (held d h ∷ s.hands) s.hands (Has y) (λ e. inr has) (λ e. has)

module _ {V : Type 0} where
  -- an event by which no handle leaves
  abbrev pub Gains : Event V → Type 0
  Gains x = (s : State) (d : ℕ) (y : Held) → Has y s.hands → Has y (after s d x).hands

  shown_on : (z : Opening) (between seen : List (Entry V)) (n : ℕ) (x : Event V) (k : Kind) (p : Option Place) (b : ℕ) → Gains x
      → IsLegal z (entry n x ∷ (between ++ seen)) → NoneBy n between → Has (handle k (Some b) p) (shown (leads z seen) n)
      → Has (handle k (Some b) p) (shown (leads z (entry n x ∷ (between ++ seen))) n)
  shown_on z between seen n x k p b gains legal quiet has =
      let s = leads z seen in let t = leads z (between ++ seen) in let u = leads z (entry n x ∷ (between ++ seen)) in
      let before = legal_seen z between seen legal.0 in
      let mine = shown_held z seen n k p b before has in
      let o = s.latest b in
      let was = (names_an_object z seen before n k (handle k (Some o) p) (mine.0, refl, refl)).1 in
      let there = has_same s t n (handle k (Some o) p) (same_kept z between seen n quiet) mine.0 in
      held_shown u n k p o b (gains t n (held n (handle k (Some o) p)) there) ((block_kept z (entry n x ∷ between) seen o was).0 ∙ mine.1)

  pub handle_on : (d : DeskNow V) (x : Event V) (e : DeskNow V) → Gains x → AddsEvent d x e → (k : Kind) (p : Option Place) (b : ℕ) → HasHandle d k p b
      → HasHandle e k p b
  handle_on d x e gains adds k p b has =
      let z = opening_of d.shape in let l = entry d.name x ∷ (adds.between ++ d.seen) in
      let now = shown_on z adds.between d.seen d.name x k p b gains (subst (IsLegal z) adds.seen adds.legal) adds.quiet has in
      subst (λ (y : Shape). Has (handle k (Some b) p) (shown (leads (opening_of y) e.seen) e.name)) (sym adds.same.1)
      (subst (λ (n : ℕ). Has (handle k (Some b) p) (shown (leads z e.seen) n)) (sym adds.same.2)
      (subst (λ (h : List (Entry V)). Has (handle k (Some b) p) (shown (leads z h) d.name)) (sym adds.seen) now))
