-- What a seat has in the course of a visit.
use Rattle.std.proofs.Common.{◌≡◌, ℕ, ◌-◌, List, [], ◌∷◌, Some, None, Option, sym, refl, ap, ◌∙◌}
use Rattle.std.proofs.Common.{subst}
use Rattle.control_block.proofs.Prelude.{At, Block, Idle, Making, Merging, Moved, opening_of}
use Rattle.control_block.proofs.Prelude.{owner, Parting, Paying, Pending, Place, SeatView, spot}
use Rattle.control_block.proofs.Prelude.{tells, value, Visit, Visiting}
use Rattle.control_block.specs.DoorStepKinds.{IsVisiting}
use Rattle.control_block.proofs.words.Seats.{first_slot, some_same}

module _ {V : Type 0} where
  -- the value that a visit found
  abbrev found_by : Pending V → Option V
  found_by Idle = None
  found_by (Making b l) = None
  found_by (Paying k o p w f n) = None
  found_by (Visiting o p w x) = Some x
  found_by (Parting to) = None
  found_by (Merging other x y) = None

  pub same_found : (p q : Pending V) (o w i j : ℕ) (a c : Option Place) (x y : V) → p ≡ Visiting o a i x → p ≡ Visiting w c j y → x ≡ y
  same_found p q o w i j a c x y e f = some_same x y (ap found_by (sym e ∙ f))

  pub same_first : (l : List (ℕ × Option V)) (b c : ℕ) (x y : V) → l ≡ (b, Some x) ∷ [] → l ≡ (c, Some y) ∷ [] → x ≡ y
  same_first l b c x y e f = some_same x y (ap first_slot (sym e ∙ f))

  -- after the door was shut, with the value in the slot that came with it
  pub visits_now : (v : SeatView V) (m n : At V) (c b : Block) (o : ℕ) (p : Option Place) (i : ℕ) (x : V) → m.0 ≡ v → c ≡ b → i ≡ spot b.0 2
      → Moved m.0 (Visiting o p i x) (Some c) n.0 → value (opening_of m.0.shape) n.0.view.seen o ≡ Some x → n.1 ≡ (c.0 - 1, Some x) ∷ []
      → IsVisiting v b o p (spot b.0 2) x (Some x) n
  visits_now v m n c b o p i x is block word moved val carried =
      record {
        moved = subst (λ (z : Block × (ℕ × SeatView V)). Moved z.1.1 (Visiting o p z.1.0 x) (Some z.0) n.0) (λ j. (block j, (word j, is j))) moved;
        valued = subst (λ (z : SeatView V). value (opening_of z.shape) n.0.view.seen o ≡ Some x) is val;
        carried = carried ∙ ap (λ (z : Block). (z.0 - 1, Some x) ∷ []) block;
      }

  -- and after its value was worked on
  pub worked_on : (v : SeatView V) (b : Block) (o : ℕ) (p : Option Place) (i : ℕ) (x was becomes : V) (me me' : At V) → IsVisiting v b o p i x (Some x) me
      → me.1 ≡ (b.0 - 1, Some was) ∷ [] → me' ≡ (me.0, (b.0 - 1, Some becomes) ∷ []) → IsVisiting v b o p i was (Some becomes) me'
  worked_on v b o p i x was becomes me me' t has now =
      let same : x ≡ was = same_first me.1 (b.0 - 1) (b.0 - 1) x was t.carried has in
      subst (λ (z : V × At V). IsVisiting v b o p i z.0 (Some becomes) z.1) (λ j. (same j, sym now j))
      record { moved = t.moved; valued = t.valued; carried = refl }

  -- the owner by which a seat visits
  abbrev pub visited : Pending V → ℕ
  visited (Visiting o p w x) = o
  visited p = 0

  abbrev pub visited_at : Pending V → Option Place
  visited_at (Visiting o p w x) = p
  visited_at p = None

  pub as_visited : (v : SeatView V) (b : Block) (o : ℕ) (p : Option Place) (i : ℕ) (was : V) (now : Option V) (me : At V) → IsVisiting v b o p i was now me
      → (visited me.0.view.pending ≡ o) × (visited_at me.0.view.pending ≡ p)
  as_visited v b o p i was now me t =
      let e = ap (λ (w : SeatView V). w.view.pending) t.moved.now in (ap visited e, ap visited_at e)

  pub again : (v : SeatView V) (b : Block) (o : ℕ) (p : Option Place) (i : ℕ) (was : V) (now : Option V) (me : At V) → IsVisiting v b o p i was now me
      → IsVisiting v b (visited me.0.view.pending) (visited_at me.0.view.pending) i was now me
  again v b o p i was now me t =
      let q = as_visited v b o p i was now me t in
      subst (λ (y : ℕ × Option Place). IsVisiting v b y.0 y.1 i was now me) (λ j. (sym q.0 j, sym q.1 j)) t

  pub tells_visit : (v w : SeatView V) (b : Block) (o : ℕ) (p : Option Place) (i : ℕ) (was becomes : V) (now : Option V) (me : At V)
      → IsVisiting v b o p i was now me
      → tells (Visit (owner (visited me.0.view.pending) (visited_at me.0.view.pending)) was becomes) v w → tells (Visit (owner o p) was becomes) v w
  tells_visit v w b o p i was becomes now me t e =
      let q = as_visited v b o p i was now me t in subst (λ (y : ℕ × Option Place). tells (Visit (owner y.0 y.1) was becomes) v w) (λ j. (q.0 j, q.1 j)) e
