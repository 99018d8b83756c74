-- What compares of cells say, by what is known of handles.
use Rattle.std.proofs.Common.{◌≡◌, ℕ, ◌+◌, Bool, true, false, cond, ◌⊎◌, List, [], ◌∷◌, slice_get}
use Rattle.std.proofs.Common.{slice_set, Some, None, Option, sym, ◌∙◌, subst, arith}
use Rattle.pointers.proofs.Prelude.{AddsEvent, Arrives, bag_of, Block, block_of, Cell, DeskNow}
use Rattle.pointers.proofs.Prelude.{Entry, GoesOn, handle_in, Held, IsHandleOf, IsLegal, IsWhole}
use Rattle.pointers.proofs.Prelude.{IsWholeBeside, Keeps, Kind, Known, Later, NumberedHandle}
use Rattle.pointers.proofs.Prelude.{opening_of, Pile, Place, place_of, Standing, Stays, with_held}
use Rattle.pointers.proofs.Prelude.{without_held}
use Rattle.control_word.specs.Handles.{equivalent}
use Rattle.control_word.specs.declared.model.event.Event.TheVariants as event
use Rattle.atomic_cells.specs.Compares.{Compares, bag_compared, came_out, has_swapped}
use Rattle.atomic_cells.specs.declared.compared.Compared.{Compared}
use Rattle.pointers.proofs.CellCalls.{block_arrived, block_given, came_to, place_arrived}
use Rattle.pointers.proofs.CellCalls.{place_given}
use Rattle.pointers.proofs.InHand.{bears_on, claim_ends, comes, nothing_beside, swaps}
use Rattle.pointers.specs.Cells.{block_by, place_by}
use Rattle.pointers.specs.Compares.{Finds, IsCompared}

module _ {V : Type 0} where
  -- a compare in a legal history tells whether the pointers were equivalent
  pub told_by : (d e : DeskNow V) (x : Cell) (expected new h : NumberedHandle) (swapped weak : Bool)
      → AddsEvent d (event.Compare x expected new h swapped weak) e → (swapped ≡ equivalent h expected) ⊎ ((weak ≡ true) × (swapped ≡ false))
  told_by d e x expected new h swapped weak a =
      let legal = subst (λ (l : List (Entry V)). IsLegal (opening_of d.shape) l) a.seen a.legal in legal.1.asks.4

  -- by handles
  pub by_handles : (d e : DeskNow V) (x y : Cell) (k : Kind) (h n : Held) (hoped new : Option (Known V)) (swapped weak : Bool) (a : Option Block)
      (q : Option Place) → y ≡ x → IsHandleOf hoped h → IsHandleOf new n → Compares d y k (block_of h) (place_of h) (block_of n) (place_of n) swapped a q weak e
      → Compares d x k (block_by hoped) (place_by hoped) (block_by new) (place_by new) swapped a q weak e
  by_handles d e x y k h n hoped new swapped weak a q same is at c =
      subst (λ (z : Cell). Compares d z k (block_by hoped) (place_by hoped) (block_by new) (place_by new) swapped a q weak e) same
      (subst (λ (b : Option Block). Compares d y k b (place_by hoped) (block_by new) (place_by new) swapped a q weak e) (block_given hoped h is)
      (subst (λ (p : Option Place). Compares d y k (block_of h) p (block_by new) (place_by new) swapped a q weak e) (place_given hoped h is)
      (subst (λ (b : Option Block). Compares d y k (block_of h) (place_of h) b (place_by new) swapped a q weak e) (block_given new n at)
      (subst (λ (p : Option Place). Compares d y k (block_of h) (place_of h) (block_of n) p swapped a q weak e) (place_given new n at) c))))

  is_compared : (o d e : DeskNow V) (of : Option (Known V)) (x y : Cell) (k : Kind) (h n : Held) (hoped new : Option (Known V)) (swapped weak : Bool)
      (a : Option Block) (q : Option Place) → GoesOn o d → Stays o of d → Stays o hoped d → Stays o new d → y ≡ x → IsHandleOf hoped h → IsHandleOf new n
      → Compares d y k (block_of h) (place_of h) (block_of n) (place_of n) swapped a q weak e → IsCompared o of x k weak hoped new swapped a q e
  is_compared o d e of x y k h n hoped new swapped weak a q goes member first second same is at c =
      let by = by_handles d e x y k h n hoped new swapped weak a q same is at c in
      record {
        before = d;
        opened = goes;
        member = member;
        expected = first;
        desired = second;
        compares = by;
        told = told_by d e x (handle_in d k (block_by hoped) (place_by hoped)) (handle_in d k (block_by new) (place_by new))
            (handle_in e k a q) swapped weak by;
      }

  -- they were swapped
  pub swapped : (o d e : DeskNow V) (of : Option (Known V)) (x y : Cell) (k : Kind) (h n f : Held) (hoped new : Option (Known V)) (weak : Bool)
      → GoesOn o d → Stays o of d → Stays o hoped d → Stays o new d → y ≡ x → IsHandleOf hoped h → IsHandleOf new n
      → Compares d y k (block_of h) (place_of h) (block_of n) (place_of n) true (block_of f) (place_of f) weak e → Finds o of x k weak hoped new None
  swapped o d e of x y k h n f hoped new weak goes member first second same is at c = (
    block_of f,
    place_of f,
    e,
    is_compared o d e of x y k h n hoped new true weak (block_of f) (place_of f) goes member first second same is at c,
  )

  -- the cell held something else, or the weak form failed
  pub differed : (o d e : DeskNow V) (of : Option (Known V)) (x y : Cell) (k : Kind) (h n f : Held) (hoped new got : Option (Known V)) (weak : Bool)
      → GoesOn o d → Stays o of d → Stays o hoped d → Stays o new d → y ≡ x → IsHandleOf hoped h → IsHandleOf new n
      → Compares d y k (block_of h) (place_of h) (block_of n) (place_of n) false (block_of f) (place_of f) weak e → Arrives f e got
      → Finds o of x k weak hoped new (Some got)
  differed o d e of x y k h n f hoped new got weak goes member first second same is at c arrives = (
    e,
    subst (λ (b : Option Block). IsCompared o of x k weak hoped new false b (place_by got) e) (block_arrived f e got arrives)
        (subst (λ (q : Option Place). IsCompared o of x k weak hoped new false (block_of f) q e) (place_arrived f e got arrives)
        (is_compared o d e of x y k h n hoped new false weak (block_of f) (place_of f) goes member first second same is at c)),
    came_to f e got arrives,
  )

  -- a claim stands in a list that is the same
  pub at_same : (cs ds : List (Option (Known V))) (i : ℕ) (c : Known V) → ds ≡ cs → slice_get ds i ≡ Some (Some c) → slice_get cs i ≡ Some (Some c)
  at_same cs ds i c same at = subst (λ (l : List (Option (Known V))). slice_get l i ≡ Some (Some c)) same at

  -- what was desired went, its claim ended, and what the cell held is in hand
  pub hand_swapped : (o d e : DeskNow V) (p : Pile V) (cs ds es : List (Option (Known V))) (i j : ℕ) (c : Known V) (h f : Held) → IsWhole o d p cs
      → Standing d → slice_get cs i ≡ Some (Some c) → c.handle ≡ h → ds ≡ cs → j ≡ i → es ≡ slice_set ds j None → Later d e → Keeps d e
      → bag_of e ≡ with_held f (without_held h (bag_of d)) → e.held ≡ d.held + 0 → IsWholeBeside o e p (f ∷ []) es
  hand_swapped o d e p cs ds es i j c h f w stands at is same there gone later keeps bag held =
      let ended = claim_ends o d p cs es i c w at (gone ∙ (λ t. slice_set (same t) (there t) None)) in
      let was = subst (λ (x : Held). IsWholeBeside o d p (x ∷ []) es) is ended in
      let few : e.held ≡ d.held = omega (arith, held) in
      swaps o d e p p h f [] es was stands later (bears_on o d e p (h ∷ []) es was keeps) bag few

  -- a copy of what the cell holds is in hand
  pub hand_more : (o d e : DeskNow V) (p : Pile V) (cs ds : List (Option (Known V))) (f : Held) → IsWhole o d p cs → Standing d → ds ≡ cs → Later d e
      → Keeps d e → bag_of e ≡ with_held f (bag_of d) → e.held ≡ d.held + 1 → IsWholeBeside o e p (f ∷ []) ds
  hand_more o d e p cs ds f w stands same later keeps bag held =
      let was = nothing_beside o d p cs w in
      subst (λ (l : List (Option (Known V))). IsWholeBeside o e p (f ∷ []) l) (sym same)
      (comes o d e p p f [] cs was stands later (bears_on o d e p [] cs was keeps) bag held)

  -- what a compare of handles said, by what came of it
  pub record Says {H : Type 0} (d : DeskNow V) (x : Cell) (j : Kind) (eb : Option Block) (ep : Option Place) (b : Option Block) (p : Option Place)
      (weak : Bool) (e : DeskNow V) (block : H → Option Block) (place : H → Option Place) (k : Compared H) : Type 0 where
    pub compared : Compares d x j eb ep b p (has_swapped k) (block (came_out k)) (place (came_out k)) weak e
    pub bag : bag_of e ≡ bag_compared (has_swapped k) j b p (block (came_out k)) (place (came_out k)) (bag_of d)
    pub held : e.held ≡ d.held + cond (has_swapped k) 0 1

  pub says_by : {H : Type 0} (d : DeskNow V) (x : Cell) (j : Kind) (eb : Option Block) (ep : Option Place) (b : Option Block) (p : Option Place)
      (weak : Bool) (e : DeskNow V) (block : H → Option Block) (place : H → Option Place) (k l : Compared H) → k ≡ l
      → Compares d x j eb ep b p (has_swapped k) (block (came_out k)) (place (came_out k)) weak e
      → bag_of e ≡ bag_compared (has_swapped k) j b p (block (came_out k)) (place (came_out k)) (bag_of d)
      → e.held ≡ d.held + cond (has_swapped k) 0 1 → Says d x j eb ep b p weak e block place l
  says_by d x j eb ep b p weak e block place k l is compared bag held =
      subst (λ (m : Compared _). Says d x j eb ep b p weak e block place m) is (record { compared = compared; bag = bag; held = held })
