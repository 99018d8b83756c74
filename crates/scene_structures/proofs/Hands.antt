-- Handles that lie on a desk's bag.
use Rattle.std.proofs.Common.{◌≡◌, ℕ, ◌+◌, ◌<◌, ◌≤◌, Bool, true, false, List, [], ◌∷◌, length}
use Rattle.std.proofs.Common.{Some, None, Option, sym, refl, ap, ◌∙◌, subst, inl, inr, arith}
use Rattle.scene_structures.proofs.Prelude
use Prelude.{bag_of, Block, cond-false, cond-true, DeskNow, first_out, handle, handle_self, Has}
use Prelude.{HasHands, HoldsHandle, IsWithin, Lists, NumberedHandle, Owner, Place, same_handle}
use Prelude.{same_handle_true, Shared, stacked, with_handle, without, without_handle}

below : (h f : NumberedHandle) (l : List NumberedHandle) (b : Bool) → same_handle h f ≡ b → without same_handle h (f ∷ h ∷ l) ≡ f ∷ l
below h f l true e = cond-true (same_handle h f) (h ∷ l) (f ∷ without same_handle h (h ∷ l)) e ∙ ap (λ (x : NumberedHandle). x ∷ l) (same_handle_true h f e)
below h f l false e =
    cond-false (same_handle h f) (h ∷ l) (f ∷ without same_handle h (h ∷ l)) e
    ∙ ap (λ (m : List NumberedHandle). f ∷ m) (cond-true (same_handle h h) l (h ∷ without same_handle h l) (handle_self h))

second_out : (b : Option Block) (p : Option Place) (c : Option Block) (q : Option Place) (l : List NumberedHandle)
    → without_handle Owner b p (with_handle Owner c q (with_handle Owner b p l)) ≡ with_handle Owner c q l
second_out None p c q l = refl
second_out (Some b) p None q l = first_out Owner (Some b) p l
second_out (Some b) p (Some c) q l = below (handle Owner (Some b.0) p) (handle Owner (Some c.0) q) l _ refl

pub most : (b : Option Block) (p : Option Place) (l : List NumberedHandle) → length (with_handle Owner b p l) ≤ length l + 1
most None p l = omega arith
most (Some b) p l = omega arith

stacked_most : (hs : List Shared) (base : List NumberedHandle) → length (stacked hs base) ≤ length base + length hs
stacked_most [] base = omega arith
stacked_most (h ∷ hs) base = let a = stacked_most hs base in let b = most h.block h.place (stacked hs base) in omega arith

pub under : (b : Option Block) (p : Option Place) (x : NumberedHandle) (l : List NumberedHandle) → Has x l → Has x (with_handle Owner b p l)
under None p x l has = has
under (Some b) p x l has = inr has

-- an owner with an object is listed, and an empty one leaves room
abbrev Listed : Option Block → Option Place → List NumberedHandle → ℕ → Type 0
Listed None p l n = length l < n
Listed (Some b) p l n = Has (handle Owner (Some b.0) p) l

listed : (b : Option Block) (p : Option Place) (l : List NumberedHandle) (n : ℕ) → length l < n → Listed b p (with_handle Owner b p l) n
listed None p l n lt = lt
listed (Some b) p l n lt = inl refl

listed_second : (b c : Option Block) (p q : Option Place) (l : List NumberedHandle) (n : ℕ) → length l + 1 < n
    → Listed b p (with_handle Owner c q (with_handle Owner b p l)) n
listed_second None c p q l n lt = let t = most c q l in omega arith
listed_second (Some b) c p q l n lt = under c q _ (handle Owner (Some b.0) p ∷ l) (inl refl)

pub lists_first : (b : Option Block) (p : Option Place) (l : List NumberedHandle) → Lists b p (with_handle Owner b p l)
lists_first None p l = tt
lists_first (Some b) p l = inl refl

pub lists_under : (b c : Option Block) (p q : Option Place) (l : List NumberedHandle) → Lists b p l → Lists b p (with_handle Owner c q l)
lists_under None c p q l is = tt
lists_under (Some b) c p q l is = under c q _ l is

module _ {V : Type 0} where
  holds_listed : (d : DeskNow V) (b : Option Block) (p : Option Place) (l : List NumberedHandle) → bag_of d ≡ l → Listed b p l d.held → HoldsHandle d Owner b p
  holds_listed d None p l bag is = subst (λ m. length m < d.held) (sym bag) is
  holds_listed d (Some b) p l bag is = subst (Has (handle Owner (Some b.0) p)) (sym bag) is

  pub holds_first : (d : DeskNow V) (base : List NumberedHandle) (h : Shared) (hs : List Shared) → HasHands base (h ∷ hs) d
      → HoldsHandle d Owner h.block h.place
  holds_first d base h hs has =
      let a = stacked_most hs base in let b = has.few in
      holds_listed d h.block h.place _ has.bag (listed h.block h.place (stacked hs base) d.held (omega arith))

  pub holds_second : (d : DeskNow V) (base : List NumberedHandle) (f h : Shared) (hs : List Shared) → HasHands base (f ∷ h ∷ hs) d
      → HoldsHandle d Owner h.block h.place
  holds_second d base f h hs has =
      let a = stacked_most hs base in let b = has.few in
      holds_listed d h.block h.place _ has.bag (listed_second h.block f.block h.place f.place (stacked hs base) d.held (omega arith))

  -- of three, the last, which has an object
  pub holds_third : (d : DeskNow V) (base : List NumberedHandle) (e f h : Shared) → IsWithin h.block h.place → HasHands base (e ∷ f ∷ h ∷ []) d
      → HoldsHandle d Owner h.block h.place
  holds_third d base e f h node has = go h.block h.place node refl refl
    where
      go : (b : Option Block) (p : Option Place) → IsWithin b p → h.block ≡ b → h.place ≡ p → HoldsHandle d Owner b p
      go None p (q, place, block) e1 e2 = absurd (cc block)
      go (Some b) p node e1 e2 =
          subst (Has (handle Owner (Some b.0) p)) (sym has.bag) (under e.block e.place _
          (with_handle Owner f.block f.place (with_handle Owner h.block h.place base))
          (under f.block f.place _ (with_handle Owner h.block h.place base)
          (subst (λ (x : Option Block). Has (handle Owner (Some b.0) p) (with_handle Owner x h.place base)) (sym e1)
          (subst (λ (y : Option Place). Has (handle Owner (Some b.0) p) (handle Owner (Some b.0) y ∷ base)) (sym e2) (inl refl)))))

  -- a copy
  pub hands_copied : (d e : DeskNow V) (base : List NumberedHandle) (c h : Shared) (hs : List Shared) → HasHands base hs d
      → c.block ≡ h.block → c.place ≡ h.place
      → bag_of e ≡ with_handle Owner h.block h.place (bag_of d) → e.held ≡ d.held + 1 → HasHands base (c ∷ hs) e
  hands_copied d e base c h hs has block place bag held =
      let a = has.few in
      record {
        bag = bag ∙ (ap (with_handle Owner h.block h.place) has.bag ∙ (λ i. with_handle Owner (sym block i) (sym place i) (stacked hs base)));
        few = omega arith;
      }

  -- the second went, and another came
  pub hands_swapped : (d e : DeskNow V) (base : List NumberedHandle) (f h g : Shared) → HasHands base (f ∷ h ∷ []) d
      → bag_of e ≡ with_handle Owner g.block g.place (without_handle Owner h.block h.place (bag_of d)) → e.held ≡ d.held
      → HasHands base (g ∷ f ∷ []) e
  hands_swapped d e base f h g has bag held =
      let a = has.few in
      record {
        bag = bag ∙ ap (with_handle Owner g.block g.place) (ap (without_handle Owner h.block h.place) has.bag
            ∙ second_out h.block h.place f.block f.place base);
        few = omega arith;
      }

  pub hands_got : (d e : DeskNow V) (base : List NumberedHandle) (h : Shared) (hs : List Shared) → HasHands base hs d
      → bag_of e ≡ with_handle Owner h.block h.place (bag_of d) → e.held ≡ d.held + 1 → HasHands base (h ∷ hs) e
  hands_got d e base h hs has bag held = let a = has.few in record { bag = bag ∙ ap (with_handle Owner h.block h.place) has.bag; few = omega arith }

  pub hands_first : (d e : DeskNow V) (base : List NumberedHandle) (h : Shared) (hs : List Shared) → HasHands base (h ∷ hs) d
      → bag_of e ≡ without_handle Owner h.block h.place (bag_of d) → e.held + 1 ≡ d.held → HasHands base hs e
  hands_first d e base h hs has bag held =
      let a = has.few in
      record { bag = bag ∙ (ap (without_handle Owner h.block h.place) has.bag ∙ first_out Owner h.block h.place (stacked hs base)); few = omega arith }

  pub hands_second : (d e : DeskNow V) (base : List NumberedHandle) (f h : Shared) (hs : List Shared) → HasHands base (f ∷ h ∷ hs) d
      → bag_of e ≡ without_handle Owner h.block h.place (bag_of d) → e.held + 1 ≡ d.held → HasHands base (f ∷ hs) e
  hands_second d e base f h hs has bag held =
      let a = has.few in
      record {
        bag = bag ∙ (ap (without_handle Owner h.block h.place) has.bag ∙ second_out h.block h.place f.block f.place (stacked hs base));
        few = omega arith;
      }

  -- and two of a bag
  pub first_lists : (d : DeskNow V) (base : List NumberedHandle) (a : Shared) (hs : List Shared) → HasHands base (a ∷ hs) d → Lists a.block a.place (bag_of d)
  first_lists d base a hs has = subst (Lists a.block a.place) (sym has.bag) (lists_first a.block a.place (stacked hs base))

  pub second_lists : (d : DeskNow V) (base : List NumberedHandle) (c a : Shared) (hs : List Shared) → HasHands base (c ∷ a ∷ hs) d
      → Lists a.block a.place (bag_of d)
  second_lists d base c a hs has =
      subst (Lists a.block a.place) (sym has.bag) (lists_under a.block c.block a.place c.place _ (lists_first a.block a.place (stacked hs base)))

  pub third_lists : (d : DeskNow V) (base : List NumberedHandle) (c f a : Shared) → HasHands base (c ∷ f ∷ a ∷ []) d → Lists a.block a.place (bag_of d)
  third_lists d base c f a has =
      subst (Lists a.block a.place) (sym has.bag) (lists_under a.block c.block a.place c.place _
      (lists_under a.block f.block a.place f.place _ (lists_first a.block a.place base)))

  -- the first went, and another came
  pub hands_given : (d e : DeskNow V) (base : List NumberedHandle) (f g : Shared) (hs : List Shared) → HasHands base (f ∷ hs) d
      → bag_of e ≡ with_handle Owner g.block g.place (without_handle Owner f.block f.place (bag_of d)) → e.held ≡ d.held → HasHands base (g ∷ hs) e
  hands_given d e base f g hs has bag held =
      let a = has.few in
      record {
        bag = bag ∙ ap (with_handle Owner g.block g.place) (ap (without_handle Owner f.block f.place) has.bag ∙ first_out Owner f.block f.place
            (stacked hs base));
        few = omega arith;
      }

  -- over a call by which none came and none went
  pub hands_kept : (d e : DeskNow V) (base : List NumberedHandle) (hs : List Shared) → HasHands base hs d → bag_of e ≡ bag_of d
      → e.held ≡ d.held → HasHands base hs e
  hands_kept d e base hs has bag held = let a = has.few in record { bag = bag ∙ has.bag; few = omega arith }
