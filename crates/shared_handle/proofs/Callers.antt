-- What callers cite: which handles a desk has as they come and leave, and what ends in its hands.
use Rattle.std.proofs.Common.{◌≡◌, Bool, true, false, List, [], ◌∷◌, ◌++◌, Some, None, Option, sym}
use Rattle.std.proofs.Common.{refl, ap, ◌∙◌, subst, inl, inr}
use Rattle.shared_handle.proofs.Prelude.{bag_of, Block, cond-false, cond-true, DeskNow, Ending}
use Rattle.shared_handle.proofs.Prelude.{empty, EndsInHand, handle, HoldsHandle, IsOfShape}
use Rattle.shared_handle.proofs.Prelude.{KeepsEndings, kind_of_member, NumberedHandle, Place, Shape}
use Rattle.control_word.proofs.lists.Tallies.{handle_self, same_handle_true}
use Rattle.control_word.specs.Handles.{same_handle}
use Rattle.control_word.specs.State.{Has, without}
use Rattle.control_word.specs.declared.model.handle.Kind.{Kind}
use Rattle.control_block.specs.Desks.{Keeps, StaysEnding}
use Rattle.control_block.specs.Parting.{AreIn}
use Rattle.control_block.specs.CellCalls.{with_handle, without_handle}

-- a handle that came last leaves
pub first_out : (k : Kind) (b : Option Block) (p : Option Place) (l : List NumberedHandle) → without_handle k b p (with_handle k b p l) ≡ l
first_out k None p l = refl
first_out k (Some b) p l = let h = handle k (Some b.0) p in cond-true (same_handle h h) l (h ∷ without same_handle h l) (handle_self h)

-- equal ones are not told apart
below : (h f : NumberedHandle) (l : List NumberedHandle) (b : Bool) → same_handle h f ≡ b → without same_handle h (f ∷ h ∷ l) ≡ f ∷ l
below h f l true e = cond-true (same_handle h f) (h ∷ l) (f ∷ without same_handle h (h ∷ l)) e ∙ ap (λ (x : NumberedHandle). x ∷ l) (same_handle_true h f e)
below h f l false e =
    cond-false (same_handle h f) (h ∷ l) (f ∷ without same_handle h (h ∷ l)) e
    ∙ ap (λ (m : List NumberedHandle). f ∷ m) (cond-true (same_handle h h) l (h ∷ without same_handle h l) (handle_self h))

-- one that came before the last leaves
pub under_out : (k : Kind) (b : Option Block) (p : Option Place) (j : Kind) (c : Option Block) (q : Option Place) (l : List NumberedHandle)
    → without_handle k b p (with_handle j c q (with_handle k b p l)) ≡ with_handle j c q l
under_out k None p j c q l = refl
under_out k (Some b) p j None q l = first_out k (Some b) p l
under_out k (Some b) p j (Some c) q l = below (handle k (Some b.0) p) (handle j (Some c.0) q) l _ refl

-- what came last of a list of one is that one
pub last_of_one : {A : Type 0} (l : List A) (x y : A) → y ∷ [] ≡ l ++ x ∷ [] → x ≡ y
last_of_one [] x y e = cc e
last_of_one (a ∷ []) x y e = absurd (cc e)
last_of_one (a ∷ (b ∷ l)) x y e = absurd (cc e)

module _ {V : Type 0} where
  -- the handle that a bag lists is the desk's
  pub held_by : (d : DeskNow V) (k : Kind) (b : Option Block) (p : Option Place) (l : List NumberedHandle) → bag_of d ≡ l
      → (x : Block) × (b ≡ Some x) × Has (handle k (Some x.0) p) l → HoldsHandle d k b p
  held_by d k (Some y) p l same (x, is, has) =
      let e : y ≡ x = cc is in
      subst (λ (m : List NumberedHandle). Has (handle k (Some y.0) p) m) (sym same) (subst (λ (z : Block). Has (handle k (Some z.0) p) l) (sym e) has)
  held_by d k None p l same (x, is, has) = absurd (cc is)

  -- so is the one that came last, and the one before it
  pub first_held : (d : DeskNow V) (k : Kind) (b : Option Block) (p : Option Place) (l : List NumberedHandle) → bag_of d ≡ with_handle k b p l
      → (x : Block) × (b ≡ Some x) → HoldsHandle d k b p
  first_held d k (Some y) p l same real = subst (λ (m : List NumberedHandle). Has (handle k (Some y.0) p) m) (sym same) (inl refl)
  first_held d k None p l same (x, is) = absurd (cc is)

  pub under_held : (d : DeskNow V) (j : Kind) (c : Option Block) (q : Option Place) (k : Kind) (b : Option Block) (p : Option Place) (l : List NumberedHandle)
      → bag_of d ≡ with_handle j c q (with_handle k b p l) → (x : Block) × (b ≡ Some x) → HoldsHandle d k b p
  under_held d j (Some z) q k (Some y) p l same real = subst (λ (m : List NumberedHandle). Has (handle k (Some y.0) p) m) (sym same) (inr (inl refl))
  under_held d j None q k b p l same real = first_held d k b p l same real
  under_held d j c q k None p l same (x, is) = absurd (cc is)

  -- and so is what it had before another desk was joined
  pub held_still : (d other e : DeskNow V) (k : Kind) (b : Option Block) (p : Option Place) (x : Block) → b ≡ Some x → HoldsHandle d k b p
      → ((hs ks : List NumberedHandle) → AreIn hs (bag_of d) → AreIn ks (bag_of other) → AreIn (hs ++ ks) (bag_of e))
      → HoldsHandle e k b p
  held_still d other e k (Some b) p x is had all = let two = all (handle k (Some b.0) p ∷ []) [] (had, tt) tt in two.0
  held_still d other e k None p x is had all = absurd (cc is)

  -- what ends in the desk's hands ends there still
  pub ends_still : (d e : DeskNow V) (x : Ending V) → StaysEnding d e x.block.0 x.value → EndsInHand d x → EndsInHand e x
  ends_still d e x s h =
      record {
        ends = s.ends;
        shape = subst (λ (z : Shape). IsOfShape z x) (sym s.shape) h.shape;
        few = h.few;
        cleared = λ m low. s.members m ∙ (h.cleared m low ∙ ap (λ (z : Shape). empty (kind_of_member z.owners m)) (sym s.shape));
      }

  pub ends_kept : (d e : DeskNow V) (x : Ending V) → KeepsEndings d e → EndsInHand d x → EndsInHand e x
  ends_kept d e x keeps h = ends_still d e x (keeps x.block.0 x.value h.ends) h

  -- one call after another
  pub kept_twice : (d e f : DeskNow V) → Keeps d e → Keeps e f → Keeps d f
  kept_twice d e f a b =
      record {
        domain = b.domain ∙ a.domain;
        shape = b.shape ∙ a.shape;
        name = b.name ∙ a.name;
        allowance = b.allowance ∙ a.allowance;
        stock = b.stock ∙ a.stock;
        endings = λ c x ends.
            let s = a.endings c x ends in
            let t = b.endings c x s.ends in
            record { ends = t.ends; shape = t.shape ∙ s.shape; members = λ m. t.members m ∙ s.members m };
        count = b.count ∙ a.count;
      }
