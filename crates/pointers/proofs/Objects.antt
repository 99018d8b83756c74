-- Objects by what is known of their handles.
use Rattle.std.proofs.Common.{◌≡◌, ℕ, suc, Bool, true, false, List, [], ◌∷◌, ◌++◌, slice_index}
use Rattle.std.proofs.Common.{Some, None, Option, sym, refl, ap, ◌∙◌, subst}
use Rattle.pointers.proofs.Prelude.{AddsEvent, AreOfOne, Block, DeskNow, Entry, entry, Event, fields_in}
use Rattle.pointers.proofs.Prelude.{GoesOn, Held, IsField, IsLegal, Known, known_now, leads, Make, object_in}
use Rattle.pointers.proofs.Prelude.{opening_of, Place, pointed, Shape, Shared}
use Rattle.control_word.proofs.lists.Tallies.{put_same}
use Rattle.control_word.specs.Events.{new_object, origin}
use Rattle.control_word.specs.State.{Object}
use Rattle.control_block.specs.declared.handles.Held.TheVariants as held
use Rattle.shared_handle.specs.Calls as calls
use Rattle.pointers.proofs.Fields.{some_field}
use Rattle.pointers.specs.Objects.{CameBy, Makes, MakesNull}

module _ {V : Type 0} where
  -- the object in a block that was made by the newest event
  made_here : (k : Shape) (d : ℕ) (h : List (Entry V)) (b : Block) (enabled null : Bool) (fields : List ℕ) (x : V)
      → let s = leads (opening_of k) (entry d (Make b enabled null fields x) ∷ h) in s.object (s.latest b.0)
      ≡ new_object (leads (opening_of k) h).owners b.0 enabled null fields
  made_here k d h b enabled null fields x =
      let s = leads (opening_of k) h in
      put_same s.object (suc s.made) (new_object s.owners b.0 enabled null fields)
      ((leads (opening_of k) (entry d (Make b enabled null fields x) ∷ h)).latest b.0)
      (put_same s.latest b.0 (suc s.made) b.0 refl)

  fields_made : (o d e : DeskNow V) (b : Block) (enabled null : Bool) (fields : List ℕ) (x : V) → GoesOn o e
      → AddsEvent d (Make b enabled null fields x) e → (object_in (record o { seen = e.seen }) b.0).fields ≡ fields
  fields_made o d e b enabled null fields x goes is =
      ap (λ (l : List (Entry V)). (object_in (record o { seen = l }) b.0).fields) is.seen
      ∙ ap (λ (y : Object). y.fields) (made_here o.shape d.name (is.between ++ d.seen) b enabled null fields x)

  -- a handle that came by a desk's newest event
  came_by : (o d e : DeskNow V) (h : Held) (x : Event V) → GoesOn o e → AddsEvent d x e → CameBy o x (known_now h e)
  came_by o d e h x goes is = (
    is.between ++ d.seen,
    is.seen ∙ ap (λ (n : ℕ). entry n x ∷ (is.between ++ d.seen)) (sym is.same.2 ∙ goes.same.2),
    record { same = (refl, refl, refl); later = goes.later; seen = goes.seen },
    subst (λ (k : Shape). IsLegal (opening_of k) e.seen) (sym is.same.1 ∙ goes.same.1) is.legal,
  )

  pub makes : (o d e : DeskNow V) (h : Shared) (c : Known V) (enabled : Bool) (fields : List ℕ) (x : V) → GoesOn o e
      → calls.Makes d enabled false fields x h.block h.place e → c ≡ known_now (held.Owner h) e
      → Makes o enabled fields x c
  makes o d e h c enabled fields x goes is now =
      subst (Makes o enabled fields x) (sym now) (go h.block h.place is)
    where
      go : (b : Option Block) (p : Option Place) → calls.Makes d enabled false fields x b p e
          → (fields_in (record o { seen = e.seen }) b ≡ fields)
          × ((c : Block) × (b ≡ Some c) × (p ≡ origin c.0 false)
          × CameBy o (Make c enabled false fields x) (known_now (held.Owner h) e))
      go None p made = absurd made
      go (Some b) p made =
          (fields_made o d e b enabled false fields x goes made.1, (b, refl, made.0, came_by o d e (held.Owner h) _ goes made.1))

  -- the first field of what was made, by any owner that points where the first one does
  pub first_field : (o : DeskNow V) (enabled : Bool) (made : List ℕ) (x : V) (p q : Known V) (n : ℕ)
      → Makes o enabled made x p → AreOfOne o p q → pointed q ≡ pointed p → IsField o q n
      → n ≡ slice_index made 0
  first_field o enabled made x p q n makes one place is =
      let field : is.0.field ≡ 0 = some_field is.0 _ (sym is.1 ∙ (place ∙ makes.1.2)) in
      is.3 ∙ (λ i. slice_index ((one.fields ∙ makes.0) i) (field i))

  pub makes_null : (o d e : DeskNow V) (h : Shared) (c : Known V) (x : V) → GoesOn o e → calls.Makes d false true (0 ∷ 0 ∷ 0 ∷ 0 ∷ []) x h.block h.place e
      → c ≡ known_now (held.Owner h) e → MakesNull o x c
  makes_null o d e h c x goes is now = subst (MakesNull o x) (sym now) (go h.block h.place is)
    where
      go : (b : Option Block) (p : Option Place) → calls.Makes d false true (0 ∷ 0 ∷ 0 ∷ 0 ∷ []) x b p e
          → ((a : Block) × (b ≡ Some a)
          × CameBy o (Make a false true (0 ∷ 0 ∷ 0 ∷ 0 ∷ []) x) (known_now (held.Owner h) e))
          × (p ≡ None)
      go None p made = absurd made
      go (Some b) p made = ((b, refl, came_by o d e (held.Owner h) _ goes made.1), made.0)
