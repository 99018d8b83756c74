-- What a desk's own handles tell of what it finds.
use Rattle.std.proofs.Common.{◌≡◌, ◌<◌, Bool, true, not, ◌&&◌, ◌⊎◌, ◌++◌, nat_lt, nat_le, Some, None}
use Rattle.std.proofs.Common.{Option, sym, refl, ap, ◌∙◌, subst, ⊎_elim, arith, le-leb, lt-ltb, ne_eqb}
use Rattle.shared_handle.proofs.Prelude
use Prelude.{AddsEvent, Block, cond-true, DeskNow, handle, HasOwner, HoldsHandle, InShape, IsLegal}
use Prelude.{IsPointer, latest_of, leads, on_latest, opening_of, Owner, Place, Standing, Weak}
use Rattle.control_word.proofs.history.Allowances.{opened}
use Rattle.control_word.proofs.history.Formation.{are_formed}
use Rattle.control_word.proofs.history.Given.{legal_seen, names_an_object}
use Rattle.control_word.proofs.history.Kept.{has_same, same_kept}
use Rattle.control_word.proofs.history.Moving.{owner_counted}
use Rattle.control_word.specs.Events.{place_at}
use Rattle.control_word.specs.Limits.{most_blocks}
use Rattle.control_word.specs.State.{count}
use Rattle.control_word.specs.declared.model.event.Event.TheVariants.{Lock}
use Rattle.control_block.proofs.Bags.{shown_held}
use Rattle.control_block.specs.Handles.{IsProper}
use Rattle.shared_handle.specs.Calls.{is_field, IsOfThis, MayGive, pointed}

-- a field of a block is taken as it is
as_it_is : (q : Option Place) → IsPointer q → pointed q ≡ q
as_it_is None points = refl
as_it_is (Some q) points =
    let low = points.0 in
    let block : nat_lt 0 q.block.0 ≡ true = lt-ltb 0 q.block.0 (omega arith) in
    let field : nat_lt q.field 4 ≡ true = lt-ltb q.field 4 points.2 in
    let most : nat_le q.block.0 most_blocks ≡ true = le-leb q.block.0 most_blocks points.1 in
    cond-true (is_field q) (Some q) None (λ i. block i && most i && field i)

module _ {V : Type 0} where
  -- a lock of an object that the desk has an owner of finds one
  pub owner_found : (d e : DeskNow V) (b : Block) (q : Option Place) (got : Bool) → AddsEvent d (Lock (on_latest d Weak q b.0) got) e
      → HasOwner d (Some b) → got ≡ true
  owner_found d e b q got adds (p, has) =
      let z = opening_of d.shape in
      let legal = subst (IsLegal z) adds.seen adds.legal in
      let s = leads z (adds.between ++ d.seen) in
      let o = latest_of d b.0 in
      let mine = shown_held z d.seen d.name Owner p b.0 (legal_seen z adds.between d.seen legal.0) has in
      let there = has_same (leads z d.seen) s d.name (handle Owner (Some o) p) (same_kept z adds.between d.seen d.name adds.quiet) mine.0 in
      let many : 0 < count s o = owner_counted s d.name o p there in
      legal.1.asks.1 ∙ ap not (ne_eqb (count s o) 0 (λ e. omega arith))

  -- a handle that a desk has points at one of a block's fields, or nowhere
  pub points_well : (d : DeskNow V) (b : Option Block) (p : Option Place) → Standing d → IsProper Owner b p → HoldsHandle d Owner b p → IsPointer p
  points_well d None p stands proper has = proper.0
  points_well d (Some b) p stands proper has =
      let z = opening_of d.shape in
      let mine = shown_held z d.seen d.name Owner p b.0 stands.legal has in
      ((are_formed z d.seen stands.legal).0 d.name (handle Owner (Some (latest_of d b.0)) p) mine.0).0

  -- it is in a block, if it owns something
  this_points : (d : DeskNow V) (b : Block) (p : Option Place) → Standing d → HoldsHandle d Owner (Some b) p → IsPointer (place_at b.0)
  this_points d b p stands has =
      let z = opening_of d.shape in
      let mine = shown_held z d.seen d.name Owner p b.0 stands.legal has in
      let named = names_an_object z d.seen stands.legal d.name Owner (handle Owner (Some (latest_of d b.0)) p) (mine.0, refl, refl) in
      let inside = subst (InShape z) mine.1 named.3 in let low = inside.0 in let within = inside.1 in
      let most = (opened z d.seen stands.legal).limits.0 in (omega arith, omega (arith, within, most), omega arith)

  this_as_it_is : (d : DeskNow V) (b : Option Block) (p q : Option Place) → Standing d → HoldsHandle d Owner b p → IsOfThis b q → pointed q ≡ q
  this_as_it_is d None p q stands has this = absurd this
  this_as_it_is d (Some b) p q stands has this = as_it_is q (subst IsPointer (sym this) (this_points d b p stands has))

  -- so is each place that an owner may give
  pub taken_as_given : (d : DeskNow V) (b : Option Block) (p q : Option Place) → Standing d → IsProper Owner b p → HoldsHandle d Owner b p
      → MayGive b p q → pointed q ≡ q
  taken_as_given d b p q stands proper has may =
      ⊎_elim (λ (own : q ≡ p). as_it_is q (subst IsPointer (sym own) (points_well d b p stands proper has)))
      (λ (s : IsOfThis b q ⊎ IsPointer q). ⊎_elim (λ (this : IsOfThis b q). this_as_it_is d b p q stands has this)
      (λ (points : IsPointer q). as_it_is q points) s) may
