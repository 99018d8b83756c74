-- A cell that handles in a bag keep open stays the cell that it was.
use Rattle.std.proofs.Common.{◌≡◌, ◌+◌, ◌<◌, List, [], ◌∷◌, Some, sym, refl, ap, ◌∙◌, subst}
use Rattle.scene_structures.proofs.Prelude.{bag_of, DeskNow, handle, Has, HasHands, IsOpenBy}
use Rattle.scene_structures.proofs.Prelude.{IsOpenSite, KeepsHeld, KeepsLatest, KeepsThese, Member}
use Rattle.scene_structures.proofs.Prelude.{NumberedHandle, Owner, Shape, Shared, shared_cell}
use Rattle.scene_structures.proofs.Prelude.{SharedSite, stacked}
use Rattle.atomic_cells.specs.Sites.{number_of_member}
use Rattle.atomic_cells.specs.declared.sites.SharedSite.TheVariants.{Free, More, Of}
use Rattle.scene_structures.proofs.Hands.{under}

-- what lies below is in the bag
pub below_all : (hs : List Shared) (base : List NumberedHandle) (x : NumberedHandle) → Has x base → Has x (stacked hs base)
below_all [] base x has = has
below_all (h ∷ hs) base x has = under h.block h.place x (stacked hs base) (below_all hs base x has)

module _ {V : Type 0} where
  pub in_bag : (d : DeskNow V) (base : List NumberedHandle) (hs : List Shared) (x : NumberedHandle) → HasHands base hs d → Has x base → Has x (bag_of d)
  in_bag d base hs x has in' = subst (Has x) (sym has.bag) (below_all hs base x in')

  pub open_now : (d : DeskNow V) (z : Shape) (base : List NumberedHandle) (hs : List Shared) (s : SharedSite) → d.shape ≡ z
      → HasHands base hs d → IsOpenBy base z s
      → IsOpenSite d s
  open_now d z base hs (Free n) shape has is = subst (λ (k : Shape). n < k.shared_cells) (sym shape) is
  open_now d z base hs (Of b m) shape has is = (is.0, in_bag d base hs (handle Owner (Some b.0) is.0) has is.1)
  open_now d z base hs (More b n) shape has is = (
    (is.0.0, in_bag d base hs (handle Owner (Some b.0) is.0.0) has is.0.1),
    subst (λ (k : Shape). n + 2 < k.owners) (sym shape) is.1,
  )

  -- over a call, by what was held before it
  pub these_over : (d e : DeskNow V) (base : List NumberedHandle) (hs : List Shared) → KeepsLatest d e → HasHands base hs d → KeepsThese base d e
  these_over d e base hs keeps has k p b in' = keeps k p b (in_bag d base hs (handle k (Some b) p) has in')

  -- and by what is held after it
  pub these_after : (d e : DeskNow V) (base : List NumberedHandle) (hs : List Shared) → KeepsHeld d e → HasHands base hs e → KeepsThese base d e
  these_after d e base hs keeps has k p b in' = keeps k p b (in_bag e base hs (handle k (Some b) p) has in')

  pub these_both : (d e f : DeskNow V) (base : List NumberedHandle) → KeepsThese base d e → KeepsThese base e f → KeepsThese base d f
  these_both d e f base one two k p b in' = two k p b in' ∙ one k p b in'

  pub cell_these : (d e : DeskNow V) (z : Shape) (base : List NumberedHandle) (s : SharedSite) → KeepsThese base d e → IsOpenBy base z s
      → shared_cell e s ≡ shared_cell d s
  cell_these d e z base (Free n) keeps is = refl
  cell_these d e z base (Of b m) keeps is = ap (λ o. Member o (number_of_member m)) (keeps Owner is.0 b.0 is.1)
  cell_these d e z base (More b n) keeps is = ap (λ o. Member o (3 + n)) (keeps Owner is.0.0 b.0 is.0.1)

  pub open_same : (d e : DeskNow V) (base : List NumberedHandle) (s : SharedSite) → e.shape ≡ d.shape → IsOpenBy base d.shape s → IsOpenBy base e.shape s
  open_same d e base s shape is = subst (λ (k : Shape). IsOpenBy base k s) (sym shape) is
