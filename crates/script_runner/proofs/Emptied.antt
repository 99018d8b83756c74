-- An empty handle came: it is only counted.
use Rattle.std.proofs.Common.{◌≡◌, ◌+◌, List, ◌∷◌, Some, None, Option, sym, refl, ap, subst}
use Rattle.script_runner.proofs.TablePrelude.{bag_of, Bears, bears_kept, Block, DeskNow, DomainNow}
use Rattle.script_runner.proofs.TablePrelude.{FitsSlots, KeepsEndings, Owner, Pile, Shared, Slot, Weak}
use Rattle.script_runner.proofs.TablePrelude.{with_handle}
use Rattle.control_word.specs.declared.model.handle.Kind.TheVariants as kind
use Rattle.control_block.specs.declared.handles.Weak as weak_handle
use Rattle.shared_handle.specs.Calls.{counting}
use Rattle.script_runner.proofs.Filling.{fits_more}

module _ {V : Type 0} where
  keeps_endings : (d : DeskNow V) → KeepsEndings d (counting (d.held + 1) d)
  keeps_endings d b x ends = record { ends = record { phase = ends.phase; kept = ends.kept }; shape = refl; members = λ m. refl }

  pub bears_counted : (domain : DomainNow) (d e : DeskNow V) (p : Pile V) → Bears domain d p → e ≡ counting (d.held + 1) d → Bears domain e p
  bears_counted domain d e p w is =
      subst (λ (x : DeskNow V). Bears domain x p) (sym is) (bears_kept domain d (counting (d.held + 1) d) p w refl refl (keeps_endings d) refl)

  pub fits_empty : (d e : DeskNow V) (ss : List Slot) (h : Shared) → FitsSlots d ss → h.block ≡ None → e ≡ counting (d.held + 1) d
      → FitsSlots e (Some (Owner h) ∷ ss)
  fits_empty d e ss h fits none is =
      subst (λ (x : DeskNow V). FitsSlots x (Some (Owner h) ∷ ss)) (sym is)
      (fits_more d (counting (d.held + 1) d) ss (Owner h) fits (ap (λ (b : Option Block). with_handle kind.Owner b h.place (bag_of d)) (sym none)) refl)

  pub fits_empty_weak : (d e : DeskNow V) (ss : List Slot) (w : weak_handle.Weak) → FitsSlots d ss → w.block ≡ None → e ≡ counting (d.held + 1) d
      → FitsSlots e (Some (Weak w) ∷ ss)
  fits_empty_weak d e ss w fits none is =
      subst (λ (x : DeskNow V). FitsSlots x (Some (Weak w) ∷ ss)) (sym is)
      (fits_more d (counting (d.held + 1) d) ss (Weak w) fits (ap (λ (b : Option Block). with_handle kind.Weak b w.place (bag_of d)) (sym none)) refl)
