-- A member of an object that the desk has an owner of is open to it.
use Rattle.std.proofs.Common.{◌≡◌, ℕ, ◌+◌, ◌<◌, Option, None, Some, subst, sym}
use Rattle.control_word.specs.declared.model.handle.Kind.TheVariants.{Owner}
use Rattle.control_word.specs.declared.place.Block.{Block}
use Rattle.control_word.specs.declared.place.Place.{Place}
use Rattle.control_block.specs.Desks.{DeskNow, HasHandle}
use Rattle.control_block.specs.CellCalls.{HoldsHandle}
use Rattle.shared_handle.specs.Locks.{HasOwner}
use Rattle.atomic_cells.specs.Sites.{IsOpenSite, IsOpenWeakly}
use Rattle.atomic_cells.specs.declared.sites.SharedMember.{SharedMember}
use Rattle.atomic_cells.specs.declared.sites.SharedSite.{SharedSite}
use Rattle.atomic_cells.specs.declared.sites.SharedSite.TheVariants as shared
use Rattle.atomic_cells.specs.declared.sites.WeakSite.{WeakSite}
use Rattle.atomic_cells.specs.declared.sites.WeakSite.TheVariants as weak

module _ {V : Type 0} where
  owned : (d : DeskNow V) (b : Option Block) (p : Option Place) (c : Block) → b ≡ Some c → HoldsHandle d Owner b p → HasOwner d (Some c)
  owned d None p c is had = absurd (cc is)
  owned d (Some a) p c is had = (p, subst (λ (x : Block). HasHandle d Owner p x.0) (cc is) had)

  pub member_open : (d : DeskNow V) (b : Option Block) (p : Option Place) (c : Block) (m : SharedMember) (s : SharedSite)
      → b ≡ Some c → s ≡ shared.Of c m → HoldsHandle d Owner b p → IsOpenSite d s
  member_open d b p c m s is site had = subst (IsOpenSite d) (sym site) (owned d b p c is had)

  pub up_open : (d : DeskNow V) (b : Option Block) (p : Option Place) (c : Block) (s : WeakSite)
      → b ≡ Some c → s ≡ weak.Up c → HoldsHandle d Owner b p → IsOpenWeakly d s
  up_open d b p c s is site had = subst (IsOpenWeakly d) (sym site) (owned d b p c is had)

  -- so is a further one that the shape has
  pub more_open : (d : DeskNow V) (b : Option Block) (p : Option Place) (c : Block) (n : ℕ) (s : SharedSite)
      → b ≡ Some c → s ≡ shared.More c n → n + 2 < d.shape.owners → HoldsHandle d Owner b p → IsOpenSite d s
  more_open d b p c n s is site low had = subst (IsOpenSite d) (sym site) (owned d b p c is had, low)

  pub more_weak_open : (d : DeskNow V) (b : Option Block) (p : Option Place) (c : Block) (n : ℕ) (s : WeakSite)
      → b ≡ Some c → s ≡ weak.More c n → n + 1 < d.shape.weaks → HoldsHandle d Owner b p → IsOpenWeakly d s
  more_weak_open d b p c n s is site low had = subst (IsOpenWeakly d) (sym site) (owned d b p c is had, low)
