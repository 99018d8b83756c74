-- What a call that brings a handle says, for a desk below its allowance.
use Rattle.std.proofs.Common.{◌≡◌, ◌⊎◌, List, [], Some, None, Option, Err, sym, refl, ap, subst, inl, inr}
use Rattle.script_runner.proofs.TablePrelude.{allowance_of, Block, DeskNow, held_of, IsBelow, NumberedHandle, Place, stock_of, Weak}
use Rattle.script_runner.proofs.TablePrelude.{with_handle, with_held}
use Rattle.control_word.specs.declared.model.handle.Kind.TheVariants as kind
use Rattle.control_word.specs.declared.refusal.Refusal.{Refusal}
use Rattle.control_word.specs.declared.refusal.Refusal.TheVariants as refusal
use Rattle.control_block.specs.declared.handles.Weak as weak_handle
use Rattle.shared_handle.specs.Calls.{weak_place}
use Rattle.shared_handle.specs.Endings.{MayGiveThis}
use Rattle.shared_handle.specs.Locks.{IsUpgrade}

module _ {V : Type 0} where
  -- an object gives a pointer to itself to a desk below its allowance
  pub this_below : (d : DeskNow V) (b : Option Block) (p : Option Place) → MayGiveThis d b p → IsBelow d
  this_below d None p may = absurd may
  this_below d (Some c) p may = may.0

  -- where no owner came of a weak handle, none remained
  pub bad_weak : (d e : DeskNow V) (b : Option Block) (p : Option Place) (why : Refusal) → IsBelow d → IsUpgrade d b p (Err why) e
      → IsUpgrade d b p (Err refusal.BadWeak) e
  bad_weak d e None p refusal.Limit below is = absurd (below is.0)
  bad_weak d e None p refusal.BadWeak below is = is
  bad_weak d e None p why below is = absurd is
  bad_weak d e (Some c) p refusal.Limit below is = absurd (below is.0)
  bad_weak d e (Some c) p refusal.BadWeak below is = is
  bad_weak d e (Some c) p why below is = absurd is

  -- where no object was made, there is no vacant block
  pub only_full : (d : DeskNow V) (why : Refusal) → IsBelow d
      → ((why ≡ refusal.Limit) × (held_of d ≡ allowance_of d)) ⊎ ((why ≡ refusal.Full) × (held_of d ≡ allowance_of d → ⊥) × (stock_of d ≡ []))
      → stock_of d ≡ []
  only_full d why below (inl x) = absurd (below x.1)
  only_full d why below (inr x) = x.2

-- a weak copy in a bag
pub weakly : (l : List NumberedHandle) (h : weak_handle.Weak) (c : Option Block) (p : Option Place) → h.block ≡ c → h.place ≡ weak_place c p
    → with_handle kind.Weak c p l ≡ with_held (Weak h) l
weakly l h c p e f =
    subst (λ (b : Option Block). with_handle kind.Weak c p l ≡ with_handle kind.Weak b h.place l) (sym e) (go c h.place f)
  where
    go : (c : Option Block) (q : Option Place) → q ≡ weak_place c p → with_handle kind.Weak c p l ≡ with_handle kind.Weak c q l
    go None q f = refl
    go (Some b) q f = ap (λ (x : Option Place). with_handle kind.Weak (Some b) x l) (sym f)
