-- What the records of calls say of a desk's history: it goes on.
use Rattle.std.proofs.Common.{◌≡◌, ℕ, ◌+◌, ◌-◌, Bool, false, ◌⊎◌, List, Some, None, Ok, Err, Option}
use Rattle.std.proofs.Common.{Result, sym, refl, ap, subst, inl, inr}
use Rattle.pointers.proofs.Prelude
use Prelude.{allowance_of, BadWeak, Block, counting, DeskNow, Drops, Ending, Event, Goes, Gone}
use Prelude.{IsExpiry, IsRead, IsUpgrade, IsUseCount, IsVisit, Kind, Later, LeavesWeakly, Left}
use Prelude.{Limit, Null, NumberedHandle, Place, Refusal, Refused, Shared, Weak, with_handle}
use Rattle.control_block.specs.Own.{KeepsLatest}
use Rattle.shared_handle.specs.Calls.{Makes, SharesOwner, SharesWeakly, weak_place}
use Rattle.control_word.specs.declared.refusal.Refusal.TheVariants.{Outside}
use Rattle.shared_handle.specs.Endings.{IsLeft}
use Rattle.shared_handle.specs.Locks.{IsLockBy}
use Rattle.shared_handle.specs.declared.endings.Left.TheVariants.{Empty, Last, Others}
use Rattle.pointers.proofs.Later.{by_count, by_event, by_none, goes_by}
use Rattle.pointers.specs.Known.{IsAtAllowance}
use Rattle.pointers.specs.Objects.{FindsNoOwner, IsCounted}

-- a weak handle's place counts only with a block
pub weak_bag : (b : Option Block) (p : Option Place) (c : Option Block) (q : Option Place) (l : List NumberedHandle) → c ≡ b → q ≡ weak_place b p
    → with_handle Weak c q l ≡ with_handle Weak b p l
weak_bag None p c q l e f = ap (λ (x : Option Block). with_handle Weak x q l) e
weak_bag (Some b) p c q l e f = λ i. with_handle Weak (e i) (f i) l

module _ {V : Type 0} where
  counted : (d e : DeskNow V) (n : _) → e ≡ counting n d → Later d e
  counted d e n is = subst (Later d) (sym is) (by_count d n)

  same : (d e : DeskNow V) → e ≡ d → Later d e
  same d e is = subst (Later d) (sym is) (by_none d)

  pub by_share : (d : DeskNow V) (b : Option Block) (p q : Option Place) (e : DeskNow V) → SharesOwner d b p q e → Later d e
  by_share d None p q e is = counted d e (d.held + 1) is
  by_share d (Some b) p q e is = by_event d _ e is

  pub by_weak_share : (d : DeskNow V) (b : Option Block) (q : Option Place) (e : DeskNow V) → SharesWeakly d b q e → Later d e
  by_weak_share d None q e is = counted d e (d.held + 1) is
  by_weak_share d (Some b) q e is = by_event d _ e is

  pub by_weak_leave : (d : DeskNow V) (b : Option Block) (p : Option Place) (vacant : Bool) (e : DeskNow V) → LeavesWeakly d b p vacant e → Later d e
  by_weak_leave d None p vacant e is = counted d e (d.held - 1) is.0
  by_weak_leave d (Some b) p vacant e is = by_event d _ e is

  pub by_upgrade : (d : DeskNow V) (b : Option Block) (p : Option Place) (r : Result Shared Refusal) (e : DeskNow V) → IsUpgrade d b p r e → Later d e
  by_upgrade d None p (Ok h) e is = absurd is
  by_upgrade d (Some b) p (Ok h) e is = by_event d _ e is.0.0
  by_upgrade d None p (Err Limit) e is = same d e is.1
  by_upgrade d (Some b) p (Err Limit) e is = same d e is.1
  by_upgrade d None p (Err BadWeak) e is = same d e is.1
  by_upgrade d (Some b) p (Err BadWeak) e is = by_event d _ e is.1.0
  by_upgrade d None p (Err _) e is = absurd is
  by_upgrade d (Some b) p (Err _) e is = absurd is

  -- the owner that an upgrade got is of the weak handle's object, and points where that does
  pub upgraded : (d : DeskNow V) (b : Option Block) (p : Option Place) (h : Shared) (e : DeskNow V) → IsUpgrade d b p (Ok h) e
      → (h.block ≡ b) × (h.place ≡ p)
  upgraded d None p h e is = absurd is
  upgraded d (Some b) p h e is = (is.1, is.2)

  pub by_lock : (d : DeskNow V) (b : Option Block) (p : Option Place) (got : Bool) (e : DeskNow V) → IsLockBy d b p got e → Later d e
  by_lock d None p got e is = absurd is
  by_lock d (Some b) p got e is = by_event d _ e is.0

  pub locked_none : (d : DeskNow V) (b : Option Block) (p : Option Place) (e : DeskNow V) → IsLockBy d b p false e → FindsNoOwner d b p e
  locked_none d None p e is = absurd is
  locked_none d (Some b) p e is = is

  pub by_make : (d : DeskNow V) (enabled null : Bool) (fields : List ℕ) (x : V) (b : Option Block) (p : Option Place) (e : DeskNow V)
      → Makes d enabled null fields x b p e → Later d e
  by_make d enabled null fields x None p e is = absurd is
  by_make d enabled null fields x (Some b) p e is = by_event d _ e is.1

  pub by_left : (d : DeskNow V) (b : Option Block) (p : Option Place) (left : Left V) (e : DeskNow V) → IsLeft d b p left e → Later d e
  by_left d b p Empty e is = counted d e (d.held - 1) is.1
  by_left d b p Others e is = by_event d _ e is.2
  by_left d b p (Last x) e is = by_event d _ e is.1

  pub by_drop : (d : DeskNow V) (xs : List (Ending V)) (b : Option Block) (p : Option Place) (gone : Gone) (e : DeskNow V) (ys : List (Ending V))
      → Drops d xs b p gone e ys → Later d e
  by_drop d xs b p gone e ys is = by_left d b p is.left e is.leaves

  pub by_count_of : (d : DeskNow V) (k : Kind) (b : Option Block) (p : Option Place) (n : ℕ) (e : DeskNow V) → IsUseCount d k b p n e → Later d e
  by_count_of d k None p n e is = same d e is.1
  by_count_of d k (Some b) p n e is = by_event d _ e is.0

  pub counts_owners : (d : DeskNow V) (k : Kind) (b : Option Block) (p : Option Place) (n : ℕ) (e : DeskNow V) → IsUseCount d k b p n e → IsCounted d k b p n e
  counts_owners d k None p n e is = is
  counts_owners d k (Some b) p n e is = is.0

  pub by_expiry : (d : DeskNow V) (b : Option Block) (p : Option Place) (expired : Bool) (e : DeskNow V) → IsExpiry d b p expired e → Later d e
  by_expiry d None p expired e is = same d e is.1
  by_expiry d (Some b) p expired e is = by_event d _ e is

  pub by_read : (d : DeskNow V) (b : Option Block) (p : Option Place) (r : Result ℕ Refusal) (e : DeskNow V) → IsRead d b p r e → Later d e
  by_read d b p (Ok n) e is = by_event d _ e is.3
  by_read d b p (Err Null) e is = same d e is.1
  by_read d b p (Err Outside) e is = same d e is.1
  by_read d b p (Err _) e is = absurd is

  pub by_visit : {A F : Type 0} (changes : V → A → V → Type 0) (f : F) (d : DeskNow V) (b : Option Block) (p : Option Place)
      (r : Result A (Refused F)) (e : DeskNow V) → IsVisit changes f d b p r e → Later d e
  by_visit changes f d None p (Ok a) e is = absurd is
  by_visit changes f d None p (Err r) e is = same d e is.2
  by_visit changes f d (Some b) p (Ok a) e is = by_event d _ e is.3
  by_visit changes f d (Some b) p (Err r) e is = absurd is

  -- by its own events, where the blocks in which it has handles are known to be as they were
  pub by_passing : {own : List (Event V)} (d e : DeskNow V) → Goes d own e → KeepsLatest d e → allowance_of e ≡ allowance_of d → Later d e
  by_passing {own} d e goes latest allowance = record { goes = goes_by d own e goes; legal = goes.legal; latest = latest; allowance = allowance }

  -- why an upgrade got none
  pub why_no_owner : (d : DeskNow V) (b : Option Block) (p : Option Place) (why : Refusal) (e : DeskNow V) → IsUpgrade d b p (Err why) e
      → (why ≡ Limit) ⊎ (why ≡ BadWeak)
  why_no_owner d None p Limit e is = inl refl
  why_no_owner d None p BadWeak e is = inr refl
  why_no_owner d (Some b) p Limit e is = inl refl
  why_no_owner d (Some b) p BadWeak e is = inr refl
  why_no_owner d None p _ e is = absurd is
  why_no_owner d (Some b) p _ e is = absurd is

  pub found_none : (d : DeskNow V) (b : Option Block) (p : Option Place) (why : Refusal) (e : DeskNow V) → IsUpgrade d b p (Err why) e → why ≡ BadWeak
      → FindsNoOwner d b p e
  found_none d b p why e is bad = go b (subst (λ (r : Refusal). IsUpgrade d b p (Err r) e) bad is)
    where
      go : (c : Option Block) → IsUpgrade d c p (Err BadWeak) e → FindsNoOwner d c p e
      go None is = is.1
      go (Some c) is = is.1

  pub found_limit : (d : DeskNow V) (b : Option Block) (p : Option Place) (why : Refusal) (e : DeskNow V) → IsUpgrade d b p (Err why) e → why ≡ Limit
      → IsAtAllowance d
  found_limit d b p why e is limit = go b (subst (λ (r : Refusal). IsUpgrade d b p (Err r) e) limit is)
    where
      go : (c : Option Block) → IsUpgrade d c p (Err Limit) e → IsAtAllowance d
      go None is = is.0
      go (Some c) is = is.0
