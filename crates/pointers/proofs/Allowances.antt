-- A desk's calls leave it the allowance that it has.
use Rattle.std.proofs.Common.{◌≡◌, ℕ, true, false, ◌++◌, refl, ap, ◌∙◌}
use Rattle.pointers.proofs.Prelude.{AddsEvent, after, allowance_of, ClearMember, DeskNow, Event}
use Rattle.pointers.proofs.Prelude.{Join, KeepsDesks, leads, Make, opening_of, Read, same_kept}
use Rattle.pointers.proofs.Prelude.{Split, State}
use Rattle.control_word.specs.declared.model.event.Cell.TheVariants.{Free, Member}
use Rattle.control_word.specs.declared.model.event.Event.TheVariants.{Compare, Count, Expired}
use Rattle.control_word.specs.declared.model.event.Event.TheVariants.{Finish, Leave, Load, Lock}
use Rattle.control_word.specs.declared.model.event.Event.TheVariants.{Same, Share, Shelve, Swap}
use Rattle.control_word.specs.declared.model.event.Event.TheVariants.{Unshelve, Visit, WeakLeave}
use Rattle.control_word.specs.declared.model.event.Event.TheVariants.{WeakShare}

module _ {V : Type 0} where
  kept_after : (s : State) (d : ℕ) (x : Event V) → KeepsDesks x → (after s d x).allowance ≡ s.allowance
  kept_after s d (Swap (Free c) new old) p = refl
  kept_after s d (Swap (Member o m) new old) p = refl
  kept_after s d (Compare (Free c) e new h true w) p = refl
  kept_after s d (Compare (Member o m) e new h true w) p = refl
  kept_after s d (Compare c e new h false w) p = refl
  kept_after s d (Split to n hs bs) p = absurd p
  kept_after s d (Join other) p = absurd p
  kept_after s d (Make b enabled null fields value) p = refl
  kept_after s d (Share h q) p = refl
  kept_after s d (Leave h last) p = refl
  kept_after s d (Count h n) p = refl
  kept_after s d (Expired h x) p = refl
  kept_after s d (Read h n) p = refl
  kept_after s d (Same c h so) p = refl
  kept_after s d (WeakShare o q) p = refl
  kept_after s d (WeakLeave h v) p = refl
  kept_after s d (Lock h got) p = refl
  kept_after s d (Load c got) p = refl
  kept_after s d (ClearMember o m h) p = refl
  kept_after s d (Finish o v x) p = refl
  kept_after s d (Visit h x y) p = refl
  kept_after s d (Shelve b) p = refl
  kept_after s d (Unshelve b) p = refl

  -- by a call that parts and joins no desks
  pub allowance_kept : (d : DeskNow V) (x : Event V) (e : DeskNow V) → KeepsDesks x → AddsEvent d x e → allowance_of e ≡ allowance_of d
  allowance_kept d x e keeps a =
      let z = opening_of d.shape in
      (λ i. (leads (opening_of (a.same.1 i)) (a.seen i)).allowance (a.same.2 i))
      ∙ (ap (λ (f : ℕ → ℕ). f d.name) (kept_after (leads z (a.between ++ d.seen)) d.name x keeps)
      ∙ (same_kept z a.between d.seen d.name a.quiet).may_hold)
