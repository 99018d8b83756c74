-- The worked histories, by computation.
use Rattle.std.proofs.Common.{◌≡◌, ℕ, ◌<◌, Bool, true, false, cond, List, [], ◌∷◌, ◌==◌}
use Rattle.std.proofs.Common.{slice_index, Some, None, Option, sym, refl, ap, ◌∙◌, inl, inr}
use Rattle.std.proofs.Common.{⊎_elim, arith, ltb-true, eqb-true}
use Rattle.control_word.proofs.Prelude.{empty, Entry, equivalent, four_blocks, IsLegal}
use Rattle.control_word.proofs.Prelude.{kind_of_member, MayCome, NumberedHandle, Owner, Place}
use Rattle.std.proofs.lemmas.Option.{same_Some}
use Rattle.control_word.specs.State.{count, weak}
use Rattle.control_word.specs.Worked.{BlockUsedAgain, CountAfterCopy, CycleStays}
use Rattle.control_word.specs.Worked.{FailedCompareHandsOutHeld, LockKeepsAlive, compare_ended}
use Rattle.control_word.specs.Worked.{compare_held, compares, copy_ended, cycle_ended, leftover}
use Rattle.control_word.specs.Worked.{lock_ended, lock_expired, owner_at, MembersGoOut}
use Rattle.control_word.specs.Worked.{SplitAndJoined, member_cleared, member_ended, reached}
use Rattle.control_word.specs.Worked.{reuse_copied, reuse_ended, split_joined}
use Rattle.control_word.proofs.worked.Coming.{◌▸◌, comes, opening_fits, vacant}

copy_legal : IsLegal four_blocks copy_ended
unfolding count weak
copy_legal =
    opening_fits
    ▸ comes refl (inr (inr (inr (inl refl))), refl) tt
    ▸ comes refl ((inl refl, refl, refl), (omega arith, omega arith, omega arith)) tt
    ▸ comes refl ((inl refl, refl, refl), refl, omega arith, λ whole. refl) tt
    ▸ comes refl ((inl refl, refl, refl), refl) tt
    ▸ comes refl ((inl refl, refl, refl), refl) tt
    ▸ comes refl (refl, (λ m lt. refl), refl) refl

pub count_after_copy : CountAfterCopy
unfolding count weak
count_after_copy = (
  copy_legal,
  (refl, refl),
  (λ other next. next.asks.3 refl),
  refl,
  refl,
  refl,
  vacant copy_ended 1 copy_legal (omega arith) (omega arith) refl,
)

lock_expired_legal : IsLegal four_blocks lock_expired
unfolding count weak
lock_expired_legal =
    opening_fits
    ▸ comes refl (inr (inr (inr (inl refl))), refl) tt
    ▸ comes refl (inl (owner_at 1 1, (inl refl, refl, refl), refl, inl refl)) tt
    ▸ comes refl ((inl refl, refl, refl), refl, omega arith, λ whole. refl) tt
    ▸ comes refl ((inl refl, refl, refl), refl) tt
    ▸ comes refl ((inr (inl refl), refl, refl), refl, omega arith, λ whole. refl) tt
    ▸ comes refl ((inl refl, refl, refl), refl) tt
    ▸ comes refl ((inl refl, refl, refl), refl) tt
    ▸ comes refl ((inr (inl refl), refl, refl), refl) tt
    ▸ comes refl (refl, (λ m lt. refl), refl) refl
    ▸ comes refl ((inl refl, refl, refl), refl) tt

lock_legal : IsLegal four_blocks lock_ended
unfolding count weak
lock_legal = lock_expired_legal ▸ comes refl ((inl refl, refl, refl), refl) tt

pub lock_keeps_alive : LockKeepsAlive
unfolding count weak
lock_keeps_alive = (
  lock_legal,
  (refl, refl),
  (λ other next. next.asks.1),
  (refl, refl),
  (λ other next. next.asks.3 refl),
  (refl, refl),
  (λ other next. next.asks.1),
  refl,
  (refl, refl),
  (λ other next. next.asks.1),
  refl,
  (λ v. let t = v 1 refl in omega arith),
  refl,
  refl,
  vacant lock_ended 1 lock_legal (omega arith) (omega arith) refl,
)

-- what a strong compare replies
compare_reply : (h : List (Entry ℕ)) (expected new : NumberedHandle) (reply : NumberedHandle × Bool)
    → MayCome four_blocks h 0 (compares expected new reply)
    → let x = (reached h).cell 0 in reply ≡ (x, equivalent x expected)
compare_reply h expected new reply next =
    let held' = next.asks.3 in
    let same = ap (λ x. equivalent x expected) held' in
    let swapped = ⊎_elim (λ e. e ∙ same) (λ u. absurd (let e = u.0 in cc)) next.asks.4 in
    λ i. (held' i, swapped i)

compare_legal : IsLegal four_blocks compare_ended
unfolding count weak
compare_legal =
    opening_fits
    ▸ comes refl (inr (inr (inr (inl refl))), refl) tt
    ▸ comes refl ((inl refl, refl, refl), (omega arith, omega arith, omega arith)) tt
    ▸ comes refl (omega arith, (refl, inr (inl refl, refl, refl)), refl) tt
    ▸ comes refl (inr (inr (inl refl)), refl) tt
    ▸ comes refl (
      omega arith,
      (refl, inr (inl refl, refl, refl)),
      (refl, inl (refl, (tt, tt))),
      refl,
      inl refl,
    ) tt
    ▸ comes refl ((inr (inl refl), refl, refl), refl) tt
    ▸ comes refl (refl, (λ m lt. refl), refl) refl
    ▸ comes refl ((inl refl, refl, refl), (record { block = record { 0 = 1 }; field = 0 }, refl, refl, refl)) tt
    ▸ comes refl ((inl refl, refl, refl), refl) tt
    ▸ comes refl ((inl refl, refl, refl), refl) tt

-- the field of the first object at a place
abbrev field_read : Option Place → ℕ
field_read None = 0
field_read (Some p) = slice_index (1 ∷ 0 ∷ 0 ∷ 0 ∷ []) p.field

pub failed_compare_hands_out_held : FailedCompareHandsOutHeld
unfolding count weak
failed_compare_hands_out_held = (
  compare_legal,
  (refl, refl),
  compare_reply compare_held (owner_at 2 2) (empty Owner),
  (refl, refl),
  (λ other next. next.asks.1.3 ∙ ap field_read (sym next.asks.1.1)),
  refl,
  refl,
  vacant compare_ended 2 compare_legal (omega arith) (omega arith) refl,
  refl,
  refl,
  (refl, refl),
)

reuse_legal : IsLegal four_blocks reuse_ended
unfolding count weak
reuse_legal =
    opening_fits
    ▸ comes refl (inr (inr (inr (inl refl))), refl) tt
    ▸ comes refl ((inl refl, refl, refl), refl) tt
    ▸ comes refl (refl, (λ m lt. refl), refl) refl
    ▸ comes refl (inl refl, refl) tt
    ▸ comes refl ((inl refl, refl, refl), (omega arith, omega arith, omega arith)) tt
    ▸ comes refl (omega arith, (refl, inr (inl refl, refl, refl)), refl) tt
    ▸ comes refl ((inl refl, refl, refl), (omega arith, omega arith, omega arith)) tt
    ▸ comes refl (
      omega arith,
      (refl, inl (refl, ((omega arith, omega arith, omega arith), tt))),
      (refl, inr (inl refl, refl, refl)),
      refl,
      inl refl,
    ) tt
    ▸ comes refl ((inl refl, refl, refl), refl) tt
    ▸ comes refl ((inl refl, refl, refl), refl, omega arith, λ whole. refl) tt
    ▸ comes refl ((inl refl, refl, refl), refl) tt
    ▸ comes refl ((inl refl, refl, refl), refl) tt

pub block_used_again : BlockUsedAgain
unfolding count weak
block_used_again = (
  reuse_legal,
  (refl, refl),
  refl,
  compare_reply reuse_copied leftover (owner_at 2 1),
  (λ other next. next.asks.2),
  (λ other next. next.asks.2),
  (refl, refl),
  refl,
  refl,
  refl,
  refl,
  refl,
  (refl, refl),
)

cycle_legal : IsLegal four_blocks cycle_ended
unfolding count weak
cycle_legal =
    opening_fits
    ▸ comes refl (inr (inr (inr (inl refl))), refl) tt
    ▸ comes refl (inr (inr (inl refl)), refl) tt
    ▸ comes refl ((inl refl, refl, refl), (omega arith, omega arith, omega arith)) tt
    ▸ comes refl (
      (omega arith, (owner_at 1 1, (inr (inr (inl refl)), refl, refl), refl)),
      (refl, inr (inl refl, refl, refl)),
      refl,
    ) tt
    ▸ comes refl ((inr (inl refl), refl, refl), (omega arith, omega arith, omega arith)) tt
    ▸ comes refl (
      (omega arith, (owner_at 2 2, (inr (inl refl), refl, refl), refl)),
      (refl, inr (inl refl, refl, refl)),
      refl,
    ) tt
    ▸ comes refl ((inl refl, refl, refl), refl) tt
    ▸ comes refl ((inl refl, refl, refl), refl) tt

pub cycle_stays : CycleStays
unfolding count weak
cycle_stays = (cycle_legal, (refl, refl), (refl, refl), refl, refl, refl, refl, (refl, refl), (refl, refl))

-- the first object's members, once its first one went out
no_member_left : (m : ℕ) → m < 3 → ((reached member_cleared).object 1).member m ≡ empty (kind_of_member 2 m)
no_member_left m lt = by (m == 0) refl
  where
    by : (b : Bool) → (m == 0) ≡ b
        → cond b (empty Owner) (cond b (owner_at 2 2) (empty (kind_of_member 2 m))) ≡ empty (kind_of_member 2 m)
    by true e = ap (λ (k : ℕ). empty (kind_of_member 2 k)) (sym (eqb-true m 0 e))
    by false e = refl

member_legal : IsLegal four_blocks member_ended
unfolding count weak
member_legal =
    opening_fits
    ▸ comes refl (inr (inr (inr (inl refl))), refl) tt
    ▸ comes refl (inr (inr (inl refl)), refl) tt
    ▸ comes refl (
      (omega arith, (owner_at 1 1, (inr (inl refl), refl, refl), refl)),
      (refl, inr (inl refl, refl, refl)),
      refl,
    ) tt
    ▸ comes refl ((omega arith, (owner_at 1 1, (inl refl, refl, refl), refl)), refl) tt
    ▸ comes refl (inr (inl refl), refl, refl) refl
    ▸ comes refl ((inr (inl refl), refl, refl), refl) tt
    ▸ comes refl (refl, omega arith, refl) tt
    ▸ comes refl (refl, no_member_left, refl) refl
    ▸ comes refl ((inl refl, refl, refl), refl) tt
    ▸ comes refl ((inl refl, refl, refl), refl) tt
    ▸ comes refl (refl, (λ m lt. refl), refl) refl

pub members_go_out : MembersGoOut
unfolding count weak
members_go_out = (
  member_legal,
  (refl, refl),
  (λ other next. next.asks.1),
  (refl, refl),
  (λ other next. next.asks.2),
  (refl, refl),
  (λ other next. sym (same_Some 7 other next.values)),
  refl,
  refl,
  refl,
  refl,
)

split_legal : IsLegal four_blocks split_joined
unfolding count weak
split_legal =
    opening_fits
    ▸ comes refl (inr (inr (inr (inl refl))), refl) tt
    ▸ comes refl ((inl refl, refl, refl), (omega arith, omega arith, omega arith)) tt
    ▸ comes refl (refl, omega arith, omega arith, omega arith, (inl refl, tt), (inr (inr (inl refl)), tt)) tt
    ▸ comes refl (inl refl, refl) tt
    ▸ comes refl ((λ same. absurd cc), (ltb-true 1 2 refl, refl, ltb-true 0 40 refl)) tt

pub split_and_joined : SplitAndJoined
unfolding count weak
split_and_joined = (
  split_legal,
  refl,
  refl,
  refl,
  refl,
  refl,
  (refl, refl),
  refl,
  refl,
  refl,
  refl,
  refl,
  (refl, refl),
  (refl, refl),
)
