-- Seven short histories, worked out, of one desk but for the last. A member that is empty needs no event at its
-- object's end.
use Rattle.std.specs.Prelude.{◌≡◌, ℕ, Bool, true, false, cond, ◌==◌, List, [], ◌∷◌, Some, None}
use Rattle.control_word.specs.declared.model.event.Cell.TheVariants.{Free, Member}
use Rattle.control_word.specs.declared.model.event.Entry.{Entry}
use Rattle.control_word.specs.declared.model.event.Event.{Event}
use Rattle.control_word.specs.declared.model.event.Event.TheVariants.{Make, Share, Leave, Count, Expired, Read}
use Rattle.control_word.specs.declared.model.event.Event.TheVariants.{WeakShare, WeakLeave, Lock, Load, Swap, Compare}
use Rattle.control_word.specs.declared.model.event.Event.TheVariants.{Same, ClearMember, Finish, Visit, Split, Join}
use Rattle.control_word.specs.declared.model.handle.NumberedHandle.{NumberedHandle}
use Rattle.control_word.specs.declared.model.handle.Kind.TheVariants.{Owner, Weak}
use Rattle.control_word.specs.Handles.{handle, empty, same_place}
use Rattle.control_word.specs.State.{Opening, State, bag_size, live, gone, count, weak, IsVacant}
use Rattle.control_word.specs.Events.{place_at}
use Rattle.control_word.specs.Histories.{entry, leads, IsLegal, MayCome}

-- four blocks, a shared and a weak cell, and one desk that has the whole allowance
abbrev pub four_blocks : Opening
four_blocks =
    record {
      blocks = 4;
      members = 3;
      owners = 2;
      shared_cells = 1;
      cells = 2;
      allowance = 100;
      desks = 1;
      holder = λ b. 0;
      share = λ d. cond (d == 0) 100 0;
      keeps_blocks = true;
    }

-- the history goes on with the desk's events, told from first to last
abbrev pub further : List (Entry ℕ) → List (Event ℕ) → List (Entry ℕ)
further h [] = h
further h (e ∷ es) = further (entry 0 e ∷ h) es

abbrev pub make_in : ℕ → List ℕ → Event ℕ
make_in b fields = Make (record { 0 = b }) false false fields 0

-- handles of object o that point to it, in block b
abbrev pub owner_at : ℕ → ℕ → NumberedHandle
owner_at o b = handle Owner (Some o) (place_at b)

abbrev pub weak_at : ℕ → ℕ → NumberedHandle
weak_at o b = handle Weak (Some o) (place_at b)

abbrev pub reached : List (Entry ℕ) → State
reached h = leads four_blocks h

-- the counts of the object last made in block b: its owners, and its weak handles
abbrev pub Counts : List (Entry ℕ) → ℕ → ℕ → ℕ → Type 0
Counts h b owners weaks = let s = reached h in (count s (s.latest b) ≡ owners) × (weak s (s.latest b) ≡ weaks)

-- no other reply may come
abbrev pub OnlyReply : {A : Type 0} → List (Entry ℕ) → (A → Event ℕ) → A → Type 0
OnlyReply {A} h asked reply = (other : A) → MayCome four_blocks h 0 (asked other) → other ≡ reply

-- A copy is an owner more. When both are gone the object is, and its block is vacant
abbrev pub copy_held : List (Entry ℕ)
copy_held = further [] (make_in 1 (1 ∷ 2 ∷ 0 ∷ 0 ∷ []) ∷ Share (owner_at 1 1) (place_at 1) ∷ [])

abbrev pub copy_ended : List (Entry ℕ)
copy_ended =
    further copy_held (
    Count (owner_at 1 1) 2
    ∷ Leave (owner_at 1 1) false
    ∷ Leave (owner_at 1 1) true
    ∷ Finish 1 true 0
    ∷ []
    )

abbrev pub CountAfterCopy : Type 0
CountAfterCopy =
    let s = reached copy_ended in
    IsLegal four_blocks copy_ended
    × Counts copy_held 1 2 0 × OnlyReply copy_held (Count (owner_at 1 1)) 2
    × (s.made ≡ 1) × ((s.object 1).phase ≡ gone)
    × ((s.object 1).fields ≡ 1 ∷ 2 ∷ 0 ∷ 0 ∷ []) × IsVacant s 1

-- A lock is an owner more, and keeps the object while the first owner goes. The block waits for the weak handle
abbrev pub lock_watched : List (Entry ℕ)
lock_watched = further [] (make_in 1 (1 ∷ 0 ∷ 0 ∷ 0 ∷ []) ∷ WeakShare 1 (place_at 1) ∷ [])

abbrev pub lock_got : List (Entry ℕ)
lock_got = further lock_watched (Count (weak_at 1 1) 1 ∷ Lock (weak_at 1 1) true ∷ [])

abbrev pub lock_kept : List (Entry ℕ)
lock_kept =
    further lock_got (Count (weak_at 1 1) 2 ∷ Leave (owner_at 1 1) false ∷ Expired (weak_at 1 1) false ∷ [])

abbrev pub lock_expired : List (Entry ℕ)
lock_expired =
    further lock_kept (Leave (owner_at 1 1) true ∷ Finish 1 false 0 ∷ Expired (weak_at 1 1) true ∷ [])

abbrev pub lock_ended : List (Entry ℕ)
lock_ended = further lock_expired (WeakLeave (weak_at 1 1) true ∷ [])

abbrev pub LockKeepsAlive : Type 0
LockKeepsAlive =
    let s = reached lock_ended in
    IsLegal four_blocks lock_ended
    × Counts lock_watched 1 1 1 × OnlyReply lock_watched (Lock (weak_at 1 1)) true
    × Counts lock_got 1 2 1 × OnlyReply lock_got (Count (weak_at 1 1)) 2
    × Counts lock_kept 1 1 1 × OnlyReply lock_kept (Expired (weak_at 1 1)) false
    × (((reached lock_kept).object 1).phase ≡ live)
    × Counts lock_expired 1 0 1 × OnlyReply lock_expired (Expired (weak_at 1 1)) true
    × (((reached lock_expired).object 1).phase ≡ gone) × (IsVacant (reached lock_expired) 1 → ⊥)
    × (s.made ≡ 1) × ((s.object 1).phase ≡ gone) × IsVacant s 1

-- a strong compare at the shared cell. The reply: what the cell held, and whether it was swapped
abbrev pub compares : NumberedHandle → NumberedHandle → NumberedHandle × Bool → Event ℕ
compares expected new reply = Compare (Free 0) expected new reply.0 reply.1 false

-- A compare that differs hands out what the cell holds
abbrev pub compare_held : List (Entry ℕ)
compare_held =
    further [] (
    make_in 1 (1 ∷ 0 ∷ 0 ∷ 0 ∷ [])
    ∷ Share (owner_at 1 1) (place_at 1)
    ∷ Swap (Free 0) (owner_at 1 1) (empty Owner)
    ∷ make_in 2 (2 ∷ 0 ∷ 0 ∷ 0 ∷ [])
    ∷ []
    )

abbrev pub compare_handed : List (Entry ℕ)
compare_handed =
    further compare_held (
    Compare (Free 0) (owner_at 2 2) (empty Owner) (owner_at 1 1) false false
    ∷ Leave (owner_at 2 2) true
    ∷ Finish 2 true 0
    ∷ Read (owner_at 1 1) 1
    ∷ []
    )

abbrev pub compare_ended : List (Entry ℕ)
compare_ended = further compare_handed (Leave (owner_at 1 1) false ∷ Leave (owner_at 1 1) false ∷ [])

abbrev pub FailedCompareHandsOutHeld : Type 0
FailedCompareHandsOutHeld =
    let s = reached compare_ended in
    IsLegal four_blocks compare_ended
    × Counts compare_held 1 2 0
    × OnlyReply compare_held (compares (owner_at 2 2) (empty Owner)) (owner_at 1 1, false)
    × Counts compare_handed 1 3 0 × OnlyReply compare_handed (Read (owner_at 1 1)) 1
    × (s.made ≡ 2) × ((s.object 2).phase ≡ gone) × IsVacant s 2
    × ((s.object 1).phase ≡ live) × (s.cell 0 ≡ owner_at 1 1) × Counts compare_ended 1 1 0

-- The next object in a block has the same place. An empty handle that kept the place is not equivalent to its owner
abbrev pub leftover : NumberedHandle
leftover = handle Owner None (place_at 1)

abbrev pub reuse_stored : List (Entry ℕ)
reuse_stored =
    further [] (
    make_in 1 (1 ∷ 0 ∷ 0 ∷ 0 ∷ [])
    ∷ Leave (owner_at 1 1) true
    ∷ Finish 1 true 0
    ∷ make_in 1 (2 ∷ 0 ∷ 0 ∷ 0 ∷ [])
    ∷ Share (owner_at 2 1) (place_at 1)
    ∷ Swap (Free 0) (owner_at 2 1) (empty Owner)
    ∷ []
    )

abbrev pub reuse_copied : List (Entry ℕ)
reuse_copied = further reuse_stored (Share (owner_at 2 1) (place_at 1) ∷ [])

abbrev pub reuse_compared : List (Entry ℕ)
reuse_compared =
    further reuse_copied (
    Compare (Free 0) leftover (owner_at 2 1) (owner_at 2 1) false false
    ∷ Leave (owner_at 2 1) false
    ∷ []
    )

abbrev pub reuse_ended : List (Entry ℕ)
reuse_ended =
    further reuse_compared
    (Count (owner_at 2 1) 3 ∷ Leave (owner_at 2 1) false ∷ Leave (owner_at 2 1) false ∷ [])

abbrev pub BlockUsedAgain : Type 0
BlockUsedAgain =
    let s = reached reuse_ended in
    IsLegal four_blocks reuse_ended
    × Counts reuse_stored 1 2 0 × (same_place leftover.place (owner_at 2 1).place ≡ true)
    × OnlyReply reuse_copied (compares leftover (owner_at 2 1)) (owner_at 2 1, false)
    × OnlyReply reuse_copied (Same (Free 0) leftover) false
    × OnlyReply reuse_copied (Same (Free 0) (owner_at 2 1)) true
    × Counts reuse_compared 1 3 0
    × (s.made ≡ 2) × ((s.object 1).phase ≡ gone) × ((s.object 2).phase ≡ live)
    × (s.latest 1 ≡ 2) × (s.cell 0 ≡ owner_at 2 1) × Counts reuse_ended 1 1 0

-- Two objects that own each other stay when nobody else owns them
abbrev pub cycle_tied : List (Entry ℕ)
cycle_tied =
    further [] (
    make_in 1 (1 ∷ 0 ∷ 0 ∷ 0 ∷ [])
    ∷ make_in 2 (2 ∷ 0 ∷ 0 ∷ 0 ∷ [])
    ∷ Share (owner_at 2 2) (place_at 2)
    ∷ Swap (Member 1 0) (owner_at 2 2) (empty Owner)
    ∷ Share (owner_at 1 1) (place_at 1)
    ∷ Swap (Member 2 0) (owner_at 1 1) (empty Owner)
    ∷ []
    )

abbrev pub cycle_ended : List (Entry ℕ)
cycle_ended = further cycle_tied (Leave (owner_at 2 2) false ∷ Leave (owner_at 1 1) false ∷ [])

abbrev pub CycleStays : Type 0
CycleStays =
    let s = reached cycle_ended in
    IsLegal four_blocks cycle_ended
    × Counts cycle_tied 1 2 0 × Counts cycle_tied 2 2 0
    × (s.made ≡ 2) × (s.hands ≡ [])
    × ((s.object 1).phase ≡ live) × ((s.object 2).phase ≡ live)
    × Counts cycle_ended 1 1 0 × Counts cycle_ended 2 1 0

-- What is loaded from a member is an owner more, and keeps its object when the member goes out. The value that comes
-- out
-- at an object's end is what a visit left
abbrev pub member_filled : List (Entry ℕ)
member_filled =
    further [] (
    make_in 1 (1 ∷ 0 ∷ 0 ∷ 0 ∷ [])
    ∷ make_in 2 (2 ∷ 0 ∷ 0 ∷ 0 ∷ [])
    ∷ Swap (Member 1 0) (owner_at 2 2) (empty Owner)
    ∷ []
    )

abbrev pub member_loaded : List (Entry ℕ)
member_loaded = further member_filled (Load (Member 1 0) (owner_at 2 2) ∷ Visit (owner_at 1 1) 0 7 ∷ [])

abbrev pub member_ending : List (Entry ℕ)
member_ending = further member_loaded (Leave (owner_at 1 1) true ∷ [])

abbrev pub member_cleared : List (Entry ℕ)
member_cleared = further member_ending (ClearMember 1 0 (owner_at 2 2) ∷ [])

abbrev pub member_ended : List (Entry ℕ)
member_ended =
    further member_cleared
    (Finish 1 true 7 ∷ Leave (owner_at 2 2) false ∷ Leave (owner_at 2 2) true ∷ Finish 2 true 0 ∷ [])

abbrev pub MembersGoOut : Type 0
MembersGoOut =
    let s = reached member_ended in
    IsLegal four_blocks member_ended
    × Counts member_filled 2 1 0 × OnlyReply member_filled (Load (Member 1 0)) (owner_at 2 2)
    × Counts member_loaded 2 2 0 × OnlyReply member_ending (ClearMember 1 0) (owner_at 2 2)
    × Counts member_cleared 2 2 0 × OnlyReply member_cleared (Finish 1 true) 7
    × (s.made ≡ 2) × (s.hands ≡ []) × ((s.object 1).phase ≡ gone) × ((s.object 2).phase ≡ gone)

-- A split hands an owner, a block and a part of the allowance to a new desk, which makes an object of its own; by the
-- join all of it is the first desk's
abbrev pub split_off : List (Entry ℕ)
split_off =
    further [] (
    make_in 1 (1 ∷ 0 ∷ 0 ∷ 0 ∷ [])
    ∷ Share (owner_at 1 1) (place_at 1)
    ∷ Split 1 40 (owner_at 1 1 ∷ []) (record { 0 = 2 } ∷ [])
    ∷ []
    )

abbrev pub split_used : List (Entry ℕ)
split_used = entry 1 (make_in 2 (2 ∷ 0 ∷ 0 ∷ 0 ∷ [])) ∷ split_off

abbrev pub split_joined : List (Entry ℕ)
split_joined = further split_used (Join 1 ∷ [])

abbrev pub SplitAndJoined : Type 0
SplitAndJoined =
    let before = reached split_off in
    let s = reached split_joined in
    IsLegal four_blocks split_joined
    × (before.names ≡ 2) × (before.allowance 0 ≡ 60) × (before.allowance 1 ≡ 40)
    × (bag_size before 0 ≡ 1) × (bag_size before 1 ≡ 1) × Counts split_off 1 2 0
    × (s.joined 1 ≡ true) × (s.allowance 0 ≡ 100) × (s.allowance 1 ≡ 0)
    × (bag_size s 0 ≡ 3) × (bag_size s 1 ≡ 0) × Counts split_joined 1 2 0 × Counts split_joined 2 1 0
