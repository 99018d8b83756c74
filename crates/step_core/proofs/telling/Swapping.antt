-- What an act takes that puts a value into a cell.
use Rattle.std.proofs.Common.{◌≡◌, ℕ, ◌+◌, ◌≤◌, List, [], ◌∷◌, Some, None, refl, ap, ◌∙◌, arith}
use Rattle.step_core.proofs.Prelude.{Act, Alias, Ask, Clear, Compare, Count, Downgrade, Drop}
use Rattle.step_core.proofs.Prelude.{Exchange, Expired, frame_steps, FrameView, FromThis, Going}
use Rattle.step_core.proofs.Prelude.{going, Holds, Leave, Load, Lock, Make, Move, Offer, OnShelf}
use Rattle.step_core.proofs.Prelude.{Put, Read, Share, Slots, State, Swap, Task, weight, went}
use Rattle.step_core.proofs.telling.Leaves.{leaves_by}
use Rattle.step_core.proofs.telling.Walking.{went_still}

-- a value goes into a cell by the act: it takes three steps, and nothing leaves
pub record IsSwapping (slots : Slots) (a : Act) : Type 0 where
  pub weight : weight a ≡ 3
  pub stays : leaves_by slots a ≡ None

pub swapping : (slots : Slots) (a : Act) (x : Going) → going slots a ≡ Some x → IsSwapping slots a
swapping slots (Swap c) x e = record { weight = refl; stays = refl }
swapping slots (Exchange k c) x e = record { weight = refl; stays = refl }
swapping slots (Make form) x e = cc
swapping slots (Share k) x e = cc
swapping slots (Downgrade k) x e = cc
swapping slots (Lock k must) x e = cc
swapping slots (Put k) x e = cc
swapping slots (Leave k) x e = cc
swapping slots (Clear k) x e = cc
swapping slots (Count k) x e = cc
swapping slots (Expired k) x e = cc
swapping slots (Read k) x e = cc
swapping slots (FromThis k kind) x e = cc
swapping slots (Alias k j field) x e = cc
swapping slots (Move k) x e = cc
swapping slots (Ask q) x e = cc
swapping slots (Offer k c) x e = cc
swapping slots (Load c) x e = cc
swapping slots (Holds k c) x e = cc
swapping slots (Compare k c weak) x e = cc
swapping slots Drop x e = cc
swapping slots (OnShelf y) x e = cc

pub went_swap : (s : State) (d k : ℕ) (w : FrameView) (t : Task) (ts : List Task) (a : Act) (x : Going) → w.endings ≡ [] → w.todo ≡ t ∷ ts
    → t.act ≡ a → going w.slots a ≡ Some x → frame_steps (went s d w k ts a) + 3 ≤ frame_steps w
went_swap s d k w t ts a x none is same goes =
    let y = swapping w.slots a x goes in
    let l = went_still s d k w t ts a none is y.stays in
    let j : weight t.act ≡ 3 = ap weight same ∙ y.weight in
    omega (arith, l, j)
