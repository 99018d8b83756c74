-- What holds of every state that a legal history leads to.
use Rattle.std.proofs.Common.{◌≡◌, ℕ, ◌<◌, ◌≤◌, Bool, true, false, cond, ◌≢◌, refl, ⊎_elim, arith}
use Rattle.control_word.proofs.Prelude.{bag_size, cases_lt, common, empty, ending, gone, Has}
use Rattle.control_word.proofs.Prelude.{has_object, Held, how_often, InShape, IsFormed, IsVacant}
use Rattle.control_word.proofs.Prelude.{kind_of_free, kind_of_member, live, Opening, Phase, State}
use Rattle.control_word.proofs.Prelude.{stored, sum_below, times_kept, unmade, weak_number}
use Rattle.control_word.proofs.lists.Tallies.{store_found}
use Rattle.control_word.specs.State.{count}
use Rattle.control_word.specs.Limits.{most_members}

-- a live object has an owner, and no other has one
abbrev pub OwnersFit : Phase → ℕ → Type 0
OwnersFit unmade n = n ≡ 0
OwnersFit live n = 0 < n
OwnersFit gone n = n ≡ 0
OwnersFit (ending d) n = n ≡ 0

-- the object is there, is ending or has weak handles
abbrev pub IsBusy : State → ℕ → Type 0
IsBusy s o = 0 < weak_number s o

pub record Sound (z : Opening) (s : State) : Type 0 where
  pub owners : (o : ℕ) → OwnersFit (s.object o).phase (count s o)
  pub unmade_free : (o : ℕ) → (s.object o).phase ≡ unmade → weak_number s o ≡ 0
  pub fresh : (o : ℕ) → s.made < o → (s.object o).phase ≡ unmade
  pub none : (s.object 0).phase ≡ unmade
  pub placed : (o : ℕ) → IsBusy s o → (s.latest (s.object o).block ≡ o) × InShape z (s.object o).block
  pub latest_made : (b : ℕ) → s.latest b ≤ s.made
  pub latest_in : (b : ℕ) → s.latest b ≢ 0 → (s.object (s.latest b)).block ≡ b
  pub stores : (d b : ℕ) → Has (stored d b) s.stores → IsVacant s b × InShape z b
  pub shelf : (b : ℕ) → s.shelved b ≡ true → IsVacant s b × InShape z b
  pub once : (b : ℕ) → times_kept s b ≤ 1
  pub cleared : (o m : ℕ) → m < most_members → common (s.object o).phase ≡ 0 → (s.object o).member m ≡ empty (kind_of_member s.owners m)
  pub few : s.members ≤ most_members
  pub unused : (o m : ℕ) → s.members ≤ m → (s.object o).member m ≡ empty (kind_of_member s.owners m)

-- what a bit tells
pub on_is : (x : Bool) → 0 < cond x 1 0 → x ≡ true
on_is true some' = refl
on_is false some' = absurd (omega arith)

-- a block that is in a store or on the shelf
pub kept_vacant : (z : Opening) (s : State) → Sound z s → (b : ℕ) → 0 < times_kept s b → IsVacant s b × InShape z b
kept_vacant z s sound b some' =
    ⊎_elim (λ (t : 0 < how_often b s.stores). let f = store_found b s.stores t in sound.stores f.0 b f.1)
    (λ (t : how_often b s.stores ≤ 0). sound.shelf b (on_is (s.shelved b) (omega arith)))
    (cases_lt 0 (how_often b s.stores))

-- what the desks' allowances are, and what they hold of them
pub record Allowed (z : Opening) (s : State) : Type 0 where
  pub rooms : (d : ℕ) → bag_size s d ≤ s.allowance d
  pub shares : sum_below s.names s.allowance ≡ z.allowance
  pub beyond : (d : ℕ) → s.names ≤ d → s.allowance d ≡ 0
  pub spent : (d : ℕ) → s.joined d ≡ true → s.allowance d ≡ 0
  pub acts : (d : ℕ) → d < s.names → s.joined d ≡ false → 0 < s.allowance d

-- what handles in bags and in cells are like
pub record Formed (s : State) : Type 0 where
  pub bags : (x : Held) → Has x s.hands → IsFormed x.handle × (has_object x.handle ≡ true)
  pub frees : (c : ℕ) → c < s.cells → IsFormed (s.cell c) × ((s.cell c).kind ≡ kind_of_free s.shared c)
  pub members : (o m : ℕ) → IsFormed ((s.object o).member m) × (((s.object o).member m).kind ≡ kind_of_member s.owners m)
