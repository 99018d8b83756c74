-- What is said of workers that have a state of their own, each with a table (own).
use Rattle.std.specs.Prelude.{◌≡◌, ℕ, ◌*◌, ◌<◌, ◌≤◌, All, List, [], ◌∷◌, length, Option, IfNone, IfSome}
use Rattle.control_word.specs.declared.refusal.Refusal.{Refusal}
use Rattle.control_word.specs.declared.refusal.Refusal.TheVariants.{Memory}
use Rattle.control_word.specs.declared.shape.Shape.{Shape}
use Rattle.control_block.specs.Desks.{Belongs, IsFirstDesk, DeskNow, DomainNow}
use Rattle.control_block.specs.Desks.{allowance_of, bag_of, endings_of, stock_of}
use Rattle.control_block.specs.Own.{IsSole}
use Rattle.control_block.specs.Parting.{free_of}
use Rattle.script_runner.specs.Parting.{AbsorbsAll, IsNew, IsPartedInto, IsRefusedPart, WindsUp}
use Rattle.script_runner.specs.Programs.{CanClose}
use Rattle.script_runner.specs.Tables.{TableNow}
use Rattle.script_runner.specs.declared.table.staff.Share.{Share}

-- what is said of a worker's work, by the worker and its table before and after
abbrev pub WorkerRelation : Type 0 → Type 0 → Type 1
WorkerRelation V W = W → TableNow V → W → TableNow V → Type 0

-- what a worker needs of the table that it gets
abbrev pub WorkerNeeds : Type 0 → Type 0 → Type 1
WorkerNeeds V W = W → TableNow V → Type 0

-- a domain of this shape has such a share for each of n workers, and a handle's allowance more for its first desk
abbrev pub HasShares : Shape → Share → ℕ → Type 0
HasShares z share n = (0 < share.allowance) × (n * share.allowance < z.allowance) × (n * share.blocks ≤ z.blocks)

-- a desk has one for each, and an allowance for the handles that it keeps, 1 at least
abbrev pub CanShare : {V : Type 0} → DeskNow V → Share → ℕ → Type 0
CanShare d share n =
    (0 < share.allowance) × (n * share.allowance ≤ free_of d 0) × (n * share.blocks ≤ length (stock_of d))

-- a table that can be lent to a worker with this share: a new one, of a domain of this shape
pub record IsLent {V : Type 0} (shape : Shape) (share : Share) (t : TableNow V) : Type 0 where
  pub new : IsNew share.slots t
  pub of : t.desk.shape ≡ shape
  pub allowance : allowance_of t.desk ≡ share.allowance
  pub stock : length (stock_of t.desk) ≡ share.blocks
  pub bare : (bag_of t.desk ≡ []) × (t.desk.held ≡ 0) × (endings_of t.desk ≡ 0)

module _ {V W : Type 0} where
  -- each worker has what it needs, whichever table it is lent
  abbrev pub MeetsNeeds : WorkerNeeds V W → Shape → Share → List W → Type 0
  MeetsNeeds needs shape share ws = All (λ w. (t : TableNow V) → IsLent shape share t → needs w t) ws

  -- whoever works so leaves its table the allowance that it had
  abbrev pub KeepsAllowance : WorkerRelation V W → Type 0
  KeepsAllowance does = (w x : W) (t u : TableNow V) → does w t x u → allowance_of u.desk ≡ allowance_of t.desk

  -- it is so of each worker, with the table of its number
  abbrev pub EachDoes : WorkerRelation V W → List W → List (TableNow V) → List W → List (TableNow V) → Type 0
  EachDoes does [] [] [] [] = Unit {0}
  EachDoes does (w ∷ ws) (t ∷ ts) (x ∷ xs) (u ∷ us) = does w t x u × EachDoes does ws ts xs us
  EachDoes does _ _ _ _ = ⊥

  -- tables of a desk's parts were lent to the workers, one to each, and absorbed as these left them
  pub record Staffs (does : WorkerRelation V W) (t : TableNow V) (share : Share) (had has : List W)
      (u : TableNow V) : Type 0 where
    pub lent : List (TableNow V)
    pub between : DeskNow V
    pub parts : IsPartedInto t.desk share.allowance share.blocks lent between
    pub new : All (IsNew share.slots) lent
    pub left : List (TableNow V)
    pub each : EachDoes does had lent has left
    pub absorbs : AbsorbsAll (record t { desk = between }) left u

  -- so it is where none was refused its table or its thread; else why, and no worker has changed
  abbrev pub StaffsOrNot : WorkerRelation V W → Share → List W → TableNow V → Option Refusal
      → List W → TableNow V → Type 0
  StaffsOrNot does share had t refused has u = IfNone refused (Staffs does t share had has u)
      × IfSome refused (λ why. IsRefusedPart why × (has ≡ had))
      × (CanShare t.desk share (length had) → IfSome refused (λ why. why ≡ Memory))

  -- and then all handles left the table, and what was left to end did so
  pub record StaffsOut (does : WorkerRelation V W) (t : TableNow V) (share : Share) (had has : List W)
      (last : DeskNow V) : Type 0 where
    pub after : TableNow V
    pub staffs : Staffs does t share had has after
    pub winds_up : WindsUp after last

  -- the same from a domain's first table on, which has as many slots as a worker's
  pub record StaffsIn (does : WorkerRelation V W) (domain : DomainNow) (share : Share) (had has : List W)
      (last : DeskNow V) : Type 0 where
    pub first : TableNow V
    pub begins : IsFirstDesk domain first.desk
    pub new : IsNew share.slots first
    pub out : StaffsOut does first share had has last

  -- workers worked in a new domain, and this is the desk that has all that they left, and can close it
  pub record StaffsOpen (does : WorkerRelation V W) (shape : Shape) (share : Share) (had has : List W)
      (domain : DomainNow) (last : DeskNow V) : Type 0 where
    pub of : domain.shape ≡ shape
    pub here : Belongs last domain
    pub works : StaffsIn does domain share had has last
    pub can_close : CanClose last shape

module _ (V : Type 0) {W : Type 0} where
  -- workers worked in a new domain, and the desk that had all that they left had not the whole allowance
  pub record IsParted (does : WorkerRelation V W) (shape : Shape) (share : Share) (had has : List W) : Type 0 where
    pub domain : DomainNow
    pub of : domain.shape ≡ shape
    pub last : DeskNow V
    pub works : StaffsIn does domain share had has last
    pub parted : IsSole last → ⊥
