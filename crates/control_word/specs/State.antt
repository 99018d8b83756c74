-- The state: who holds which handle, and what became of each object.
use Rattle.std.specs.Prelude.{◌≡◌, ℕ, zero, suc, ◌+◌, ◌-◌, ◌<◌, ◌≤◌, Bool, false, cond, ◌&&◌}
use Rattle.std.specs.Prelude.{◌==◌, nat_lt, ◌⊎◌, List, []}
use Rattle.std.specs.Prelude.{◌∷◌, ◌++◌, map, length}
use Rattle.std.specs.List.{filter}
use Rattle.control_word.specs.declared.model.handle.NumberedHandle.{NumberedHandle}
use Rattle.control_word.specs.declared.model.handle.Kind.{Kind}
use Rattle.control_word.specs.declared.model.handle.Kind.TheVariants.{Owner, Weak}
use Rattle.control_word.specs.Handles.{same_handle, is_on, empty}
use Rattle.control_word.specs.Limits.{most_blocks, most_members, most_free_cells, most_allowance, HasRoomForFunds}

-- the function that is x at i, and else f
abbrev pub put : {A : Type 0} → (ℕ → A) → ℕ → A → ℕ → A
put f i x j = cond (j == i) x (f j)

abbrev pub sum_below : ℕ → (ℕ → ℕ) → ℕ
sum_below zero f = 0
sum_below (suc n) f = f n + sum_below n f

-- How a domain begins: its blocks, how many members an object has, its cells, of which the first are shared, and what
-- each of its first desks has; and whether a block that becomes vacant may keep the 1 in its weak word (own)
pub record Opening : Type 0 where
  pub blocks : ℕ
  pub members : ℕ
  pub owners : ℕ
  pub shared_cells : ℕ
  pub cells : ℕ
  pub allowance : ℕ
  pub desks : ℕ
  pub holder : ℕ → ℕ
  pub share : ℕ → ℕ
  pub keeps_blocks : Bool

-- within the limits; each block is some desk's, and the desks' shares, 1 or more, are the whole allowance
pub record IsOpening (z : Opening) : Type 0 where
  pub limits : (z.blocks ≤ most_blocks) × (z.cells ≤ most_free_cells) × (z.allowance ≤ most_allowance)
  pub members : (3 ≤ z.members) × (z.members ≤ most_members)
  pub owners : (2 ≤ z.owners) × (z.owners < z.members)
  pub room : HasRoomForFunds z.allowance z.owners z.blocks z.cells
      × HasRoomForFunds z.allowance (z.members - z.owners) z.blocks z.cells
  pub holders : (b : ℕ) → z.holder b < z.desks
  pub shares : sum_below z.desks z.share ≡ z.allowance
  pub positive : (d : ℕ) → d < z.desks → 0 < z.share d
  pub beyond : (d : ℕ) → z.desks ≤ d → z.share d ≡ 0

-- An object that is ending is in the hands of one desk: its deleter may run ([util.smartptr.shared.dest])
pub data Phase : Type 0 where
  unmade live gone : Phase
  ending : ℕ → Phase

-- a block's number; four constant fields; whether shared-from-this is enabled ([util.smartptr.enab]); whether
-- the pointer that it owns is null; members 0 first, 1 next, 2 up, and further owners (fields and members: own)
pub record Object : Type 0 where
  pub block : ℕ
  pub fields : List ℕ
  pub enabled : Bool
  pub null : Bool
  pub phase : Phase
  pub member : ℕ → NumberedHandle

pub record Held : Type 0 where
  pub desk : ℕ
  pub handle : NumberedHandle

pub record Stored : Type 0 where
  pub desk : ℕ
  pub block : ℕ

-- Objects have the numbers 1 to made, by their Makes. The object last made in a block is its latest; 0 is none.
-- Vacant blocks are in desks' stores or on the shelf. Desks have the numbers below names; a joined one acts no more.
-- Each has an allowance of handles. Of an object's members the domain uses the first
pub record State : Type 0 where
  pub hands : List Held
  pub stores : List Stored
  pub shelved : ℕ → Bool
  pub made : ℕ
  pub object : ℕ → Object
  pub latest : ℕ → ℕ
  pub shared : ℕ
  pub cells : ℕ
  pub cell : ℕ → NumberedHandle
  pub members : ℕ
  pub owners : ℕ
  pub names : ℕ
  pub joined : ℕ → Bool
  pub allowance : ℕ → ℕ

abbrev pub held : ℕ → NumberedHandle → Held
held d h = record { desk = d; handle = h }

abbrev pub stored : ℕ → ℕ → Stored
stored d b = record { desk = d; block = b }

-- of so many owner members two are 0 and 1, and the others 3 and on; all further ones are weak
abbrev pub kind_of_member : ℕ → ℕ → Kind
kind_of_member owners m = cond (m == 2) Weak (cond (nat_lt owners m) Weak Owner)

abbrev pub kind_of_free : ℕ → ℕ → Kind
kind_of_free shared c = cond (nat_lt c shared) Owner Weak

abbrev pub nobody : ℕ → Object
nobody owners =
    record {
      block = 0;
      fields = [];
      enabled = false;
      null = false;
      phase = unmade;
      member = λ m. empty (kind_of_member owners m);
    }

-- f 0 to f (n - 1), one after another
abbrev pub upto : ℕ → (ℕ → List NumberedHandle) → List NumberedHandle
upto zero f = []
upto (suc n) f = f n ++ upto n f

-- those of an object that has all members that there may be; a domain of fewer leaves the last ones empty
abbrev pub members : Object → List NumberedHandle
members x = upto most_members (λ m. x.member m ∷ [])

abbrev pub in_cells : State → List NumberedHandle
in_cells s = upto s.cells (λ c. s.cell c ∷ []) ++ upto (suc s.made) (λ o. members (s.object o))

-- all handles: those of all bags, then those of all cells
abbrev pub handles : State → List NumberedHandle
handles s = map (λ x. x.handle) s.hands ++ in_cells s

abbrev pub tally : Kind → ℕ → List NumberedHandle → ℕ
tally k o l = length (filter (is_on k o) l)

-- use_count: how many owner handles an object has ([util.smartptr.shared.obs]); how many weak ones (own)
unfoldable pub count : State → ℕ → ℕ
count s o = tally Owner o (handles s)

unfoldable pub weak : State → ℕ → ℕ
weak s o = tally Weak o (handles s)

-- a desk's bag and its store, newest first
abbrev pub bag : State → ℕ → List Held
bag s d = filter (λ x. x.desk == d) s.hands

abbrev pub stock : State → ℕ → List Stored
stock s d = filter (λ x. x.desk == d) s.stores

abbrev pub bag_size : State → ℕ → ℕ
bag_size s d = length (bag s d)

-- 1 while the block is on the shelf
abbrev pub on_shelf : State → ℕ → ℕ
on_shelf s b = cond (s.shelved b) 1 0

-- the desk is there, isn't joined, and has an allowance; it holds no more handles than that (own)
abbrev pub IsActing : State → ℕ → Type 0
IsActing s d = (d < s.names) × (s.joined d ≡ false) × (0 < s.allowance d)

abbrev pub HasRoom : State → ℕ → Type 0
HasRoom s d = bag_size s d ≤ s.allowance d

-- the desk has the whole allowance, so that no other may act (own)
abbrev pub HasWhole : State → ℕ → Type 0
HasWhole s d = s.allowance d ≡ sum_below s.names s.allowance

abbrev pub Has : {A : Type 0} → A → List A → Type 0
Has x [] = ⊥
Has x (y ∷ ys) = (x ≡ y) ⊎ Has x ys

-- one time less
abbrev pub without : {A : Type 0} → (A → A → Bool) → A → List A → List A
without same x [] = []
without same x (y ∷ ys) = cond (same x y) ys (y ∷ without same x ys)

-- each of the things ts goes from its holder to another: `was` and `is` tell what is listed of it
abbrev pub passed : {A T : Type 0} → (A → A → Bool) → (T → A) → (T → A) → List T → List A → List A
passed same was is [] l = l
passed same was is (t ∷ ts) l = is t ∷ passed same was is ts (without same (was t) l)

abbrev pub HasAll : {A T : Type 0} → (A → A → Bool) → (T → A) → List T → List A → Type 0
HasAll same was [] l = Unit {0}
HasAll same was (t ∷ ts) l = Has (was t) l × HasAll same was ts (without same (was t) l)

abbrev pub same_held : Held → Held → Bool
same_held x y = x.desk == y.desk && same_handle x.handle y.handle

abbrev pub same_stored : Stored → Stored → Bool
same_stored x y = x.desk == y.desk && x.block == y.block

-- the object is there or is ending; then its owners hold one weak count together (own)
abbrev pub common : Phase → ℕ
common unmade = 0
common live = 1
common gone = 0
common (ending d) = 1

-- what the weak word counts: the weak handles, and the owners' common one
abbrev pub weak_number : State → ℕ → ℕ
weak_number s o = weak s o + common (s.object o).phase

-- each object that was made in the block is gone, and has no weak handle
abbrev pub IsVacant : State → ℕ → Type 0
IsVacant s b = (o : ℕ) → (s.object o).block ≡ b → weak_number s o ≡ 0

abbrev pub InShape : Opening → ℕ → Type 0
InShape z b = (1 ≤ b) × (b ≤ z.blocks)

abbrev pub all_stored : (ℕ → ℕ) → ℕ → List Stored
all_stored holder zero = []
all_stored holder (suc n) = stored (holder (suc n)) (suc n) ∷ all_stored holder n

-- all blocks are in desks' stores, and all cells are empty ([util.smartptr.atomic.shared], default constructor)
abbrev pub start : Opening → State
start z =
    record {
      hands = [];
      stores = all_stored z.holder z.blocks;
      shelved = λ b. false;
      made = 0;
      object = λ o. nobody z.owners;
      latest = λ b. 0;
      shared = z.shared_cells;
      cells = z.cells;
      cell = λ c. empty (kind_of_free z.shared_cells c);
      members = z.members;
      owners = z.owners;
      names = z.desks;
      joined = λ d. false;
      allowance = z.share;
    }
