-- What each kind of step tells.
use Rattle.std.specs.Prelude.{◌≡◌, ◌≢◌, ◌⊎◌, ◌-◌, ◌%◌, Bool, length, slice_index, slice_set}
use Rattle.std.specs.Prelude.{ℕ, zero, suc, ◌+◌, ◌<◌, ◌≤◌, ◌==◌}
use Rattle.std.specs.Prelude.{true, false, List, [], ◌∷◌, ◌++◌, Option, Some, None}
use Rattle.atomic_table.specs.Table.{Me, Step}
use Rattle.control_word.specs.declared.model.event.Entry.{Entry}
use Rattle.control_word.specs.declared.model.event.Event.{Event}
use Rattle.control_word.specs.declared.model.event.Event.TheVariants.{Share, WeakShare, WeakLeave, Count, Expired, Read}
use Rattle.control_word.specs.declared.model.event.Event.TheVariants.{Leave, Make, Finish, Split, Join}
use Rattle.control_word.specs.declared.model.handle.NumberedHandle.{NumberedHandle}
use Rattle.control_word.specs.declared.model.handle.Kind.{Kind}
use Rattle.control_word.specs.declared.place.Block.{Block}
use Rattle.control_word.specs.declared.place.Place.{Place}
use Rattle.control_word.specs.declared.model.view.Pending.{Pending}
use Rattle.control_word.specs.declared.model.view.Pending.TheVariants.{Idle, Making, Parting, Merging}
use Rattle.control_word.specs.Events.{place_at}
use Rattle.control_word.specs.Handles.{empty, handle, owner, weak_of}
use Rattle.control_word.specs.Histories.{entry, leads, value, IsLegal}
use Rattle.control_word.specs.Packing.{told}
use Rattle.control_word.specs.Words.{flags_of}
use Rattle.control_word.specs.State.{Object, State, Has, HasAll, ending, kind_of_member, same_held, same_stored, stored}
use Rattle.control_word.specs.State.{held, bag_size, count}
use Rattle.control_word.specs.Views.{NoneBy, Knows, comes, together, used_up}
use Rattle.control_block.specs.Rule.{members_of, opening_of, seeing}
use Rattle.control_block.specs.declared.table.SeatView.{SeatView}

-- what word j of an object's flags and fields tells: word 0 the flags, which may have a shut door beside them
abbrev pub IsTold : ℕ → Object → ℕ → Type 0
IsTold zero x n = n % 4 ≡ flags_of x.enabled x.null
IsTold (suc k) x n = n ≡ slice_index x.fields k

-- a seat: its view and the slots that it has
abbrev pub At : Type 0 → Type 0
At V = Me (Option V) (SeatView V)

module _ {V : Type 0} where
  -- the state as the seat sees it
  abbrev pub known : SeatView V → State
  known v = leads (opening_of v.shape) v.view.seen

  -- the desk has now seen all of the history so far, to which this event of its own was added
  pub record Added (v : SeatView V) (p : Pending V) (c : Option Block) (e : Event V) (w : SeatView V) : Type 0 where
    pub between : List (Entry V)
    pub now : w ≡ seeing v p c (entry v.view.name e ∷ (between ++ v.view.seen))
    pub quiet : NoneBy v.view.name between
    pub legal : IsLegal (opening_of v.shape) w.view.seen

  -- the desk has now seen all of the history so far, and its call goes on
  pub record Moved (v : SeatView V) (p : Pending V) (c : Option Block) (w : SeatView V) : Type 0 where
    pub between : List (Entry V)
    pub now : w ≡ seeing v p c (between ++ v.view.seen)
    pub quiet : NoneBy v.view.name between
    pub legal : IsLegal (opening_of v.shape) w.view.seen

  -- no call is half done, and no slot in hand
  pub record Rests (me : Me (Option V) (SeatView V)) : Type 0 where
    pub awake : me.0.view.spent ≡ false
    pub idle : me.0.view.pending ≡ Idle
    pub empty : me.0.hand ≡ None
    pub none : me.1 ≡ []

  -- by what it has seen the desk has this handle, of the object in block b
  pub record HoldingInBlock (v : SeatView V) (k : Kind) (o : ℕ) (p : Option Place) (b : ℕ) : Type 0 where
    pub has : Has (held v.view.name (handle k (Some o) p)) (known v).hands
    pub there : ((known v).object o).block ≡ b

  -- by what it has seen, object o in block b is ending in the desk's hands
  abbrev pub Ends : SeatView V → ℕ → ℕ → Type 0
  Ends v o b = ((known v).latest b ≡ o) × (((known v).object o).phase ≡ ending v.view.name)

  -- by what it has seen, the members of object o hold nothing
  abbrev pub IsClear : SeatView V → ℕ → Type 0
  IsClear v o =
      (m : ℕ) → m < members_of v.shape → ((known v).object o).member m ≡ empty (kind_of_member v.shape.owners m)

  -- a weak handle with place q may come from a handle that the desk holds, or by from-this from an ending of its
  abbrev pub MayShareWeakly : SeatView V → ℕ → ℕ → Option Place → Type 0
  MayShareWeakly v o b q =
      ((m : Kind) × (p : Option Place) × HoldingInBlock v m o p b × ((q ≡ p) ⊎ (q ≡ place_at b)))
      ⊎ (Ends v o b × (((known v).object o).enabled ≡ true) × (q ≡ place_at b))

  -- the desk has a handle of the object in this block, or it ends in its hands
  abbrev pub IsNearObject : SeatView V → ℕ → ℕ → Type 0
  IsNearObject v o b = ((m : Kind) × (p : Option Place) × HoldingInBlock v m o p b) ⊎ Ends v o b

  abbrev pub HasRoomFor : SeatView V → Type 0
  HasRoomFor v = bag_size (known v) v.view.name < (known v).allowance v.view.name

  -- one event, which leaves the slots alone
  abbrev pub tells : Event V → SeatView V → SeatView V → Type 0
  tells e v w = Added v Idle None e w

  -- a share of the owner of o with place p, which wants the place q
  abbrev pub shared : ℕ → Option Place → Option Place → Step (Option V) → At V → ℕ → At V → Type 0
  shared o p q st m n m' = tells (Share (owner o p) q) m.0 m'.0 × (m'.1 ≡ m.1)

  abbrev pub weakly_shared : ℕ → Option Place → Step (Option V) → At V → ℕ → At V → Type 0
  weakly_shared o q st m n m' = tells (WeakShare o q) m.0 m'.0 × (m'.1 ≡ m.1)

  -- the weak handle left; its block is vacant where the word was all that was taken from it
  abbrev pub weakly_left : ℕ → Option Place → Step (Option V) → At V → ℕ → At V → Type 0
  weakly_left o p st m n m' = tells (WeakLeave (weak_of o p) (n == st.first)) m.0 m'.0 × (m'.1 ≡ m.1)

  -- a desk that has the whole allowance is told the count itself
  abbrev pub counted : Kind → ℕ → Option Place → Step (Option V) → At V → ℕ → At V → Type 0
  counted k o p st m n m' =
      tells (Count (handle k (Some o) p) (told n)) m.0 m'.0 × (m'.1 ≡ m.1)
      × ((known m'.0).allowance m.0.view.name ≡ m.0.shape.allowance → told n ≡ count (known m'.0) o)

  abbrev pub found_expired : ℕ → Option Place → Step (Option V) → At V → ℕ → At V → Type 0
  found_expired o p st m n m' = tells (Expired (weak_of o p) (n == 0)) m.0 m'.0 × (m'.1 ≡ m.1)

  abbrev pub read : ℕ → Option Place → Step (Option V) → At V → ℕ → At V → Type 0
  read o p st m n m' = tells (Read (owner o p) n) m.0 m'.0 × (m'.1 ≡ m.1)

  -- a flag or a field was told, and the seat is as it was
  abbrev pub peeked : ℕ → ℕ → Step (Option V) → At V → ℕ → At V → Type 0
  peeked o j st m n m' = (m' ≡ m) × IsTold j ((known m.0).object o) n

  -- the owner left; where it was the last, as the word was all that was taken from it, its object ends here, and the
  -- slot with the value is in hand
  abbrev pub left : Block → ℕ → Option Place → Step (Option V) → At V → ℕ → At V → Type 0
  left b o p st m n m' =
      (n ≢ st.first → tells (Leave (owner o p) false) m.0 m'.0 × (m'.1 ≡ m.1))
      × (n ≡ st.first → Added m.0 Idle (Some b) (Leave (owner o p) true) m'.0
      × ((x : V) × (value (opening_of m.0.shape) m'.0.view.seen o ≡ Some x)
      × (m'.1 ≡ (b.0 - 1, Some x) ∷ m.1) × Ends m'.0 o b.0))

  -- the slot of an object that ends is in hand, with the value, and the desk has seen no more
  abbrev pub fetched : Block → ℕ → Step (Option V) → At V → ℕ → At V → Type 0
  fetched b o st m n m' =
      (x : V) × (value (opening_of m.0.shape) m.0.view.seen o ≡ Some x)
      × (m'.0 ≡ seeing m.0 Idle (Some b) m.0.view.seen)
      × (m'.1 ≡ (b.0 - 1, Some x) ∷ [])

  -- the slot of an object that ends goes home, with its value, and the desk has seen no more
  abbrev pub gave_back : Step (Option V) → At V → ℕ → At V → Type 0
  gave_back st m n m' = (m'.0 ≡ seeing m.0 Idle None m.0.view.seen) × (m'.1 ≡ [])

  -- the weak word of an own vacant block is written, and its slot is in hand
  abbrev pub began : Block → Step (Option V) → At V → ℕ → At V → Type 0
  began b st m n m' = (l : List ℕ) × (length l ≡ 5) × Moved m.0 (Making b l) (Some b) m'.0
      × (m'.1 ≡ (b.0 - 1, None) ∷ m.1)

  -- the same by a look, where the weak word is 1 already; else nothing has changed
  abbrev pub found_begun : Block → Step (Option V) → At V → ℕ → At V → Type 0
  found_begun b st m n m' = (n ≡ 1 → began b st m n m') × (n ≢ 1 → m' ≡ m)

  -- what a make knows of its block's flags and fields
  abbrev pub prepared : Pending V → List ℕ
  prepared (Making b l) = l
  prepared _ = []

  -- word j of the flags and fields is n
  abbrev pub wrote : Block → ℕ → Step (Option V) → At V → ℕ → At V → Type 0
  wrote b j st m n m' = Moved m.0 (Making b (slice_set (prepared m.0.view.pending) j n)) (Some b) m'.0 × (m'.1 ≡ m.1)

  -- the object is made, with the value that is in the slot, which goes home
  abbrev pub made : Block → Bool → Bool → List ℕ → Step (Option V) → At V → ℕ → At V → Type 0
  made b enabled null fields st m n m' =
      (x : V) × (m.1 ≡ (b.0 - 1, Some x) ∷ [])
      × Added m.0 Idle None (Make b enabled null fields x) m'.0 × (m'.1 ≡ [])

  -- the object is gone, and its slot, from which the value was taken, goes home; the value is the one that it had
  abbrev pub finished : ℕ → Step (Option V) → At V → ℕ → At V → Type 0
  finished o st m n m' =
      (x : V) × (value (opening_of m.0.shape) m.0.view.seen o ≡ Some x)
      × Added m.0 Idle None (Finish o (n == 1) x) m'.0 × (m'.1 ≡ [])

  -- the same by a look, where the weak word is 1; else nothing has changed
  abbrev pub found_finished : ℕ → Step (Option V) → At V → ℕ → At V → Type 0
  found_finished o st m n m' = (n ≡ 1 → finished o st m n m') × (n ≢ 1 → m' ≡ m)

  -- a make that has prepared so much of the block, with this in its slot
  pub record IsPrepared (v : SeatView V) (b : Block) (me : At V) (l : List ℕ) (x : Option V) : Type 0 where
    pub moved : Moved v (Making b l) (Some b) me.0
    pub sized : length l ≡ 5
    pub carried : me.1 ≡ (b.0 - 1, x) ∷ []

  -- by what it has seen the desk may give so much away: it keeps an allowance for its other handles, and 1 at least
  pub record MaySplit (v : SeatView V) (n : ℕ) (hs : List NumberedHandle) (bs : List Block) : Type 0 where
    pub some_given : 0 < n
    pub few : length hs ≤ n
    pub less : n < (known v).allowance v.view.name
    pub fits : bag_size (known v) v.view.name + n ≤ (known v).allowance v.view.name + length hs
    pub handles : HasAll same_held (λ (h : NumberedHandle). held v.view.name h) hs (known v).hands
    pub blocks : HasAll same_stored (λ (b : Block). stored v.view.name b.0) bs (known v).stores

  -- a new name has this allowance, these handles and these blocks
  abbrev pub parted : ℕ → List NumberedHandle → List Block → Step (Option V) → At V → ℕ → At V → Type 0
  parted n hs bs st m found m' = (to : ℕ) × Added m.0 (Parting to) None (Split to n hs bs) m'.0 × (m'.1 ≡ m.1)

  -- the desk with this half-done call, no slot in hand, and no more seen than before
  abbrev pub in_call : SeatView V → Pending V → SeatView V
  in_call v p = seeing v p None v.view.seen

  -- the seat of the desk that goes on, and the new one's
  abbrev pub goes_on : SeatView V → SeatView V
  goes_on v = in_call v Idle

  abbrev pub second_name : Pending V → ℕ
  second_name (Parting to) = to
  second_name _ = 0

  abbrev pub comes_off : SeatView V → SeatView V
  comes_off v = record { shape = v.shape; view = comes v.view (second_name v.view.pending); hand = None }

  -- two seats are one, which has the other's name too
  abbrev pub grown : SeatView V → SeatView V → SeatView V
  grown v w = record { shape = v.shape; view = together v.view w.view; hand = None }

  abbrev pub over : SeatView V
  over = record {
    shape = record { blocks = 0; owners = 0; weaks = 0; shared_cells = 0; weak_cells = 0; allowance = 0 };
    view = used_up;
    hand = None;
  }

  -- what the other had is the desk's
  abbrev pub joined : Step (Option V) → At V → ℕ → At V → Type 0
  joined st m n m' =
      (other : ℕ) × (mine : List (Entry V)) × (others : List (Entry V))
      × (m.0.view.pending ≡ Merging other mine others)
      × (a : Added m.0 Idle None (Join other) m'.0) × NoneBy other a.between × Knows m.0.view.name m.0.view.seen mine
      × Knows other m.0.view.seen others
      × (m'.1 ≡ m.1)

  -- the desk has seen all that either of the two had, in one history with no event of either between, and then its join
  pub record JoinsUp (v w u : SeatView V) : Type 0 where
    pub front : List (Entry V)
    pub mine : Knows v.view.name front v.view.seen
    pub others : Knows w.view.name front w.view.seen
    pub between : List (Entry V)
    pub now : u ≡ seeing v Idle None (entry v.view.name (Join w.view.name) ∷ (between ++ front))
    pub quiet : NoneBy v.view.name between × NoneBy w.view.name between
    pub legal : IsLegal (opening_of v.shape) u.view.seen
