-- What each event asks of the state, and what it makes of it.
use Rattle.std.specs.Prelude.{◌≡◌, ℕ, suc, ◌+◌, ◌-◌, ◌<◌, ◌≤◌, ◌≢◌, Bool, true, false}
use Rattle.std.specs.Prelude.{cond, ◌&&◌, not, ◌==◌, ◌⊎◌}
use Rattle.std.specs.Prelude.{List, ◌∷◌, map, length, slice_index}
use Rattle.std.specs.Prelude.{Option, Some, None}
use Rattle.control_word.specs.declared.model.handle.NumberedHandle.{NumberedHandle}
use Rattle.control_word.specs.declared.place.Place.{Place}
use Rattle.control_word.specs.declared.place.Block.{Block}
use Rattle.control_word.specs.declared.model.handle.Kind.{Kind}
use Rattle.control_word.specs.declared.model.handle.Kind.TheVariants.{Owner, Weak}
use Rattle.control_word.specs.declared.model.event.Event.{Event}
use Rattle.control_word.specs.declared.model.event.Event.TheVariants.{Make, Share, Leave, Count, Expired, Read}
use Rattle.control_word.specs.declared.model.event.Event.TheVariants.{WeakShare}
use Rattle.control_word.specs.declared.model.event.Event.TheVariants.{WeakLeave, Lock, Load, Swap}
use Rattle.control_word.specs.declared.model.event.Event.TheVariants.{Compare, ClearMember, Finish, Visit, Split, Join}
use Rattle.control_word.specs.declared.model.event.Event.TheVariants.{Same, Shelve, Unshelve}
use Rattle.control_word.specs.declared.model.event.Cell.{Cell}
use Rattle.control_word.specs.declared.model.event.Cell.TheVariants.{Free, Member}
use Rattle.control_word.specs.Handles.{handle, empty, object_of, has_object, equivalent, IsPointer, IsFormed}
use Rattle.control_word.specs.State.{put, Phase, unmade, live, ending, gone, Object, Held, Stored, State, held, stored}
use Rattle.control_word.specs.State.{kind_of_free, kind_of_member}
use Rattle.control_word.specs.State.{passed, HasAll, count, weak, Has, without, same_held, same_stored, IsActing}
use Rattle.control_word.specs.State.{HasWhole}

abbrev pub is_gone : Phase → Bool
is_gone unmade = false
is_gone live = false
is_gone gone = true
is_gone (ending d) = false

-- h is in d's bag, is of this kind and has an object
abbrev pub Holds : State → ℕ → Kind → NumberedHandle → Type 0
Holds s d k h = Has (held d h) s.hands × (h.kind ≡ k) × (h.object ≡ Some (object_of h))

abbrev pub cell_of : State → Cell → NumberedHandle
cell_of s (Free c) = s.cell c
cell_of s (Member o m) = (s.object o).member m

abbrev pub kind_of : State → Cell → Kind
kind_of s (Free c) = kind_of_free s.shared c
kind_of s (Member o m) = kind_of_member s.owners m

-- the cell is free, or a member of an object of which d has an owner (own)
abbrev pub IsOpen : State → ℕ → Cell → Type 0
IsOpen s d (Free c) = c < s.cells
IsOpen s d (Member o m) = (m < s.members) × ((h : NumberedHandle) × Holds s d Owner h × (object_of h ≡ o))

-- h is well formed and of this kind, and empty or in d's bag
abbrev pub InHand : State → ℕ → Kind → NumberedHandle → Type 0
InHand s d k h = (h.kind ≡ k) × (((h.object ≡ None) × IsFormed h) ⊎ Holds s d k h)

abbrev pub place_at : ℕ → Option Place
place_at b = Some record { block = record { 0 = b }; field = 0 }

-- where a new object's owner points: to the object, or nowhere for an owned null
abbrev pub origin : ℕ → Bool → Option Place
origin b null = cond null None (place_at b)

module _ {V : Type 0} where
  -- what desk d's event asks, with its reply
  abbrev pub Asks : State → ℕ → Event V → Type 0
  -- make_shared; a constructor from a null pointer ([util.smartptr.shared.create], [util.smartptr.shared.const])
  Asks s d (Make b enabled null fields value) = Has (stored d b.0) s.stores × (length fields ≡ 4)
  -- copying, aliasing, shared_from_this ([util.smartptr.shared.const], [util.smartptr.enab])
  Asks s d (Share h p) = Holds s d Owner h × IsPointer p
  -- ending an owner: the last one's leave is `last` ([util.smartptr.shared.dest])
  Asks s d (Leave h last) = Holds s d Owner h × (last ≡ (count s (object_of h) == 1))
  -- use_count ([util.smartptr.shared.obs], [util.smartptr.weak.obs]): 0 exactly where there is no owner, never more
  -- than there are, and just as many to a desk that has the whole allowance; other desks' loads may be under way
  Asks s d (Count h n) =
      let owners = count s (object_of h) in
      Holds s d h.kind h × ((n == 0) ≡ (owners == 0)) × (n ≤ owners) × (HasWhole s d → n ≡ owners)
  -- expired ([util.smartptr.weak.obs])
  Asks s d (Expired h expired) = Holds s d h.kind h × (expired ≡ (count s (object_of h) == 0))
  -- a field of the owned object at the handle's place (own)
  Asks s d (Read h field) =
      Holds s d Owner h
      × ((p : Place) × (h.place ≡ Some p) × (p.block.0 ≡ (s.object (object_of h)).block)
      × (field ≡ slice_index (s.object (object_of h)).fields p.field))
  -- a weak handle from a handle of the object, with its place or the object's own, or from-this in an ending object
  Asks s d (WeakShare o p) =
      ((h : NumberedHandle) × Holds s d h.kind h × (h.object ≡ Some o)
      × ((p ≡ h.place) ⊎ (p ≡ place_at (s.object o).block)))
      ⊎ (((s.object o).phase ≡ ending d) × ((s.object o).enabled ≡ true) × (p ≡ place_at (s.object o).block))
  -- ending a weak handle ([util.smartptr.weak.dest]); `vacant` where the block is free again (own)
  Asks s d (WeakLeave h vacant) =
      Holds s d Weak h × (vacant ≡ (weak s (object_of h) == 1 && is_gone (s.object (object_of h)).phase))
  -- lock, which is one atomic operation ([util.smartptr.weak.obs])
  Asks s d (Lock h got) = Holds s d Weak h × (got ≡ not (count s (object_of h) == 0))
  -- load, store or exchange, and compare_exchange ([util.smartptr.atomic.shared], [util.smartptr.atomic.weak])
  Asks s d (Load c got) = IsOpen s d c × (got ≡ cell_of s c)
  Asks s d (Swap c new old) = IsOpen s d c × InHand s d (kind_of s c) new × (old ≡ cell_of s c)
  Asks s d (Compare c expected new h swapped weak) =
      IsOpen s d c × InHand s d (kind_of s c) expected × InHand s d (kind_of s c) new × (h ≡ cell_of s c)
      × ((swapped ≡ equivalent h expected) ⊎ ((weak ≡ true) × (swapped ≡ false)))
  -- whether a load would give an equivalent handle, as compare_exchange compares ([util.smartptr.atomic.shared]; own)
  Asks s d (Same c h same) = IsOpen s d c × InHand s d (kind_of s c) h × (same ≡ equivalent (cell_of s c) h)
  -- a member goes out of an ending object (own)
  Asks s d (ClearMember o m h) = ((s.object o).phase ≡ ending d) × (m < s.members) × (h ≡ (s.object o).member m)
  -- the object is gone and its value comes out; `vacant` where no weak handle is left (own)
  Asks s d (Finish o vacant value) =
      ((s.object o).phase ≡ ending d)
      × ((m : ℕ) → m < s.members → (s.object o).member m ≡ empty (kind_of_member s.owners m))
      × (vacant ≡ (weak s o == 0))
  -- work on the value through an owner (own)
  Asks s d (Visit h was becomes) = Holds s d Owner h
  -- a new desk gets an allowance, handles and blocks; each of the two keeps an allowance (own)
  Asks s d (Split to n hs bs) =
      (to ≡ s.names) × (0 < n) × (n < s.allowance d) × (length hs ≤ n)
      × HasAll same_held (λ (h : NumberedHandle). held d h) hs s.hands
      × HasAll same_stored (λ (b : Block). stored d b.0) bs s.stores
  Asks s d (Join other) = (other ≢ d) × IsActing s other
  -- a vacant block goes to the shelf, and from it to any desk's store (own)
  Asks s d (Shelve b) = Has (stored d b.0) s.stores
  Asks s d (Unshelve b) = s.shelved b.0 ≡ true

-- d gets the handle, if it has an object
abbrev pub gets : ℕ → NumberedHandle → State → State
gets d h s = record s { hands = cond (has_object h) (held d h ∷ s.hands) s.hands }

abbrev pub loses : ℕ → NumberedHandle → State → State
loses d h s = record s { hands = cond (has_object h) (without same_held (held d h) s.hands) s.hands }

abbrev pub changes : ℕ → Object → State → State
changes o x s = record s { object = put s.object o x }

abbrev pub fills : Cell → NumberedHandle → State → State
fills (Free c) h s = record s { cell = put s.cell c h }
fills (Member o m) h s = let x = s.object o in changes o (record x { member = put x.member m h }) s

-- the cell holds the new handle, and d gets the old one
abbrev pub swaps : ℕ → Cell → NumberedHandle → NumberedHandle → State → State
swaps d c new old s = gets d old (fills c new (loses d new s))

abbrev pub renamed : ℕ → ℕ → ℕ → ℕ
renamed other d x = cond (x == other) d x

abbrev pub handed : ℕ → ℕ → Phase → Phase
handed other d unmade = unmade
handed other d live = live
handed other d gone = gone
handed other d (ending e) = ending (renamed other d e)

abbrev pub moved_to : Phase → Object → Object
moved_to p x = record x { phase = p }

-- a block that became vacant goes to d's store
abbrev pub vacates : Bool → ℕ → ℕ → State → State
vacates v d b s = record s { stores = cond v (stored d b ∷ s.stores) s.stores }

-- the owner goes, and the last one's object is ending with d
abbrev pub leaves : ℕ → NumberedHandle → Bool → State → State
leaves d h last s =
    let x = s.object (object_of h) in
    record s {
      hands = without same_held (held d h) s.hands;
      object = put s.object (object_of h) (cond last (moved_to (ending d) x) x);
    }

abbrev pub weak_leaves : ℕ → NumberedHandle → Bool → State → State
weak_leaves d h vacant s = vacates vacant d (s.object (object_of h)).block (loses d h s)

-- the member is empty, and d gets what it held
abbrev pub clears : ℕ → ℕ → ℕ → NumberedHandle → State → State
clears d o m h s =
    let x = s.object o in
    gets d h (changes o (record x { member = put x.member m (empty (kind_of_member s.owners m)) }) s)

abbrev pub finishes : ℕ → ℕ → Bool → State → State
finishes d o vacant s = let x = s.object o in vacates vacant d x.block (changes o (moved_to gone x) s)

-- a new desk gets an allowance, handles and blocks of d's
abbrev pub splits_off : ℕ → ℕ → ℕ → List NumberedHandle → List Block → State → State
splits_off d to n hs bs s =
    record s {
      hands = passed same_held (λ (h : NumberedHandle). held d h) (λ h. held to h) hs s.hands;
      stores = passed same_stored (λ (b : Block). stored d b.0) (λ b. stored to b.0) bs s.stores;
      names = suc s.names;
      allowance = put (put s.allowance d (s.allowance d - n)) to n;
    }

-- all that the other desk has is d's
abbrev pub joins_up : ℕ → ℕ → State → State
joins_up d other s =
    record s {
      hands = map (λ (x : Held). held (renamed other d x.desk) x.handle) s.hands;
      stores = map (λ (x : Stored). stored (renamed other d x.desk) x.block) s.stores;
      object = λ o. let x = s.object o in moved_to (handed other d x.phase) x;
      joined = put s.joined other true;
      allowance = put (put s.allowance d (s.allowance d + s.allowance other)) other 0;
    }

abbrev pub shelves : ℕ → ℕ → State → State
shelves d b s =
    record s { stores = without same_stored (stored d b) s.stores; shelved = put s.shelved b true }

abbrev pub unshelves : ℕ → ℕ → State → State
unshelves d b s = record s { stores = stored d b ∷ s.stores; shelved = put s.shelved b false }

abbrev pub new_object : ℕ → ℕ → Bool → Bool → List ℕ → Object
new_object owners b enabled null fields =
    record {
      block = b;
      fields = fields;
      enabled = enabled;
      null = null;
      phase = live;
      member = λ m. empty (kind_of_member owners m);
    }

module _ {V : Type 0} where
  -- what desk d's event makes of the state
  abbrev pub after : State → ℕ → Event V → State
  after s d (Make b enabled null fields value) =
      record s {
        hands = held d (handle Owner (Some (suc s.made)) (origin b.0 null)) ∷ s.hands;
        stores = without same_stored (stored d b.0) s.stores;
        made = suc s.made;
        object = put s.object (suc s.made) (new_object s.owners b.0 enabled null fields);
        latest = put s.latest b.0 (suc s.made);
      }
  after s d (Share h p) = record s { hands = held d (handle Owner h.object p) ∷ s.hands }
  after s d (Leave h last) = leaves d h last s
  after s d (Count h n) = s
  after s d (Expired h expired) = s
  after s d (Read h field) = s
  after s d (WeakShare o p) = record s { hands = held d (handle Weak (Some o) p) ∷ s.hands }
  after s d (WeakLeave h vacant) = weak_leaves d h vacant s
  after s d (Lock h got) = record s { hands = cond got (held d (handle Owner h.object h.place) ∷ s.hands) s.hands }
  after s d (Load c got) = gets d got s
  after s d (Swap c new old) = swaps d c new old s
  after s d (Compare c expected new h true weak) = swaps d c new h s
  after s d (Compare c expected new h false weak) = gets d h s
  after s d (Same c h same) = s
  after s d (ClearMember o m h) = clears d o m h s
  after s d (Finish o vacant value) = finishes d o vacant s
  after s d (Visit h was becomes) = s
  after s d (Split to n hs bs) = splits_off d to n hs bs s
  after s d (Join other) = joins_up d other s
  after s d (Shelve b) = shelves d b.0 s
  after s d (Unshelve b) = unshelves d b.0 s
