-- What the calls on a trie say, by what is known of handles. A trie's root and the nodes below it are objects with
-- eight members. Such a member holds nothing, an entry, which points at the field that is its key, or a node, which
-- points at the last field (own).
use Rattle.std.specs.Prelude.{◌≡◌, ◌≢◌, ◌*◌, ◌/◌, ◌%◌, ◌^◌, ◌≤◌, ◌==◌, ℕ, suc, zero, Bool, false, true}
use Rattle.std.specs.Prelude.{Option, None, Some}
use Rattle.control_word.specs.declared.model.handle.Kind.TheVariants.{Owner}
use Rattle.control_word.specs.declared.place.Place.{Place}
use Rattle.control_block.specs.Desks.{DeskNow}
use Rattle.pointers.specs.Known.{AreOfOne, pointed}
use Rattle.pointers.specs.Objects.{IsField, MakesPlain}
use Rattle.pointers.specs.SiteCalls.{Compared, Loaded, Stored}
use Rattle.pointers.specs.Sites.{Site, member_site}
use Rattle.pointers.specs.declared.known.Known.{Known}
use Rattle.shared_trie.specs.declared.changes.Occupied.{Occupied}
use Rattle.shared_trie.specs.declared.slot.Swapped.{Swapped}
use Rattle.shared_trie.specs.declared.slot.Swapped.TheVariants.{Back, Out}

-- a key's member of a node of that level: three bits of the key spread over 64, the highest first
abbrev pub number_at : ℕ → ℕ → ℕ
number_at key l = key * 11400714819323198485 % 2 ^ 64 * 2 ^ (3 * l) % 2 ^ 64 / 2 ^ 61

-- a pointer to this place is one to a node
abbrev pub is_node_at : Option Place → Bool
is_node_at None = false
is_node_at (Some p) = p.field == 3

module _ {V : Type 0} where
  abbrev pub member_at : ℕ → ℕ → Known V → Site V
  member_at key l node = member_site node (number_at key l)

  abbrev pub IsNode : Known V → Type 0
  IsNode c = is_node_at (pointed c) ≡ true

  abbrev pub IsEntry : Known V → Type 0
  IsEntry c = is_node_at (pointed c) ≡ false

  -- it is no node
  abbrev pub IsNoNode : Option (Known V) → Type 0
  IsNoNode None = Unit {0}
  IsNoNode (Some c) = IsEntry c

module _ {V : Type 0} (o : DeskNow V) where
  -- from the root down on a key's way, by a load at each node, one comes to this node of a level
  abbrev pub Leads : Known V → ℕ → ℕ → Known V → Type 0
  Leads root key zero node = AreOfOne o root node
  Leads root key (suc l) node =
      (above : Known V) × Leads root key l above × Loaded o Owner (member_at key l above) (Some node) × IsNode node

  -- there the key's way ends: its member of the node held an entry, or nothing
  pub record Ends (root : Known V) (key : ℕ) (node : Known V) (l : ℕ) (held : Option (Known V)) : Type 0 where
    pub leads : Leads root key l node
    pub level : l ≤ 21
    pub loads : Loaded o Owner (member_at key l node) held
    pub entry : IsNoNode held

  -- an entry of the key, if there is one
  abbrev pub IsOf : ℕ → Option (Known V) → Type 0
  IsOf key None = Unit {0}
  IsOf key (Some c) = IsField o c key

  -- what a member held is an entry of the key; or it held nothing, or an entry of another key
  abbrev pub Finds : ℕ → Option (Known V) → Option (Known V) → Type 0
  Finds key held (Some r) = (held ≡ Some r) × IsField o r key
  Finds key None None = Unit {0}
  Finds key (Some c) None = (other : ℕ) × IsField o c other × (other ≢ key)

  -- a copy of the owner of the key's object, which a load gave where the key's way ends
  abbrev pub Gets : Known V → ℕ → Option (Known V) → Type 0
  Gets root key r =
      (node : Known V) × (l : ℕ) × (held : Option (Known V)) × Ends root key node l held × Finds key held r

  -- one step took the entry out of a place; or it was there no more
  abbrev pub Takes : Site V → Known V → Option (Known V) → Type 0
  Takes at c None = (hoped : Option (Known V)) × (after : Option (Known V))
      × Compared o Owner at false (Some c) None false hoped after
  Takes at c (Some r) = (r ≡ c) × ((after : Option (Known V)) × Compared o Owner at false (Some c) None true after None)

  -- one step took out the key's object, where its way ends; or none was there
  abbrev pub Removes : Known V → ℕ → Option (Known V) → Type 0
  Removes root key None = Gets root key None
  Removes root key (Some r) = (node : Known V) × (l : ℕ) × (after : Option (Known V)) × Leads root key l node
      × IsField o r key × Compared o Owner (member_at key l node) false (Some r) None true after None

  -- one step put the pointer into a place that held what was expected, which came out; or it held another, and the
  -- pointer comes back
  abbrev pub Swaps : Site V → Option (Known V) → Known V → Swapped (Known V) → Type 0
  Swaps at old new (Out r) = (r ≡ old)
      × ((after : Option (Known V)) × Compared o Owner at false old (Some new) true after None)
  Swaps at old new (Back b) = b ≡ new

  -- one step put the object where the key's way ends, and took out the entry of the key which was there, if any
  abbrev pub Puts : Known V → ℕ → Known V → Option (Known V) → Type 0
  Puts root key new r = (node : Known V) × (l : ℕ) × (after : Option (Known V)) × Leads root key l node × IsOf key r
      × Compared o Owner (member_at key l node) false r (Some new) true after None

  -- the same of the object's own key
  abbrev pub Inserts : Known V → Known V → Option (Known V) → Type 0
  Inserts root new r = (key : ℕ) × IsField o new key × Puts root key new r

  -- the same where nothing was there; or another object of the key is there, and this one comes back
  abbrev pub PutsIfAbsent : Known V → ℕ → Known V → Option (Occupied (Known V)) → Type 0
  PutsIfAbsent root key new None = Puts root key new None
  PutsIfAbsent root key new (Some r) = (r.back ≡ new) × Gets root key (Some r.there)

  abbrev pub InsertsIfAbsent : Known V → Known V → Option (Occupied (Known V)) → Type 0
  InsertsIfAbsent root new r = (key : ℕ) × IsField o new key × PutsIfAbsent root key new r

  -- it is an owner of a new object without members, and points at the last field
  abbrev pub IsNewNode : Known V → Type 0
  IsNewNode c = (made : Known V) × (value : V) × MakesPlain o value made × AreOfOne o made c × IsNode c

  -- a new node of that level owns the entry, by the member that the entry's key goes by, and came into the place if the
  -- entry was there still
  abbrev pub Sinks : Site V → Known V → ℕ → Bool → Type 0
  Sinks at c l swapped = (key : ℕ) × (new : Known V) × (copy : Known V) × (hoped : Option (Known V))
      × (after : Option (Known V)) × IsField o c key × IsNewNode new × AreOfOne o c copy × (pointed copy ≡ pointed c)
      × Stored o Owner (member_at key l new) (Some copy)
      × Compared o Owner at false (Some c) (Some new) swapped hoped after
