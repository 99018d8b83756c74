-- What the calls on a vector of weak pointers say, by those on the vector of their holders. The weak member of a holder
-- has the element (own).
use Rattle.std.specs.Prelude.{◌≡◌, ℕ, Option, None, Some}
use Rattle.control_word.specs.declared.model.handle.Kind.TheVariants.{Weak}
use Rattle.control_block.specs.Desks.{DeskNow}
use Rattle.pointers.specs.Known.{AreOfOne}
use Rattle.pointers.specs.SiteCalls.{Exchanged, Loaded, Locked, Stored}
use Rattle.pointers.specs.Sites.{Site, member_site}
use Rattle.pointers.specs.declared.known.Known.{Known}
use Rattle.shared_vec.specs.Vectors.{Gets, Pops, Pushes}

module _ {V : Type 0} (o : DeskNow V) where
  -- a copy of the weak pointer went into the holder
  abbrev pub Holds : Known V → Known V → Type 0
  Holds holder new = (copy : Known V) × AreOfOne o new copy × Stored o Weak (member_site holder 0) (Some copy)

  -- a load of the holder's weak member gave that; none where there is no holder
  abbrev pub GetsHeld : Option (Known V) → Option (Known V) → Type 0
  GetsHeld None r = r ≡ None
  GetsHeld (Some holder) r = Loaded o Weak (member_site holder 0) r

  abbrev pub GetsWeak : Site V → ℕ → Option (Known V) → Type 0
  GetsWeak s i r = (holder : Option (Known V)) × Gets o s i holder × GetsHeld holder r

  -- an owner of what that is of, just where one remained
  abbrev pub LocksHeld : Option (Known V) → Option (Known V) → Type 0
  LocksHeld None r = r ≡ None
  LocksHeld (Some holder) r = Locked o (member_site holder 0) r

  abbrev pub Locks : Site V → ℕ → Option (Known V) → Type 0
  Locks s i r = (holder : Option (Known V)) × Gets o s i holder × LocksHeld holder r

  -- the holder of an index got the weak pointer; or there is none, and it comes back
  abbrev pub SetsHeld : Option (Known V) → Known V → Option (Known V) → Type 0
  SetsHeld None new r = r ≡ Some new
  SetsHeld (Some holder) new r = (r ≡ None) × Holds holder new

  abbrev pub SetsWeak : Site V → ℕ → Known V → Option (Known V) → Type 0
  SetsWeak s i new r = (holder : Option (Known V)) × Gets o s i holder × SetsHeld holder new r

  -- a holder that got it was pushed
  abbrev pub PushesWeak : Site V → Known V → ℕ → Type 0
  PushesWeak s new n = (holder : Known V) × Holds holder new × Pushes o s holder n

  -- the last holder came out, and what it had came out of it
  abbrev pub TakesHeld : Option (Known V) → Option (Known V) → Type 0
  TakesHeld None r = r ≡ None
  TakesHeld (Some holder) r = Exchanged o Weak (member_site holder 0) None r

  abbrev pub PopsWeak : Site V → Option (Known V) → Type 0
  PopsWeak s r = (holder : Option (Known V)) × Pops o s holder × TakesHeld holder r
