-- What the calls on a map say, by what is known of handles. An entry of a key is an object that was made with the key
-- as its first field, with an owner in its member `first` and a weak pointer in `up` (own).
use Rattle.std.specs.Prelude.{◌≡◌, ◌⊎◌, ℕ, Bool, false, true, Option, None, Some}
use Rattle.control_word.specs.declared.model.handle.Kind.TheVariants.{Owner, Weak}
use Rattle.control_block.specs.Desks.{DeskNow}
use Rattle.pointers.specs.Objects.{IsField}
use Rattle.pointers.specs.declared.known.Known.{Known}
use Rattle.pointers.specs.Cells.{IsOwnerOf}
use Rattle.pointers.specs.SiteCalls.{Compared, Exchanged, Loaded, Locked}
use Rattle.pointers.specs.Sites.{member_site}

module _ {V : Type 0} where
  -- an answer is that of no entry, or of one of the key
  abbrev pub OfEntry : DeskNow V → ℕ → (Known V → Type 0) → Type 0 → Type 0
  OfEntry o key Of OfNone = OfNone ⊎ ((e : Known V) × IsField o e key × Of e)

  -- a copy of the key's owner, which one step on the entry's member gave
  abbrev pub Gets : DeskNow V → ℕ → Option (Known V) → Type 0
  Gets o key r =
      OfEntry o key (λ e. Loaded o Owner (member_site e 0) r) (r ≡ None)

  -- the key's owner, which one step took out
  abbrev pub Removes : DeskNow V → ℕ → Option (Known V) → Type 0
  Removes o key r =
      OfEntry o key (λ e. Exchanged o Owner (member_site e 0) None r) (r ≡ None)

  -- the owner that the key had, which one step exchanged for the new one
  abbrev pub Inserts : DeskNow V → ℕ → Known V → Option (Known V) → Type 0
  Inserts o key new r = (e : Known V) × IsField o e key
      × Exchanged o Owner (member_site e 0) (Some new) r

  -- the owner that the key has, or none where one step put the new one there
  abbrev pub InsertsIn : DeskNow V → Known V → Known V → Option (Known V) → Type 0
  InsertsIn o e new r = (swapped : Bool) × (after : Option (Known V))
      × Compared o Owner (member_site e 0) false None (Some new) swapped r after

  abbrev pub InsertsIfAbsent : DeskNow V → ℕ → Known V → Option (Known V) → Type 0
  InsertsIfAbsent o key new r = (e : Known V) × IsField o e key × InsertsIn o e new r

  -- the same of weak pointers
  abbrev pub GetsWeak : DeskNow V → ℕ → Option (Known V) → Type 0
  GetsWeak o key r = OfEntry o key (λ e. Loaded o Weak (member_site e 0) r) (r ≡ None)

  abbrev pub RemovesWeak : DeskNow V → ℕ → Option (Known V) → Type 0
  RemovesWeak o key r =
      OfEntry o key (λ e. Exchanged o Weak (member_site e 0) None r) (r ≡ None)

  abbrev pub InsertsWeak : DeskNow V → ℕ → Known V → Option (Known V) → Type 0
  InsertsWeak o key new r = (e : Known V) × IsField o e key
      × Exchanged o Weak (member_site e 0) (Some new) r

  -- an owner of what the key's weak pointer is of, just where one remained
  abbrev pub LocksIn : DeskNow V → Known V → Option (Known V) → Type 0
  LocksIn o e r =
      Locked o (member_site e 0) r

  abbrev pub Locks : DeskNow V → ℕ → Option (Known V) → Type 0
  Locks o key r = OfEntry o key (λ e. LocksIn o e r) (r ≡ None)

  -- the weak pointer went into the entry's member where that held none, or one that no owner remained of; or else an
  -- owner of what it held
  abbrev pub Replaces : DeskNow V → Known V → Known V → Option (Known V) → Type 0
  Replaces o e new None = (w : Option (Known V)) × (w' : Option (Known V)) × IsOwnerOf o w None
      × Compared o Weak (member_site e 0) false w (Some new) true w' None
  Replaces o e new (Some r) = LocksIn o e (Some r)

  abbrev pub InsertsWeakIfExpired : DeskNow V → ℕ → Known V → Option (Known V) → Type 0
  InsertsWeakIfExpired o key new r = (e : Known V) × IsField o e key × Replaces o e new r
