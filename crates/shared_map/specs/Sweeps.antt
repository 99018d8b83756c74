-- What the walks over a map say (own): `retain` and `remove_expired`. A walk goes over one bucket after another, and
-- over the entries of each, from the first to the last.
use Rattle.std.specs.Prelude.{◌≡◌, ◌⊎◌, ◌+◌, ◌++◌, ℕ, Bool, false, true, min}
use Rattle.std.specs.Prelude.{List, [], ◌∷◌, Option, None, Some, Result, Ok, Err}
use Rattle.control_word.specs.declared.model.handle.Kind.TheVariants.{Owner, Weak}
use Rattle.control_block.specs.Desks.{DeskNow}
use Rattle.shared_handle.specs.Calls.{IsExpiry}
use Rattle.pointers.specs.Known.{Since, owned, pointed}
use Rattle.pointers.specs.ListChanges.{AreAlike}
use Rattle.pointers.specs.ListRemovals.{number_if}
use Rattle.pointers.specs.Lists.{Leads, next_of}
use Rattle.pointers.specs.Objects.{IsField}
use Rattle.pointers.specs.declared.fault.Fault.{Fault}
use Rattle.pointers.specs.declared.known.Known.{Known}
use Rattle.shared_map.specs.Refusals.{WhyNotFound}
use Rattle.pointers.specs.SiteCalls.{Compared, Loaded}
use Rattle.pointers.specs.Sites.{member_site}

-- at how many entries something came out
abbrev pub outs : List Bool → ℕ
outs [] = 0
outs (out ∷ rest) = number_if out + outs rest

module _ {V : Type 0} (o : DeskNow V) where
  -- a copy of an entry's owner was that
  abbrev pub HasOwner : Known V → Option (Known V) → Type 0
  HasOwner e c = Loaded o Owner (member_site e 0) c

  -- a copy of its weak pointer was that
  abbrev pub HasWeak : Known V → Option (Known V) → Type 0
  HasWeak e w = Loaded o Weak (member_site e 0) w

  -- one compare took the owner out, where the entry had it still: whether it had
  abbrev pub TakesOwner : Known V → Known V → Bool → Type 0
  TakesOwner e c out = (after : Option (Known V))
      × Compared o Owner (member_site e 0) false (Some c) None out after None

  -- the same of the weak pointer
  abbrev pub TakesWeak : Known V → Option (Known V) → Bool → Type 0
  TakesWeak e w out = (after : Option (Known V))
      × Compared o Weak (member_site e 0) false w None out after None

  -- one look told whether the weak pointer's object has ended
  abbrev pub IsExpired : Option (Known V) → Bool → Type 0
  IsExpired None expired = expired ≡ false
  IsExpired (Some w) expired = Since o w (λ d e. IsExpiry d (owned w) (pointed w) expired e)

  -- an owner that is kept stays
  abbrev pub OwnerLeaves : Known V → Known V → Bool → Bool → Type 0
  OwnerLeaves e c true out = out ≡ false
  OwnerLeaves e c false out = TakesOwner e c out

  -- a weak pointer that has not expired stays
  abbrev pub WeakLeaves : Known V → Option (Known V) → Bool → Bool → Type 0
  WeakLeaves e w false out = out ≡ false
  WeakLeaves e w true out = TakesWeak e w out

  -- an entry's weak pointer was looked at, and came out only if it had expired
  pub record Prunes (e : Known V) (out : Bool) : Type 0 where
    pub weak : Option (Known V)
    pub held : HasWeak e weak
    pub expired : Bool
    pub looked : IsExpired weak expired
    pub leaves : WeakLeaves e weak expired out

  -- the same in a walk, which has no keeper
  abbrev pub PrunesAt : Known V → Unit {0} → Bool → Unit {0} → Type 0
  PrunesAt e s out t = Prunes e out

module _ {V K : Type 0} (Judges : K → ℕ → Known V → Result Bool Fault → K → Type 0) where
  -- the keeper answered of an entry's key and owner, and the owner came out only if it isn't kept
  pub record Judged (o : DeskNow V) (e : Known V) (k : K) (out : Bool) (h : K) : Type 0 where
    pub owner : Known V
    pub held : HasOwner o e (Some owner)
    pub key : ℕ
    pub field : IsField o e key
    pub kept : Bool
    pub judged : Judges k key owner (Ok kept) h
    pub leaves : OwnerLeaves o e owner kept out

  -- or the entry had no owner
  abbrev pub Sifts : DeskNow V → Known V → K → Bool → K → Type 0
  Sifts o e k out h = (HasOwner o e None × (out ≡ false) × (k ≡ h)) ⊎ Judged o e k out h

  -- why a `retain` ended by a fault: the keeper answered it, or a call on the map was refused
  abbrev pub WhyNotRetained : Fault → Type 0
  WhyNotRetained why =
      ((k : K) × (key : ℕ) × (c : Known V) × (h : K) × Judges k key c (Err why) h) ⊎ WhyNotFound why

-- the node where there is one
abbrev pub node_if : {V : Type 0} → Bool → Known V → Option (Known V)
node_if true node = Some node
node_if false node = None

module _ {V : Type 0} (o : DeskNow V) where
  -- of the object that a worker keeps of a bucket: it is the first entry, or its member `next` held that
  abbrev pub LeadsInto : Known V → Bool → Option (Known V) → Type 0
  LeadsInto node true first = first ≡ Some node
  LeadsInto node false first = Leads o (next_of node) first

  -- where the walk over a bucket begins: at an owner more of it
  abbrev pub Begins : Known V → Bool → Option (Known V) → Type 0
  Begins node is_entry c = (first : Option (Known V)) × LeadsInto node is_entry first × AreAlike o first c

module _ {V S : Type 0} (o : DeskNow V) (Does : Known V → S → Bool → S → Type 0) where
  -- from one entry of a bucket to another: what was done at each, and whether something came out. The next one is what
  -- the member `next` held
  abbrev pub Passes : Option (Known V) → S → List Bool → Option (Known V) → S → Type 0
  Passes at s [] end t = (at ≡ end) × (s ≡ t)
  Passes at s (out ∷ rest) end t =
      (e : Known V) × (m : S) × (next : Option (Known V)) × (at ≡ Some e) × Does e s out m
      × Leads o (next_of e) next × Passes next m rest end t

module _ {V B S : Type 0} (o : DeskNow V) (Start : B → Option (Known V) → Type 0)
    (Does : Known V → S → Bool → S → Type 0) where
  -- over all of a bucket
  abbrev pub Sweeps : B → S → List Bool → S → Type 0
  Sweeps b s xs t = (first : Option (Known V)) × Start b first × Passes o Does first s xs None t

  -- the same, and at so many entries something came out, as a number of a machine
  abbrev pub SweepsTo : B → S → S → ℕ → Type 0
  SweepsTo b s t n = (xs : List Bool) × Sweeps b s xs t × (n ≡ min (outs xs) 18446744073709551615)

  -- over all of some buckets, and at so many entries something came out
  abbrev pub SweepsAll : List B → S → ℕ → S → Type 0
  SweepsAll [] s n t = (n ≡ 0) × (s ≡ t)
  SweepsAll (b ∷ bs) s n t =
      (xs : List Bool) × (m : S) × (rest : ℕ) × Sweeps b s xs m × SweepsAll bs m rest t × (n ≡ outs xs + rest)

  -- the same, as a number of a machine
  abbrev pub Counts : List B → S → S → ℕ → Type 0
  Counts bs s t n = (many : ℕ) × SweepsAll bs s many t × (n ≡ min many 18446744073709551615)

  -- over a map: its last bucket stands beside the others
  abbrev pub CountsMap : List B → B → S → S → ℕ → Type 0
  CountsMap bs last s t n = Counts (bs ++ (last ∷ [])) s t n
