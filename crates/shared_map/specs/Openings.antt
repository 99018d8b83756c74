-- What a map that is opened has (own): an object for each bucket, each in the member `first` of the one before, and the
-- first of all in the map's place.
use Rattle.std.specs.Prelude.{◌≡◌, ◌++◌, ◌-◌, ℕ, Bool, false, List, [], ◌∷◌, Some, length, min}
use Rattle.control_word.specs.declared.model.handle.Kind.TheVariants.{Owner}
use Rattle.control_block.specs.Desks.{DeskNow}
use Rattle.pointers.specs.Objects.{IsField}
use Rattle.pointers.specs.SiteCalls.{Loaded}
use Rattle.pointers.specs.Sites.{Site, member_site}
use Rattle.pointers.specs.declared.known.Known.{Known}

-- a map has so many buckets at most
abbrev pub most_buckets : ℕ
most_buckets = 4294967295

-- so many buckets beside the first one, by the first field of that one's object
abbrev pub IsMany : {V : Type 0} → DeskNow V → Known V → ℕ → Type 0
IsMany o first others = (n : ℕ) × IsField o first n × (others ≡ min n most_buckets - 1)

module _ {V B : Type 0} (o : DeskNow V) (node : B → Known V) where
  -- of some buckets and the last one, the first says how many there are
  abbrev pub HasMany : List B → B → Type 0
  HasMany [] last = IsMany o (node last) 0
  HasMany (b ∷ bs) last = IsMany o (node b) (length (b ∷ bs))

module _ {V B : Type 0} (o : DeskNow V) (node : B → Known V) (is_entry : B → Bool) where
  -- the first bucket's object was loaded from the place, each next one's from `first` of the one before, and no entry
  -- is known yet
  abbrev pub Opens : Site V → List B → Type 0
  Opens s [] = Unit {0}
  Opens s (b ∷ bs) = Loaded o Owner s (Some (node b)) × (is_entry b ≡ false) × Opens (member_site (node b) 0) bs

  -- the same of a map: its last bucket stands beside the others
  abbrev pub OpensMap : Site V → List B → B → Type 0
  OpensMap s bs last = Opens s (bs ++ (last ∷ []))
