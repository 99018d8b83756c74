-- A map is opened bucket by bucket.
use Rattle.std.proofs.Common.{◌≡◌, refl, sym, subst}
use Rattle.std.specs.Prelude.{ℕ, Bool, false, List, [], ◌∷◌, ◌++◌, ◌-◌, length, min, Option, Some}
use Rattle.control_word.specs.declared.model.handle.Kind.TheVariants.{Owner}
use Rattle.control_block.specs.Desks.{DeskNow}
use Rattle.pointers.specs.Objects.{IsField}
use Rattle.pointers.specs.SiteCalls.{Loaded}
use Rattle.pointers.specs.Sites.{Site, member_site}
use Rattle.pointers.specs.declared.known.Known.{Known}
use Rattle.shared_map.specs.Openings.{HasMany, IsMany, Opens, OpensMap}

module _ {V B : Type 0} (o : DeskNow V) (node : B → Known V) (is_entry : B → Bool) where
  -- these buckets are kept, and this is the object of the next one
  abbrev pub Reaches : Site V → List B → Known V → Type 0
  Reaches s [] next = Loaded o Owner s (Some next)
  Reaches s (b ∷ bs) next =
      Loaded o Owner s (Some (node b)) × (is_entry b ≡ false) × Reaches (member_site (node b) 0) bs next

  pub reaches_first : (s t : Site V) (next : Known V) → t ≡ s → Loaded o Owner t (Some next) → Reaches s [] next
  reaches_first s t next same loaded = subst (λ (y : Site V). Loaded o Owner y (Some next)) same loaded

  one_more : (s : Site V) (bs : List B) (b : B) (next : Known V) → Reaches s bs (node b) → is_entry b ≡ false
      → Loaded o Owner (member_site (node b) 0) (Some next) → Reaches s (bs ++ (b ∷ [])) next
  one_more s [] b next reaches new loaded = (reaches, new, loaded)
  one_more s (x ∷ bs) b next (held, old, rest) new loaded =
      (held, old, one_more (member_site (node x) 0) bs b next rest new loaded)

  pub reaches_on : (s at : Site V) (bs cs : List B) (b : B) (now next : Known V) → Reaches s bs now → node b ≡ now
      → is_entry b ≡ false → cs ≡ bs ++ (b ∷ []) → at ≡ member_site now 0 → Loaded o Owner at (Some next)
      → Reaches s cs next
  reaches_on s at bs cs b now next reaches same new more there loaded =
      let before : Reaches s bs (node b) = subst (λ (k : Known V). Reaches s bs k) (sym same) reaches in
      let here : Loaded o Owner (member_site now 0) (Some next) =
      subst (λ (y : Site V). Loaded o Owner y (Some next)) there loaded in
      let after : Loaded o Owner (member_site (node b) 0) (Some next) =
      subst (λ (k : Known V). Loaded o Owner (member_site k 0) (Some next)) (sym same) here in
      subst (λ (xs : List B). Reaches s xs next) (sym more) (one_more s bs b next before new after)

  ends : (s : Site V) (bs : List B) (b : B) → Reaches s bs (node b) → is_entry b ≡ false → OpensMap o node is_entry s bs b
  ends s [] b reaches new = (reaches, new, tt)
  ends s (x ∷ bs) b (held, old, rest) new = (held, old, ends (member_site (node x) 0) bs b rest new)

  pub opens : (s : Site V) (bs : List B) (last : B) (now : Known V) → Reaches s bs now → node last ≡ now
      → is_entry last ≡ false → OpensMap o node is_entry s bs last
  opens s bs last now reaches same new =
      ends s bs last (subst (λ (k : Known V). Reaches s bs k) (sym same) reaches) new

module _ {V B : Type 0} (o : DeskNow V) (node : B → Known V) where
  -- the first bucket's object
  abbrev pub first_of : List B → Known V → Known V
  first_of [] next = next
  first_of (b ∷ bs) next = node b

  first_more : (bs : List B) (b : B) (next : Known V) → first_of (bs ++ (b ∷ [])) next ≡ first_of bs (node b)
  first_more [] b next = refl
  first_more (x ∷ bs) b next = refl

  pub many_on : (m : ℕ) (bs cs : List B) (b : B) (now next : Known V) → IsMany o (first_of bs now) m → node b ≡ now
      → cs ≡ bs ++ (b ∷ []) → IsMany o (first_of cs next) m
  many_on m bs cs b now next many same more =
      let before : IsMany o (first_of bs (node b)) m = subst (λ (k : Known V). IsMany o (first_of bs k) m) (sym same) many in
      let after : IsMany o (first_of (bs ++ (b ∷ [])) next) m =
      subst (λ (k : Known V). IsMany o k m) (sym (first_more bs b next)) before in
      subst (λ (xs : List B). IsMany o (first_of xs next) m) (sym more) after

  pub has_many : (m : ℕ) (bs : List B) (last : B) (now : Known V) → IsMany o (first_of bs now) m → node last ≡ now
      → length bs ≡ m → HasMany o node bs last
  has_many m [] last now many same all =
      let here : IsMany o now 0 = subst (λ (n : ℕ). IsMany o now n) (sym all) many in
      subst (λ (k : Known V). IsMany o k 0) (sym same) here
  has_many m (b ∷ bs) last now many same all = subst (λ (n : ℕ). IsMany o (node b) n) (sym all) many
