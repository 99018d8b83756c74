-- What `prune` of observers says (own): which of them went out.
use Rattle.std.specs.Prelude.{◌≡◌, ◌⊎◌, ℕ, Bool, false, not, List, [], ◌∷◌, Option, None, Some, min}
use Rattle.control_word.specs.declared.model.handle.Kind.TheVariants.{Weak}
use Rattle.control_block.specs.Desks.{DeskNow}
use Rattle.shared_handle.specs.Calls.{IsExpiry}
use Rattle.pointers.specs.Known.{Since, owned, pointed}
use Rattle.pointers.specs.ListChanges.{IsListRefused}
use Rattle.pointers.specs.ListRemovals.{IsSifted, Sifted, next_if, outs}
use Rattle.pointers.specs.Lists.{IsMemberRefused, Leads}
use Rattle.pointers.specs.SiteCalls.{Loaded}
use Rattle.pointers.specs.Sites.{Site, member_site}
use Rattle.pointers.specs.declared.fault.Fault.{Fault}
use Rattle.pointers.specs.declared.fault.Fault.TheVariants.{Busy}
use Rattle.pointers.specs.declared.fault.call.Call.TheVariants.{Expired}
use Rattle.pointers.specs.declared.known.Known.{Known}

module _ {V : Type 0} (o : DeskNow V) where
  -- a copy of a node's weak pointer was that
  abbrev pub Watched : Known V → Option (Known V) → Type 0
  Watched node w = Loaded o Weak (member_site node 0) w

  -- one look told whether the subject had an owner
  abbrev pub IsAlive : Known V → Bool → Type 0
  IsAlive w alive =
      (expired : Bool) × Since o w (λ d e. IsExpiry d (owned w) (pointed w) expired e) × (alive ≡ not expired)

  -- a node is kept where its subject had an owner; one that watches nothing isn't
  abbrev pub IsKept : Option (Known V) → Bool → Type 0
  IsKept None kept = kept ≡ false
  IsKept (Some w) kept = IsAlive w kept

  -- from one place of the list to another, each node was asked for so; where one went out, the walk went on from the
  -- same place
  abbrev pub Asks : Site V → Site V → List (Sifted (Known V)) → Site V → Type 0
  Asks list s [] t = s ≡ t
  Asks list s (x ∷ xs) t =
      (c : Known V) × Leads o s (Some c) × Watched c x.element × IsKept x.element x.kept
      × IsSifted o list c x.kept x.out × Asks list (next_if x.kept c s) xs t

  -- the list came to its end so, and that many went out
  pub record Prunes (s : Site V) (n : ℕ) : Type 0 where
    pub observers : List (Sifted (Known V))
    pub at : Site V
    pub asks : Asks s s observers at
    pub ends : Leads o at None
    pub many : n ≡ min (outs observers) 18446744073709551615

  -- or why not: it came within a visit, or a call on the list was refused
  abbrev pub WhyNotPruned : Site V → Fault → Type 0
  WhyNotPruned s why = (why ≡ Busy Expired) ⊎ IsListRefused o (IsMemberRefused o) s why
