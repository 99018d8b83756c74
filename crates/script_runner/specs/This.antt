-- What the calls that give pointers to an object itself say, and the aliasing constructor.
use Rattle.std.specs.Prelude.{◌≡◌, ℕ, Option}
use Rattle.control_word.specs.declared.place.Place.{Place}
use Rattle.control_word.specs.declared.refusal.Refusal.{Refusal}
use Rattle.control_block.specs.declared.handles.Held.TheVariants.{Owner}
use Rattle.control_block.specs.declared.handles.Shared.{Shared}
use Rattle.shared_handle.specs.Calls as inner
use Rattle.shared_handle.specs.Endings.{MayGiveThis, WhyNotThis}
use Rattle.script_runner.specs.SlotCalls.{Comes, IsOwner, IsWeak}
use Rattle.script_runner.specs.Tables.{IsAt, TableNow}

module _ {V : Type 0} where
  -- an owner of the object that points at its first field ([util.smartptr.enab])
  pub record SharesThis (t : TableNow V) (from to : ℕ) (u : TableNow V) : Type 0 where
    pub of : Shared
    pub at : IsAt t from (Owner of)
    pub may : MayGiveThis t.desk of.block of.place
    pub this : Comes (IsOwner (λ d k e. (k.block ≡ of.block) × inner.IsOfThis k.block k.place
        × inner.SharesOwner d of.block of.place k.place e)) t to u

  -- and a weak handle
  pub record SharesThisWeakly (t : TableNow V) (from to : ℕ) (u : TableNow V) : Type 0 where
    pub of : Shared
    pub at : IsAt t from (Owner of)
    pub may : MayGiveThis t.desk of.block of.place
    pub this : Comes (IsWeak (λ d k e. (k.block ≡ of.block) × inner.IsOfThis k.block k.place
        × inner.SharesWeakly d k.block k.place e)) t to u

  -- the owner gives none
  abbrev pub IsNoThis : TableNow V → ℕ → Refusal → Type 0
  IsNoThis t of why = (h : Shared) × IsAt t of (Owner h) × WhyNotThis t.desk h.block h.place why

  -- an owner of what the owner owns, which points at a place ([util.smartptr.shared.const])
  pub record Aliases (t : TableNow V) (from : ℕ) (p : Option Place) (to : ℕ) (u : TableNow V) : Type 0 where
    pub of : Shared
    pub at : IsAt t from (Owner of)
    pub copy : Comes
        (IsOwner (λ d k e. (k.block ≡ of.block) × (k.place ≡ p)
        × inner.SharesOwner d of.block of.place p e)) t to u
