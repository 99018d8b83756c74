-- What it says that a member of an object that ends was emptied.
use Rattle.std.specs.Prelude.{◌≡◌, ℕ, ◌+◌, ◌-◌, IfSome, Option, None, Some}
use Rattle.control_word.specs.declared.model.event.Event.TheVariants.{ClearMember}
use Rattle.control_word.specs.declared.model.handle.Kind.{Kind}
use Rattle.control_word.specs.declared.place.Block.{Block}
use Rattle.control_word.specs.declared.place.Place.{Place}
use Rattle.control_block.specs.CellCalls.{handle_in}
use Rattle.control_block.specs.Desks.{AddsEvent, DeskNow, IsEnding, latest_of, on_latest}
use Rattle.control_block.specs.Leaving.{IsReleasedBy, leave_of, nothing}
use Rattle.control_block.specs.declared.released.Released.{Released}

module _ {V : Type 0} where
  -- what member m of the object in block b held came out, as one handle more (own)
  pub record TakesOut (d : DeskNow V) (b m : ℕ) (k : Kind) (c : Option Block) (p : Option Place)
      (e : DeskNow V) : Type 0 where
    pub event : AddsEvent d (ClearMember (latest_of d b) m (handle_in e k c p)) e
    pub held : e.held ≡ d.held + 1

  -- a handle left ([util.smartptr.shared.dest], [util.smartptr.weak.dest]), an empty one without an event; a value that
  -- it released is that of the object, which ends in the desk's hands
  abbrev pub Lets : Kind → DeskNow V → Option Block → Option Place → Released V → DeskNow V → Type 0
  Lets k d None p r e = (r ≡ nothing) × (e ≡ record d { held = d.held - 1 })
  Lets k d (Some c) p r e = AddsEvent d (leave_of k (on_latest d k p c.0) r) e × IsReleasedBy k r
      × IfSome r.value (IsEnding e c.0)

  -- what a member held came out, and left
  pub record Empties (k : Kind) (d : DeskNow V) (b m : ℕ) (c : Option Block) (p : Option Place) (r : Released V)
      (e : DeskNow V) : Type 0 where
    pub between : DeskNow V
    pub takes : TakesOut d b m k c p between
    pub lets : Lets k between c p r e
