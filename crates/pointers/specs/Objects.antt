-- Objects by what is known of their handles.
use Rattle.std.specs.Prelude.{◌≡◌, ℕ, Bool, false, true, List, [], ◌∷◌, slice_index, Option, None, Some}
use Rattle.control_word.specs.declared.model.event.Entry.{Entry}
use Rattle.control_word.specs.declared.model.event.Event.{Event}
use Rattle.control_word.specs.declared.model.event.Event.TheVariants.{Count, Make}
use Rattle.control_word.specs.declared.model.handle.Kind.{Kind}
use Rattle.control_word.specs.declared.place.Block.{Block}
use Rattle.control_word.specs.declared.place.Place.{Place}
use Rattle.control_word.specs.declared.refusal.Refusal.{Refusal}
use Rattle.control_word.specs.declared.refusal.Refusal.TheVariants.{Null, Outside}
use Rattle.control_word.specs.Events.{origin}
use Rattle.control_word.specs.Histories.{IsLegal, entry}
use Rattle.control_block.specs.Desks.{AddsEvent, DeskNow, on_latest}
use Rattle.control_block.specs.Rule.{opening_of}
use Rattle.shared_handle.specs.Endings.{IsOutside}
use Rattle.shared_handle.specs.Locks.{IsLock}
use Rattle.pointers.specs.Known.{GoesOn, desk_at, fields, owned, pointed}
use Rattle.pointers.specs.declared.known.Known.{Known}

-- a block's number, 0 where there is none (own)
abbrev pub number_of_block : Option Block → ℕ
number_of_block None = 0
number_of_block (Some b) = b.0

module _ {V : Type 0} where
  -- the handle came by this event of its desk, which went on legally from when it was opened
  abbrev pub CameBy : DeskNow V → Event V → Known V → Type 0
  CameBy o event c =
      (h : List (Entry V)) × (c.seen ≡ entry o.name event ∷ h) × GoesOn o (desk_at o c)
      × IsLegal (opening_of o.shape) c.seen

  -- it is an owner of an object that was made just then, with these fields and this value, and points at the first
  -- field ([util.smartptr.shared.create]); where the object is enabled, it gives pointers to itself
  -- ([util.smartptr.enab])
  abbrev pub Makes : DeskNow V → Bool → List ℕ → V → Known V → Type 0
  Makes o enabled made x c =
      (fields o c ≡ made)
      × ((b : Block) × (owned c ≡ Some b) × (pointed c ≡ origin b.0 false)
      × CameBy o (Make b enabled false made x) c)

  -- the same of one with fields of 0 that gives none
  abbrev pub MakesPlain : DeskNow V → V → Known V → Type 0
  MakesPlain o = Makes o false (0 ∷ 0 ∷ 0 ∷ 0 ∷ [])

  -- it is an owner of an object that was made just then with this value, and points nowhere
  -- ([util.smartptr.shared.const])
  abbrev pub MakesNull : DeskNow V → V → Known V → Type 0
  MakesNull o x c =
      ((b : Block) × (owned c ≡ Some b) × CameBy o (Make b false true (0 ∷ 0 ∷ 0 ∷ 0 ∷ []) x) c)
      × (pointed c ≡ None)

  -- the field that the handle points at: place and object are of one block ([util.smartptr.shared.obs]; fields: own)
  abbrev pub IsField : DeskNow V → Known V → ℕ → Type 0
  IsField o c n =
      (q : Place) × (pointed c ≡ Some q) × (owned c ≡ Some q.block)
      × (n ≡ slice_index (fields o c) q.field)

  -- or why there is none (own)
  abbrev pub WhyNoField : Known V → Refusal → Type 0
  WhyNoField c Null = pointed c ≡ None
  WhyNoField c Outside = IsOutside (owned c) (pointed c)
  WhyNoField c why = ⊥

  -- a lock of the weak handle found no owner at its step ([util.smartptr.weak.obs])
  abbrev pub FindsNoOwner : DeskNow V → Option Block → Option Place → DeskNow V → Type 0
  FindsNoOwner d None p e = e ≡ d
  FindsNoOwner d (Some b) p e = IsLock d b p false e

  -- a step of the desk told how many owners the object has ([util.smartptr.shared.obs], [util.smartptr.weak.obs])
  abbrev pub IsCounted : DeskNow V → Kind → Option Block → Option Place → ℕ → DeskNow V → Type 0
  IsCounted d k None p n e = (n ≡ 0) × (e ≡ d)
  IsCounted d k (Some b) p n e = AddsEvent d (Count (on_latest d k p b.0) n) e
