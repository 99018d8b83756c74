-- What acts on cells and on the shelf do to the history is what their replies say.
use Rattle.std.proofs.Common.{◌≡◌, ℕ, Bool, true, false, cond, ◌&&◌, Some, None, Option}
use Rattle.std.proofs.Common.{option_map, refl}
use Rattle.step_core.proofs.Prelude.{Block, came, cell_of_name, CellName, Event, held_in, History}
use Rattle.step_core.proofs.Prelude.{is_expected, leads, load_of, Nothing, on_going, Opening}
use Rattle.step_core.proofs.Prelude.{put_on, same_of, shelf_step, Shelve, slot_value, Slots, State}
use Rattle.step_core.proofs.Prelude.{swap_of, Unshelve, Where}
use Rattle.control_word.specs.declared.model.event.Event.TheVariants as event
use Rattle.step_threads.specs.TraceLabels.{IsLoadEvent, IsSameEvent, IsSwapEvent}
use Rattle.step_core.proofs.Entries.{does, history_asks, loads, history_swaps}

module _ (z : Opening) (d : ℕ) (h : History) (l : Slots) where
  abbrev now : State
  now = leads z h

  abbrev pub swap_event : CellName → ℕ → Event Nothing
  swap_event c i = swap_of now (cell_of_name now l c) (slot_value l i)

  pub swap_history : (c : CellName) (i : ℕ) (b : Bool)
      → on_going (history_swaps z d l h) h (cond b (Some (c, i)) None) ≡ put_on d (cond b (Some (swap_event c i)) None) h
  swap_history c i true = refl
  swap_history c i false = refl

  pub swap_makes : (c : CellName) (i : ℕ) (b : Bool)
      → let e = cond b (Some (swap_event c i)) None in Where b (IsSwapEvent now l c i (came now l c) e) (e ≡ None)
  swap_makes c i true = (held_in now (cell_of_name now l c), refl, refl)
  swap_makes c i false = refl

  pub load_history : (c : CellName) (b : Bool)
      → cond b (loads z d l h c) h ≡ put_on d (cond b (Some (load_of now (cell_of_name now l c))) None) h
  load_history c true = refl
  load_history c false = refl

  pub load_makes : (c : CellName) (b : Bool)
      → let e = cond b (Some (load_of now (cell_of_name now l c))) None in Where b (IsLoadEvent now l c (came now l c) e) (e ≡ None)
  load_makes c true = (held_in now (cell_of_name now l c), refl, refl)
  load_makes c false = refl

  abbrev pub same_event : CellName → ℕ → Event Nothing
  same_event c i = same_of now (cell_of_name now l c) (slot_value l i)

  pub same_history : (c : CellName) (i : ℕ) (b : Bool)
      → cond b (history_asks z d l h i c) h ≡ put_on d (cond b (Some (same_event c i)) None) h
  same_history c i true = refl
  same_history c i false = refl

  pub same_makes : (c : CellName) (i : ℕ) (b : Bool)
      → let e = cond b (Some (same_event c i)) None in
      let so = b && is_expected now l i c in
      Where b (IsSameEvent now l c i so e) ((so ≡ false) × (e ≡ None))
  same_makes c i true = refl
  same_makes c i false = (refl, refl)

  abbrev pub shelving : ℕ → Event Nothing
  shelving b = event.Shelve (record { 0 = b })

  pub shelve_history : (o : Option ℕ) → does z d h (shelf_step Shelve o) ≡ put_on d (option_map shelving o) h
  shelve_history None = refl
  shelve_history (Some b) = refl

  pub unshelve_history : (b : Block) (got : Bool)
      → does z d h (shelf_step (Unshelve b) (cond got (Some b.0) None)) ≡ put_on d (cond got (Some (event.Unshelve b)) None) h
  unshelve_history b true = refl
  unshelve_history b false = refl
