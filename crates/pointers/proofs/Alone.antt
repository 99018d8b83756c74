-- What a free cell holds on which nobody apart does anything.
use Rattle.std.proofs.Common.{◌≡◌, ℕ, List, [], ◌∷◌, ◌++◌, true, false, Option, refl, ap, subst, ◌∙◌}
use Rattle.control_word.specs.declared.model.event.Cell.TheVariants.{Free, Member}
use Rattle.control_word.specs.declared.model.event.Entry.{Entry}
use Rattle.control_word.specs.declared.model.event.Event.{Event}
use Rattle.control_word.specs.declared.model.event.Event.TheVariants.{Compare, Load, Swap}
use Rattle.control_word.specs.declared.model.handle.NumberedHandle.{NumberedHandle}
use Rattle.control_word.specs.declared.model.handle.Kind.TheVariants.{Owner}
use Rattle.control_word.specs.declared.place.Block.{Block}
use Rattle.control_word.specs.declared.place.Place.{Place}
use Rattle.control_word.proofs.lists.Tallies.{put_other, put_same}
use Rattle.control_word.specs.Events.{after}
use Rattle.control_word.specs.Histories.{IsLegal, entry, leads}
use Rattle.control_word.specs.State.{Opening, State}
use Rattle.control_block.specs.Desks.{AddsEvent, DeskNow}
use Rattle.control_block.specs.Rule.{opening_of}
use Rattle.shared_handle.specs.Endings.{IsLeft}
use Rattle.shared_handle.specs.declared.endings.Left.{Left}
use Rattle.shared_handle.specs.declared.endings.Left.TheVariants.{Empty, Last, Others}
use Rattle.pointers.specs.Alone.{AllElsewhere, IsElsewhere, LeftElsewhere, StoresAndLoads}
use Rattle.pointers.specs.Places.{cell_at}
use Rattle.pointers.specs.Sites.{Site, free_site}
use Rattle.pointers.specs.HandCalls.{LoadsNow, StoresNow}
use Rattle.pointers.specs.declared.known.Known.{Known}

module _ {V : Type 0} where
  one_kept : (s : State) (d n : ℕ) (x : Event V) → IsElsewhere n x → (after s d x).cell n ≡ s.cell n
  one_kept s d n (Swap (Free c) new old) apart = put_other s.cell c new n apart
  one_kept s d n (Swap (Member o m) new old) apart = refl
  one_kept s d n (Compare (Free c) expected new h true weak) apart = put_other s.cell c new n apart
  one_kept s d n (Compare (Free c) expected new h false weak) apart = refl
  one_kept s d n (Compare (Member o m) expected new h true weak) apart = refl
  one_kept s d n (Compare (Member o m) expected new h false weak) apart = refl
  one_kept s d n _ apart = refl

  all_kept : (n : ℕ) (z : Opening) (l h : List (Entry V)) → AllElsewhere n l → (leads z (l ++ h)).cell n ≡ (leads z h).cell n
  all_kept n z [] h apart = refl
  all_kept n z (x ∷ l) h apart = one_kept (leads z (l ++ h)) x.desk n x.event apart.0 ∙ all_kept n z l h apart.1

  -- what is in the free cell, as the desk has seen
  abbrev in_cell : Opening → ℕ → DeskNow V → NumberedHandle
  in_cell z n d = (leads z d.seen).cell n

  by_seen : (z : Opening) (n : ℕ) (h k : List (Entry V)) → h ≡ k → (leads z h).cell n ≡ (leads z k).cell n
  by_seen z n h k same = ap (λ (l : List (Entry V)). (leads z l).cell n) same

  put_there : (z : Opening) (n : ℕ) (d e : DeskNow V) (new old : NumberedHandle) → AddsEvent d (Swap (Free n) new old) e → in_cell z n e ≡ new
  put_there z n d e new old a =
      by_seen z n e.seen (entry d.name (Swap (Free n) new old) ∷ (a.between ++ d.seen)) a.seen
      ∙ put_same (leads z (a.between ++ d.seen)).cell n new n refl

  left_there : (z : Opening) (n : ℕ) (d : DeskNow V) (b : Option Block) (p : Option Place) (left : Left V) (e : DeskNow V) (is : IsLeft d b p left e)
      → LeftElsewhere n d b p left e is → in_cell z n e ≡ in_cell z n d
  left_there z n d b p Empty e is quiet = by_seen z n e.seen d.seen (ap (λ (x : DeskNow V). x.seen) is.1)
  left_there z n d b p Others e is quiet = by_seen z n e.seen _ is.2.seen ∙ all_kept n z is.2.between d.seen quiet
  left_there z n d b p (Last x) e is quiet = by_seen z n e.seen _ is.1.seen ∙ all_kept n z is.1.between d.seen quiet

  found_there : (n : ℕ) (d e : DeskNow V) (got : NumberedHandle) (a : AddsEvent d (Load (Free n) got) e) → AllElsewhere n a.between
      → got ≡ in_cell (opening_of d.shape) n d
  found_there n d e got a quiet =
      (subst (IsLegal (opening_of d.shape)) a.seen a.legal).1.asks.1 ∙ all_kept n (opening_of d.shape) a.between d.seen quiet

  pub finds : (n : ℕ) (d m e : DeskNow V) (new got : Option (Known V)) (s : StoresNow d (Free n) new m) (l : LoadsNow m (Free n) got e)
      → StoresAndLoads d n new got e
  finds n d m e new got s l = record {
    middle = m;
    stores = s;
    loads = l;
    finds = λ left quiet.
        found_there n m e _ l.0 quiet
        ∙ (left_there (opening_of m.shape) n s.1.between s.1.block s.1.place s.0 m s.1.leaves left
        ∙ put_there (opening_of m.shape) n d s.1.between _ _ s.1.exchanges);
  }

  -- the same of the calls of a desk that is held
  pub finds_by : (o : DeskNow V) (n : ℕ) (s : Site V) (d m e : DeskNow V) (new got : Option (Known V)) → s ≡ free_site n
      → StoresNow d (cell_at o Owner s) new m → LoadsNow m (cell_at o Owner s) got e → StoresAndLoads d n new got e
  finds_by o n s d m e new got at stores loads =
      finds n d m e new got (subst (λ (x : Site V). StoresNow d (cell_at o Owner x) new m) at stores)
      (subst (λ (x : Site V). LoadsNow m (cell_at o Owner x) got e) at loads)
