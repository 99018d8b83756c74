-- A desk goes on by its calls.
use Rattle.std.proofs.Common.{ℕ, List, [], ◌∷◌, ◌++◌, Some, None, Option, sym, refl, ap, ◌∙◌}
use Rattle.std.proofs.Common.{subst, append_assoc}
use Rattle.pointers.proofs.Prelude
use Prelude.{AddsEvent, Block, block_of, desk_at, DeskNow, Entry, entry, Event, Goes, GoesOn}
use Prelude.{HasHandle, Held, HoldsHandle, IsHeldByDesk, IsLegal, Join, KeepsDesks, KeepsObject}
use Prelude.{Kind, Known, Later, Lives, opening_of, Owner, Place, Shape, Split, Weak}
use Rattle.control_block.proofs.Latest.{calls_keep_latest}
use Rattle.control_block.specs.Own.{KeepsHeld}
use Rattle.control_block.specs.declared.handles.Held.TheVariants as held
use Rattle.pointers.proofs.Allowances.{allowance_kept}

module _ {V : Type 0} where
  pub goes_nowhere : (d : DeskNow V) → GoesOn d d
  goes_nowhere d = record { same = (refl, refl, refl); later = []; seen = refl }

  pub goes_then : (d m e : DeskNow V) → GoesOn d m → GoesOn m e → GoesOn d e
  goes_then d m e a b =
      record {
        same = (b.same.0 ∙ a.same.0, b.same.1 ∙ a.same.1, b.same.2 ∙ a.same.2);
        later = b.later ++ a.later;
        seen = b.seen ∙ (ap (λ (l : List (Entry V)). b.later ++ l) a.seen ∙ sym (append_assoc b.later a.later d.seen));
      }

  -- by its own events
  pub goes_by : (d : DeskNow V) (own : List (Event V)) (e : DeskNow V) → Goes d own e → GoesOn d e
  goes_by d own e goes = record { same = goes.same; later = goes.later; seen = goes.seen }

  -- what a call says of a desk that parts and joins no desks by it
  abbrev pub LaterBy : Event V → DeskNow V → DeskNow V → Type 0
  LaterBy (Split to n hs bs) d e = Unit {0}
  LaterBy (Join other) d e = Unit {0}
  LaterBy _ d e = Later d e

  by_call : (d : DeskNow V) (x : Event V) (e : DeskNow V) → KeepsDesks x → AddsEvent d x e → Later d e
  by_call d x e keeps a =
      record {
        goes = record { same = a.same; later = entry d.name x ∷ a.between; seen = a.seen };
        legal = λ _. a.legal;
        latest = calls_keep_latest d x e a;
        allowance = allowance_kept d x e keeps a;
      }

  pub by_event : (d : DeskNow V) (x : Event V) (e : DeskNow V) → AddsEvent d x e → LaterBy x d e
  by_event d (Split to n hs bs) e a = tt
  by_event d (Join other) e a = tt
  by_event d x e a = by_call d x e tt a

  pub by_none : (d : DeskNow V) → Later d d
  by_none d = record { goes = goes_nowhere d; legal = λ l. l; latest = λ k p b has. refl; allowance = refl }

  -- only how many handles it has is another
  pub by_count : (d : DeskNow V) (n : ℕ) → Later d (record d { held = n })
  by_count d n = record { goes = record { same = (refl, refl, refl); later = []; seen = refl }; legal = λ l. l; latest = λ k p b has. refl; allowance = refl }

  pub later_then : (d m e : DeskNow V) → ((k : Kind) (p : Option Place) (b : ℕ) → HasHandle d k p b → HasHandle m k p b) → Later d m → Later m e
      → Later d e
  later_then d m e has a b =
      record {
        goes = goes_then d m e a.goes b.goes;
        legal = λ l.
            subst (λ (k : Shape). IsLegal (opening_of k) e.seen) a.goes.same.1
            (b.legal (subst (λ (k : Shape). IsLegal (opening_of k) m.seen) (sym a.goes.same.1) (a.legal l)));
        latest = λ k p c h. b.latest k p c (has k p c h) ∙ a.latest k p c h;
        allowance = b.allowance ∙ a.allowance;
      }

  keeps_object : (d m e : DeskNow V) (b : Option Block) → KeepsObject b d m → KeepsObject b m e → KeepsObject b d e
  keeps_object d m e None a c = a
  keeps_object d m e (Some b) a c = c ∙ a

  kept_of : (d e : DeskNow V) (k : Kind) (b : Option Block) (p : Option Place) → Later d e → HoldsHandle d k b p → KeepsObject b d e
  kept_of d e k None p later has = tt
  kept_of d e k (Some b) p later has = later.latest k p b.0 has

  object_kept : (d e : DeskNow V) (h : Held) → Later d e → IsHeldByDesk d h → KeepsObject (block_of h) d e
  object_kept d e (held.Owner h) later has = kept_of d e Owner h.block h.place later has
  object_kept d e (held.Weak w) later has = kept_of d e Weak w.block w.place later has

  -- what is held still is of the object that it was of
  still_of : (d e : DeskNow V) (k : Kind) (b : Option Block) (p : Option Place) → KeepsHeld d e → HoldsHandle e k b p → KeepsObject b d e
  still_of d e k None p keeps has = tt
  still_of d e k (Some b) p keeps has = keeps k p b.0 has

  object_still : (d e : DeskNow V) (h : Held) → KeepsHeld d e → IsHeldByDesk e h → KeepsObject (block_of h) d e
  object_still d e (held.Owner h) keeps has = still_of d e Owner h.block h.place keeps has
  object_still d e (held.Weak w) keeps has = still_of d e Weak w.block w.place keeps has

  -- told of another desk of that shape
  pub legal_on : (o d e : DeskNow V) → GoesOn o d → IsLegal (opening_of o.shape) d.seen → Later d e → IsLegal (opening_of o.shape) e.seen
  legal_on o d e opened legal later =
      subst (λ (k : Shape). IsLegal (opening_of k) e.seen) opened.same.1
      (later.legal (subst (λ (k : Shape). IsLegal (opening_of k) d.seen) (sym opened.same.1) legal))

  -- a claim lives on where its handle is held
  pub lives_on : (o : DeskNow V) (c : Known V) (d e : DeskNow V) → Lives o c d → Later d e → IsHeldByDesk d c.handle → Lives o c e
  lives_on o c d e lives later has =
      record {
        goes = goes_then (desk_at o c) d e lives.goes later.goes;
        object = keeps_object (desk_at o c) d e (block_of c.handle) lives.object (object_kept d e c.handle later has);
      }

  -- and where its handle is held still
  pub lives_still : (o : DeskNow V) (c : Known V) (d e : DeskNow V) → Lives o c d → GoesOn d e → KeepsHeld d e → IsHeldByDesk e c.handle → Lives o c e
  lives_still o c d e lives goes keeps has =
      record {
        goes = goes_then (desk_at o c) d e lives.goes goes;
        object = keeps_object (desk_at o c) d e (block_of c.handle) lives.object (object_still d e c.handle keeps has);
      }
