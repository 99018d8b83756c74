-- Handles leave their slots one after the other, the last first.
use Rattle.std.proofs.Common.{◌≡◌, ◌+◌, List, [], ◌∷◌, ◌++◌, Some, None, sym, refl, ap, ◌∙◌, subst}
use Rattle.std.proofs.Common.{append_assoc, append-nil}
use Rattle.script_runner.proofs.TablePrelude.{allowance_of, bag_of, Bears, DeskNow, DomainNow, FitsSlots}
use Rattle.script_runner.proofs.TablePrelude.{Held, IsHeldByDesk, on_pile, Pile, Slot, without_held}
use Rattle.shared_handle.specs.declared.pile.Gone.{Gone}
use Rattle.script_runner.proofs.Filling.{fits_at, fits_less, fits_none}
use Rattle.script_runner.proofs.Wholes.{last_out}
use Rattle.script_runner.specs.SlotCalls.{LetsGo}
use Rattle.script_runner.specs.Parting.{LeaveSlots}

longer : (all rest now out : List Slot) (x y : Slot) → all ≡ now ++ out → now ≡ rest ++ x ∷ [] → x ≡ y → all ≡ rest ++ (y ∷ out)
longer all rest now out x y parts is same =
    parts ∙ (ap (λ (l : List Slot). l ++ out) is ∙ (append_assoc rest (x ∷ []) out ∙ ap (λ (s : Slot). rest ++ (s ∷ out)) same))

module _ {V : Type 0} where
  -- of all slots these are left
  pub record Letting (domain : DomainNow) (before d : DeskNow V) (from p : Pile V) (all rest : List Slot) : Type 0 where
    pub bears : Bears domain d p
    pub fits : FitsSlots d rest
    pub out : List Slot
    pub parts : all ≡ rest ++ out
    pub gone : LeaveSlots before (on_pile from) out d (on_pile p)
    pub allowance : allowance_of d ≡ allowance_of before

  pub begins : (domain : DomainNow) (d : DeskNow V) (p : Pile V) (ss : List Slot) → Bears domain d p → FitsSlots d ss → Letting domain d d p p ss ss
  begins domain d p ss bears fits = record { bears = bears; fits = fits; out = []; parts = sym (append-nil ss); gone = (refl, refl); allowance = refl }

  pub passes : (domain : DomainNow) (before d : DeskNow V) (from p : Pile V) (all now rest : List Slot) (x : Slot) → Letting domain before d from p all now
      → now ≡ rest ++ x ∷ [] → x ≡ None → Letting domain before d from p all rest
  passes domain before d from p all now rest x l is none =
      record {
        bears = l.bears;
        fits = fits_none d rest (last_out d now rest x None is none l.fits);
        out = None ∷ l.out;
        parts = longer all rest now l.out x None l.parts is none;
        gone = (d, on_pile p, l.gone, (refl, refl));
        allowance = l.allowance;
      }

  pub held_last : (domain : DomainNow) (before d : DeskNow V) (from p : Pile V) (all now rest : List Slot) (x : Slot) (h : Held)
      → Letting domain before d from p all now → now ≡ rest ++ x ∷ [] → x ≡ Some h → IsHeldByDesk d h
  held_last domain before d from p all now rest x h l is some = fits_at d (Some h ∷ rest) 0 h (last_out d now rest x (Some h) is some l.fits) refl

  pub goes : (domain : DomainNow) (before d e : DeskNow V) (from p q : Pile V) (all now rest : List Slot) (x : Slot) (h : Held) (gone : Gone)
      → Letting domain before d from p all now → now ≡ rest ++ x ∷ [] → x ≡ Some h → Bears domain e q
      → LetsGo d (on_pile p) h gone e (on_pile q) → bag_of e ≡ without_held h (bag_of d) → e.held + 1 ≡ d.held
      → allowance_of e ≡ allowance_of d → Letting domain before e from q all rest
  goes domain before d e from p q all now rest x h gone l is some bears left bag held allowance =
      record {
        bears = bears;
        fits = fits_less d e rest h (last_out d now rest x (Some h) is some l.fits) bag held;
        out = Some h ∷ l.out;
        parts = longer all rest now l.out x (Some h) l.parts is some;
        gone = (d, on_pile p, l.gone, (gone, left));
        allowance = allowance ∙ l.allowance;
      }

  pub all_gone : (domain : DomainNow) (before d : DeskNow V) (from p : Pile V) (all now : List Slot) → Letting domain before d from p all now → now ≡ []
      → LeaveSlots before (on_pile from) all d (on_pile p)
  all_gone domain before d from p all now l none =
      subst (λ (ss : List Slot). LeaveSlots before (on_pile from) ss d (on_pile p)) (sym (l.parts ∙ ap (λ (k : List Slot). k ++ l.out) none)) l.gone
