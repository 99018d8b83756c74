-- What is true of a whole table stays true.
use Rattle.std.proofs.Common.{◌≡◌, ℕ, zero, suc, ◌+◌, List, [], ◌∷◌, ◌++◌, length, set, slice_get}
use Rattle.std.proofs.Common.{Some, None, Err, Option, sym, refl, ap, ◌∙◌, subst, arith}
use Rattle.script_runner.proofs.TablePrelude
use TablePrelude.{AllVacant, bag_of, Bears, bears_kept, Belongs, Block, DeskNow, DomainNow, endings_of}
use TablePrelude.{Entry, FitsSlots, Held, IsFirstDesk, IsPermutation, IsWhole, JoinsWith, KeepsEndings}
use TablePrelude.{leads, listed, Null, on_pile, opening_of, Outside, Pile, Place, Refusal, Slot}
use TablePrelude.{SplitsOff, state_of, TableNow, without_all, without_held}
use Rattle.shared_handle.specs.Endings.{IsRead}
use Rattle.control_block.specs.Desks.{Keeps, ends_with, many_ending}
use Rattle.script_runner.proofs.Filling.{fits_joined, fits_last, fits_less, fits_out, fits_still}
use Rattle.script_runner.proofs.Filling.{fits_vacant}

module _ {V : Type 0} where
  abbrev pub seen : DeskNow V → List Slot → Pile V → TableNow V
  seen d ss p = record { desk = d; slots = ss; endings = on_pile p }

  -- a call that ends nothing
  pub kept : (domain : DomainNow) (d e : DeskNow V) (p : Pile V) → Bears domain d p → Keeps d e → Bears domain e p
  kept domain d e p w k = bears_kept domain d e p w k.domain k.shape k.endings k.count

  -- a call by which no handle comes or goes
  pub still : (named domain : DomainNow) (d e : DeskNow V) (ss : List Slot) (p : Pile V) → IsWhole named domain d ss p → Keeps d e
      → bag_of e ≡ bag_of d → e.held ≡ d.held → IsWhole named domain e ss p
  still named domain d e ss p w k bag held =
      record { home = w.home; bears = kept domain d e p w.bears k; fits = fits_still d e ss w.fits bag held }

  -- nothing has changed
  pub whole_same : (named domain : DomainNow) (d e : DeskNow V) (ss ts : List Slot) (p q : Pile V) → IsWhole named domain d ss p → e ≡ d → ts ≡ ss
      → q ≡ p → IsWhole named domain e ts q
  whole_same named domain d e ss ts p q w desk slots pile =
      subst (λ (x : DeskNow V). IsWhole named domain x ts q) (sym desk)
      (subst (λ (l : List Slot). IsWhole named domain d l q) (sym slots) (subst (λ (y : Pile V). IsWhole named domain d ss y) (sym pile) w))

  -- a read that is refused changes nothing
  pub read_same : (d e : DeskNow V) (b : Option Block) (p : Option Place) (why : Refusal) → IsRead d b p (Err why) e → e ≡ d
  read_same d e b p Null is = is.1
  read_same d e b p Outside is = is.1
  read_same d e b p why is = absurd is

  -- a handle left its slot and the desk
  pub fits_left : (d e : DeskNow V) (ss new : List Slot) (i : ℕ) (h : Held) → FitsSlots d ss → slice_get ss i ≡ Some (Some h) → new ≡ set ss i None
      → bag_of e ≡ without_held h (bag_of d) → e.held + 1 ≡ d.held → FitsSlots e new
  fits_left d e ss new i h fits at is bag held =
      subst (FitsSlots e) (sym is) (fits_less d e (set ss i None) h (fits_out d ss i h fits at) bag held)

  -- the last slot went out of them, and what was there is in hand
  pub last_out : (d : DeskNow V) (all rest : List Slot) (x y : Slot) → all ≡ rest ++ x ∷ [] → x ≡ y → FitsSlots d all → FitsSlots d (y ∷ rest)
  last_out d all rest x y is same fits =
      subst (λ (z : Slot). FitsSlots d (z ∷ rest)) same (fits_last d rest x (subst (FitsSlots d) is fits))

  -- a desk that has just begun
  pub no_endings : (d : DeskNow V) → d.seen ≡ [] → endings_of d ≡ 0
  no_endings d e = go d.shape.blocks
    where
      go : (k : ℕ) → many_ending k (state_of d) d.name ≡ 0
      go zero = refl
      go (suc k) =
          let ih = go k in
          let a : ends_with d.name ((state_of d).object ((state_of d).latest (suc k))).phase ≡ 0 =
          ap (λ (h : List (Entry V)). ends_with d.name ((leads (opening_of d.shape) h).object ((leads (opening_of d.shape) h).latest (suc k))).phase) e in
          omega arith

  pub begins_bag : (d : DeskNow V) → d.seen ≡ [] → bag_of d ≡ []
  begins_bag d e = ap (λ (h : List (Entry V)). bag_of (record d { seen = h })) e

  pub begins_whole : (named domain : DomainNow) (d : DeskNow V) (ss : List Slot) (p : Pile V) → domain ≡ named → IsFirstDesk domain d → AllVacant ss
      → ((x : DeskNow V) → Belongs x domain → endings_of x ≡ 0 → Bears domain x p) → IsWhole named domain d ss p
  begins_whole named domain d ss p home b all bears =
      record {
        home = home;
        bears = bears d (record { table = b.here; shape = b.shape }) (no_endings d b.seen);
        fits = fits_vacant d ss all (begins_bag d b.seen) b.held;
      }

  -- another desk without handles and endings was joined
  pub absorb_whole : (named domain : DomainNow) (d other e : DeskNow V) (ss : List Slot) (p : Pile V) → IsWhole named domain d ss p
      → FitsSlots other [] → endings_of other ≡ 0 → JoinsWith d other e → IsPermutation (bag_of d ++ bag_of other) (bag_of e)
      → e.held ≡ d.held + other.held → KeepsEndings d e → endings_of e ≡ endings_of d + endings_of other → IsWhole named domain e ss p
  absorb_whole named domain d other e ss p w bare none joins bags held keeps count =
      record {
        home = w.home;
        bears = bears_kept domain d e p w.bears joins.same.0 joins.same.1 keeps (omega arith);
        fits = fits_joined d other e ss w.fits bare bags held;
      }

  -- a split without handles: the new table, and what is left of the old one
  pub split_new : (named domain : DomainNow) (d e new : DeskNow V) (a k : ℕ) (ss rs : List Slot) (p q : Pile V)
      → IsWhole named domain d ss p
      → SplitsOff d a k [] e new → AllVacant rs → ((x : DeskNow V) → Belongs x domain → endings_of x ≡ 0 → Bears domain x q)
      → IsWhole named domain new rs q
  split_new named domain d e new a k ss rs p q w parts all bears =
      let at = w.bears.carries.belongs in
      record {
        home = w.home;
        bears = bears new (record { table = parts.beside.0 ∙ at.table; shape = parts.beside.1 ∙ at.shape }) parts.count.1;
        fits = fits_vacant new rs all parts.bag.0 parts.held.0;
      }

  pub split_old : (named domain : DomainNow) (d e new : DeskNow V) (a k : ℕ) (ss : List Slot) (p : Pile V) → IsWhole named domain d ss p
      → SplitsOff d a k [] e new → IsWhole named domain e ss p
  split_old named domain d e new a k ss p w parts =
      record {
        home = w.home;
        bears = bears_kept domain d e p w.bears parts.event.same.0 parts.event.same.1 parts.endings parts.count.0;
        fits = fits_still d e ss w.fits parts.bag.1 (let h = parts.held.1 in omega arith);
      }

  pub same_whole : (named domain : DomainNow) (d e : DeskNow V) (ss : List Slot) (p : Pile V) → IsWhole named domain d ss p → e ≡ d
      → IsWhole named domain e ss p
  same_whole named domain d e ss p w same = subst (λ (x : DeskNow V). IsWhole named domain x ss p) (sym same) w
