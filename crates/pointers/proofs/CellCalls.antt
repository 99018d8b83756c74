-- What calls on cells say, by what is known of handles.
use Rattle.std.proofs.Common.{◌≡◌, ℕ, ◌+◌, ◌<◌, List, Option, None, Some, refl, sym, ap, subst}
use Rattle.control_word.specs.declared.model.event.Cell.{Cell}
use Rattle.control_word.specs.declared.model.event.Cell.TheVariants as cell
use Rattle.control_word.specs.declared.model.handle.Kind.{Kind}
use Rattle.control_word.specs.declared.place.Block.{Block}
use Rattle.control_word.specs.declared.place.Place.{Place}
use Rattle.control_word.specs.declared.shape.Shape.{Shape}
use Rattle.control_block.specs.Desks.{DeskNow, latest_of}
use Rattle.control_block.specs.CellCalls.{HoldsHandle}
use Rattle.control_block.specs.HandleLists.{IsHeldByDesk}
use Rattle.control_word.specs.declared.model.handle.Kind.TheVariants.{Owner, Weak}
use Rattle.control_block.specs.declared.handles.Held.{Held}
use Rattle.control_block.specs.declared.handles.Held.TheVariants as held
use Rattle.shared_handle.specs.Locks.{HasOwner}
use Rattle.shared_handle.specs.Piles.{gone_of}
use Rattle.shared_handle.specs.declared.endings.Left.{Left}
use Rattle.shared_handle.specs.declared.pile.Gone.{Gone}
use Rattle.shared_handle.specs.declared.pile.Pile.{Pile}
use Rattle.atomic_cells.specs.Cells.{Exchanges, Loads, Stores, StoresWeakly}
use Rattle.atomic_cells.specs.Sites.{IsOpenSite, IsOpenWeakly, number_of_member, shared_cell, weak_cell}
use Rattle.atomic_cells.specs.declared.sites.SharedSite.{SharedSite}
use Rattle.atomic_cells.specs.declared.sites.SharedSite.TheVariants as shared
use Rattle.atomic_cells.specs.declared.sites.WeakSite.{WeakSite}
use Rattle.atomic_cells.specs.declared.sites.WeakSite.TheVariants as weak
use Rattle.pointers.proofs.InHand.{has_beside}
use Rattle.pointers.specs.Beside.{Arrives, IsClaimed, IsHandleOf, IsWholeBeside, Stays}
use Rattle.pointers.specs.Cells.{
  CameTo,
  ExchangedAt,
  IsSharedSite,
  IsWeakSite,
  LoadedAt,
  OwnsBlock,
  StoredTold,
  StoredWeaklyAt,
  block_by,
  place_by,
  shared_cell_of,
  weak_cell_of,
}
use Rattle.pointers.specs.Known.{KeepsObject, block_of, desk_at, place_of}
use Rattle.pointers.specs.declared.known.Known.{Known}

module _ {V : Type 0} where
  owner_of : (d : DeskNow V) (h : Held) (b : Block) → OwnsBlock h b → IsHeldByDesk d h → HasOwner d (Some b)
  owner_of d (held.Owner h) b is has = (h.place, subst (λ (x : Option Block). HoldsHandle d Owner x h.place) is has)
  owner_of d (held.Weak w) b is has = absurd is

  object_of : (a d : DeskNow V) (h : Held) (b : Block) → OwnsBlock h b → KeepsObject (block_of h) a d → latest_of d b.0 ≡ latest_of a b.0
  object_of a d (held.Owner h) b is kept = subst (λ (x : Option Block). KeepsObject x a d) is kept
  object_of a d (held.Weak w) b is kept = absurd is

  -- what is claimed is the desk's, and lives
  pub stays : (o d : DeskNow V) (p : Pile V) (hs : List Held) (cs : List (Option (Known V))) (of : Option (Known V)) → IsWholeBeside o d p hs cs
      → IsClaimed cs of → Stays o of d
  stays o d p hs cs None w has = w.opened
  stays o d p hs cs (Some c) w has = w.lives has.0 c has.1

  -- a cell is open to the desk that has an owner of its object
  pub open_shared : (o d : DeskNow V) (p : Pile V) (hs : List Held) (cs : List (Option (Known V))) (s : SharedSite) (of : Option (Known V))
      → IsWholeBeside o d p hs cs → IsSharedSite o s of → IsClaimed cs of → IsOpenSite d s
  open_shared o d p hs cs (shared.Free n) of w is has = subst (λ (k : Shape). n < k.shared_cells) (sym w.opened.same.1) is
  open_shared o d p hs cs (shared.Of b m) None w is has = absurd is
  open_shared o d p hs cs (shared.Of b m) (Some c) w is has = owner_of d c.handle b is (has_beside o d p hs cs has.0 c w has.1)
  open_shared o d p hs cs (shared.More b n) None w is has = absurd is
  open_shared o d p hs cs (shared.More b n) (Some c) w is has = (
    owner_of d c.handle b is.0 (has_beside o d p hs cs has.0 c w has.1),
    subst (λ (k : Shape). n + 2 < k.owners) (sym w.opened.same.1) is.1,
  )

  pub open_weak : (o d : DeskNow V) (p : Pile V) (hs : List Held) (cs : List (Option (Known V))) (s : WeakSite) (of : Option (Known V))
      → IsWholeBeside o d p hs cs → IsWeakSite o s of → IsClaimed cs of → IsOpenWeakly d s
  open_weak o d p hs cs (weak.Free n) of w is has = subst (λ (k : Shape). n < k.weak_cells) (sym w.opened.same.1) is
  open_weak o d p hs cs (weak.Up b) None w is has = absurd is
  open_weak o d p hs cs (weak.Up b) (Some c) w is has = owner_of d c.handle b is (has_beside o d p hs cs has.0 c w has.1)
  open_weak o d p hs cs (weak.More b n) None w is has = absurd is
  open_weak o d p hs cs (weak.More b n) (Some c) w is has = (
    owner_of d c.handle b is.0 (has_beside o d p hs cs has.0 c w has.1),
    subst (λ (k : Shape). n + 1 < k.weaks) (sym w.opened.same.1) is.1,
  )

  -- it is the same cell at any time
  pub shared_alike : (o d : DeskNow V) (s : SharedSite) (of : Option (Known V)) → Stays o of d → IsSharedSite o s of
      → shared_cell d s ≡ shared_cell_of o of s
  shared_alike o d (shared.Free n) of stays is = refl
  shared_alike o d (shared.Of b m) None stays is = absurd is
  shared_alike o d (shared.Of b m) (Some c) stays is =
      ap (λ (n : ℕ). cell.Member n (number_of_member m)) (object_of (desk_at o c) d c.handle b is stays.object)
  shared_alike o d (shared.More b m) None stays is = absurd is
  shared_alike o d (shared.More b m) (Some c) stays is =
      ap (λ (n : ℕ). cell.Member n (3 + m)) (object_of (desk_at o c) d c.handle b is.0 stays.object)

  pub weak_alike : (o d : DeskNow V) (s : WeakSite) (of : Option (Known V)) → Stays o of d → IsWeakSite o s of
      → weak_cell d s ≡ weak_cell_of o of s
  weak_alike o d (weak.Free n) None stays is = ap (λ (k : Shape). cell.Free (k.shared_cells + n)) stays.same.1
  weak_alike o d (weak.Free n) (Some c) stays is = ap (λ (k : Shape). cell.Free (k.shared_cells + n)) stays.goes.same.1
  weak_alike o d (weak.Up b) None stays is = absurd is
  weak_alike o d (weak.Up b) (Some c) stays is =
      ap (λ (n : ℕ). cell.Member n 2) (object_of (desk_at o c) d c.handle b is stays.object)
  weak_alike o d (weak.More b m) None stays is = absurd is
  weak_alike o d (weak.More b m) (Some c) stays is =
      let same = object_of (desk_at o c) d c.handle b is.0 stays.object in
      λ i. cell.Member (same i) ((stays.goes.same.1 i).owners + 1 + m)

  -- what arrived, by what is known of it
  pub block_arrived : (h : Held) (e : DeskNow V) (got : Option (Known V)) → Arrives h e got → block_of h ≡ block_by got
  block_arrived h e None is = is.0
  block_arrived h e (Some r) is = ap (λ (x : Known V). block_of x.handle) (sym is)

  pub place_arrived : (h : Held) (e : DeskNow V) (got : Option (Known V)) → Arrives h e got → place_of h ≡ place_by got
  place_arrived h e None is = is.1
  place_arrived h e (Some r) is = ap (λ (x : Known V). place_of x.handle) (sym is)

  pub came_to : (h : Held) (e : DeskNow V) (got : Option (Known V)) → Arrives h e got → CameTo got e
  came_to h e None is = tt
  came_to h e (Some r) is = ap (λ (x : Known V). x.seen) is

  pub loaded : (o d e : DeskNow V) (of : Option (Known V)) (x y : Cell) (k : Kind) (h : Held) (got : Option (Known V)) → Stays o of d → y ≡ x
      → Loads d y k (block_of h) (place_of h) e → Arrives h e got → LoadedAt o of x k got
  loaded o d e of x y k h got stays same loads is =
      record {
        before = d;
        after = e;
        member = stays;
        loads = subst (λ (c : Cell). Loads d c k (block_by got) (place_by got) e) same
            (subst (λ (b : Option Block). Loads d y k b (place_by got) e) (block_arrived h e got is)
            (subst (λ (p : Option Place). Loads d y k (block_of h) p e) (place_arrived h e got is) loads));
        came = came_to h e got is;
      }

  -- what went in, by what is known of it
  pub block_given : (new : Option (Known V)) (h : Held) → IsHandleOf new h → block_of h ≡ block_by new
  block_given None h is = is.0
  block_given (Some c) h is = ap block_of (sym is)

  pub place_given : (new : Option (Known V)) (h : Held) → IsHandleOf new h → place_of h ≡ place_by new
  place_given None h is = is.1
  place_given (Some c) h is = ap place_of (sym is)

  exchanges_by : (d m : DeskNow V) (x y : Cell) (k : Kind) (h : Held) (new : Option (Known V)) (a : Option Block) (q : Option Place) → y ≡ x
      → IsHandleOf new h → Exchanges d y k (block_of h) (place_of h) a q m → Exchanges d x k (block_by new) (place_by new) a q m
  exchanges_by d m x y k h new a q same is ex =
      subst (λ (c : Cell). Exchanges d c k (block_by new) (place_by new) a q m) same
      (subst (λ (b : Option Block). Exchanges d y k b (place_by new) a q m) (block_given new h is)
      (subst (λ (p : Option Place). Exchanges d y k (block_of h) p a q m) (place_given new h is) ex))

  pub exchanged : (o d e : DeskNow V) (of : Option (Known V)) (x y : Cell) (k : Kind) (h f : Held) (new got : Option (Known V)) → Stays o of d
      → Stays o new d → y ≡ x → IsHandleOf new h → Exchanges d y k (block_of h) (place_of h) (block_of f) (place_of f) e → Arrives f e got
      → ExchangedAt o of x k new got
  exchanged o d e of x y k h f new got stays pointer same given ex is =
      record {
        before = d;
        after = e;
        member = stays;
        pointer = pointer;
        exchanges = subst (λ (b : Option Block). Exchanges d x k (block_by new) (place_by new) b (place_by got) e) (block_arrived f e got is)
            (subst (λ (q : Option Place). Exchanges d x k (block_by new) (place_by new) (block_of f) q e) (place_arrived f e got is)
            (exchanges_by d e x y k h new (block_of f) (place_of f) same given ex));
        came = came_to f e got is;
      }

  pub stored : (o d e : DeskNow V) (of : Option (Known V)) (x y : Cell) (h : Held) (new : Option (Known V)) (left : Left V) (gone : Gone)
      → Stays o of d → Stays o new d → y ≡ x → IsHandleOf new h → Stores d y (block_of h) (place_of h) left e → gone ≡ gone_of left
      → StoredTold o of x new gone
  stored o d e of x y h new left gone stays pointer same given s told = (
    record {
      before = d;
      after = e;
      left = left;
      member = stays;
      pointer = pointer;
      stores = record {
        block = s.block;
        place = s.place;
        between = s.between;
        exchanges = exchanges_by d s.between x y Owner h new s.block s.place same given s.exchanges;
        leaves = s.leaves;
      };
    },
    told,
  )

  pub stored_weakly : (o d e : DeskNow V) (of : Option (Known V)) (x y : Cell) (h : Held) (new : Option (Known V)) (left : Left V)
      → Stays o of d → Stays o new d → y ≡ x → IsHandleOf new h → StoresWeakly d y (block_of h) (place_of h) left e → StoredWeaklyAt o of x new
  stored_weakly o d e of x y h new left stays pointer same given s =
      record {
        before = d;
        after = e;
        left = left;
        member = stays;
        pointer = pointer;
        stores = record {
          block = s.block;
          place = s.place;
          between = s.between;
          exchanges = exchanges_by d s.between x y Weak h new s.block s.place same given s.exchanges;
          vacant = s.vacant;
          leaves = s.leaves;
          told = s.told;
          stock = s.stock;
        };
      }
