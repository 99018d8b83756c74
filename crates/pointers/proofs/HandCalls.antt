-- What the calls of a desk that is held say.
use Rattle.std.proofs.Common.{◌≡◌, ℕ, Bool, false, ◌-◌, ◌∙◌, List, Option, None, Some, Ok, Err, slice_get, refl, sym, ap, subst, true}
use Rattle.control_word.specs.declared.model.event.Cell.{Cell}
use Rattle.control_word.specs.declared.model.event.Event.{Event}
use Rattle.control_word.specs.declared.model.handle.Kind.{Kind}
use Rattle.control_word.specs.declared.model.handle.Kind.TheVariants.{Owner}
use Rattle.control_word.specs.declared.place.Block.{Block}
use Rattle.control_word.specs.declared.place.Place.{Place}
use Rattle.control_word.specs.declared.refusal.Refusal.{Refusal}
use Rattle.control_word.specs.declared.refusal.Refusal.TheVariants.{BadWeak, Limit}
use Rattle.control_block.specs.Desks.{AddsEvent, DeskNow}
use Rattle.control_block.specs.CellCalls.{HoldsHandle}
use Rattle.pointers.specs.Objects.{FindsNoOwner}
use Rattle.control_block.specs.declared.handles.Held.{Held}
use Rattle.control_block.specs.declared.handles.Held.TheVariants as held
use Rattle.control_block.specs.declared.handles.Shared.{Shared}
use Rattle.control_block.specs.declared.handles.Weak.{Weak as WeakHandle}
use Rattle.atomic_cells.specs.Cells.{Exchanges, Loads, Stores}
use Rattle.shared_handle.specs.Calls.{counting, Makes, SharesOwner, SharesWeakly}
use Rattle.shared_handle.specs.Endings.{IsLeft}
use Rattle.shared_handle.specs.Locks.{HasOwner, IsLockBy, IsUpgrade}
use Rattle.shared_handle.specs.Piles.{Drops}
use Rattle.shared_handle.specs.declared.endings.Ending.{Ending}
use Rattle.shared_handle.specs.declared.endings.Left.{Left}
use Rattle.shared_handle.specs.declared.endings.Left.TheVariants.{Empty, Last, Others}
use Rattle.shared_handle.specs.declared.pile.Gone.{Gone}
use Rattle.pointers.proofs.CellCalls.{block_arrived, block_given, came_to, place_arrived, place_given}
use Rattle.pointers.proofs.Handles.{owner_held}
use Rattle.pointers.proofs.Wholes.{has}
use Rattle.control_block.specs.HandleLists.{IsHeldByDesk}
use Rattle.shared_handle.specs.declared.pile.Pile.{Pile}
use Rattle.pointers.specs.Beside.{Arrives, IsHandleOf}
use Rattle.pointers.specs.Whole.{IsWhole}
use Rattle.pointers.specs.Cells.{CameTo, block_by, place_by}
use Rattle.pointers.specs.HandCalls.{ExchangesNow, IsButCount, LeavesNow, LoadsNow, Locks, LocksNot, MakesNow, Restocks, SharesNow, SharesWeaklyNow, StoresNow}
use Rattle.pointers.specs.Known.{Lives, block_of, known_now, owned, place_of, pointed}
use Rattle.pointers.specs.declared.known.Known.{Known}

pub none_some : (b : Block) → None ≡ Some b → ⊥
none_some b e = subst (λ (x : Option Block). Is x) e tt
  where
    Is : Option Block → Type 0
    Is None = Unit {0}
    Is (Some c) = ⊥

module _ {V : Type 0} where
  pub but_count : (d e : DeskNow V) (n : ℕ) → e ≡ counting n d → IsButCount d e
  but_count d e n is = subst (λ (x : DeskNow V). IsButCount d x) (sym is) refl

  -- an empty owner that left changes the count alone
  pub but_left : (d e : DeskNow V) (b : Option Block) (p : Option Place) (left : Left V) → b ≡ None → IsLeft d b p left e → IsButCount d e
  but_left d e b p Empty none is = but_count d e (d.held - 1) is.1
  but_left d e b p Others none is = absurd (none_some is.0 (subst (λ (x : Option Block). x ≡ Some is.0) none is.1))
  but_left d e b p (Last x) none is = absurd (none_some x.block (subst (λ (y : Option Block). y ≡ Some x.block) none is.0))

  pub but_dropped : (d e : DeskNow V) (xs ys : List (Ending V)) (b : Option Block) (p : Option Place) (gone : Gone) → b ≡ None → Drops d xs b p gone e ys
      → IsButCount d e
  but_dropped d e xs ys b p gone none is = but_left d e b p is.left none is.leaves

  loads_count : (d e : DeskNow V) (n : ℕ) (x : Cell) (k : Kind) (b : Option Block) (p : Option Place) → Loads d x k b p e
      → Loads d x k b p (record e { held = n })
  loads_count d e n x k b p a = record { same = a.same; between = a.between; seen = a.seen; quiet = a.quiet; legal = a.legal }

  pub came_count : (got : Option (Known V)) (e : DeskNow V) (n : ℕ) → CameTo got e → CameTo got (record e { held = n })
  came_count None e n came = tt
  came_count (Some r) e n came = came

  pub loads_exactly : (c d e f : DeskNow V) (x y : Cell) (h : Held) (got : Option (Known V)) → y ≡ x → Loads d y Owner (block_of h) (place_of h) e
      → Arrives h e got → IsButCount e f → d ≡ c → LoadsNow c x got f
  loads_exactly c d e f x y h got same loads is count at =
      subst (λ (z : DeskNow V). LoadsNow z x got f) at
      (subst (λ (z : DeskNow V). LoadsNow d x got z) (sym count) (
        loads_count d e f.held x Owner (block_by got) (place_by got)
            (subst (λ (z : Cell). Loads d z Owner (block_by got) (place_by got) e) same
            (subst (λ (b : Option Block). Loads d y Owner b (place_by got) e) (block_arrived h e got is)
            (subst (λ (p : Option Place). Loads d y Owner (block_of h) p e) (place_arrived h e got is) loads))),
        came_count got e f.held (came_to h e got is),
      ))

  adds_count : (d e : DeskNow V) (n : ℕ) (x : Event V) → AddsEvent (record d { held = n }) x e → AddsEvent d x e
  adds_count d e n x a = record { same = a.same; between = a.between; seen = a.seen; quiet = a.quiet; legal = a.legal }

  stores_count : (d e : DeskNow V) (n : ℕ) (x : Cell) (b : Option Block) (p : Option Place) (left : Left V) → Stores (record d { held = n }) x b p left e
      → Stores d x b p left e
  stores_count d e n x b p left s =
      record { block = s.block; place = s.place; between = s.between; exchanges = adds_count d s.between n _ s.exchanges; leaves = s.leaves }

  stores_by : (d e : DeskNow V) (x y : Cell) (h : Held) (new : Option (Known V)) (left : Left V) → y ≡ x → IsHandleOf new h
      → Stores d y (block_of h) (place_of h) left e → Stores d x (block_by new) (place_by new) left e
  stores_by d e x y h new left same given s =
      subst (λ (z : Cell). Stores d z (block_by new) (place_by new) left e) same
      (subst (λ (b : Option Block). Stores d y b (place_by new) left e) (block_given new h given)
      (subst (λ (p : Option Place). Stores d y (block_of h) p left e) (place_given new h given) s))

  pub stores_exactly : (b c d e : DeskNow V) (x y : Cell) (h : Held) (new : Option (Known V)) (left : Left V) → y ≡ x → IsHandleOf new h
      → Stores d y (block_of h) (place_of h) left e → IsButCount c d → c ≡ b → StoresNow b x new e
  stores_exactly b c d e x y h new left same given s count at =
      subst (λ (z : DeskNow V). StoresNow z x new e) at (
        left,
        stores_count c e d.held x (block_by new) (place_by new) left
            (subst (λ (z : DeskNow V). Stores z x (block_by new) (place_by new) left e) count (stores_by d e x y h new left same given s)),
      )

  pub locks_now : (c d e : DeskNow V) (w r : Known V) (v : WeakHandle) (h : Shared) → w.handle ≡ held.Weak v → IsUpgrade d v.block v.place (Ok h) e
      → r ≡ known_now (held.Owner h) e → d ≡ c → Locks c w (Some r) e
  locks_now c d e w r v h is up came at =
      subst (λ (z : DeskNow V). Locks z w (Some r) e) at
      (go (owned w) refl (subst (λ (x : Held). IsUpgrade d (block_of x) (place_of x) (Ok h) e) (sym is) up))
    where
      go : (b : Option Block) → owned w ≡ b → IsUpgrade d b (pointed w) (Ok h) e → Locks d w (Some r) e
      go None at up = absurd up
      go (Some b) at up = (b, at, up.0, ap (λ (x : Known V). x.seen) came)

  pub locks_by : (d e : DeskNow V) (w r : Known V) (v : WeakHandle) (h : Shared) → w.handle ≡ held.Weak v → IsLockBy d v.block v.place true e
      → r ≡ known_now (held.Owner h) e → Locks d w (Some r) e
  locks_by d e w r v h is lock came =
      go (owned w) refl (subst (λ (x : Held). IsLockBy d (block_of x) (place_of x) true e) (sym is) lock)
    where
      go : (b : Option Block) → owned w ≡ b → IsLockBy d b (pointed w) true e → Locks d w (Some r) e
      go None at lock = absurd lock
      go (Some b) at lock = (b, at, lock, ap (λ (x : Known V). x.seen) came)

  pub locks_not : (c d e : DeskNow V) (w : Known V) (v : WeakHandle) (why : Refusal) → w.handle ≡ held.Weak v → IsUpgrade d v.block v.place (Err why) e
      → d ≡ c → LocksNot c w why e
  locks_not c d e w v why is up at =
      subst (λ (z : DeskNow V). LocksNot z w why e) at
      (go (owned w) refl why (subst (λ (x : Held). IsUpgrade d (block_of x) (place_of x) (Err why) e) (sym is) up))
    where
      go : (b : Option Block) → owned w ≡ b → (why : Refusal) → IsUpgrade d b (pointed w) (Err why) e → LocksNot d w why e
      go None at Limit up = up
      go (Some b) at Limit up = up
      go None at BadWeak up = subst (λ (x : Option Block). FindsNoOwner d x (pointed w) e) (sym at) up.1
      go (Some b) at BadWeak up = subst (λ (x : Option Block). FindsNoOwner d x (pointed w) e) (sym at) up.1
      go None at _ up = absurd up
      go (Some b) at _ up = absurd up

  pub owner_by : (c d : DeskNow V) (w : Known V) (v : WeakHandle) → w.handle ≡ held.Weak v → d ≡ c → HasOwner c (owned w) → HasOwner d v.block
  owner_by c d w v is at has =
      subst (λ (x : Held). HasOwner d (block_of x)) is (subst (λ (z : DeskNow V). HasOwner z (owned w)) (sym at) has)

  -- a pointer that is looked at lives, and the desk holds it
  pub look_lives : (o d e : DeskNow V) (p : Pile V) (cs : List (Option (Known V))) (i : ℕ) (c k : Known V) → IsWhole o d p cs
      → slice_get cs i ≡ Some (Some c) → c ≡ k → d ≡ e → Lives o k e
  look_lives o d e p cs i c k w at is now =
      subst (λ (x : Known V). Lives o x e) is (subst (λ (z : DeskNow V). Lives o c z) now (w.lives i c at))

  pub look_holds : (o d e : DeskNow V) (p : Pile V) (cs : List (Option (Known V))) (i : ℕ) (c k : Known V) → IsWhole o d p cs
      → slice_get cs i ≡ Some (Some c) → c ≡ k → d ≡ e → IsHeldByDesk e k.handle
  look_holds o d e p cs i c k w at is now =
      subst (λ (x : Known V). IsHeldByDesk e x.handle) is (subst (λ (z : DeskNow V). IsHeldByDesk z c.handle) now (has o d p cs i c w at))

  owns : (d : DeskNow V) (c : Known V) (h : Shared) → c.handle ≡ held.Owner h → HoldsHandle d Owner h.block h.place → (owned c ≡ None → ⊥)
      → HasOwner d (owned c)
  owns d c h is has some = subst (λ (x : Held). HasOwner d (block_of x)) (sym is) (go h.block refl has)
    where
      go : (b : Option Block) → h.block ≡ b → HoldsHandle d Owner b h.place → HasOwner d b
      go None at has = some (ap block_of is ∙ at)
      go (Some b) at has = (h.place, has)

  pub look_owns : (o d e : DeskNow V) (p : Pile V) (cs : List (Option (Known V))) (i : ℕ) (c k : Known V) (h : Shared) → IsWhole o d p cs
      → slice_get cs i ≡ Some (Some c) → c.handle ≡ held.Owner h → c ≡ k → d ≡ e → (owned k ≡ None → ⊥) → HasOwner e (owned k)
  look_owns o d e p cs i c k h w at own is now some =
      subst (λ (z : DeskNow V). HasOwner z (owned k)) now
      (owns d k h (ap (λ (x : Known V). x.handle) (sym is) ∙ own) (owner_held o d p cs i c h w at own) some)

  desk_same : (c d : DeskNow V) (P : DeskNow V → Type 0) → d ≡ c → P d → P c
  desk_same c d P at is = subst P at is

  pub shares_now : (c d e : DeskNow V) (w r : Known V) (v h : Shared) (p : Option Place) → w.handle ≡ held.Owner v → SharesOwner d v.block v.place p e
      → h.place ≡ p → r ≡ known_now (held.Owner h) e → d ≡ c → SharesNow c w r e
  shares_now c d e w r v h p is event place came at =
      desk_same c d (λ z. SharesNow z w r e) at (
        subst (λ (q : Option Place). SharesOwner d (owned w) (pointed w) q e) (sym (ap (λ (x : Known V). place_of x.handle) came ∙ place))
            (subst (λ (x : Held). SharesOwner d (block_of x) (place_of x) p e) (sym is) event),
        ap (λ (x : Known V). x.seen) came,
      )

  pub shares_weakly_now : (c d e : DeskNow V) (w r : Known V) (v h : Held) → w.handle ≡ v → SharesWeakly d (block_of v) (place_of v) e
      → r ≡ known_now h e → d ≡ c → SharesWeaklyNow c w r e
  shares_weakly_now c d e w r v h is event came at =
      desk_same c d (λ z. SharesWeaklyNow z w r e) at
      (subst (λ (x : Held). SharesWeakly d (block_of x) (place_of x) e) (sym is) event, ap (λ (x : Known V). x.seen) came)

  pub leaves_now : (c d e : DeskNow V) (w : Known V) (v : Shared) (xs ys : List (Ending V)) (gone : Gone) → w.handle ≡ held.Owner v
      → Drops d xs v.block v.place gone e ys → d ≡ c → LeavesNow c w e
  leaves_now c d e w v xs ys gone is drops at =
      desk_same c d (λ z. LeavesNow z w e) at (drops.left, subst (λ (x : Held). IsLeft d (block_of x) (place_of x) drops.left e) (sym is) drops.leaves)

  pub makes_now : (c m d e : DeskNow V) (enabled : Bool) (fields : List ℕ) (x : V) (r : Known V) (h : Shared) → Restocks c m
      → Makes d enabled false fields x h.block h.place e → r ≡ known_now (held.Owner h) e → d ≡ m → MakesNow c enabled fields x r e
  makes_now c m d e enabled fields x r h restocks event came at = (
    m,
    restocks,
    desk_same m d (λ z. Makes z enabled false fields x (owned r) (pointed r) e) at
        (subst (λ (k : Known V). Makes d enabled false fields x (owned k) (pointed k) e) (sym came) event),
    ap (λ (x : Known V). x.seen) came,
  )

  adds_after : (d e : DeskNow V) (n : ℕ) (x : Event V) → AddsEvent d x e → AddsEvent d x (record e { held = n })
  adds_after d e n x a = record { same = a.same; between = a.between; seen = a.seen; quiet = a.quiet; legal = a.legal }

  exchanges_by : (d e : DeskNow V) (x y : Cell) (h g : Held) (new got : Option (Known V)) → y ≡ x → IsHandleOf new h → Arrives g e got
      → Exchanges d y Owner (block_of h) (place_of h) (block_of g) (place_of g) e
      → Exchanges d x Owner (block_by new) (place_by new) (block_by got) (place_by got) e
  exchanges_by d e x y h g new got same given came s =
      subst (λ (z : Cell). Exchanges d z Owner (block_by new) (place_by new) (block_by got) (place_by got) e) same
      (subst (λ (b : Option Block). Exchanges d y Owner b (place_by new) (block_by got) (place_by got) e) (block_given new h given)
      (subst (λ (p : Option Place). Exchanges d y Owner (block_of h) p (block_by got) (place_by got) e) (place_given new h given)
      (subst (λ (b : Option Block). Exchanges d y Owner (block_of h) (place_of h) b (place_by got) e) (block_arrived g e got came)
      (subst (λ (p : Option Place). Exchanges d y Owner (block_of h) (place_of h) (block_of g) p e) (place_arrived g e got came) s))))

  pub exchanges_exactly : (b c d e f : DeskNow V) (x y : Cell) (h g : Held) (new got : Option (Known V)) → y ≡ x → IsHandleOf new h
      → Exchanges d y Owner (block_of h) (place_of h) (block_of g) (place_of g) e → Arrives g e got → IsButCount c d → IsButCount e f → c ≡ b
      → ExchangesNow b x new got f
  exchanges_exactly b c d e f x y h g new got same given event came before after at =
      desk_same b c (λ z. ExchangesNow z x new got f) at
      (subst (λ (z : DeskNow V). ExchangesNow c x new got z) (sym after) (
        adds_after c e f.held _ (adds_count c e d.held _
            (subst (λ (z : DeskNow V). Exchanges z x Owner (block_by new) (place_by new) (block_by got) (place_by got) e) before
            (exchanges_by d e x y h g new got same given came event))),
        came_count got e f.held (came_to g e got came),
      ))
