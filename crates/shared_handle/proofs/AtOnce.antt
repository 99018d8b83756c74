-- Objects that end at once: their members, which hold nothing, are cleared by looks.
use Rattle.std.proofs.Common.{◌≡◌, ℕ, suc, ◌+◌, ◌-◌, ◌<◌, ◌≤◌, false, List, [], ◌∷◌, ◌++◌, length, Some, None, Option}
use Rattle.std.proofs.Common.{vec_capacity, sym, refl, ap, ◌∙◌, subst, arith, length-append}
use Rattle.shared_handle.proofs.Prelude
use Prelude.{AddsEvent, AllEnd, bag_of, Block, Carries, ClearMember, ClearsOf, DeskNow, DomainNow, Empty}
use Prelude.{empty, Ending, Event, handle, NumberedHandle, Others, endings_of, EndsInHand, IsClearing, IsLeft, IsSameDesk, KeepsElsewhere}
use Prelude.{KeepsOtherEndings, Kind, Last, latest_of, Left, NotAmong, Owner, Pile, Place, Stacked, Weak, with_clear}
use Rattle.control_block.proofs.Latest.{calls_keep_latest}
use Rattle.control_block.specs.CellCalls.{without_handle}
use Rattle.control_block.specs.Desks.{KeepsStock, stock_of}
use Rattle.control_block.specs.Own.{KeepsHeld, KeepsLatest}
use Rattle.control_word.proofs.lists.Tallies.{handle_self, has_before, same_handle_true}
use Rattle.control_word.specs.Handles.{same_handle}
use Rattle.control_word.specs.State.{Has}
use Rattle.shared_handle.proofs.PiledEndings.{all_append, all_beside, all_kept, left_apart, swapped}
use Rattle.shared_handle.proofs.Piles.{elsewhere_both}
use Rattle.shared_handle.specs.Piles.{ClearsByLooks, ClearsInTurn, ClearsNext, OffPile}

-- who has a handle when another left had it before
had : (k : Kind) (q : Option Block) (p : Option Place) (x : NumberedHandle) (l : List NumberedHandle) → Has x (without_handle k q p l) → Has x l
had k None p x l has = has
had k (Some b) p x l has = has_before same_handle same_handle_true handle_self x (handle k (Some b.0) p) l has

module _ {V : Type 0} where
  -- the handles that a desk counts, one more and then one less
  counted_back : (e : DeskNow V) → e ≡ record e { held = e.held + 1 - 1 }
  counted_back e = let same : e.held ≡ e.held + 1 - 1 = omega arith in λ i. record e { held = same i }

  with_one_more : (d e : DeskNow V) (h : Event V) → AddsEvent d h e
      → AddsEvent d h (record e { held = e.held + 1 })
  with_one_more d e h adds =
      record { same = adds.same; between = adds.between; seen = adds.seen; quiet = adds.quiet; legal = adds.legal }

  -- a member was cleared by a look: nothing came out of it
  pub cleared_by_look : (k : Kind) (d e : DeskNow V) (x : Ending V) → AddsEvent d (ClearMember (latest_of d x.block.0) x.cleared (empty k)) e
      → e.held ≡ d.held → length (stock_of e) ≡ length (stock_of d) → ClearsOf k d x x.cleared Empty e
  cleared_by_look Owner d e x adds held stock = (
    record {
      block = None;
      place = None;
      between = record e { held = e.held + 1 };
      takes = record { event = with_one_more d e _ adds; held = ap (λ n. n + 1) held };
      leaves = (refl, counted_back e);
    },
    stock,
  )
  cleared_by_look Weak d e x adds held stock =
      record {
        block = None;
        place = None;
        between = record e { held = e.held + 1 };
        takes = record { event = with_one_more d e _ adds; held = ap (λ n. n + 1) held };
        vacant = false;
        leaves = (counted_back e, refl);
        told = refl;
        stock = omega (arith, stock);
      }

  -- no member was cleared
  pub no_looks : (d : DeskNow V) (x : Ending V) → ClearsByLooks d x d x
  no_looks d x = (0, λ xs. refl)

  -- one more was
  pub one_look : (d e f : DeskNow V) (x y z : Ending V) → ClearsByLooks d x e y → y.cleared < y.members → IsClearing e y Empty f → z ≡ with_clear y
      → bag_of f ≡ bag_of e → ClearsByLooks d x f z
  one_look d e f x y z looks some clears noted bag = (
    suc looks.0,
    λ xs. (
      record { desk = e; pile = xs; ending = y },
      looks.1 xs,
      record { some = some; left = Empty; clears = clears; pile = refl; ending = noted; bag = bag },
    ),
  )

  -- what lies on the pile ends in the desk's hands still
  pub looked_on : (domain : DomainNow) (d e : DeskNow V) (p : Pile V) (x y : Ending V) → Stacked domain d p x → KeepsOtherEndings d x.block.0 e
      → y.block ≡ x.block → EndsInHand e y → IsSameDesk d e → Stacked domain e p y
  looked_on domain d e p x y s keeps same ends desk =
      record {
        belongs = record { table = desk.domain ∙ s.belongs.table; shape = desk.shape ∙ s.belongs.shape };
        ends = ends;
        apart = subst (λ (b : Block). NotAmong b.0 p.endings.items) (sym same) s.apart;
        others = all_beside d e x.block.0 p.endings.items keeps s.apart s.others;
        room = s.room;
      }

  pub looked_elsewhere : (d e : DeskNow V) (x y : Ending V) (xs : List (Ending V)) → KeepsOtherEndings d x.block.0 e
      → endings_of e ≡ endings_of d → y.block ≡ x.block → EndsInHand e y → KeepsElsewhere d (x ∷ xs) e (y ∷ xs)
  looked_elsewhere d e x y xs keeps count same ends =
      record {
        count = ap (λ n. n + suc (length xs)) count;
        beside = λ w all.
            let t = swapped d w x xs all in
            swapped e y w xs (
              ends,
              subst (λ (b : Block). NotAmong b.0 (w ∷ xs)) (sym same) t.1,
              all_beside d e x.block.0 (w ∷ xs) keeps t.1 t.2,
            );
      }

  -- the one in hand goes onto the pile
  pub onto_pile : (d : DeskNow V) (x : Ending V) (xs ys : List (Ending V)) → ys ≡ xs ++ x ∷ [] → KeepsElsewhere d (x ∷ xs) d ys
  onto_pile d x xs ys are =
      record {
        count = let a = ap length are in let b = length-append xs (x ∷ []) in omega arith;
        beside = λ w all.
            let t = swapped d w x xs all in
            subst (λ l. AllEnd d (w ∷ l)) (sym are)
            (all_append d (w ∷ xs) x t.2 t.0 t.1);
      }

  -- the object of an owner that was the last
  pub left_stacked : (domain : DomainNow) (d e : DeskNow V) (p : Pile V) (b : Option Block) (at : Option Place) (x : Ending V) → Carries domain d p
      → KeepsStock d e → IsLeft d b at (Last x) e → Stacked domain e p x
  left_stacked domain d e p b at x w keeps is =
      record {
        belongs = record { table = keeps.domain ∙ w.belongs.table; shape = keeps.shape ∙ w.belongs.shape };
        ends = is.2;
        apart = left_apart d e x.block.0 at p.endings.items w.ends is.1;
        others = all_kept d e p.endings.items keeps.endings w.ends;
        room = w.room;
      }

  pub left_in_hand : (d e : DeskNow V) (b : Option Block) (at : Option Place) (x : Ending V) (xs : List (Ending V)) → KeepsStock d e
      → IsLeft d b at (Last x) e → endings_of e ≡ endings_of d + 1 → KeepsElsewhere d xs e (x ∷ xs)
  left_in_hand d e b at x xs keeps is count =
      record {
        count = omega arith;
        beside = λ w all.
            swapped e x w xs (is.2, left_apart d e x.block.0 at (w ∷ xs) all is.1, all_kept d e (w ∷ xs) keeps.endings all);
      }

  -- the desk is the same after a leave
  pub left_desk : (d e : DeskNow V) → KeepsStock d e → IsSameDesk d e
  left_desk d e keeps = record { domain = keeps.domain; shape = keeps.shape; name = keeps.name; allowance = keeps.allowance }

  -- the object last made in a block stays so by two calls, the first of which keeps the bag
  pub latest_both : (d e f : DeskNow V) → bag_of e ≡ bag_of d → KeepsLatest d e → KeepsLatest e f → KeepsLatest d f
  latest_both d e f bag one two k p b has =
      two k p b (subst (Has (handle k (Some b) p)) (sym bag) has) ∙ one k p b has

  left_latest : (d e : DeskNow V) (q : Option Block) (at : Option Place) (left : Left V) → IsLeft d q at left e → KeepsLatest d e
  left_latest d e q at Empty is = λ k p b has. ap (λ (u : DeskNow V). latest_of u b) is.1
  left_latest d e q at Others is = calls_keep_latest d _ e is.2
  left_latest d e q at (Last x) is = calls_keep_latest d _ e is.1

  -- what the desk has still, when an owner has left and what ended for it, is on the object that it was on
  pub held_since : (d e f : DeskNow V) (q : Option Block) (at : Option Place) (left : Left V) → IsLeft d q at left e
      → bag_of e ≡ without_handle Owner q at (bag_of d) → bag_of f ≡ bag_of e → KeepsLatest e f → KeepsHeld d f
  held_since d e f q at left is bag same latest k p b has =
      let x = handle k (Some b) p in let there = subst (Has x) same has in
      latest k p b there ∙ left_latest d e q at left is k p b (had Owner q at x (bag_of d) (subst (Has x) bag there))
