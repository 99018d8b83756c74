-- In which order objects end, call by call.
use Rattle.std.proofs.Common.{◌≡◌, ℕ, Bool, List, [], ◌∷◌, ◌++◌, Some, None, Ok, Err, Option}
use Rattle.std.proofs.Common.{Result, sym, refl, subst, inl, inr}
use Rattle.scene_structures.proofs.Prelude
use Prelude.{AddsEvent, All-nil, AreRounds, AsksExpired, Block, counting, DeskNow, Does, does_both}
use Prelude.{does_none, does_one, Drops, Ending, EndsInOrder, Event, Gone, IsExpiry, LeavesWeakly}
use Prelude.{LocksHandle, LocksUp, Makes, Null, Outside, Past, Place, Refusal, Shared, SharesOwner}
use Prelude.{SharesWeakly}
use Rattle.shared_handle.specs.Endings.{IsRead}
use Rattle.scene_structures.specs.Orders.{AreSteps, Before, EndsNothing, IsStep}

module _ {V : Type 0} where
  still_counted : (d e : DeskNow V) (n : ℕ) → e ≡ counting n d → Does EndsNothing d e
  still_counted d e n is =
      subst (Does EndsNothing d) (sym is)
      record { own = []; goes = record { same = (refl, refl, refl); later = []; seen = refl; mine = refl; legal = λ l. l }; all = All-nil EndsNothing }

  still_weak : (d e : DeskNow V) (b : Option Block) (p : Option Place) (v : Bool) → LeavesWeakly d b p v e → Does EndsNothing d e
  still_weak d e None p v is = still_counted d e _ is.0
  still_weak d e (Some b) p v is = does_one EndsNothing d e _ is tt

  still_shares : (d e : DeskNow V) (b : Option Block) (p q : Option Place) → SharesOwner d b p q e → Does EndsNothing d e
  still_shares d e None p q is = still_counted d e _ is
  still_shares d e (Some b) p q is = does_one EndsNothing d e _ is tt

  still_watches : (d e : DeskNow V) (b : Option Block) (q : Option Place) → SharesWeakly d b q e → Does EndsNothing d e
  still_watches d e None q is = still_counted d e _ is
  still_watches d e (Some b) q is = does_one EndsNothing d e _ is tt

  still_locks : (d e : DeskNow V) (b : Option Block) (p : Option Place) (got : Bool) → LocksHandle d b p got e → Does EndsNothing d e
  still_locks d e None p got is = still_counted d e _ is.1
  still_locks d e (Some b) p got is = does_one EndsNothing d e _ is.0 tt

  still_expiry : (d e : DeskNow V) (b : Option Block) (p : Option Place) (gone : Bool) → IsExpiry d b p gone e → Does EndsNothing d e
  still_expiry d e None p gone is = subst (Does EndsNothing d) (sym is.1) (does_none EndsNothing d)
  still_expiry d e (Some b) p gone is = does_one EndsNothing d e _ is tt

  still_read : (d e : DeskNow V) (b : Option Block) (p : Option Place) (r : Result ℕ Refusal) → IsRead d b p r e → Does EndsNothing d e
  still_read d e b p (Ok n) is = does_one EndsNothing d e _ is.3 tt
  still_read d e b p (Err Null) is = subst (Does EndsNothing d) (sym is.1) (does_none EndsNothing d)
  still_read d e b p (Err Outside) is = subst (Does EndsNothing d) (sym is.1) (does_none EndsNothing d)
  still_read d e b p (Err why) is = absurd is

  -- a weak handle of the subject went into a node's `up`, and what was there left
  pub still_hung : (d m x e : DeskNow V) (b o : Option Block) (q p : Option Place) (v : Bool) (swap : Event V) → SharesWeakly d b q m
      → AddsEvent m swap x → EndsNothing swap → LeavesWeakly x o p v e → Does EndsNothing d e
  still_hung d m x e b o q p v swap shares adds is leaves =
      does_both EndsNothing d m e (still_watches d m b q shares)
      (does_both EndsNothing m x e (does_one EndsNothing m x swap adds is) (still_weak x e o p v leaves))

  -- what is looked at and left ends nothing
  still_up : (d e : DeskNow V) (o : ℕ) (h : Shared) → LocksUp d o h e → Does EndsNothing d e
  still_up d e o h is =
      does_both EndsNothing d is.loaded e (does_one EndsNothing d is.loaded _ is.loads tt)
      (does_both EndsNothing is.loaded is.locked e (still_locks is.loaded is.locked is.block is.place _ is.locks)
      (still_weak is.locked e is.block is.place is.vacant is.leaves))

  still_asked : (d e : DeskNow V) (c : _) (gone : Bool) → AsksExpired d c gone e → Does EndsNothing d e
  still_asked d e c gone is =
      does_both EndsNothing d is.loaded e (does_one EndsNothing d is.loaded _ is.loads tt)
      (does_both EndsNothing is.loaded is.asked e (still_expiry is.loaded is.asked is.block is.place gone is.asks)
      (still_weak is.asked e is.block is.place is.vacant is.leaves))

  steps_both : (d e f : DeskNow V) (xs ys zs : List (Ending V)) (ss ts : List (Before V)) → AreSteps d xs ss e ys → AreSteps e ys ts f zs
      → AreSteps d xs (ts ++ ss) f zs
  steps_both d e f xs ys zs ss [] a (is, same) = subst (λ (u : DeskNow V). AreSteps d xs ss u zs) (sym is) (subst (AreSteps d xs ss e) (sym same) a)
  steps_both d e f xs ys zs ss (t ∷ ts) a (rest, step) = (steps_both d e t.desk xs ys t.pile ss ts a rest, step)

  pub order_none : (d : DeskNow V) (xs : List (Ending V)) → EndsInOrder d xs d xs
  order_none d xs = record { steps = []; are = (refl, refl) }

  -- one after the other
  pub order_both : {d e f : DeskNow V} {xs ys zs : List (Ending V)} → EndsInOrder d xs e ys → EndsInOrder e ys f zs → EndsInOrder d xs f zs
  order_both {d} {e} {f} {xs} {ys} {zs} one two =
      record { steps = two.steps ++ one.steps; are = steps_both d e f xs ys zs one.steps two.steps one.are two.are }

  order_step : (d e : DeskNow V) (xs ys : List (Ending V)) → IsStep d xs e ys → EndsInOrder d xs e ys
  order_step d e xs ys step = record { steps = record { desk = d; pile = xs } ∷ []; are = ((refl, refl), step) }

  -- a call that ends nothing
  pub order_still : (d e : DeskNow V) (xs : List (Ending V)) → Does EndsNothing d e → EndsInOrder d xs e xs
  order_still d e xs still = order_step d e xs xs (inl (still, refl))

  pub order_event : (d e : DeskNow V) (xs : List (Ending V)) (x : Event V) → AddsEvent d x e → EndsNothing x → EndsInOrder d xs e xs
  order_event d e xs x adds is = order_still d e xs (does_one EndsNothing d e x adds is)

  pub order_makes : (d e : DeskNow V) (enabled null : Bool) (fields : List ℕ) (x : V) (b : Option Block) (p : Option Place) (xs : List (Ending V))
      → Makes d enabled null fields x b p e → EndsInOrder d xs e xs
  order_makes d e enabled null fields x None p xs is = absurd is
  order_makes d e enabled null fields x (Some b) p xs is = order_event d e xs _ is.1 tt

  pub order_counted : (d e : DeskNow V) (n : ℕ) (xs : List (Ending V)) → e ≡ counting n d → EndsInOrder d xs e xs
  order_counted d e n xs is = order_still d e xs (still_counted d e n is)

  pub order_weak : (d e : DeskNow V) (b : Option Block) (p : Option Place) (v : Bool) (xs : List (Ending V)) → LeavesWeakly d b p v e
      → EndsInOrder d xs e xs
  order_weak d e b p v xs is = order_still d e xs (still_weak d e b p v is)

  pub order_shares : (d e : DeskNow V) (b : Option Block) (p q : Option Place) (xs : List (Ending V)) → SharesOwner d b p q e
      → EndsInOrder d xs e xs
  order_shares d e b p q xs is = order_still d e xs (still_shares d e b p q is)

  pub order_locks : (d e : DeskNow V) (b : Option Block) (p : Option Place) (got : Bool) (xs : List (Ending V)) → LocksHandle d b p got e
      → EndsInOrder d xs e xs
  order_locks d e b p got xs is = order_still d e xs (still_locks d e b p got is)

  pub order_read : (d e : DeskNow V) (b : Option Block) (p : Option Place) (r : Result ℕ Refusal) (xs : List (Ending V)) → IsRead d b p r e
      → EndsInOrder d xs e xs
  order_read d e b p r xs is = order_still d e xs (still_read d e b p r is)

  pub order_up : (d e : DeskNow V) (o : ℕ) (h : Shared) (xs : List (Ending V)) → LocksUp d o h e → EndsInOrder d xs e xs
  order_up d e o h xs is = order_still d e xs (still_up d e o h is)

  pub order_asked : (d e : DeskNow V) (c : _) (gone : Bool) (xs : List (Ending V)) → AsksExpired d c gone e → EndsInOrder d xs e xs
  order_asked d e c gone xs is = order_still d e xs (still_asked d e c gone is)

  -- an owner left, and the pile was settled
  pub order_left : (d m e : DeskNow V) (xs ys zs : List (Ending V)) (b : Option Block) (p : Option Place) (gone : Gone) (rounds : List (Past V))
      → Drops d xs b p gone m ys → AreRounds m ys rounds e zs → zs ≡ [] → EndsInOrder d xs e zs
  order_left d m e xs ys zs b p gone rounds drops are none =
      order_step d e xs zs
      (inr record { block = b; place = p; gone = gone; left = m; piled = ys; drops = drops; rounds = rounds; ends = are; none = none })

  -- where nothing lies on the pile before and after
  pub order_clear : (d e : DeskNow V) (xs ys : List (Ending V)) → xs ≡ [] → ys ≡ [] → EndsInOrder d xs e ys → EndsInOrder d [] e []
  order_clear d e xs ys none nil order =
      subst (λ zs. EndsInOrder d zs e []) none (subst (EndsInOrder d xs e) nil order)
