-- Endings that lie one upon another, and all are in the desk's hands.
use Rattle.std.proofs.Common.{◌≡◌, ℕ, zero, suc, ◌+◌, ◌≤◌, true, ◌≢◌, List, [], ◌∷◌, ◌++◌, length}
use Rattle.std.proofs.Common.{slice_get, Some, vec_capacity, Option, unwrap_or, sym, refl, ap, ◌∙◌}
use Rattle.std.proofs.Common.{subst, arith, length-append}
use Rattle.shared_handle.proofs.Prelude
use Prelude.{AddsEvent, AllEnd, Block, Carries, ClearMember, ClearsOf, ClearsWeakly, DeskNow, DomainNow, Empty}
use Prelude.{empty, Ending, ending, endings_of, EndsInHand, IsBeside, IsClearing, IsLeft, Kind}
use Prelude.{IsLegal, IsSameDesk, KeepsElsewhere, KeepsEndings, KeepsOtherEndings, kind_of_member}
use Prelude.{Last, latest_of, leads, Leave, Left, more_ending, NotAmong}
use Prelude.{NumberedHandle, Object, object_in, on_latest, opening_of, Others, Owner, Pile, piled}
use Prelude.{Place, put, put_cases, Stacked, State, state_of, still_ends, Weak}
use Rattle.control_word.specs.Histories.{entry}
use Rattle.shared_handle.proofs.Beside.{apart, ends_beside}
use Rattle.shared_handle.proofs.Callers.{ends_kept}
use Rattle.shared_handle.specs.Endings.{ClearsMember}

module _ {V : Type 0} where
  -- what comes ends in the desk's hands, and is none of the list
  abbrev pub Comes : DeskNow V → List (Ending V) → Left V → Type 0
  Comes e xs Empty = Unit {0}
  Comes e xs Others = Unit {0}
  Comes e xs (Last y) = EndsInHand e y × NotAmong y.block.0 xs

  pub all_kept : (d e : DeskNow V) (xs : List (Ending V)) → KeepsEndings d e → AllEnd d xs → AllEnd e xs
  all_kept d e [] keeps all = tt
  all_kept d e (x ∷ xs) keeps all = (ends_kept d e x keeps all.0, all.1, all_kept d e xs keeps all.2)

  pub all_beside : (d e : DeskNow V) (b : ℕ) (xs : List (Ending V)) → KeepsOtherEndings d b e → NotAmong b xs → AllEnd d xs → AllEnd e xs
  all_beside d e b [] keeps n all = tt
  all_beside d e b (x ∷ xs) keeps n all = (ends_beside d e x b keeps n.0 all.0, all.1, all_beside d e b xs keeps n.1 all.2)

  -- an object whose last owner leaves is none of them
  pub left_apart : (d e : DeskNow V) (c : ℕ) (p : Option Place) (xs : List (Ending V)) → AllEnd d xs
      → AddsEvent d (Leave (on_latest d Owner p c) true) e → NotAmong c xs
  left_apart d e c p [] all adds = tt
  left_apart d e c p (x ∷ xs) all adds = (apart d e x.block.0 c p all.0.ends.phase adds, left_apart d e c p xs all.2 adds)

  pub among_append : (c : ℕ) (xs : List (Ending V)) (y : Ending V) → NotAmong c xs → y.block.0 ≢ c → NotAmong c (xs ++ y ∷ [])
  among_append c [] y n ne = (ne, tt)
  among_append c (x ∷ xs) y n ne = (n.0, among_append c xs y n.1 ne)

  pub among_before : (c : ℕ) (xs : List (Ending V)) (y : Ending V) → NotAmong c (xs ++ y ∷ []) → NotAmong c xs × (y.block.0 ≢ c)
  among_before c [] y n = (tt, n.0)
  among_before c (x ∷ xs) y n = let t = among_before c xs y n.1 in ((n.0, t.0), t.1)

  -- one more
  pub all_append : (d : DeskNow V) (xs : List (Ending V)) (y : Ending V) → AllEnd d xs → EndsInHand d y → NotAmong y.block.0 xs
      → AllEnd d (xs ++ y ∷ [])
  all_append d [] y all ends n = (ends, tt, tt)
  all_append d (x ∷ xs) y all ends n =
      (all.0, among_append x.block.0 xs y all.1 (λ e. n.0 (sym e)), all_append d xs y all.2 ends n.1)

  -- and one less
  pub all_last : (d : DeskNow V) (xs : List (Ending V)) (y : Ending V) → AllEnd d (xs ++ y ∷ []) → AllEnd d xs × EndsInHand d y × NotAmong y.block.0 xs
  all_last d [] y all = (tt, all.0, tt)
  all_last d (x ∷ xs) y all =
      let t = all_last d xs y all.2 in let n = among_before x.block.0 xs y all.1 in
      ((all.0, n.0, t.0), t.1, ((λ e. n.1 (sym e)), t.2))

  -- each of them ends in the desk's hands
  pub one_ends : (d : DeskNow V) (xs : List (Ending V)) (i : ℕ) (x : Ending V) → AllEnd d xs → slice_get xs i ≡ Some x → EndsInHand d x
  one_ends d [] i x all at = absurd (cc at)
  one_ends d (y ∷ xs) zero x all at = subst (EndsInHand d) (ap (λ o. unwrap_or o y) at) all.0
  one_ends d (y ∷ xs) (suc i) x all at = one_ends d xs i x all.2 at

  -- the top is taken in hand
  pub popped : (domain : DomainNow) (d : DeskNow V) (p q : Pile V) (x : Ending V) → Carries domain d p
      → p.endings.items ≡ q.endings.items ++ x ∷ [] → vec_capacity q.endings ≡ vec_capacity p.endings → Stacked domain d q x
  popped domain d p q x bears e room =
      let t = all_last d q.endings.items x (subst (AllEnd d) e bears.ends) in
      record {
        belongs = bears.belongs;
        ends = t.1;
        apart = t.2;
        others = t.0;
        room = subst (λ k. domain.shape.blocks ≤ k) (sym room) bears.room;
      }

  -- what ends, ends still when a member was cleared
  pub ends_through : (d e : DeskNow V) (b c m : ℕ) (h : NumberedHandle) → (object_in d b).phase ≡ ending d.name
      → AddsEvent d (ClearMember (latest_of d c) m h) e → (object_in e b).phase ≡ ending e.name
  ends_through d e b c m h ends adds =
      let z = opening_of d.shape in let o = latest_of d c in
      let legal = subst (IsLegal z) adds.seen adds.legal in
      let hist = adds.between ++ d.seen in
      let still = still_ends z adds.between d.seen b d.name legal.0 adds.quiet ends in
      let s = leads z hist in
      let x = s.object o in
      let after : Object = record x { member = put x.member m (empty (kind_of_member s.owners m)) } in
      let now : state_of e ≡ leads z (entry d.name (ClearMember o m h) ∷ hist) =
      (λ i. leads (opening_of (adds.same.1 i)) (adds.seen i)) in
      let phase : (put s.object o after (s.latest b)).phase ≡ (s.object (s.latest b)).phase =
      put_cases (λ j (u : Object). u.phase ≡ (s.object j).phase) s.object o after (s.latest b) (λ e. ap (λ j. (s.object j).phase) (sym e)) (λ n. refl) in
      ap (λ (u : State). (u.object (u.latest b)).phase) now
      ∙ (phase
      ∙ (ap (λ j. (s.object j).phase) still.latest ∙ (still.object.phase ∙ (ends ∙ ap ending (sym adds.same.2)))))

  -- what came out of a member and was an object's last owner, was that of none of them
  pub out_apart : (d between e : DeskNow V) (b m : ℕ) (h : NumberedHandle) (c : ℕ) (p : Option Place) (xs : List (Ending V)) → AllEnd d xs
      → AddsEvent d (ClearMember (latest_of d b) m h) between → AddsEvent between (Leave (on_latest between Owner p c) true) e → NotAmong c xs
  out_apart d between e b m h c p [] all takes leaves = tt
  out_apart d between e b m h c p (x ∷ xs) all takes leaves = (
    apart between e x.block.0 c p (ends_through d between x.block.0 b m h all.0.ends.phase takes) leaves,
    out_apart d between e b m h c p xs all.2 takes leaves,
  )

  -- an object ends for it, which is none of the pile
  pub left_comes : (d e : DeskNow V) (b : Option Block) (p : Option Place) (left : Left V) (xs : List (Ending V)) → AllEnd d xs
      → IsLeft d b p left e → Comes e xs left
  left_comes d e b p Empty xs all is = tt
  left_comes d e b p Others xs all is = tt
  left_comes d e b p (Last y) xs all is = (is.2, left_apart d e y.block.0 p xs all is.1)

  pub clears_comes : (d e : DeskNow V) (x : Ending V) (m : ℕ) (xs : List (Ending V)) (left : Left V) → AllEnd d xs → ClearsMember d x m left e
      → Comes e xs left
  clears_comes d e x m xs Empty all clears = tt
  clears_comes d e x m xs Others all clears = tt
  clears_comes d e x m xs (Last y) all clears =
      (clears.leaves.2, out_apart d clears.between e x.block.0 m _ y.block.0 clears.place xs all clears.takes.event clears.leaves.1)

  weakly_comes : (d e : DeskNow V) (x : Ending V) (m : ℕ) (xs : List (Ending V)) (left : Left V) → ClearsWeakly d x m left e → Comes e xs left
  weakly_comes d e x m xs Empty clears = tt
  weakly_comes d e x m xs Others clears = tt
  weakly_comes d e x m xs (Last y) clears = absurd clears.told

  of_comes : (k : Kind) (d e : DeskNow V) (x : Ending V) (m : ℕ) (xs : List (Ending V)) (left : Left V) → AllEnd d xs
      → ClearsOf k d x m left e → Comes e xs left
  of_comes Owner d e x m xs left all is = clears_comes d e x m xs left all is.0
  of_comes Weak d e x m xs left all is = weakly_comes d e x m xs left is

  pub clearing_comes : (d e : DeskNow V) (x : Ending V) (xs : List (Ending V)) (left : Left V) → AllEnd d xs
      → IsClearing d x left e → Comes e xs left
  clearing_comes d e x xs left all is = of_comes (kind_of_member d.shape.owners x.cleared) d e x x.cleared xs left all is

  -- the pile after a call that keeps what ends
  pub piled_all : (e : DeskNow V) (xs : List (Ending V)) (left : Left V) → AllEnd e xs → Comes e xs left → AllEnd e (piled xs left)
  piled_all e xs Empty all comes = all
  piled_all e xs Others all comes = all
  piled_all e xs (Last y) all comes = all_append e xs y all comes.0 comes.1

  pub piled_many : (xs : List (Ending V)) (left : Left V) → length (piled xs left) ≡ length xs + more_ending left
  piled_many xs Empty = omega arith
  piled_many xs Others = omega arith
  piled_many xs (Last y) = length-append xs (y ∷ [])

  pub piled_apart : (b : ℕ) (xs : List (Ending V)) (left : Left V) → NotAmong b xs → IsBeside b left → NotAmong b (piled xs left)
  piled_apart b xs Empty n beside = n
  piled_apart b xs Others n beside = n
  piled_apart b xs (Last y) n beside = among_append b xs y n beside

  pub piled_cons : (x : Ending V) (xs : List (Ending V)) (left : Left V) → piled (x ∷ xs) left ≡ x ∷ piled xs left
  piled_cons x xs Empty = refl
  piled_cons x xs Others = refl
  piled_cons x xs (Last y) = refl

  -- of two it is all the same which comes first
  pub swapped : (d : DeskNow V) (x y : Ending V) (zs : List (Ending V)) → AllEnd d (x ∷ (y ∷ zs)) → AllEnd d (y ∷ (x ∷ zs))
  swapped d x y zs all = (all.2.0, ((λ e. all.1.0 (sym e)), all.2.1), (all.0, all.1.1, all.2.2))

  -- the first goes below what came of a release
  pub below_left : (e : DeskNow V) (y : Ending V) (xs : List (Ending V)) (left : Left V) → AllEnd e (y ∷ piled xs left)
      → AllEnd e (piled (xs ++ y ∷ []) left)
  below_left e y xs Empty all = all_append e xs y all.2 all.0 all.1
  below_left e y xs Others all = all_append e xs y all.2 all.0 all.1
  below_left e y xs (Last z) all =
      let t = all_last e (y ∷ xs) z all in
      all_append e (xs ++ y ∷ []) z (all_append e xs y t.0.2 t.0.0 t.0.1) t.1 (among_append z.block.0 xs y t.2.1 t.2.0)

  -- a member of the one in hand was cleared
  pub cleared : (d e : DeskNow V) (x y : Ending V) (left : Left V) (xs : List (Ending V)) → AllEnd d (x ∷ xs)
      → IsClearing d x left e → KeepsOtherEndings d x.block.0 e → IsBeside x.block.0 left → y.block ≡ x.block → EndsInHand e y
      → AllEnd e (y ∷ piled xs left)
  cleared d e x y left xs all clears keeps beside same ends =
      let block : y.block.0 ≡ x.block.0 = ap (λ (b : Block). b.0) same in (
        ends,
        subst (λ (b : ℕ). NotAmong b (piled xs left)) (sym block) (piled_apart x.block.0 xs left all.1 beside),
        piled_all e xs left (all_beside d e x.block.0 xs keeps all.1 all.2) (clearing_comes d e x xs left all.2 clears),
      )

  -- one of the top
  pub cleared_top : (d e : DeskNow V) (x y : Ending V) (left : Left V) (xs : List (Ending V)) → AllEnd d (xs ++ x ∷ [])
      → IsClearing d x left e → KeepsOtherEndings d x.block.0 e → IsBeside x.block.0 left → y.block ≡ x.block → EndsInHand e y
      → AllEnd e (piled (xs ++ y ∷ []) left)
  cleared_top d e x y left xs all clears keeps beside same ends =
      let t = all_last d xs x all in
      below_left e y xs left (cleared d e x y left xs (t.1, t.2, t.0) clears keeps beside same ends)

  pub stacked_on : (domain : DomainNow) (d e : DeskNow V) (p q : Pile V) (x y : Ending V) (left : Left V) → Stacked domain d p x
      → IsClearing d x left e → KeepsOtherEndings d x.block.0 e → IsBeside x.block.0 left → y.block ≡ x.block → EndsInHand e y
      → IsSameDesk d e → q.endings.items ≡ piled p.endings.items left → vec_capacity q.endings ≡ vec_capacity p.endings
      → Stacked domain e q y
  stacked_on domain d e p q x y left s clears keeps beside same ends desk are room =
      let t = subst (λ l. AllEnd e (y ∷ l)) (sym are)
      (cleared d e x y left p.endings.items (s.ends, s.apart, s.others) clears keeps beside same ends) in
      record {
        belongs = record { table = desk.domain ∙ s.belongs.table; shape = desk.shape ∙ s.belongs.shape };
        ends = t.0;
        apart = t.1;
        others = t.2;
        room = subst (λ k. domain.shape.blocks ≤ k) (sym room) s.room;
      }

  -- an object ended for it, which is in hand then, and that lies on the pile
  pub stacked_above : (domain : DomainNow) (d e : DeskNow V) (p q : Pile V) (x y z : Ending V) → Stacked domain d p x
      → IsClearing d x (Last z) e → KeepsOtherEndings d x.block.0 e → IsBeside x.block.0 (Last z) → y.block ≡ x.block → EndsInHand e y
      → IsSameDesk d e → q.endings.items ≡ p.endings.items ++ y ∷ [] → vec_capacity q.endings ≡ vec_capacity p.endings
      → Stacked domain e q z
  stacked_above domain d e p q x y z s clears keeps beside same ends desk are room =
      let xs = p.endings.items in
      let t = all_last e q.endings.items z
      (subst (λ l. AllEnd e (l ++ z ∷ [])) (sym are)
      (below_left e y xs (Last z) (cleared d e x y (Last z) xs (s.ends, s.apart, s.others) clears keeps beside same ends))) in
      record {
        belongs = record { table = desk.domain ∙ s.belongs.table; shape = desk.shape ∙ s.belongs.shape };
        ends = t.1;
        apart = t.2;
        others = t.0;
        room = subst (λ k. domain.shape.blocks ≤ k) (sym room) s.room;
      }

  pub stacked_elsewhere : (d e : DeskNow V) (x y : Ending V) (left : Left V) (xs ys : List (Ending V))
      → IsClearing d x left e → KeepsOtherEndings d x.block.0 e → endings_of e ≡ endings_of d + more_ending left → IsBeside x.block.0 left
      → y.block ≡ x.block → EndsInHand e y → ys ≡ piled xs left → KeepsElsewhere d (x ∷ xs) e (y ∷ ys)
  stacked_elsewhere d e x y left xs ys clears keeps count beside same ends are =
      record {
        count = let a = piled_many xs left in let b = ap length are in omega arith;
        beside = λ w all.
            subst (λ l. AllEnd e (w ∷ (y ∷ l))) (sym are)
            (swapped e y w (piled xs left)
            (subst (λ l. AllEnd e (y ∷ l)) (piled_cons w xs left)
            (cleared d e x y left (w ∷ xs) (swapped d w x xs all) clears keeps beside same ends)));
      }
