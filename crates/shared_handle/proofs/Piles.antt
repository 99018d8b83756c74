-- Objects that end in the desk's hands, one upon another.
use Rattle.std.proofs.Common.{◌≡◌, ℕ, ◌+◌, ◌<◌, ◌≤◌, Bool, true, false, cond, nat_lt, List, [], ◌∷◌, ◌++◌}
use Rattle.std.proofs.Common.{length, Some, None, vec_capacity, Option, sym, refl, ap, ◌∙◌, subst}
use Rattle.std.proofs.Common.{⊎_elim, true≢false, arith, length-append, le-ltb, lt-ltb}
use Rattle.shared_handle.proofs.Prelude
use Prelude.{AllEnd, Block, Carries, cond-false, cond-true, DeskNow, DomainNow, Ending, endings_of, EndsInHand}
use Prelude.{IsAllClear, IsBeside, IsClearing, IsLeft, IsSameDesk, KeepsElsewhere, KeepsEndings}
use Prelude.{KeepsOtherEndings, Left, more_ending, next_member, Pile, piled, Place}
use Prelude.{Stacked, Standing}
use Rattle.control_word.specs.declared.shape.Shape.{Shape}
use Rattle.control_block.specs.Desks.{KeepsStock}
use Rattle.shared_handle.proofs.Few.{few_listed}
use Rattle.shared_handle.proofs.PiledEndings.{Comes, all_beside, all_kept, all_last, below_left}
use Rattle.shared_handle.proofs.PiledEndings.{cleared, cleared_top, left_comes, piled_all, piled_cons}
use Rattle.shared_handle.proofs.PiledEndings.{piled_many, swapped}
use Rattle.shared_handle.specs.Piles.{Bears}
use Rattle.std.proofs.lemmas.Bool.{cases_lt}

module _ {V : Type 0} where
  -- no more end than there are blocks, and so there is room
  pub fits : (domain : DomainNow) (e : DeskNow V) (zs : List (Ending V)) (n : ℕ) → Standing e → e.shape ≡ domain.shape → domain.shape.blocks ≤ n
      → AllEnd e zs → length zs ≤ n
  fits domain e zs n stands shape room all =
      let a = few_listed e zs stands.legal all in let b = stands.endings in
      let c : e.shape.blocks ≡ domain.shape.blocks = ap (λ (k : Shape). k.blocks) shape in omega arith

  pub room_left : (domain : DomainNow) (d e : DeskNow V) (p : Pile V) (x y : Ending V) (left : Left V) → Stacked domain d p x
      → IsClearing d x left e → KeepsOtherEndings d x.block.0 e → IsBeside x.block.0 left → y.block ≡ x.block → EndsInHand e y
      → e.shape ≡ d.shape → Standing e → length p.endings.items + more_ending left ≤ vec_capacity p.endings
  room_left domain d e p x y left s clears keeps beside same ends shape stands =
      let t = cleared d e x y left p.endings.items (s.ends, s.apart, s.others) clears keeps beside same ends in
      let a = fits domain e (piled p.endings.items left) (vec_capacity p.endings) stands (shape ∙ s.belongs.shape) s.room t.2 in
      let b = piled_many p.endings.items left in omega arith

  -- the one in hand goes back, and then what ends for it
  pub room_above : (domain : DomainNow) (d e : DeskNow V) (p : Pile V) (ys : List (Ending V)) (x y : Ending V) (left : Left V) (n : ℕ)
      → Stacked domain d p x → IsClearing d x left e → KeepsOtherEndings d x.block.0 e → IsBeside x.block.0 left → y.block ≡ x.block
      → EndsInHand e y → e.shape ≡ d.shape → Standing e → ys ≡ p.endings.items ++ y ∷ [] → n ≡ vec_capacity p.endings
      → length ys + more_ending left ≤ n
  room_above domain d e p ys x y left n s clears keeps beside same ends shape stands are is =
      let t = below_left e y p.endings.items left
      (cleared d e x y left p.endings.items (s.ends, s.apart, s.others) clears keeps beside same ends) in
      let a = fits domain e (piled (p.endings.items ++ y ∷ []) left) (vec_capacity p.endings) stands (shape ∙ s.belongs.shape) s.room t in
      let b = piled_many (p.endings.items ++ y ∷ []) left in let c = ap length are in omega arith

  pub put_back : (domain : DomainNow) (d e : DeskNow V) (p q : Pile V) (x y : Ending V) (left : Left V) → Stacked domain d p x
      → IsClearing d x left e → KeepsOtherEndings d x.block.0 e → IsBeside x.block.0 left → y.block ≡ x.block → EndsInHand e y
      → IsSameDesk d e → q.endings.items ≡ piled (p.endings.items ++ y ∷ []) left → vec_capacity q.endings ≡ vec_capacity p.endings
      → Carries domain e q
  put_back domain d e p q x y left s clears keeps beside same ends desk are room =
      record {
        belongs = record { table = desk.domain ∙ s.belongs.table; shape = desk.shape ∙ s.belongs.shape };
        ends = subst (AllEnd e) (sym are)
            (below_left e y p.endings.items left
            (cleared d e x y left p.endings.items (s.ends, s.apart, s.others) clears keeps beside same ends));
        room = subst (λ k. domain.shape.blocks ≤ k) (sym room) s.room;
      }

  pub back_elsewhere : (d e : DeskNow V) (x y : Ending V) (left : Left V) (below xs ys : List (Ending V)) → xs ≡ below ++ x ∷ []
      → IsClearing d x left e → KeepsOtherEndings d x.block.0 e → endings_of e ≡ endings_of d + more_ending left → IsBeside x.block.0 left
      → y.block ≡ x.block → EndsInHand e y → ys ≡ piled (below ++ y ∷ []) left → KeepsElsewhere d xs e ys
  back_elsewhere d e x y left below xs ys were clears keeps count beside same ends are =
      record {
        count = let a = piled_many (below ++ y ∷ []) left in let b = ap length are in let c = ap length were in
            let k = length-append below (y ∷ []) in let l = length-append below (x ∷ []) in omega arith;
        beside = λ w all.
            subst (λ l. AllEnd e (w ∷ l)) (sym are)
            (subst (AllEnd e) (piled_cons w (below ++ y ∷ []) left)
            (cleared_top d e x y left (w ∷ below) (subst (λ l. AllEnd d (w ∷ l)) were all) clears keeps beside same ends));
      }

  -- the one in hand was finished
  pub finished : (domain : DomainNow) (d e : DeskNow V) (p : Pile V) (x : Ending V) → Stacked domain d p x → KeepsOtherEndings d x.block.0 e
      → IsSameDesk d e → Carries domain e p
  finished domain d e p x s keeps desk =
      record {
        belongs = record { table = desk.domain ∙ s.belongs.table; shape = desk.shape ∙ s.belongs.shape };
        ends = all_beside d e x.block.0 p.endings.items keeps s.apart s.others;
        room = s.room;
      }

  pub finished_elsewhere : (d e : DeskNow V) (x : Ending V) (xs : List (Ending V)) → KeepsOtherEndings d x.block.0 e
      → endings_of e + 1 ≡ endings_of d → KeepsElsewhere d (x ∷ xs) e xs
  finished_elsewhere d e x xs keeps count =
      record {
        count = omega arith;
        beside = λ w all. let t = swapped d w x xs all in all_beside d e x.block.0 (w ∷ xs) keeps t.1 t.2;
      }

  -- the top was in hand meanwhile
  pub from_top : (d e : DeskNow V) (x : Ending V) (below xs ys : List (Ending V)) → xs ≡ below ++ x ∷ [] → KeepsElsewhere d (x ∷ below) e ys
      → KeepsElsewhere d xs e ys
  from_top d e x below xs ys were keeps =
      record {
        count = let a = keeps.count in let b = ap length were in let c = length-append below (x ∷ []) in omega arith;
        beside = λ w all.
            let t = all_last d (w ∷ below) x (subst (λ l. AllEnd d (w ∷ l)) were all) in
            keeps.beside w (swapped d x w below (t.1, t.2, t.0));
      }

  -- one after the other
  pub elsewhere_both : (d e f : DeskNow V) (xs ys zs : List (Ending V)) → KeepsElsewhere d xs e ys → KeepsElsewhere e ys f zs
      → KeepsElsewhere d xs f zs
  elsewhere_both d e f xs ys zs a b =
      record { count = let p = a.count in let q = b.count in omega arith; beside = λ w all. b.beside w (a.beside w all) }

  pub elsewhere_none : (d : DeskNow V) (xs : List (Ending V)) → KeepsElsewhere d xs d xs
  elsewhere_none d xs = record { count = refl; beside = λ w all. all }

  -- a call that ends nothing
  pub carries_kept : (domain : DomainNow) (d e : DeskNow V) (p : Pile V) → Carries domain d p
      → e.domain ≡ d.domain → e.shape ≡ d.shape → KeepsEndings d e → Carries domain e p
  carries_kept domain d e p w same shape keeps =
      record {
        belongs = record { table = same ∙ w.belongs.table; shape = shape ∙ w.belongs.shape };
        ends = all_kept d e p.endings.items keeps w.ends;
        room = w.room;
      }

  pub bears_kept : (domain : DomainNow) (d e : DeskNow V) (p : Pile V) → Bears domain d p
      → e.domain ≡ d.domain → e.shape ≡ d.shape → KeepsEndings d e → endings_of e ≡ endings_of d → Bears domain e p
  bears_kept domain d e p w same shape keeps count =
      record { carries = carries_kept domain d e p w.carries same shape keeps; many = w.many ∙ sym count }

  -- a call of a pile
  pub bears_after : (domain : DomainNow) (d e : DeskNow V) (p q : Pile V) → Bears domain d p → Carries domain e q
      → KeepsElsewhere d p.endings.items e q.endings.items → Bears domain e q
  bears_after domain d e p q w carries keeps =
      record { carries = carries; many = let a = w.many in let b = keeps.count in omega arith }

  -- what ends for it, if an object does, ends in the desk's hands, and is none of what ended there before
  abbrev pub EndsApart : DeskNow V → Left V → DeskNow V → Type 0
  EndsApart d left e = (xs : List (Ending V)) → AllEnd d xs → Comes e xs left

  pub left_ends : (d e : DeskNow V) (b : Option Block) (at : Option Place) (left : Left V) → IsLeft d b at left e → EndsApart d left e
  left_ends d e b at left is xs all = left_comes d e b at left xs all is

  -- what left may have been an object's last owner
  left_all : (d e : DeskNow V) (left : Left V) (xs : List (Ending V)) → AllEnd d xs → KeepsEndings d e → EndsApart d left e → AllEnd e (piled xs left)
  left_all d e left xs all keeps ends = piled_all e xs left (all_kept d e xs keeps all) (ends xs all)

  pub carries_left : (domain : DomainNow) (d e : DeskNow V) (p q : Pile V) (left : Left V) → Carries domain d p → KeepsStock d e → EndsApart d left e
      → q.endings.items ≡ piled p.endings.items left → vec_capacity q.endings ≡ vec_capacity p.endings → Carries domain e q
  carries_left domain d e p q left w keeps ends are same =
      record {
        belongs = record { table = keeps.domain ∙ w.belongs.table; shape = keeps.shape ∙ w.belongs.shape };
        ends = subst (AllEnd e) (sym are) (left_all d e left p.endings.items w.ends keeps.endings ends);
        room = subst (λ k. domain.shape.blocks ≤ k) (sym same) w.room;
      }

  pub left_elsewhere : (d e : DeskNow V) (left : Left V) (xs ys : List (Ending V)) → KeepsStock d e → EndsApart d left e
      → endings_of e ≡ endings_of d + more_ending left → ys ≡ piled xs left → KeepsElsewhere d xs e ys
  left_elsewhere d e left xs ys keeps ends count are =
      record {
        count = let p = piled_many xs left in let q = ap length are in omega arith;
        beside = λ w all.
            subst (λ l. AllEnd e (w ∷ l)) (sym are)
            (subst (AllEnd e) (piled_cons w xs left) (left_all d e left (w ∷ xs) all keeps.endings ends));
      }

  pub room_piled : (domain : DomainNow) (d e : DeskNow V) (p : Pile V) (left : Left V) → Carries domain d p → KeepsStock d e → EndsApart d left e
      → Standing e → length p.endings.items + more_ending left ≤ vec_capacity p.endings
  room_piled domain d e p left w keeps ends stands =
      let t = left_all d e left p.endings.items w.ends keeps.endings ends in
      let a = fits domain e (piled p.endings.items left) (vec_capacity p.endings) stands (keeps.shape ∙ w.belongs.shape) w.room t in
      let b = piled_many p.endings.items left in omega arith

  -- what is clear, and what isn't
  pub clear_all : (x : Ending V) → x.cleared ≤ x.members → next_member x ≡ None → IsAllClear x
  clear_all x few e =
      ⊎_elim (λ (lt : x.cleared < x.members).
      absurd (no_none (sym (cond-true (nat_lt x.cleared x.members) (Some x.cleared) None (lt-ltb x.cleared x.members lt)) ∙ e)))
      (λ (le : x.members ≤ x.cleared). omega arith) (cases_lt x.cleared x.members)
    where
      no_none : {n : ℕ} → Some n ≡ None → ⊥
      no_none e = cc e

  pub next_left : (x : Ending V) (m : ℕ) → next_member x ≡ Some m → (m ≡ x.cleared) × (x.cleared < x.members)
  next_left x m e =
      ⊎_elim (λ (lt : x.cleared < x.members).
      (sym (same (sym (cond-true (nat_lt x.cleared x.members) (Some x.cleared) None (lt-ltb x.cleared x.members lt)) ∙ e)), lt))
      (λ (le : x.members ≤ x.cleared).
      absurd (none_some (sym (cond-false (nat_lt x.cleared x.members) (Some x.cleared) None (le-ltb x.cleared x.members le)) ∙ e)))
      (cases_lt x.cleared x.members)
    where
      same : {n k : ℕ} → Some n ≡ Some k → n ≡ k
      same e = cc e

      none_some : {n : ℕ} → ◌≡◌ {A = Option ℕ} None (Some n) → ⊥
      none_some e = cc e

  pub some_left : (x : Ending V) (clear : Bool) → x.cleared ≤ x.members → (IsAllClear x → clear ≡ true) → clear ≡ false
      → x.cleared < x.members
  some_left x clear few told not =
      ⊎_elim (λ (lt : x.cleared < x.members). lt) (λ (le : x.members ≤ x.cleared). absurd (true≢false (sym (told (omega arith)) ∙ not)))
      (cases_lt x.cleared x.members)

  pub next_is : (x : Ending V) → x.cleared < x.members → next_member x ≡ Some x.cleared
  next_is x lt = cond-true (nat_lt x.cleared x.members) (Some x.cleared) None (lt-ltb x.cleared x.members lt)

  pub same_desk : (d : DeskNow V) → IsSameDesk d d
  same_desk d = record { domain = refl; shape = refl; name = refl; allowance = refl }

  pub same_both : (d e f : DeskNow V) → IsSameDesk d e → IsSameDesk e f → IsSameDesk d f
  same_both d e f a b =
      record { domain = b.domain ∙ a.domain; shape = b.shape ∙ a.shape; name = b.name ∙ a.name; allowance = b.allowance ∙ a.allowance }
