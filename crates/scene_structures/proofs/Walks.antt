-- Looks of a desk, one call after the other.
use Rattle.std.proofs.Common.{◌≡◌, ℕ, Bool, true, false, cond, List, [], ◌∷◌, ◌++◌, is_some, Some}
use Rattle.std.proofs.Common.{None, Ok, All, filter, Option, sym, refl, ap, ◌∙◌, subst, inl}
use Rattle.scene_structures.proofs.Prelude
use Prelude.{AddsEvent, All-append, All-cons, All-head, All-nil, All-tail, All-weaker, bag_of}
use Prelude.{Block, calls_keep_latest, Cell, ClearMember, counting, DeskNow, Does, Event, Finish}
use Prelude.{first_out, FoldsBack, goes_by_call, goes_in_turn, handle, handle_in, Has, HasLooked}
use Prelude.{is_look, IsAsked, IsLooking, IsMember, IsOwnerOf, IsParting, KeepsHeld, KeepsLatest}
use Prelude.{latest_of, Leave, LeavesWeakly, Load, Lock, LocksHandle, Member, node_in}
use Prelude.{NumberedHandle, object_of, Owner, owner, Place, place_at, Read, same_Some, SeenNode}
use Prelude.{Share, Shared, shared_cell, SharedAt, TellsField, told_onto, Walks, Weak, weak_cell}
use Prelude.{weak_does, WeakAt, WeakLeave, with_handle, without_handle}
use Rattle.std.proofs.lemmas.List.Elements.{filter-append}
use Rattle.control_word.specs.Handles.{has_object}
use Rattle.control_block.proofs.Own.{goes_by_none}
use Rattle.atomic_cells.specs.declared.sites.SharedMember.TheVariants.{Next}
use Rattle.atomic_cells.specs.declared.sites.SharedSite.TheVariants as shared
use Rattle.atomic_cells.specs.declared.sites.WeakSite.TheVariants as weak
use Rattle.scene_structures.specs.Walks.{VisitsNode}
use Rattle.scene_structures.proofs.Looks.{owner_within}
use Rattle.scene_structures.proofs.Latest.{has_over, latest_none, weak_latest}

-- what was told above the rest, by another name
pub folded : {F : Type 0} (step : F → ℕ → F → Type 0) (f last : F) (o p : Option ℕ) (told : List ℕ) → o ≡ p
    → FoldsBack step f (told_onto p told) last
    → FoldsBack step f (told_onto o told) last
folded step f last o p told same folds = subst (λ (k : Option ℕ). FoldsBack step f (told_onto k told) last) (sym same) folds

module _ {V : Type 0} where
  parting_looks : (x : Event V) → IsParting x → IsLooking x
  parting_looks (Leave h last) p = tt
  parting_looks (WeakLeave h v) p = tt
  parting_looks (ClearMember o m h) p = tt
  parting_looks (Finish o v y) p = tt
  parting_looks x p = absurd p

  no_look : (x : Event V) → IsParting x → is_look x ≡ false
  no_look (Leave h last) p = refl
  no_look (WeakLeave h v) p = refl
  no_look (ClearMember o m h) p = refl
  no_look (Finish o v y) p = refl
  no_look x p = absurd p

  no_looks : (xs : List (Event V)) → All IsParting xs → filter is_look xs ≡ []
  no_looks [] all = refl
  no_looks (x ∷ xs) all =
      ap (λ b. cond b (x ∷ filter is_look xs) (filter is_look xs)) (no_look x (All-head IsParting x xs all)) ∙ no_looks xs (All-tail IsParting x xs all)

  pub looked_none : (d : DeskNow V) → HasLooked d [] d
  looked_none d = record { own = []; goes = goes_by_none d; quiet = All-nil IsLooking; are = refl }

  pub looked_counted : (d e : DeskNow V) (n : ℕ) → e ≡ counting n d → HasLooked d [] e
  looked_counted d e n same =
      subst (HasLooked d []) (sym same)
      record {
        own = [];
        goes = record { same = (refl, refl, refl); later = []; seen = refl; mine = refl; legal = λ l. l };
        quiet = All-nil IsLooking;
        are = refl;
      }

  pub looked_call : (d e : DeskNow V) (x : Event V) → AddsEvent d x e → IsLooking x → HasLooked d (filter is_look (x ∷ [])) e
  looked_call d e x adds p = record { own = x ∷ []; goes = goes_by_call d x e adds; quiet = All-cons IsLooking x [] p (All-nil IsLooking); are = refl }

  pub looked_left : (d e : DeskNow V) → Does IsParting d e → HasLooked d [] e
  looked_left d e does =
      record {
        own = does.own;
        goes = does.goes;
        quiet = All-weaker IsParting IsLooking parting_looks does.own does.all;
        are = no_looks does.own does.all;
      }

  pub looked_both : (d m e : DeskNow V) (xs ys : List (Event V)) → HasLooked d xs m → HasLooked m ys e → HasLooked d (ys ++ xs) e
  looked_both d m e xs ys a b =
      record {
        own = b.own ++ a.own;
        goes = goes_in_turn d a.own m b.own e a.goes b.goes;
        quiet = All-append IsLooking b.own a.own b.quiet a.quiet;
        are = filter-append is_look b.own a.own ∙ (λ i. b.are i ++ a.are i);
      }

  -- over a call after which handles left
  pub looked_then : (d m e : DeskNow V) (xs : List (Event V)) → HasLooked d xs m → Does IsParting m e → HasLooked d xs e
  looked_then d m e xs a does = looked_both d m e xs [] a (looked_left m e does)

  -- field 0 was read through an alias, which left
  pub tells : (d m n e : DeskNow V) (b : Block) (p : Option Place) (x : ℕ) (q : Place)
      → AddsEvent d (Share (handle Owner (Some (latest_of d b.0)) p) (place_at b.0)) m
      → Has (handle Owner (Some b.0) p) (bag_of d) → place_at b.0 ≡ Some q → Some b ≡ Some q.block
      → AddsEvent m (Read (handle Owner (Some (latest_of m q.block.0)) (Some q)) x) n → Does IsParting n e
      → HasLooked d (Read (owner (latest_of d b.0) (place_at b.0)) x ∷ []) e
  tells d m n e b p x q shares has place block reads does =
      let same : b ≡ q.block = same_Some _ _ block in
      let latest : latest_of m q.block.0 ≡ latest_of d b.0 =
      ap (λ (c : Block). latest_of m c.0) (sym same) ∙ calls_keep_latest d _ m shares Owner p b.0 has in
      let is : handle Owner (Some (latest_of m q.block.0)) (Some q) ≡ owner (latest_of d b.0) (place_at b.0) =
      λ i. handle Owner (Some (latest i)) (sym place i) in
      looked_then d n e _
      (looked_both d m n [] _ (looked_call d m _ shares tt)
      (looked_call m n _ (subst (λ (h : NumberedHandle). AddsEvent m (Read h x) n) is reads) tt)) does

  pub told_latest : (d m n e : DeskNow V) (x y : Event V) (b : Option Block) (p : Option Place) → AddsEvent d x m
      → bag_of m ≡ with_handle Owner b p (bag_of d)
      → AddsEvent m y n → bag_of n ≡ bag_of m → KeepsHeld n e → bag_of e ≡ without_handle Owner b p (bag_of n) → KeepsHeld d e
  told_latest d m n e x y b p one bag_m two bag_n three bag_e k q c has =
      let h = handle k (Some c) q in
      let all : bag_of e ≡ bag_of d =
      bag_e ∙ (ap (without_handle Owner b p) (bag_n ∙ bag_m) ∙ first_out Owner b p (bag_of d)) in
      let had : Has h (bag_of d) = subst (Has h) all has in
      let in_m : Has h (bag_of m) = subst (Has h) (sym bag_m) (has_over Owner b p h (bag_of d) had) in
      three k q c has ∙ (calls_keep_latest m y n two k q c in_m ∙ calls_keep_latest d x m one k q c had)

  -- a lock is an event or, of an empty handle, none
  pub lock_latest : (d e : DeskNow V) (b : Option Block) (p : Option Place) (got : Bool) → LocksHandle d b p got e → KeepsLatest d e
  lock_latest d e None p got is =
      λ k r c has. latest_none d e (ap (λ (u : DeskNow V). u.shape) is.1) (ap (λ (u : DeskNow V). u.seen) is.1) c
  lock_latest d e (Some b) p got is = calls_keep_latest d _ e is.0

  pub lock_looks : (d e : DeskNow V) (b : Option Block) (p : Option Place) (got : Bool) → LocksHandle d b p got e
      → HasLooked d (cond (has_object (handle_in d Weak b p)) (Lock (handle_in d Weak b p) got ∷ []) []) e
  lock_looks d e None p got is = looked_counted d e _ is.1
  lock_looks d e (Some b) p got is = looked_call d e _ is.0 tt

  -- a weak handle was loaded and locked, field 0 of the owner that came told, and both left
  pub asks : (d m n t u e : DeskNow V) (c : Cell) (wb : Option Block) (wp : Option Place) (o : Shared) (told : Option ℕ) (v : Bool)
      → AddsEvent d (Load c (handle_in m Weak wb wp)) m → bag_of m ≡ with_handle Weak wb wp (bag_of d) → LocksHandle m wb wp (is_some o.block) n
      → IsOwnerOf wb wp (is_some o.block) o → TellsField n o.block told t → Does IsParting t u → LeavesWeakly u wb wp v e
      → (h : NumberedHandle) × (asked : List (Event V)) × IsAsked h told asked × HasLooked d (asked ++ Load c h ∷ []) e
  asks d m n t u e c wb wp o told v loads bag locks is tells' does leaves =
      let h = handle_in m Weak wb wp in
      let r = go o.block refl wb told bag locks is tells' in (
        h,
        r.0,
        r.1,
        looked_then d u e (r.0 ++ Load c h ∷ [])
            (looked_then d t u (r.0 ++ Load c h ∷ []) (looked_both d m t (Load c h ∷ []) r.0 (looked_call d m (Load c h) loads tt) r.2) does)
            (weak_does u e wb wp v leaves),
      )
    where
      go : (b : Option Block) → o.block ≡ b → (wb : Option Block) (told : Option ℕ) → bag_of m ≡ with_handle Weak wb wp (bag_of d)
          → LocksHandle m wb wp (is_some b) n → IsOwnerOf wb wp (is_some b) o → TellsField n b told t
          → (asked : List (Event V)) × IsAsked (handle_in m Weak wb wp) told asked × HasLooked m asked t
      go None eb wb None bag locks is tells' =
          let h = handle_in m Weak wb wp in let l = cond (has_object h) (Lock h false ∷ []) [] in
          (l, refl, looked_both m n t l [] (lock_looks m n wb wp false locks) tells')
      go None eb wb (Some x) bag locks is tells' = absurd tells'
      go (Some b) eb None told bag locks is tells' = absurd (let k : true ≡ false = locks.0 in cc)
      go (Some b) eb (Some w) None bag locks is tells' = absurd tells'
      go (Some b) eb (Some w) (Some x) bag locks is tells' =
          let h = handle_in m Weak (Some w) wp in
          let same : b ≡ w = same_Some _ _ (sym eb ∙ is.0) in
          let has : Has (handle Weak (Some w.0) wp) (bag_of m) = subst (Has (handle Weak (Some w.0) wp)) (sym bag) (inl refl) in
          let latest : latest_of n b.0 ≡ latest_of m w.0 =
          ap (λ (k : Block). latest_of n k.0) same ∙ lock_latest m n (Some w) wp true locks Weak wp w.0 has in
          let read : HasLooked n (Read (owner (latest_of m w.0) (place_at b.0)) x ∷ []) t =
          subst (λ j. HasLooked n (Read (owner j (place_at b.0)) x ∷ []) t) latest tells' in (
            Read (owner (latest_of m w.0) (place_at b.0)) x ∷ Lock h true ∷ [],
            (b.0, refl),
            looked_both m n t (Lock h true ∷ []) (Read (owner (latest_of m w.0) (place_at b.0)) x ∷ []) (lock_looks m n (Some w) wp true locks) read,
          )

  pub asked_latest : (d m n t u e : DeskNow V) (x : Event V) (wb ob : Option Block) (wp op : Option Place) (got v : Bool) → AddsEvent d x m
      → bag_of m ≡ with_handle Weak wb wp (bag_of d) → LocksHandle m wb wp got n → bag_of n ≡ with_handle Owner ob op (bag_of m) → KeepsHeld n t
      → bag_of t ≡ bag_of n → KeepsHeld t u → bag_of u ≡ without_handle Owner ob op (bag_of t) → LeavesWeakly u wb wp v e
      → bag_of e ≡ without_handle Weak wb wp (bag_of u) → KeepsHeld d e
  asked_latest d m n t u e x wb ob wp op got v loads bag_m locks bag_n three bag_t four bag_u leaves bag_e k q c has =
      let h = handle k (Some c) q in
      let back : bag_of u ≡ bag_of m = bag_u ∙ (ap (without_handle Owner ob op) (bag_t ∙ bag_n) ∙ first_out Owner ob op (bag_of m)) in
      let all : bag_of e ≡ bag_of d = bag_e ∙ (ap (without_handle Weak wb wp) (back ∙ bag_m) ∙ first_out Weak wb wp (bag_of d)) in
      let had : Has h (bag_of d) = subst (Has h) all has in
      let in_m : Has h (bag_of m) = subst (Has h) (sym bag_m) (has_over Weak wb wp h (bag_of d) had) in
      let in_n : Has h (bag_of n) = subst (Has h) (sym bag_n) (has_over Owner ob op h (bag_of m) in_m) in
      let in_t : Has h (bag_of t) = subst (Has h) (sym bag_t) in_n in
      let in_u : Has h (bag_of u) = subst (Has h) (sym back) in_m in
      weak_latest u e wb wp v leaves k q c in_u
      ∙ (four k q c in_u ∙ (three k q c in_t ∙ (lock_latest m n wb wp got locks k q c in_m ∙ calls_keep_latest d x m loads k q c had)))

  -- a node's `up` was asked, its `next` loaded, and the node left
  pub visits : (d a l e : DeskNow V) (node next : Shared) (up : WeakAt) (at : SharedAt) (told : Option ℕ)
      → IsMember (λ c (x : WeakAt). x.site ≡ weak.Up c) node.block node.place (Ok up)
      → IsMember (λ c (x : SharedAt). x.site ≡ shared.Of c Next) node.block node.place (Ok at)
      → ((h : NumberedHandle) × (asked : List (Event V)) × IsAsked h told asked × HasLooked d (asked ++ Load (weak_cell d up.site) h ∷ []) a)
      → node_in a node ≡ node_in d node → AddsEvent a (Load (shared_cell a at.site) (node_in l next)) l → Does IsParting l e
      → node_in e next ≡ node_in l next → VisitsNode d (node_in d node) told next e
  visits d a l e node next up at told (q, place, block, is) (q', place', block', is') (h, asked, asks', looked) same loads does after =
      let o = object_of (node_in d node) in
      let within = owner_within d node q place block in
      let up_cell : weak_cell d up.site ≡ Member o 2 =
      ap (weak_cell d) is ∙ ap (λ (b : Option Block). Member (object_of (handle_in d Owner b node.place)) 2) (sym block) in
      let next_cell : shared_cell a at.site ≡ Member o 1 =
      ap (shared_cell a) is'
      ∙ (ap (λ (b : Option Block). Member (object_of (handle_in a Owner b node.place)) 1) (sym block')
      ∙ ap (λ (k : NumberedHandle). Member (object_of k) 1) same) in
      let first = subst (λ (c : Cell). HasLooked d (asked ++ Load c h ∷ []) a) up_cell looked in
      let look = Load (Member o 1) (node_in l next) in
      let second = looked_call a l look (subst (λ (c : Cell). AddsEvent a (Load c (node_in l next)) l) next_cell loads) tt in
      let before = asked ++ Load (Member o 2) h ∷ [] in
      record {
        stop = record { object = o; up = h; told = told; next = node_in l next };
        looks = look ∷ before;
        is = record { asked = asked; asks = asks'; are = refl };
        node = ap (λ (k : NumberedHandle). k.object) within ∙ ap Some (sym (ap object_of within));
        tells = refl;
        goes_on = after;
        looked = looked_then d l e (look ∷ before) (looked_both d a l before (look ∷ []) first second) does;
      }

  -- the walk goes on by a visit
  pub walks_on : (h at : NumberedHandle) (stops : List SeenNode) (before : List (Event V)) (d m e : DeskNow V) (told : Option ℕ) (next : Shared)
      → Walks h stops at before → HasLooked d before m → (v : VisitsNode m at told next e)
      → Walks h (v.stop ∷ stops) (node_in e next) (v.looks ++ before) × HasLooked d (v.looks ++ before) e
  walks_on h at stops before d m e told next walks looked v =
      ((at, before, v.looks, walks, v.node, v.is, v.goes_on, refl), looked_both d m e before v.looks looked v.looked)
