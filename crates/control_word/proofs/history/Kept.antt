-- What an event leaves to the desks that it isn't of and doesn't name.
use Rattle.std.proofs.Common.{◌≡◌, ℕ, suc, ◌+◌, ◌-◌, ◌≤◌, Bool, true, false, ◌≢◌, List, [], ◌∷◌}
use Rattle.std.proofs.Common.{◌++◌, Some, sym, refl, ap, ◌∙◌, subst, arith}
use Rattle.control_word.proofs.Prelude
use Prelude.{after, bag, Block, Cell, ClearMember, Compare, Count, empty, ending, Entry, Event}
use Prelude.{Expired, Finish, Free, gone, handed, handle, Has, Held, held, IsActing, Join}
use Prelude.{joins_up, kind_of_member, leads, Leave, Load, Lock, loses, Make, Member, moved_to}
use Prelude.{Names, new_object, NoneBy, NumberedHandle, Object, object_of, Opening, origin, Owner}
use Prelude.{Phase, put, Read, same_held, same_stored, Share, Shelve, Split, splits_off, State}
use Prelude.{stock, Stored, stored, Swap, swaps, Unshelve, Visit, Weak, WeakLeave, WeakShare}
use Rattle.control_word.proofs.history.Bags.{bag_gets, bag_loses, bag_renamed, desk_of, keeper}
use Rattle.control_word.proofs.history.Bags.{stock_renamed, stock_vacates}
use Rattle.control_word.proofs.lists.Parts.{has_part, part, part_has, part_other, part_passed}
use Rattle.control_word.proofs.lists.Parts.{part_without}
use Rattle.control_word.proofs.lists.Tallies.{held_true, put_cases, put_other, stored_true}
use Rattle.control_word.specs.Laws.{StaysAsMade}
use Rattle.control_word.specs.declared.model.event.Event.TheVariants as event

-- the desk has the same in both states
pub record Same (s t : State) (d : ℕ) : Type 0 where
  pub in_bag : bag t d ≡ bag s d
  pub in_stock : stock t d ≡ stock s d
  pub may_hold : t.allowance d ≡ s.allowance d
  pub is_joined : t.joined d ≡ s.joined d
  pub known : s.names ≤ t.names

pub still : (s : State) (d : ℕ) → Same s s d
still s d = record { in_bag = refl; in_stock = refl; may_hold = refl; is_joined = refl; known = omega arith }

-- only the hands change
hands_only : (s : State) (hs : List Held) (d : ℕ) → part desk_of d hs ≡ bag s d → Same s (record s { hands = hs }) d
hands_only s hs d e = record { in_bag = e; in_stock = refl; may_hold = refl; is_joined = refl; known = omega arith }

pub same_both : (s t u : State) (d : ℕ) → Same s t d → Same t u d → Same s u d
same_both s t u d a b =
    let x = a.known in let y = b.known in
    record {
      in_bag = b.in_bag ∙ a.in_bag;
      in_stock = b.in_stock ∙ a.in_stock;
      may_hold = b.may_hold ∙ a.may_hold;
      is_joined = b.is_joined ∙ a.is_joined;
      known = omega arith;
    }

swap_same : (s : State) (e d : ℕ) (c : Cell) (new old : NumberedHandle) → e ≢ d → Same s (swaps e c new old s) d
swap_same s e d (Free c) new old n = record {
  in_bag = bag_gets (loses e new s) e d old n
      ∙ bag_loses s e d new n;
  in_stock = refl;
  may_hold = refl;
  is_joined = refl;
  known = omega arith;
}
swap_same s e d (Member o m) new old n = record {
  in_bag = bag_gets (loses e new s) e d old n
      ∙ bag_loses s e d new n;
  in_stock = refl;
  may_hold = refl;
  is_joined = refl;
  known = omega arith;
}

-- only the stores and the shelf change
stores_only : (s : State) (r : List Stored) (f : ℕ → Bool) (d : ℕ) → part keeper d r ≡ stock s d
    → Same s (record s { stores = r; shelved = f }) d
stores_only s r f d e = record { in_bag = refl; in_stock = e; may_hold = refl; is_joined = refl; known = omega arith }

split_same : (s : State) (e to amount d : ℕ) (hs : List NumberedHandle) (bs : List Block) → e ≢ d → to ≢ d → Same s (splits_off e to amount hs bs s) d
split_same s e to amount d hs bs n m = record {
  in_bag = part_passed desk_of d same_held held_true (λ (h : NumberedHandle). held e h) (λ h. held to h) hs s.hands (λ t. n) (λ t. m);
  in_stock = part_passed keeper d same_stored stored_true (λ (b : Block). stored e b.0) (λ b. stored to b.0) bs s.stores (λ t. n) (λ t. m);
  may_hold = put_other (put s.allowance e (s.allowance e - amount)) to amount d (λ q. m (sym q))
      ∙ put_other s.allowance e (s.allowance e - amount) d (λ q. n (sym q));
  is_joined = refl;
  known = omega arith;
}

join_same : (s : State) (e other d : ℕ) → e ≢ d → other ≢ d → Same s (joins_up e other s) d
join_same s e other d n m = record {
  in_bag = bag_renamed s.hands d e other n (λ q. m (sym q));
  in_stock = stock_renamed s.stores d e other n (λ q. m (sym q));
  may_hold = put_other (put s.allowance e (s.allowance e + s.allowance other)) other 0 d (λ q. m (sym q))
      ∙ put_other s.allowance e (s.allowance e + s.allowance other) d (λ q. n (sym q));
  is_joined = put_other s.joined other true d (λ q. m (sym q));
  known = omega arith;
}

module _ {V : Type 0} where
  pub same_after : (s : State) (d e : ℕ) (a : Event V) → e ≢ d → (Names a d → ⊥) → Same s (after s e a) d
  same_after s d e (Make b enabled null fields val) n j = record {
    in_bag = part_other desk_of d (held e (handle Owner (Some (suc s.made)) (origin b.0 null))) s.hands n;
    in_stock = part_without keeper d same_stored stored_true (stored e b.0) s.stores n;
    may_hold = refl;
    is_joined = refl;
    known = omega arith;
  }
  same_after s d e (Share y p) n j = hands_only s _ d (part_other desk_of d (held e (handle Owner y.object p)) s.hands n)
  same_after s d e (Leave y last) n j = record {
    in_bag = part_without desk_of d same_held held_true
        (held e y) s.hands n;
    in_stock = refl;
    may_hold = refl;
    is_joined = refl;
    known = omega arith;
  }
  same_after s d e (Count y c) n j = still s d
  same_after s d e (Expired y c) n j = still s d
  same_after s d e (Read y c) n j = still s d
  same_after s d e (event.Same c h so) n j = still s d
  same_after s d e (WeakShare o p) n j = hands_only s _ d (part_other desk_of d (held e (handle Weak (Some o) p)) s.hands n)
  same_after s d e (WeakLeave y v) n j = record {
    in_bag = bag_loses s e d y n;
    in_stock = stock_vacates (loses e y s) v e d (s.object
        (object_of y)).block n;
    may_hold = refl;
    is_joined = refl;
    known = omega arith;
  }
  same_after s d e (Lock y true) n j = hands_only s _ d (part_other desk_of d (held e (handle Owner y.object y.place)) s.hands n)
  same_after s d e (Lock y false) n j = still s d
  same_after s d e (Load c y) n j = hands_only s _ d (bag_gets s e d y n)
  same_after s d e (Swap c y w) n j = swap_same s e d c y w n
  same_after s d e (Compare c u y w true k) n j = swap_same s e d c y w n
  same_after s d e (Compare c u y w false k) n j = hands_only s _ d (bag_gets s e d w n)
  same_after s d e (ClearMember o m y) n j = record { in_bag = bag_gets s e d y n; in_stock = refl; may_hold = refl; is_joined = refl; known = omega arith }
  same_after s d e (Finish o v val) n j = record {
    in_bag = refl;
    in_stock = stock_vacates s v e d
        (s.object o).block n;
    may_hold = refl;
    is_joined = refl;
    known = omega arith;
  }
  same_after s d e (Visit y c w) n j = still s d
  same_after s d e (Split to amount hs bs) n j = split_same s e to amount d hs bs n j
  same_after s d e (Join other) n j = join_same s e other d n j
  same_after s d e (Shelve b) n j = stores_only s _ _ d (part_without keeper d same_stored stored_true (stored e b.0) s.stores n)
  same_after s d e (Unshelve b) n j = stores_only s _ _ d (part_other keeper d (stored e b.0) s.stores n)

  -- what a desk has by what it has seen, it has
  pub same_kept : (z : Opening) (later seen : List (Entry V)) (d : ℕ) → NoneBy d later → Same (leads z seen) (leads z (later ++ seen)) d
  same_kept z [] seen d n = still (leads z seen) d
  same_kept z (e ∷ later) seen d n =
      same_both (leads z seen) (leads z (later ++ seen)) (leads z (e ∷ (later ++ seen))) d (same_kept z later seen d n.2)
      (same_after (leads z (later ++ seen)) d e.desk e.event n.0 n.1)

pub has_same : (s t : State) (d : ℕ) (x : NumberedHandle) → Same s t d → Has (held d x) s.hands → Has (held d x) t.hands
has_same s t d x same h =
    (part_has desk_of d (held d x) t.hands (subst (λ l. Has (held d x) l) (sym same.in_bag) (has_part desk_of d (held d x) s.hands refl h))).0

pub stored_same : (s t : State) (d b : ℕ) → Same s t d → Has (stored d b) s.stores → Has (stored d b) t.stores
stored_same s t d b same h =
    (part_has keeper d (stored d b) t.stores (subst (λ l. Has (stored d b) l) (sym same.in_stock) (has_part keeper d (stored d b) s.stores refl h))).0

pub acting_same : (s t : State) (d : ℕ) → Same s t d → IsActing s d → IsActing t d
acting_same s t d same acts = let k = same.known in let a = same.may_hold in let n = acts.0 in
    let m = acts.2 in (omega arith, same.is_joined ∙ acts.1, omega arith)

module _ {V : Type 0} where
  -- no object is unmade again
  made_after : (s : State) (d : ℕ) (a : Event V) → s.made ≤ (after s d a).made
  made_after s d (Swap (Free c) x y) = omega arith
  made_after s d (Swap (Member q m) x y) = omega arith
  made_after s d (Compare (Free c) e x y true w) = omega arith
  made_after s d (Compare (Member q m) e x y true w) = omega arith
  made_after s d a = omega arith

  made_kept : (z : Opening) (later seen : List (Entry V)) → (leads z seen).made ≤ (leads z (later ++ seen)).made
  made_kept z [] seen = omega arith
  made_kept z (e ∷ later) seen =
      let a = made_kept z later seen in let b = made_after (leads z (later ++ seen)) e.desk e.event in omega arith

module _ {A : Type 0} (f : Object → A) (members : (x : Object) (m : ℕ → NumberedHandle) → f (record x { member = m }) ≡ f x)
    (phases : (x : Object) (p : Phase) → f (moved_to p x) ≡ f x) where
  -- another object in o's place, of which the same is so
  put_alike : (s : State) (q o : ℕ) (x : Object) → f x ≡ f (s.object q) → f (put s.object q x o) ≡ f (s.object o)
  put_alike s q o x e =
      put_cases (λ j u. f u ≡ f (s.object j)) s.object q x o (λ i. e ∙ ap (λ n. f (s.object n)) (sym i)) (λ n. refl)

  -- one of its members becomes another
  member_alike : (s : State) (q o m : ℕ) (x : NumberedHandle)
      → f (put s.object q (record (s.object q) { member = put (s.object q).member m x }) o) ≡ f (s.object o)
  member_alike s q o m x =
      let u = put (s.object q).member m x in
      put_alike s q o (record (s.object q) { member = u }) (members (s.object q) u)

  module _ {V : Type 0} where
    -- what neither members nor phase tell of an object stays as the object was made
    alike_after : (s : State) (d o : ℕ) (a : Event V) → o ≤ s.made → f ((after s d a).object o) ≡ f (s.object o)
    alike_after s d o (Make b enabled null fields val) le =
        ap f (put_other s.object (suc s.made) (new_object s.owners b.0 enabled null fields) o (λ e. omega arith))
    alike_after s d o (Share y p) le = refl
    alike_after s d o (Leave y true) le =
        let q = object_of y in put_alike s q o (moved_to (ending d) (s.object q)) (phases (s.object q) (ending d))
    alike_after s d o (Leave y false) le = put_alike s (object_of y) o (s.object (object_of y)) refl
    alike_after s d o (Count y c) le = refl
    alike_after s d o (Expired y c) le = refl
    alike_after s d o (Read y c) le = refl
    alike_after s d o (event.Same c h so) le = refl
    alike_after s d o (WeakShare q p) le = refl
    alike_after s d o (WeakLeave y c) le = refl
    alike_after s d o (Lock y got) le = refl
    alike_after s d o (ClearMember q m y) le = member_alike s q o m (empty (kind_of_member s.owners m))
    alike_after s d o (Finish q c val) le = put_alike s q o (moved_to gone (s.object q)) (phases (s.object q) gone)
    alike_after s d o (Load c x) le = refl
    alike_after s d o (Swap (Free c) x y) le = refl
    alike_after s d o (Swap (Member q m) x y) le = member_alike s q o m x
    alike_after s d o (Compare (Free c) e x y true w) le = refl
    alike_after s d o (Compare (Member q m) e x y true w) le = member_alike s q o m x
    alike_after s d o (Compare c e x y false w) le = refl
    alike_after s d o (Visit y c w) le = refl
    alike_after s d o (Split e amount x y) le = refl
    alike_after s d o (Join e) le = phases (s.object o) (handed e d (s.object o).phase)
    alike_after s d o (Shelve b) le = refl
    alike_after s d o (Unshelve b) le = refl

    pub alike_kept : (z : Opening) (later seen : List (Entry V)) (o : ℕ) → o ≤ (leads z seen).made
        → f ((leads z (later ++ seen)).object o) ≡ f ((leads z seen).object o)
    alike_kept z [] seen o le = refl
    alike_kept z (e ∷ later) seen o le =
        let made = made_kept z later seen in
        alike_after (leads z (later ++ seen)) e.desk o e.event (omega arith) ∙ alike_kept z later seen o le

module _ {V : Type 0} where
  -- an object that was made stays in its block
  pub block_after : (s : State) (d o : ℕ) (a : Event V) → o ≤ s.made
      → (((after s d a).object o).block ≡ (s.object o).block) × (o ≤ (after s d a).made)
  block_after s d o a le =
      let more = made_after s d a in (alike_after (λ x. x.block) (λ x m. refl) (λ x p. refl) s d o a le, omega arith)

  pub block_kept : (z : Opening) (later seen : List (Entry V)) (o : ℕ) → o ≤ (leads z seen).made
      → (((leads z (later ++ seen)).object o).block ≡ ((leads z seen).object o).block)
      × (o ≤ (leads z (later ++ seen)).made)
  block_kept z later seen o le =
      let more = made_kept z later seen in
      (alike_kept (λ x. x.block) (λ x m. refl) (λ x p. refl) z later seen o le, omega arith)

  -- the fields and the flags too
  pub stays_as_made : StaysAsMade V
  stays_as_made z later seen o le = (
    alike_kept (λ x. x.block) (λ x m. refl) (λ x p. refl) z later seen o le,
    alike_kept (λ x. x.fields) (λ x m. refl) (λ x p. refl) z later seen o le,
    alike_kept (λ x. x.enabled) (λ x m. refl) (λ x p. refl) z later seen o le,
    alike_kept (λ x. x.null) (λ x m. refl) (λ x p. refl) z later seen o le,
  )

  pub cells_after : (s : State) (d : ℕ) (a : Event V) → (after s d a).cells ≡ s.cells
  cells_after s d (Swap (Free c) x y) = refl
  cells_after s d (Swap (Member o m) x y) = refl
  cells_after s d (Compare (Free c) e x y true w) = refl
  cells_after s d (Compare (Member o m) e x y true w) = refl
  cells_after s d a = refl

  members_after : (s : State) (d : ℕ) (a : Event V) → (after s d a).members ≡ s.members
  members_after s d (Swap (Free c) x y) = refl
  members_after s d (Swap (Member o m) x y) = refl
  members_after s d (Compare (Free c) e x y true w) = refl
  members_after s d (Compare (Member o m) e x y true w) = refl
  members_after s d a = refl

  pub members_led : (z : Opening) (h : List (Entry V)) → (leads z h).members ≡ z.members
  members_led z [] = refl
  members_led z (e ∷ h) = members_after (leads z h) e.desk e.event ∙ members_led z h

  owners_after : (s : State) (d : ℕ) (a : Event V) → (after s d a).owners ≡ s.owners
  owners_after s d (Swap (Free c) x y) = refl
  owners_after s d (Swap (Member o m) x y) = refl
  owners_after s d (Compare (Free c) e x y true w) = refl
  owners_after s d (Compare (Member o m) e x y true w) = refl
  owners_after s d a = refl

  pub owners_led : (z : Opening) (h : List (Entry V)) → (leads z h).owners ≡ z.owners
  owners_led z [] = refl
  owners_led z (e ∷ h) = owners_after (leads z h) e.desk e.event ∙ owners_led z h

  pub cells_led : (z : Opening) (h : List (Entry V)) → (leads z h).cells ≡ z.cells
  cells_led z [] = refl
  cells_led z (e ∷ h) = cells_after (leads z h) e.desk e.event ∙ cells_led z h
