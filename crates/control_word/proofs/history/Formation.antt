-- Handles in bags and in cells are well formed, and those in cells are of the cells' kinds.
use Rattle.std.proofs.Common.{◌≡◌, ℕ, suc, ◌≤◌, Bool, true, false, cond, ◌⊎◌, List, [], ◌∷◌, map}
use Rattle.std.proofs.Common.{Some, Option, sym, refl, ap, ◌∙◌, subst, inl, inr, ⊎_elim, arith}
use Rattle.control_word.proofs.Prelude
use Prelude.{after, Asks, Cell, cell_of, ClearMember, common, Compare, cond_both, Count, empty}
use Prelude.{ending, Entry, Event, Expired, Finish, Free, gets, gone, handed, handle, Has}
use Prelude.{has_object, HasAll, Held, held, Holds, InHand, IsFormed, IsLegal, IsOpen, IsPointer}
use Prelude.{Join, Kind, kind_of, kind_of_free, kind_of_member, leads, Leave, Load, Lock, loses}
use Prelude.{Make, Member, moved_to, new_object, NumberedHandle, Object, object_of, Opening}
use Prelude.{origin, Owner, passed, Place, put, Read, renamed, Same, same_held, Share, Shelve}
use Prelude.{Split, State, Stored, Swap, swaps, Unshelve, Visit, Weak, WeakLeave, WeakShare}
use Prelude.{without}
use Rattle.control_word.proofs.history.Allowances.{opened}
use Rattle.control_word.proofs.history.Legal.{held_busy, sound, written}
use Rattle.control_word.proofs.history.Making.{made_state}
use Rattle.control_word.proofs.history.Soundness.{Formed, IsBusy, Sound}
use Rattle.control_word.proofs.lists.Tallies.{has_before, held_self, held_true, put_cases}
use Rattle.control_word.specs.Events.{place_at}
use Rattle.control_word.specs.Laws.{AreFormed}
use Rattle.control_word.specs.Limits.{most_blocks}

-- the handle is well formed, and has an object
abbrev IsGood : NumberedHandle → Type 0
IsGood h = IsFormed h × (has_object h ≡ true)

abbrev AllGood : List Held → Type 0
AllGood l = (x : Held) → Has x l → IsGood x.handle

good_cons : (d : ℕ) (h : NumberedHandle) (l : List Held) → AllGood l → IsGood h → AllGood (held d h ∷ l)
good_cons d h l all good x has = ⊎_elim (λ e. subst (λ (y : Held). IsGood y.handle) (sym e) good) (all x) has

good_gets : (s : State) (d : ℕ) (h : NumberedHandle) → AllGood s.hands → IsFormed h → AllGood (gets d h s).hands
good_gets s d h all good =
    cond_both (has_object h) (held d h ∷ s.hands) s.hands AllGood
    (λ e. good_cons d h s.hands all (good, e)) (λ e. all)

good_without : (x : Held) (l : List Held) → AllGood l → AllGood (without same_held x l)
good_without x l all y has = all y (has_before same_held held_true held_self y x l has)

good_loses : (s : State) (d : ℕ) (h : NumberedHandle) → AllGood s.hands → AllGood (loses d h s).hands
good_loses s d h all =
    cond_both (has_object h) (without same_held (held d h) s.hands) s.hands AllGood
    (λ e. good_without (held d h) s.hands all) (λ e. all)

good_passed : (d to : ℕ) (hs : List NumberedHandle) (l : List Held) → AllGood l
    → HasAll same_held (λ (h : NumberedHandle). held d h) hs l
    → AllGood (passed same_held (λ (h : NumberedHandle). held d h) (λ h. held to h) hs l)
good_passed d to [] l all there = all
good_passed d to (h ∷ hs) l all there =
    let rest = without same_held (held d h) l in
    let m = passed same_held (λ (h : NumberedHandle). held d h) (λ h. held to h) hs rest in
    good_cons to h m (good_passed d to hs rest (good_without (held d h) l all) there.1) (all (held d h) there.0)

good_joined : (other d : ℕ) (l : List Held) → AllGood l
    → AllGood (map (λ (x : Held). held (renamed other d x.desk) x.handle) l)
good_joined other d [] all x has = absurd has
good_joined other d (y ∷ l) all x has =
    good_cons (renamed other d y.desk) y.handle (map (λ (x : Held). held (renamed other d x.desk) x.handle) l)
    (good_joined other d l (λ x has. all x (inr has))) (all y (inl refl)) x has

-- an owner, or a handle of an object, is well formed with a place that is one
good_owner : (o : ℕ) (p : Option Place) → IsPointer p → IsGood (handle Owner (Some o) p)
good_owner o p place = ((place, tt), refl)

good_weak : (o : ℕ) (p : Option Place) → IsPointer p → IsGood (handle Weak (Some o) p)
good_weak o p place = ((place, tt), refl)

good_shared : (h : NumberedHandle) (p : Option Place) → h.object ≡ Some (object_of h) → IsPointer p
    → IsGood (handle Owner h.object p)
good_shared h p e place = subst (λ n. IsGood (handle Owner n p)) (sym e) (good_owner (object_of h) p place)

empty_formed : (k : Kind) → IsFormed (empty k)
empty_formed Owner = (tt, tt)
empty_formed Weak = (tt, refl)

place_formed : (b : ℕ) → 1 ≤ b → b ≤ most_blocks → IsPointer (place_at b)
place_formed b low high = (low, high, omega arith)

origin_formed : (b : ℕ) (null : Bool) → 1 ≤ b → b ≤ most_blocks → IsPointer (origin b null)
origin_formed b true low high = tt
origin_formed b false low high = place_formed b low high

-- what a cell holds is well formed and of its kind
cell_formed : (s : State) (d : ℕ) (c : Cell) → Formed s → IsOpen s d c
    → IsFormed (cell_of s c) × ((cell_of s c).kind ≡ kind_of s c)
cell_formed s d (Free c) formed open' = formed.frees c open'
cell_formed s d (Member o m) formed open' = formed.members o m

hand_formed : (s : State) (d : ℕ) (k : Kind) (h : NumberedHandle) → Formed s → InHand s d k h → IsFormed h
hand_formed s d k h formed hand = ⊎_elim (λ t. t.1) (λ t. (formed.bags (held d h) t.0).0) hand.1

-- the hands change, and objects in other ways than in their members
formed_hands : (s : State) (l : List Held) (r : List Stored) (f : ℕ → Object) (n : ℕ) (j : ℕ → Bool) (a : ℕ → ℕ)
    → Formed s → AllGood l → ((o m : ℕ) → (f o).member m ≡ (s.object o).member m)
    → Formed (record s { hands = l; stores = r; object = f; names = n; joined = j; allowance = a })
formed_hands s l r f n j a formed all same = record {
  bags = all;
  frees = formed.frees;
  members =
      λ o m. subst (λ h. IsFormed h × (h.kind ≡ kind_of_member s.owners m)) (sym (same o m)) (formed.members o m);
}

-- one member of an object, or one free cell, changes
formed_member : (s : State) (l : List Held) (o i : ℕ) (h : NumberedHandle) → Formed s → AllGood l → IsFormed h
    → h.kind ≡ kind_of_member s.owners i
    → let x = record (s.object o) { member = put (s.object o).member i h } in
    Formed (record s { hands = l; object = put s.object o x })
formed_member s l o i h formed all good kind =
    let x = record (s.object o) { member = put (s.object o).member i h } in
    record {
      bags = all;
      frees = formed.frees;
      members = λ q m.
          put_cases (λ j y. IsFormed (y.member m) × ((y.member m).kind ≡ kind_of_member s.owners m)) s.object o x q
          (λ e. put_cases (λ j y. IsFormed y × (y.kind ≡ kind_of_member s.owners j)) (s.object o).member i h m
          (λ e2. (good, kind ∙ ap (kind_of_member s.owners) (sym e2))) (λ ne. formed.members o m))
          (λ ne. formed.members q m);
    }

formed_free : (s : State) (l : List Held) (i : ℕ) (h : NumberedHandle) → Formed s → AllGood l → IsFormed h
    → h.kind ≡ kind_of_free s.shared i → Formed (record s { hands = l; cell = put s.cell i h })
formed_free s l i h formed all good kind = record {
  bags = all;
  frees = λ c lt. put_cases (λ j y. IsFormed y × (y.kind ≡ kind_of_free s.shared j)) s.cell i h c
      (λ e. (good, kind ∙ ap (kind_of_free s.shared) (sym e))) (λ ne. formed.frees c lt);
  members = formed.members;
}

formed_swap : (s : State) (d : ℕ) (c : Cell) (new old : NumberedHandle) → Formed s → IsOpen s d c
    → InHand s d (kind_of s c) new → old ≡ cell_of s c → Formed (swaps d c new old s)
formed_swap s d (Free c) new old formed open' hand is =
    let was = subst (λ h. IsFormed h) (sym is) (cell_formed s d (Free c) formed open').0 in
    let all = good_gets (loses d new s) d old (good_loses s d new formed.bags) was in
    formed_free s (gets d old (loses d new s)).hands c new formed all (hand_formed s d _ new formed hand) hand.0
formed_swap s d (Member o m) new old formed open' hand is =
    let was = subst (λ h. IsFormed h) (sym is) (cell_formed s d (Member o m) formed open').0 in
    let all = good_gets (loses d new s) d old (good_loses s d new formed.bags) was in
    formed_member s (gets d old (loses d new s)).hands o m new formed all
    (hand_formed s d _ new formed hand) hand.0

formed_load : (s : State) (d : ℕ) (c : Cell) (got : NumberedHandle) → Formed s → IsOpen s d c → got ≡ cell_of s c
    → Formed (gets d got s)
formed_load s d c got formed open' is =
    let was = subst (λ h. IsFormed h) (sym is) (cell_formed s d c formed open').0 in
    formed_hands s (gets d got s).hands s.stores s.object s.names s.joined s.allowance formed
    (good_gets s d got formed.bags was) (λ o m. refl)

formed_make : (z : Opening) (s : State) (d b : ℕ) (enabled null : Bool) (fields : List ℕ) → Formed s
    → 1 ≤ b → b ≤ most_blocks → Formed (made_state z s d b enabled null fields)
formed_make z s d b enabled null fields formed low high =
    let x = new_object s.owners b enabled null fields in
    record {
      bags =
          let new = good_owner (suc s.made) (origin b null) (origin_formed b null low high) in
          good_cons d _ s.hands formed.bags new;
      frees = formed.frees;
      members = λ q m.
          put_cases (λ j y. IsFormed (y.member m) × ((y.member m).kind ≡ kind_of_member s.owners m))
          s.object (suc s.made) x q
          (λ e. (empty_formed (kind_of_member s.owners m), refl)) (λ ne. formed.members q m);
    }

-- a weak handle has the place of another handle of the object, or the object's own
weak_place : (z : Opening) (s : State) (d o : ℕ) (p : Option Place) → z.blocks ≤ most_blocks → Sound z s → Formed s
    → ((h : NumberedHandle) × Holds s d h.kind h × (h.object ≡ Some o)
    × ((p ≡ h.place) ⊎ (p ≡ place_at (s.object o).block)))
    ⊎ (((s.object o).phase ≡ ending d) × ((s.object o).enabled ≡ true) × (p ≡ place_at (s.object o).block))
    → IsPointer p
weak_place z s d o p few fine formed asks = ⊎_elim
    (λ t.
    ⊎_elim (λ e. subst IsPointer (sym e) (formed.bags (held d t.0) t.1.0).0.0)
    (λ e. subst IsPointer (sym e) (own (held_of t))) t.3)
    (λ t.
    let c : common (s.object o).phase ≡ 1 = ap common t.0 in subst IsPointer (sym t.2) (own (omega arith)))
    asks
  where
    own : IsBusy s o → IsPointer (place_at (s.object o).block)
    own busy = let there = (fine.placed o busy).1 in place_formed (s.object o).block there.0 (omega arith)

    held_of : ((h : NumberedHandle) × Holds s d h.kind h × (h.object ≡ Some o)
        × ((p ≡ h.place) ⊎ (p ≡ place_at (s.object o).block))) → IsBusy s o
    held_of t =
        let h = t.0 in let hold = t.1 in
        let w = written s.hands d h.kind h hold.0 hold.1 hold.2 in
        let b = held_busy z s d (object_of h) h.kind h.place fine w in
        let e : Some (object_of h) ≡ Some o = sym hold.2 ∙ t.2 in
        let e2 : object_of h ≡ o = cc in subst (IsBusy s) e2 b

module _ {V : Type 0} where
  formed_after : (z : Opening) (s : State) (d : ℕ) (a : Event V) → z.blocks ≤ most_blocks → Sound z s → Formed s
      → Asks s d a → Formed (after s d a)
  formed_after z s d (Make b enabled null fields val) few fine formed asks =
      let there = (fine.stores d b.0 asks.0).1 in
      formed_make z s d b.0 enabled null fields formed there.0 (omega arith)
  formed_after z s d (Share h p) few fine formed asks =
      formed_hands s _ s.stores s.object s.names s.joined s.allowance formed
      (good_cons d (handle Owner h.object p) s.hands formed.bags (good_shared h p asks.0.2 asks.1))
      (λ o m. refl)
  formed_after z s d (Leave h last) few fine formed asks =
      let o = object_of h in
      let x = cond last (moved_to (ending d) (s.object o)) (s.object o) in
      let same : (m : ℕ) → x.member m ≡ (s.object o).member m =
      λ m. cond_both last (moved_to (ending d) (s.object o)) (s.object o)
      (λ y. y.member m ≡ (s.object o).member m) (λ e. refl) (λ e. refl) in
      formed_hands s _ s.stores (put s.object o x) s.names s.joined s.allowance formed
      (good_without (held d h) s.hands formed.bags)
      (λ q m. put_cases (λ j y. y.member m ≡ (s.object j).member m) s.object o x q
      (λ e. same m ∙ ap (λ n. (s.object n).member m) (sym e)) (λ ne. refl))
  formed_after z s d (Count h n) few fine formed asks = formed
  formed_after z s d (Expired h x) few fine formed asks = formed
  formed_after z s d (Read h n) few fine formed asks = formed
  formed_after z s d (Same c h so) few fine formed asks = formed
  formed_after z s d (WeakShare o p) few fine formed asks =
      formed_hands s _ s.stores s.object s.names s.joined s.allowance formed
      (good_cons d (handle Weak (Some o) p) s.hands formed.bags
      (good_weak o p (weak_place z s d o p few fine formed asks))) (λ o m. refl)
  formed_after z s d (WeakLeave h x) few fine formed asks =
      formed_hands s _ _ s.object s.names s.joined s.allowance formed (good_loses s d h formed.bags)
      (λ o m. refl)
  formed_after z s d (Lock h x) few fine formed asks =
      let hold = asks.0 in
      let was = (formed.bags (held d h) hold.0).0.0 in
      formed_hands s _ s.stores s.object s.names s.joined s.allowance formed
      (cond_both x (held d (handle Owner h.object h.place) ∷ s.hands) s.hands AllGood
      (λ e. good_cons d (handle Owner h.object h.place) s.hands formed.bags (good_shared h h.place hold.2 was))
      (λ e. formed.bags)) (λ o m. refl)
  formed_after z s d (ClearMember o m h) few fine formed asks =
      let was = subst (λ u. IsFormed u) (sym asks.2) (formed.members o m).0 in
      formed_member s (gets d h s).hands o m (empty (kind_of_member s.owners m)) formed (good_gets s d h formed.bags was)
      (empty_formed (kind_of_member s.owners m)) refl
  formed_after z s d (Finish o x val) few fine formed asks =
      let y = moved_to gone (s.object o) in
      formed_hands s s.hands _ (put s.object o y) s.names s.joined s.allowance formed formed.bags
      (λ q m. put_cases (λ j y. y.member m ≡ (s.object j).member m) s.object o y q
      (λ e. ap (λ n. (s.object n).member m) (sym e)) (λ ne. refl))
  formed_after z s d (Load c x) few fine formed asks = formed_load s d c x formed asks.0 asks.1
  formed_after z s d (Swap c x y) few fine formed asks = formed_swap s d c x y formed asks.0 asks.1 asks.2
  formed_after z s d (Compare c e x y true w) few fine formed asks =
      formed_swap s d c x y formed asks.0 asks.2 asks.3
  formed_after z s d (Compare c e x y false w) few fine formed asks = formed_load s d c y formed asks.0 asks.3
  formed_after z s d (Visit h x y) few fine formed asks = formed
  formed_after z s d (Split to n hs bs) few fine formed asks =
      formed_hands s _ _ s.object _ _ _ formed (good_passed d to hs s.hands formed.bags asks.4) (λ o m. refl)
  formed_after z s d (Join other) few fine formed asks =
      formed_hands s _ _ (λ o. moved_to (handed other d (s.object o).phase) (s.object o)) _ _ _ formed
      (good_joined other d s.hands formed.bags) (λ o m. refl)
  formed_after z s d (Shelve b) few fine formed asks =
      record { bags = formed.bags; frees = formed.frees; members = formed.members }
  formed_after z s d (Unshelve b) few fine formed asks =
      record { bags = formed.bags; frees = formed.frees; members = formed.members }

  pub formed : (z : Opening) (h : List (Entry V)) → IsLegal z h → Formed (leads z h)
  formed z [] legal = record {
    bags = λ x has. absurd has;
    frees = λ c lt. (empty_formed (kind_of_free z.shared_cells c), refl);
    members = λ o m. (empty_formed (kind_of_member z.owners m), refl);
  }
  formed z (e ∷ h) legal =
      let few = (opened z h legal.0).limits.0 in
      formed_after z (leads z h) e.desk e.event few (sound z h legal.0) (formed z h legal.0) legal.1.asks

  pub are_formed : AreFormed V
  are_formed z h legal =
      let s = leads z h in
      let t = formed z h legal in
      ((λ d x has. (t.bags (held d x) has).0), elim [ Free c ↦ t.frees c | Member o m ↦ λ lt. t.members o m ])
