-- What events make of the funds of handles in hand.
use Rattle.std.proofs.Common.{◌≡◌, ℕ, zero, suc, ◌+◌, ◌-◌, ◌*◌, ◌<◌, ◌≤◌, Bool, true, false, cond, ◌≢◌, ◌⊎◌, List, [], ◌∷◌, Some, None}
use Rattle.std.proofs.Common.{Option, sym, refl, ap, ◌∙◌, subst, inl, inr, ⊎_elim, arith}
use Rattle.control_word.proofs.Prelude
use Prelude.{Block, blocks_of, Cell, cell_of, changes, clears, cond_both, empty, fills, finishes, Free, fun_ext, gets, gone, handle, Has, HasAll}
use Prelude.{Held, held, InHand, joins_up, Kind, kind_of_member, leaves, loses, Member, moved_to, new_object, NumberedHandle, Object, object_of}
use Prelude.{Opening, origin, Owner, Place, put, renamed, same_held, splits_off, State, stored, swaps, total, weak_leaves, without, worth}
use Rattle.control_word.proofs.funded.Hands.{hand_none}
use Rattle.control_word.proofs.funded.Totals.{total_passed, total_renamed, total_without}
use Rattle.control_word.proofs.history.Clearing.{was_made}
use Rattle.control_word.proofs.history.Legal.{held_busy}
use Rattle.control_word.proofs.history.Making.{made_state}
use Rattle.control_word.proofs.history.Soundness.{IsBusy, Sound}
use Rattle.control_word.proofs.lists.Tallies.{put_cases, put_other}
use Rattle.control_word.proofs.words.Members.{swap_blocks}
use Rattle.control_word.specs.HandFunds.{hand_funds}

-- the funds of these handles, where objects lie so
abbrev pub funds_in : (ℕ → ℕ) → List Held → ℕ → ℕ
funds_in block l i = total (λ (x : Held). worth block x.handle 0 i) l

pub put_blocks : (s : State) (o : ℕ) (y : Object) → y.block ≡ (s.object o).block
    → ◌≡◌ {A = ℕ → ℕ} (λ q. (put s.object o y q).block) (blocks_of s)
put_blocks s o y same = fun_ext (λ q. put_cases (λ j (x : Object). x.block ≡ (s.object j).block) s.object o y q
    (λ e. same ∙ ap (λ n. (s.object n).block) (sym e)) (λ n. refl))

pub hand_leaves : (s : State) (d : ℕ) (h : NumberedHandle) (last : Bool) (i : ℕ) → Has (held d h) s.hands
    → hand_funds (leaves d h last s) i + worth (blocks_of s) h 0 i ≡ hand_funds s i
hand_leaves s d h last i has =
    let o = object_of h in let x = s.object o in
    let y = cond last (moved_to (ending' d) x) x in
    let same : y.block ≡ x.block = cond_both last (moved_to (ending' d) x) x (λ (t : Object). t.block ≡ x.block) (λ e. refl) (λ e. refl) in
    let a = ap (λ (b : ℕ → ℕ). funds_in b (without same_held (held d h) s.hands) i) (put_blocks s o y same) in
    let b = total_without (λ (x : Held). worth (blocks_of s) x.handle 0 i) (held d h) s.hands has in omega arith
  where
    ending' : ℕ → Prelude.Phase
    ending' d = Prelude.ending d

pub hand_weak_leaves : (s : State) (d o : ℕ) (k : Kind) (p : Option Place) (vacant : Bool) (i : ℕ) → Has (held d (handle k (Some o) p)) s.hands
    → hand_funds (weak_leaves d (handle k (Some o) p) vacant s) i + worth (blocks_of s) (handle k (Some o) p) 0 i ≡ hand_funds s i
hand_weak_leaves s d o k p vacant i has =
    let b = total_without (λ (x : Held). worth (blocks_of s) x.handle 0 i) (held d (handle k (Some o) p)) s.hands has in omega arith

pub hand_finishes : (s : State) (d o : ℕ) (vacant : Bool) (i : ℕ) → hand_funds (finishes d o vacant s) i ≡ hand_funds s i
hand_finishes s d o vacant i = ap (λ (b : ℕ → ℕ). funds_in b s.hands i) (put_blocks s o (moved_to gone (s.object o)) refl)

-- what a desk gets comes to its hands, if it has an object
gets_funds : (block : ℕ → ℕ) (d : ℕ) (k : Kind) (n : Option ℕ) (p : Option Place) (s : State) (i : ℕ)
    → funds_in block (gets d (handle k n p) s).hands i ≡ worth block (handle k n p) 0 i + funds_in block s.hands i
gets_funds block d k None p s i = omega arith
gets_funds block d k (Some o) p s i = refl

pub hand_gets : (s : State) (d : ℕ) (h : NumberedHandle) (i : ℕ) → hand_funds (gets d h s) i ≡ worth (blocks_of s) h 0 i + hand_funds s i
hand_gets s d h i = gets_funds (blocks_of s) d h.kind h.object h.place s i

loses_funds : (block : ℕ → ℕ) (d : ℕ) (k : Kind) (n : Option ℕ) (p : Option Place) (s : State) (i : ℕ)
    → (n ≡ None) ⊎ Has (held d (handle k n p)) s.hands
    → funds_in block (loses d (handle k n p) s).hands i + worth block (handle k n p) 0 i ≡ funds_in block s.hands i
loses_funds block d k None p s i why = omega arith
loses_funds block d k (Some o) p s i why =
    let has : Has (held d (handle k (Some o) p)) s.hands = ⊎_elim (λ e. absurd (none e)) (λ t. t) why in
    let b = total_without (λ (x : Held). worth block x.handle 0 i) (held d (handle k (Some o) p)) s.hands has in omega arith
  where
    none : {o : ℕ} → Some o ≡ None → ⊥
    none e = cc

pub hand_swaps : (s : State) (d : ℕ) (c : Cell) (new old : NumberedHandle) (i : ℕ) → (k : Kind) → InHand s d k new
    → hand_funds (swaps d c new old s) i + worth (blocks_of s) new 0 i ≡ hand_funds s i + worth (blocks_of s) old 0 i
hand_swaps s d c new old i k hand =
    let blocks = swap_blocks s d c new old in
    let a = ap (λ (b : ℕ → ℕ). funds_in b (swaps d c new old s).hands i) blocks in
    let b = moved c in
    let e = loses_funds (blocks_of s) d new.kind new.object new.place s i (⊎_elim (λ t. inl t.0) (λ t. inr t.0) hand.1) in
    let f = gets_funds (blocks_of s) d old.kind old.object old.place (loses d new s) i in omega arith
  where
    moved : (c : Cell) → funds_in (blocks_of s) (swaps d c new old s).hands i ≡ funds_in (blocks_of s) (gets d old (loses d new s)).hands i
    moved (Free f) = refl
    moved (Member o m) = refl

pub hand_clears : (s : State) (d o m : ℕ) (h : NumberedHandle) (i : ℕ)
    → hand_funds (clears d o m h s) i ≡ worth (blocks_of s) h 0 i + hand_funds s i
hand_clears s d o m h i =
    let x = s.object o in
    let y : Object = record x { member = put x.member m (empty (kind_of_member s.owners m)) } in
    let a = ap (λ (b : ℕ → ℕ). funds_in b (clears d o m h s).hands i) (put_blocks s o y refl) in
    let b = gets_funds (blocks_of s) d h.kind h.object h.place (changes o y s) i in omega arith

same_worth : (block : ℕ → ℕ) (i d e : ℕ) (h : NumberedHandle) → worth block (held d h).handle 0 i ≡ worth block (held e h).handle 0 i
same_worth block i d e h = refl

pub hand_splits : (s : State) (d to n : ℕ) (hs : List NumberedHandle) (bs : List Block) (i : ℕ) → HasAll same_held (λ (h : NumberedHandle). held d h) hs s.hands
    → hand_funds (splits_off d to n hs bs s) i ≡ hand_funds s i
hand_splits s d to n hs bs i has = total_passed (λ (x : Held). worth (blocks_of s) x.handle 0 i) (λ d e h. refl) d to hs s.hands has

pub hand_joins : (s : State) (d other i : ℕ) → hand_funds (joins_up d other s) i ≡ hand_funds s i
hand_joins s d other i = total_renamed (λ (x : Held). worth (blocks_of s) x.handle 0 i) (λ d e h. refl) (renamed other d) s.hands

worth_blocks : (f g : ℕ → ℕ) (m : Kind) (n : Option ℕ) (p : Option Place) (i : ℕ) → ((r : ℕ) → n ≡ Some r → f r ≡ g r)
    → worth f (handle m n p) 0 i ≡ worth g (handle m n p) 0 i
worth_blocks f g m None p i e = refl
worth_blocks f g m (Some r) p i e = ap (λ c. worth (λ q. c) (handle m (Some r) p) 0 i) (e r refl)

total_equal : (f g : Held → ℕ) (l : List Held) → ((x : Held) → Has x l → f x ≡ g x) → total f l ≡ total g l
total_equal f g [] e = refl
total_equal f g (x ∷ xs) e = let a = e x (inl refl) in let b = total_equal f g xs (λ y has. e y (inr has)) in omega arith

pub hand_made : (z : Opening) (s : State) (d b : ℕ) (enabled null : Bool) (fields : List ℕ) (i : ℕ) → Sound z s
    → let t = made_state z s d b enabled null fields in
    hand_funds t i ≡ worth (blocks_of t) (handle Owner (Some (suc s.made)) (origin b null)) 0 i + hand_funds s i
hand_made z s d b enabled null fields i fine =
    let t = made_state z s d b enabled null fields in
    let y = new_object s.owners b enabled null fields in
    let e = total_equal (λ (x : Held). worth (blocks_of t) x.handle 0 i) (λ (x : Held). worth (blocks_of s) x.handle 0 i) s.hands
    (λ x has. let h = x.handle in worth_blocks (blocks_of t) (blocks_of s) h.kind h.object h.place i (λ r q.
    let busy = held_busy z s x.desk r h.kind h.place fine (subst (λ n. Has (held x.desk (handle h.kind n h.place)) s.hands) q has) in
    let made = was_made z s r fine (λ u. let w = fine.unmade_free r u in omega arith) in
    ap (λ (w : Object). w.block) (put_other s.object (suc s.made) y r (λ u. omega arith)))) in
    omega arith
