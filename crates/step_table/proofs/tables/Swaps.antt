-- Values that go into a cell, and come out of it.
use Rattle.std.proofs.Common.{◌≡◌, ℕ, suc, ◌+◌, ◌-◌, ◌<◌, ◌≤◌, true, false, ◌≢◌, [], ◌∷◌, length}
use Rattle.std.proofs.Common.{get_or, ◌==◌, Some, None, Option, sym, refl, ap, ◌∙◌, subst, inl}
use Rattle.std.proofs.Common.{⊎_elim, arith}
use Rattle.step_table.proofs.Prelude
use Prelude.{allowed, bag_one, bag_size, Block, block_fits, blocks_of, cell_bits, cell_in, cell_of}
use Prelude.{cell_shown, CellWord, clears, clears', Compared, CompareSwap, cond_both, counts_at}
use Prelude.{empty, ending, equivalent, field_fits, filter, gets, ghost_after_step, GhostState}
use Prelude.{handle, handle_as, handle_told, Has, has_object, HasInHand, HasRoom, Held, held, held_self}
use Prelude.{held_true, Idle, InHand, IsCellWord, IsKept, IsOpen, IsOpenTo, Kind, kind_in_state}
use Prelude.{kind_of_member, loses, Member, model_state, Nothing, num_without, NumberedHandle}
use Prelude.{object_at, object_of_block, OnCell, opening, owing_funds, owned_fits, Paying, Pending}
use Prelude.{pending, Place, purse, put, same_held, ShowsCell, Site, site_place, slot, spot, State}
use Prelude.{Swap, swaps, TableInvariant, Take, TakeOut, word_of_cell}
use Rattle.control_word.proofs.packing.Cells.{cell_bits_fit, cell_taken_in}
use Rattle.control_word.proofs.steps.CompareSwap.{compare_swaps}
use Rattle.control_word.proofs.steps.Swap.{swaps'}
use Rattle.control_word.proofs.steps.Take.{takes}
use Rattle.control_word.specs.declared.model.event.Cell.{Cell as Named}
use Rattle.control_word.specs.declared.model.event.Cell.TheVariants as named
use Rattle.control_word.specs.declared.model.event.Event.TheVariants as event
use Rattle.control_word.specs.Events.{changes}
use Rattle.control_word.specs.Words.{packed}
use Rattle.step_table.proofs.tables.Members.{member_kind, three_members}
use Rattle.step_table.proofs.tables.Places.{ending_busy, handle_busy, named as own, there}
use Rattle.step_table.proofs.tables.Shown.{Found, adds_by, cell_there, found_in, kept_cell}
use Rattle.step_table.proofs.tables.Standing.{kept_after, point, ready}
use Rattle.control_word.specs.Limits.{cell_funds, one_taken}
use Rattle.control_word.specs.Packing.{taken_in}

some_none : {x : ℕ} → Some x ≡ None → ⊥
some_none e = cc

-- a value in hand with an object is a handle of the bag
hand_has : (v : GhostState) (d : ℕ) (k : Kind) (b : Block) (p : Option Place) → InHand (model_state v) d k (handle k (object_at (model_state v) (Some b)) p)
    → Has (held d (handle k (Some (object_of_block v b)) p)) (model_state v).hands
hand_has v d k b p hand = ⊎_elim (λ n. absurd (some_none n.0)) (λ t. t.0) hand.1

hand_there : (v : GhostState) (d : ℕ) (k : Kind) (b : Block) (p : Option Place) → TableInvariant v
    → InHand (model_state v) d k (handle k (object_at (model_state v) (Some b)) p)
    → ((model_state v).object (object_of_block v b)).block ≡ b.0
hand_there v d k b p kept hand = (there v b kept (handle_busy v d k b p kept (hand_has v d k b p hand))).0

hand_packed : (v : GhostState) (d : ℕ) (k : Kind) (o : Option Block) (p : Option Place) → TableInvariant v
    → InHand (model_state v) d k (handle k (object_at (model_state v) o) p)
    → packed (blocks_of (model_state v)) (handle k (object_at (model_state v) o) p) ≡ cell_bits (record { owned = o; place = p; taken = 0 })
hand_packed v d k None p kept hand = let e = cell_shown (blocks_of (model_state v)) (handle k None p) 0 in omega (arith, e)
hand_packed v d k (Some b) p kept hand =
    let e = cell_shown (blocks_of (model_state v)) (handle k (Some (object_of_block v b)) p) 0 in
    let t = ap (λ (i : ℕ). cell_bits (record { owned = Some (record { 0 = i }); place = p; taken = 0 })) (hand_there v d k b p kept hand) in
    omega (arith, e, t)

hand_purse : (v : GhostState) (d : ℕ) (k : Kind) (o : Option Block) (p : Option Place) (f : ℕ) → TableInvariant v
    → InHand (model_state v) d k (handle k (object_at (model_state v) o) p)
    → ◌≡◌ {A = Pending Nothing} (owing_funds (model_state v) k o p f 0) (purse (blocks_of (model_state v)) (handle k (object_at (model_state v) o) p) f)
hand_purse v d k None p f kept hand = refl
hand_purse v d k (Some b) p f kept hand =
    ap (λ (i : ℕ). Paying k (object_of_block v b) p (spot i (slot k)) f 0) (sym (hand_there v d k b p kept hand))

-- what a bag has after a handle came in
gets_most : (s : State) (d : ℕ) (h : NumberedHandle) → bag_size (gets d h s) d ≤ suc (bag_size s d)
gets_most s d h =
    cond_both (has_object h) (held d h ∷ s.hands) s.hands (λ l. length (filter (λ (x : Held). x.desk == d) l) ≤ suc (bag_size s d))
    (λ e. let a = bag_one d h s.hands in omega (arith, a)) (λ e. omega arith)

-- a swap keeps to the allowance
swap_room : (v : GhostState) (d : ℕ) (c : Named) (k : Kind) (o : Option Block) (p : Option Place) (old : NumberedHandle) → TableInvariant v
    → InHand (model_state v) d k (handle k (object_at (model_state v) o) p) → (o ≡ None → bag_size (model_state v) d < (model_state v).allowance d)
    → HasRoom (swaps d c (handle k (object_at (model_state v) o) p) old (model_state v)) d
swap_room v d c k o p old kept hand more = go c
  where
    less : (q : Option Block) → InHand (model_state v) d k (handle k (object_at (model_state v) q) p)
        → (q ≡ None → bag_size (model_state v) d < (model_state v).allowance d)
        → bag_size (loses d (handle k (object_at (model_state v) q) p) (model_state v)) d < (model_state v).allowance d
    less None h m = m refl
    less (Some b) h m =
        let s = model_state v in
        let x = held d (handle k (Some (object_of_block v b)) p) in
        let room = (allowed (opening v.extent) v.history kept.stands.legal).rooms d in
        let w = num_without same_held held_true held_self (λ (y : Held). y.desk == d) x s.hands (hand_has v d k b p h) in
        let u = bag_one d x.handle [] in omega (arith, room, w, u)

    go : (e : Named) → HasRoom (swaps d e (handle k (object_at (model_state v) o) p) old (model_state v)) d
    go (named.Free n) =
        let l = less o hand more in let g = gets_most (loses d (handle k (object_at (model_state v) o) p) (model_state v)) d old in omega (arith, l, g)
    go (named.Member i m) =
        let l = less o hand more in let g = gets_most (loses d (handle k (object_at (model_state v) o) p) (model_state v)) d old in omega (arith, l, g)

pub kept_swap : (v : GhostState) (d : ℕ) (c : Site) (new x : CellWord) → TableInvariant v → d < v.extent.actors → IsOpenTo v d c → new.taken ≡ 0
    → HasInHand v d c new → pending v d ≡ owing_funds (model_state v) (kind_in_state (model_state v) c) new.owned new.place cell_funds 0
    → (new.owned ≡ None → bag_size (model_state v) d < (model_state v).allowance d) → ShowsCell v c x
    → TableInvariant (ghost_after_step v d (OnCell (Swap c new x)))
kept_swap v d c new x kept lt way full hand owes more shows =
    let s = model_state v in
    let e = cell_in s c in
    let k = kind_in_state s c in
    let h = handle_told s c new in
    let is = kept_cell v d c kept way in
    let f = found_in v d c x kept lt is shows.valid shows.bits in
    let m = own v d kept lt in
    let law =
    swaps' (point v d) e h (ready v d _ kept lt (owes ∙ hand_purse v d k new.owned new.place cell_funds kept hand))
    (subst (λ (n : ℕ). IsOpen s n e) (sym m) way, subst (λ (n : ℕ). InHand s n k h) (sym m) hand, refl)
    (subst (λ (n : ℕ). HasRoom (swaps n e h (cell_of s e) s) n) (sym m) (swap_room v d e k new.owned new.place (cell_of s e) kept hand more)) x.taken
    f.bits in
    kept_after v d (OnCell (Swap c new x)) kept lt
    (adds_by v d _ (site_place v.extent.shape.blocks c) _ (cell_bits new) _ _ _ _ kept lt (cell_there v c kept is)
    (hand_packed v d k new.owned new.place kept hand ∙ ap (λ (t : ℕ). cell_bits (record { owned = new.owned; place = new.place; taken = t })) (sym full))
    (ap (event.Swap e h) (sym shows.holds)) (f.owed (cell_funds - x.taken)) law)

-- one more taken fits the word
pub one_more_fits : (x : CellWord) → IsCellWord x → x.taken < cell_funds → cell_bits x + one_taken < 18446744073709551616
one_more_fits x valid few =
    let t = cell_bits_fit (record x { taken = x.taken + 1 }) (record { owned = valid.owned; place = valid.place; taken = omega (arith, few) }) in
    omega (arith, t)

left_over : (x : CellWord) → IsCellWord x → x.taken < cell_funds → taken_in (cell_bits x) < cell_funds
left_over x valid few = let t = cell_taken_in x valid in omega (arith, t, few)

-- a load under way, of a cell that told this value
load_owing : (v : GhostState) (c : Site) (x : CellWord) (b : Block) (f : Found v c x) → x.owned ≡ Some b
    → ◌≡◌ {A = Pending Nothing}
    (Paying (kind_in_state (model_state v) c) (object_of_block v b) x.place (counts_at (blocks_of (model_state v)) (kind_in_state (model_state v) c)
    (object_of_block v b)) 1 1)
    (owing_funds (model_state v) (kind_in_state (model_state v) c) x.owned x.place 1 1)
load_owing v c x b f e =
    let k = kind_in_state (model_state v) c in
    let t = f.there b e in
    ap (λ (i : ℕ). Paying k (object_of_block v b) x.place (spot i (slot k)) 1 1) t ∙ ap
    (λ (q : Option Block). owing_funds (model_state v) k q x.place 1 1) (sym e)

pub kept_take : (v : GhostState) (d : ℕ) (c : Site) (x : CellWord) → TableInvariant v → d < v.extent.actors → pending v d ≡ Idle → IsOpenTo v d c
    → x.owned ≢ None → x.taken < cell_funds → bag_size (model_state v) d < (model_state v).allowance d → IsCellWord x → word_of_cell v c ≡ cell_bits x
    → TableInvariant (ghost_after_step v d (OnCell (Take c x None)))
kept_take v d c x kept lt idle way some few room valid bits = go x.owned refl
  where
    go : (o : Option Block) → x.owned ≡ o → TableInvariant (ghost_after_step v d (OnCell (Take c x None)))
    go None e = absurd (some e)
    go (Some b) e =
        let s = model_state v in
        let n = cell_in s c in
        let k = kind_in_state s c in
        let o = object_of_block v b in
        let is = kept_cell v d c kept way in
        let f = found_in v d c x kept lt is valid bits in
        let m = own v d kept lt in
        let there = cell_there v c kept is in
        let told : handle_told s c x ≡ handle k (Some o) x.place = ap (λ (q : Option Block). handle k (object_at s q) x.place) e in
        let same : handle k (Some o) x.place ≡ cell_of s n = sym told ∙ f.shows.holds in
        let owed : ◌≡◌ {A = Pending Nothing} (Paying k o x.place (counts_at (blocks_of s) k o) 1 1) (owing_funds s k x.owned x.place 1 1) =
        load_owing v c x b f e in
        let law = (takes (point v d) n k o x.place (ready v d Idle kept lt idle) same
        (subst (λ (i : ℕ). bag_size s i < s.allowance i) (sym m) room)
        (subst (λ (i : ℕ). taken_in (get_or v.words i 0) < cell_funds) (sym there)
        (subst (λ (i : ℕ). taken_in i < cell_funds) (sym bits) (left_over x valid few)))).0
        (subst (λ (i : ℕ). IsOpen s i n) (sym m) way) in
        kept_after v d (OnCell (Take c x None)) kept lt
        (adds_by v d _ (site_place v.extent.shape.blocks c) _ (word_of_cell v c + one_taken) _ _ _ _ kept lt there
        (ap (λ (i : ℕ). get_or v.words i 0 + one_taken) there) (ap (event.Load n) (sym told)) owed law)

pub kept_compare : (v : GhostState) (d : ℕ) (c : Site) (x : CellWord) (y : Compared) → TableInvariant v → d < v.extent.actors → IsOpenTo v d c → y.new.taken ≡ 0
    → equivalent (handle_told (model_state v) c x) (handle_told (model_state v) c y.expected) ≡ true → HasInHand v d c y.expected
    → HasInHand v d c y.new → pending v d ≡ owing_funds (model_state v) (kind_in_state (model_state v) c) y.new.owned y.new.place cell_funds 0
    → (y.new.owned ≡ None → bag_size (model_state v) d < (model_state v).allowance d) → IsCellWord x → word_of_cell v c ≡ cell_bits x
    → TableInvariant (ghost_after_step v d (OnCell (CompareSwap c x y)))
kept_compare v d c x y kept lt way full alike wanted hand owes more valid bits =
    let s = model_state v in
    let e = cell_in s c in
    let k = kind_in_state s c in
    let h = handle_told s c y.new in
    let w = handle_told s c y.expected in
    let is = kept_cell v d c kept way in
    let f = found_in v d c x kept lt is valid bits in
    let m = own v d kept lt in
    let same : equivalent (cell_of s e) w ≡ true = ap (λ (q : NumberedHandle). equivalent q w) (sym f.shows.holds) ∙ alike in
    let law =
    compare_swaps (point v d) e w h y.weak (ready v d _ kept lt (owes ∙ hand_purse v d k y.new.owned y.new.place cell_funds kept hand)) same (
      subst (λ (n : ℕ). IsOpen s n e) (sym m) way,
      subst (λ (n : ℕ). InHand s n k w) (sym m) wanted,
      subst (λ (n : ℕ). InHand s n k h) (sym m) hand,
      refl,
      inl (sym same),
    )
    (subst (λ (n : ℕ). HasRoom (swaps n e h (cell_of s e) s) n) (sym m) (swap_room v d e k y.new.owned y.new.place (cell_of s e) kept hand more)) x.taken
    f.bits in
    kept_after v d (OnCell (CompareSwap c x y)) kept lt
    (adds_by v d _ (site_place v.extent.shape.blocks c) _ (cell_bits y.new) _ _ _ _ kept lt (cell_there v c kept is)
    (hand_packed v d k y.new.owned y.new.place kept hand ∙ ap
    (λ (t : ℕ). cell_bits (record { owned = y.new.owned; place = y.new.place; taken = t })) (sym full))
    (ap (λ (q : NumberedHandle). event.Compare e w h q true y.weak) (sym f.shows.holds)) (f.owed (cell_funds - x.taken)) law)

-- an ending object's member is one that words are kept for
pub ending_cell : (v : GhostState) (d : ℕ) (b : Block) (m : ℕ) → ((model_state v).object (object_of_block v b)).phase ≡ ending d → m < 3
    → IsKept (model_state v) (cell_in (model_state v) (Member b m))
ending_cell v d b m end few = (omega (arith, few), ending_busy v d b end)

pub kept_take_out : (v : GhostState) (d : ℕ) (b : Block) (m : ℕ) (x : CellWord) → TableInvariant v → d < v.extent.actors → pending v d ≡ Idle
    → ((model_state v).object (object_of_block v b)).phase ≡ ending d → m < 3 → bag_size (model_state v) d < (model_state v).allowance d
    → ShowsCell v (Member b m) x
    → TableInvariant (ghost_after_step v d (OnCell (TakeOut b m x)))
kept_take_out v d b m x kept lt idle end few room shows =
    let s = model_state v in
    let c = Member b m in
    let o = object_of_block v b in
    let old = (s.object o).member m in
    let is = ending_cell v d b m end few in
    let f = found_in v d c x kept lt is shows.valid shows.bits in
    let q = own v d kept lt in
    let g = gets_most (changes o (record (s.object o) { member = put (s.object o).member m (empty (kind_of_member s.owners m)) }) s) d old in
    let law =
    clears' (point v d) o m (ready v d Idle kept lt idle) (end ∙ ap ending (sym q)) (let n = (three_members v).0 in omega (arith, few, n))
    (subst (λ (n : ℕ). HasRoom (clears n o m old s) n) (sym q) (omega (arith, g, room))) x.taken f.bits in
    kept_after v d (OnCell (TakeOut b m x)) kept lt
    (adds_by v d _ (spot b.0 (7 + m)) _ 0 _ _ _ _ kept lt (cell_there v c kept is) refl
    (ap (event.ClearMember o m) (sym shows.holds) ∙ ap (λ (k : Kind). event.ClearMember o m (handle_as s k x)) (member_kind v m))
    (f.owed (cell_funds - x.taken) ∙ ap (λ (k : Kind). owing_funds s k x.owned x.place (cell_funds - x.taken) 0) (member_kind v m)) law)

pub kept_take_differing : (v : GhostState) (d : ℕ) (c : Site) (x : CellWord) (y : Compared) → TableInvariant v → d < v.extent.actors → pending v d ≡ Idle
    → IsOpenTo v d c → x.owned ≢ None → x.taken < cell_funds
    → equivalent (handle_told (model_state v) c x) (handle_told (model_state v) c y.expected) ≡ false
    → HasInHand v d c y.expected → HasInHand v d c y.new → bag_size (model_state v) d < (model_state v).allowance d → IsCellWord x
    → word_of_cell v c ≡ cell_bits x
    → TableInvariant (ghost_after_step v d (OnCell (Take c x (Some y))))
kept_take_differing v d c x y kept lt idle way some few other wanted hand room valid bits = go x.owned refl
  where
    go : (o : Option Block) → x.owned ≡ o → TableInvariant (ghost_after_step v d (OnCell (Take c x (Some y))))
    go None e = absurd (some e)
    go (Some b) e =
        let s = model_state v in
        let n = cell_in s c in
        let k = kind_in_state s c in
        let o = object_of_block v b in
        let w = handle_told s c y.expected in
        let h = handle_told s c y.new in
        let is = kept_cell v d c kept way in
        let f = found_in v d c x kept lt is valid bits in
        let m = own v d kept lt in
        let there = cell_there v c kept is in
        let told : handle_told s c x ≡ handle k (Some o) x.place = ap (λ (q : Option Block). handle k (object_at s q) x.place) e in
        let same : handle k (Some o) x.place ≡ cell_of s n = sym told ∙ f.shows.holds in
        let differs : equivalent (handle k (Some o) x.place) w ≡ false = ap (λ (q : NumberedHandle). equivalent q w) (sym told) ∙ other in
        let law = (takes (point v d) n k o x.place (ready v d Idle kept lt idle) same
        (subst (λ (i : ℕ). bag_size s i < s.allowance i) (sym m) room)
        (subst (λ (i : ℕ). taken_in (get_or v.words i 0) < cell_funds) (sym there)
        (subst (λ (i : ℕ). taken_in i < cell_funds) (sym bits) (left_over x valid few)))).1
        w h y.weak (
          subst (λ (i : ℕ). IsOpen s i n) (sym m) way,
          subst (λ (i : ℕ). InHand s i k w) (sym m) wanted,
          subst (λ (i : ℕ). InHand s i k h) (sym m) hand,
          same,
          inl (sym differs),
        ) in
        kept_after v d (OnCell (Take c x (Some y))) kept lt
        (adds_by v d _ (site_place v.extent.shape.blocks c) _ (word_of_cell v c + one_taken) _ _ _ _ kept lt there
        (ap (λ (i : ℕ). get_or v.words i 0 + one_taken) there) (ap (λ (q : NumberedHandle). event.Compare n w h q false y.weak) (sym told))
        (load_owing v c x b f e) law)
