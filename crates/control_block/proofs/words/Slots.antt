-- Where slots are, and what becomes of them at the steps that change an object.
use Rattle.std.proofs.Common.{◌≡◌, ℕ, ◌-◌, ◌≤◌, true, false, ◌≢◌, ◌⊎◌, List, [], ◌∷◌, ◌==◌, Some}
use Rattle.std.proofs.Common.{None, Option, sym, refl, ap, ◌∙◌, subst, inl, inr, ⊎_elim, arith}
use Rattle.std.proofs.Common.{eq-eqb}
use Rattle.control_block.proofs.Prelude
use Prelude.{adds, after, Asks, at_map, Block, cases_eq, cond-true, counted_live, ending, Entry}
use Prelude.{entry, Event, Fits, get_elem?, gone, handle, Has, has_without, held, held_busy}
use Prelude.{how_often, Idle, InShape, IsBacked, IsOut, IsSlotOf, kept, leads, live, Making}
use Prelude.{Merging, Names, names_an_object, num_has, num_without, Object, opening_of, Owner}
use Prelude.{owner_counted, Parting, Paying, Pending, Phase, Place, put, put_other, Ruled}
use Prelude.{same_stored, SeatView, Shape, some, some-injective, sound, spot, State, Stored}
use Prelude.{stored, stored_self, stored_true, unmade, until_gone, value, valued, view_of}
use Prelude.{Visiting, without}
use Rattle.atomic_table.specs.Table as Table
use Rattle.control_word.proofs.history.Moving.{live_busy}
use Rattle.control_block.specs.Rule.{IsUsing}
use Rattle.control_block.proofs.Endings.{ends_busy, ends_here, stays_after}
use Rattle.control_block.proofs.Passage.{backed_still}

pub live_ends : (d : ℕ) → live ≡ ending d → ⊥
live_ends d e = cc

pub live_unmade : live ≡ unmade → ⊥
live_unmade e = cc

-- a slot's place in the table tells its block
pub slots_apart : (b c : ℕ) → 1 ≤ b → 1 ≤ c → c ≢ b → c - 1 ≢ b - 1
slots_apart b c lb lc n e = n (omega arith)

-- a block is in one desk's store
pub one_store : (d e b : ℕ) (l : List Stored) → how_often b l ≤ 1 → Has (stored d b) l → Has (stored e b) l → d ≡ e
one_store d e b l once hd he = ⊎_elim (λ (q : d ≡ e). q)
    (λ (n : d ≢ e).
    let t = num_without same_stored stored_true stored_self (λ x. x.block == b) (stored d b) l hd in
    let one : (b == b) ≡ true = eq-eqb b b refl in
    let u = num_has (λ (x : Stored). x.block == b) (stored d b) (stored d b ∷ []) (inl refl) one in
    let w = has_without same_stored stored_true stored_self (stored e b) (stored d b) l he (λ s. n (sym (ap (λ (x : Stored). x.desk) s))) in
    let v = num_has (λ (x : Stored). x.block == b) (stored e b) (without same_stored (stored d b) l) w one in
    absurd (omega arith)) (cases_eq d e)

pub keeps_none : {V : Type 0} (p : Phase) (x : Option V) → (p ≡ live → ⊥) → ((d : ℕ) → p ≡ ending d → ⊥) → until_gone p x ≡ None
keeps_none unmade x n m = refl
keeps_none live x n m = absurd (n refl)
keeps_none gone x n m = refl
keeps_none (ending d) x n m = absurd (m d refl)

pub same_ender : (d e : ℕ) → ending d ≡ ending e → d ≡ e
same_ender d e q = cc

module _ {V : Type 0} where
  -- a desk visits the object in the block: it has an owner of it, and shut its door
  pub record Visits (s : State) (d b : ℕ) (p : Pending V) : Type 0 where
    pub object : ℕ
    pub place : Option Place
    pub has : Has (held d (handle Owner (Some object) place)) s.hands
    pub there : (s.object object).block ≡ b
    pub door : adds p (spot b 2) ≡ 4

  -- who makes an object in a block has the block in its store, and who visits one an owner of it
  used_by : (words : List ℕ) (s : State) (f : ℕ → Option V) (d b : ℕ) (p : Pending V) → 1 ≤ b → ((o : ℕ) (q : Option Place)
      → Has (held d (handle Owner (Some o) q)) s.hands → 1 ≤ (s.object o).block) → Fits words s f d p → IsUsing p b
      → Has (stored d b) s.stores ⊎ Visits s d b p
  used_by words s f d b Idle low blocks fits m = absurd m
  used_by words s f d b (Making c l) low blocks fits m = inl (subst (λ x. Has (stored d x) s.stores) m fits.0)
  used_by words s f d b (Paying k o p w x y) low blocks fits m = absurd m
  used_by words s f d b (Visiting o p w x) low blocks fits m =
      let here = blocks o p fits.0 in let e : spot (s.object o).block 2 ≡ spot b 2 = sym fits.1 ∙ m in
      inr record {
        object = o;
        place = p;
        has = fits.0;
        there = omega arith;
        door = cond-true (spot b 2 == w) 4 0 (eq-eqb (spot b 2) w (sym m));
      }
  used_by words s f d b (Parting to) low blocks fits m = absurd m
  used_by words s f d b (Merging other x y) low blocks fits m = absurd m

  module _ (k : Shape) (s : Table.State (Option V) (SeatView V)) (r : Ruled k s) where
    -- a slot that is out is that of a vacant block in its holder's store, of an object that it visits, or of an ending of its
    out_means : (b : ℕ) (j : ℕ) (u : SeatView V) → 1 ≤ b → get_elem? s.views j ≡ some u → u.view.spent ≡ false → IsSlotOf u.hand b
        → let t = leads (opening_of k) r.history in
        (Has (stored u.view.name b) t.stores ⊎ Visits t u.view.name b u.view.pending) ⊎ ((t.object (t.latest b)).phase ≡ ending u.view.name)
    out_means b j u low there un has = go u.hand refl has
      where
        blocks : (o : ℕ) (q : Option Place) → Has (held u.view.name (handle Owner (Some o) q)) (leads (opening_of k) r.history).hands
            → 1 ≤ ((leads (opening_of k) r.history).object o).block
        blocks o q h = (names_an_object (opening_of k) r.history r.stands.stands.legal u.view.name Owner (handle Owner (Some o) q) (h, refl, refl)).3.0

        go : (c : Option Block) → u.hand ≡ c → IsSlotOf c b
            → let t = leads (opening_of k) r.history in
            (Has (stored u.view.name b) t.stores ⊎ Visits t u.view.name b u.view.pending) ⊎ ((t.object (t.latest b)).phase ≡ ending u.view.name)
        go None e h = absurd h
        go (Some c) e h =
            let t = leads (opening_of k) r.history in
            let fits = (r.stands.stands.team.seated j u.view (at_map view_of s.views j u there) un).fits in
            let back : IsBacked t u.view.name u.view.pending (Some c) = subst (IsBacked t u.view.name u.view.pending) e (r.backed j u there un) in
            ⊎_elim
            (λ (m : IsUsing u.view.pending c.0). inl (used_by r.stands.bare t (value
            (opening_of k) r.history) u.view.name b u.view.pending low blocks fits (subst (IsUsing u.view.pending) h m)))
            (λ (m : (t.object (t.latest c.0)).phase ≡ ending u.view.name). inr (ap (λ x. (t.object (t.latest x)).phase) (sym h) ∙ m)) back

    -- the slot of a live object is at home, with its value
    pub live_home : (b o : ℕ) → InShape (opening_of k) b → (leads (opening_of k) r.history).latest b ≡ o
        → ((leads (opening_of k) r.history).object o).block ≡ b
        → ((leads (opening_of k) r.history).object o).phase ≡ live
        → ((j : ℕ) (u : SeatView V) → get_elem? s.views j ≡ some u → u.view.spent ≡ false → IsSlotOf u.hand b
        → Visits (leads (opening_of k) r.history) u.view.name b u.view.pending → ⊥)
        → get_elem? s.homes (b - 1) ≡ some (some (value (opening_of k) r.history o))
    live_home b o inside is there alive unvisited =
        let t = leads (opening_of k) r.history in let fine = sound (opening_of k) r.history r.stands.stands.legal in
        ⊎_elim
        (λ (e : get_elem? s.homes (b - 1) ≡ some (some (kept (opening_of k) r.history b))).
        e ∙ ap (λ x. some (some x)) (ap (λ x. until_gone (t.object x).phase (value (opening_of k) r.history x)) is
        ∙ ap (λ x. until_gone x (value (opening_of k) r.history o)) alive))
        (λ (q : IsOut s.views b). absurd (⊎_elim
        (⊎_elim (λ (m : Has (stored q.1.view.name b) t.stores). let v = (fine.stores q.1.view.name b m).0 o there in
        let w = live_busy t o alive in omega arith) (λ m. unvisited q.0 q.1 q.2 q.3 q.4 m))
        (λ (m : (t.object (t.latest b)).phase ≡ ending q.1.view.name). live_ends q.1.view.name (sym alive
        ∙ (ap (λ x. (t.object x).phase) (sym is) ∙ m)))
        (out_means b q.0 q.1 inside.0 q.2 q.3 q.4))) (r.homes b inside)

    -- a desk that has nothing in hand finds the empty slot of an own vacant block at home
    pub vacant_home : (id : ℕ) (v : SeatView V) → get_elem? s.views id ≡ some v → v.view.spent ≡ false → v.hand ≡ None → (b : ℕ)
        → Has (stored v.view.name b) (leads (opening_of k) r.history).stores → get_elem? s.homes (b - 1) ≡ some (some None)
    vacant_home id v at awake free b mine =
        let z = opening_of k in let t = leads z r.history in let fine = sound z r.history r.stands.stands.legal in let o = t.latest b in
        let vacant = fine.stores v.view.name b mine in
        let here : o ≢ 0 → (t.object o).block ≡ b = fine.latest_in b in
        let dead : (t.object o).phase ≡ live → ⊥ = λ q. let w = live_busy t o q in
        let u = vacant.0 o (here (λ y. live_unmade (sym q ∙ (ap (λ x. (t.object x).phase) y ∙ fine.none)))) in omega arith in
        let unending : (d : ℕ) → (t.object o).phase ≡ ending d → ⊥ = λ d m. let w = ends_busy z t b d fine m in
        let u = vacant.0 o (ends_here z t b d fine m) in omega arith in
        ⊎_elim (λ (e : get_elem? s.homes (b - 1) ≡ some (some (kept z r.history b))). e
        ∙ ap (λ x. some (some x)) (keeps_none (t.object o).phase (value z r.history o) dead unending))
        (λ (q : IsOut s.views b). absurd (⊎_elim
        (⊎_elim (λ (m : Has (stored q.1.view.name b) t.stores).
        let same = one_store v.view.name q.1.view.name b t.stores (let o = fine.once b in omega arith) mine m in
        ⊎_elim (λ (i : q.0 ≡ id). subst (λ c. IsSlotOf c b) free (subst (λ (u : SeatView V). IsSlotOf u.hand b) (some-injective q.1 v (sym q.2
        ∙ (ap (get_elem? s.views) i ∙ at))) q.4))
        (λ (n : q.0 ≢ id). n (r.stands.stands.team.names q.0 id q.1.view v.view (at_map view_of s.views q.0 q.1 q.2)
        (at_map view_of s.views id v at) q.3 awake
        q.1.view.name (inl refl) (inl same))) (cases_eq q.0 id))
        (λ (m : Visits t q.1.view.name b q.1.view.pending).
        let w = held_busy z t q.1.view.name m.object Owner m.place fine m.has in let u = vacant.0 m.object m.there in omega arith))
        (λ (m : (t.object o).phase ≡ ending q.1.view.name). let w = ends_busy z t b q.1.view.name fine m in
        let u = vacant.0 o (ends_here z t b q.1.view.name fine m) in omega arith)
        (out_means b q.0 q.1 vacant.1.0 q.2 q.3 q.4))) (r.homes b vacant.1)

    -- and a desk in whose hands an object ends finds the slot with its value at home
    pub ending_home : (id : ℕ) (v : SeatView V) → get_elem? s.views id ≡ some v → v.view.spent ≡ false → v.hand ≡ None → (b o : ℕ)
        → InShape (opening_of k) b → (leads (opening_of k) r.history).latest b ≡ o
        → ((leads (opening_of k) r.history).object o).phase ≡ ending v.view.name
        → get_elem? s.homes (b - 1) ≡ some (some (value (opening_of k) r.history o))
    ending_home id v at awake free b o inside is ends =
        let z = opening_of k in let t = leads z r.history in let fine = sound z r.history r.stands.stands.legal in
        let here : (t.object (t.latest b)).phase ≡ ending v.view.name = ap (λ x. (t.object x).phase) is ∙ ends in
        ⊎_elim (λ (e : get_elem? s.homes (b - 1) ≡ some (some (kept z r.history b))). e
        ∙ ap (λ x. some (some x)) (ap (λ x. until_gone (t.object x).phase (value z r.history x)) is
        ∙ ap (λ x. until_gone x (value z r.history o)) ends))
        (λ (q : IsOut s.views b). absurd (⊎_elim
        (⊎_elim (λ (m : Has (stored q.1.view.name b) t.stores).
        let w = ends_busy z t b v.view.name fine here in
        let u = (fine.stores q.1.view.name b m).0 (t.latest b) (ends_here z t b v.view.name fine here) in omega arith)
        (λ (m : Visits t q.1.view.name b q.1.view.pending).
        let n = names_an_object z r.history r.stands.stands.legal q.1.view.name Owner (handle Owner (Some m.object) m.place) (m.has, refl, refl) in
        let alive = counted_live z t m.object fine (owner_counted t q.1.view.name m.object m.place m.has) in
        let same : m.object ≡ t.latest b = sym n.2 ∙ ap t.latest m.there in
        live_ends v.view.name (sym alive ∙ (ap (λ x. (t.object x).phase) same ∙ here))))
        (λ (m : (t.object (t.latest b)).phase ≡ ending q.1.view.name).
        let same : v.view.name ≡ q.1.view.name = same_ender v.view.name q.1.view.name (sym here ∙ m) in
        ⊎_elim (λ (i : q.0 ≡ id). subst (λ c. IsSlotOf c b) free (subst (λ (u : SeatView V). IsSlotOf u.hand b) (some-injective q.1 v (sym q.2
        ∙ (ap (get_elem? s.views) i ∙ at))) q.4))
        (λ (n : q.0 ≢ id). n (r.stands.stands.team.names q.0 id q.1.view v.view (at_map view_of s.views q.0 q.1 q.2)
        (at_map view_of s.views id v at) q.3 awake
        q.1.view.name (inl refl) (inl same))) (cases_eq q.0 id))
        (out_means b q.0 q.1 inside.0 q.2 q.3 q.4))) (r.homes b inside)

    -- what others have in hand is backed still after an event of the seat's
    pub others_still : (id : ℕ) (v : SeatView V) → get_elem? s.views id ≡ some v → v.view.spent ≡ false → (e : Event V)
        → Asks (leads (opening_of k) r.history) v.view.name e
        → ((j : ℕ) (u : SeatView V) → j ≢ id → get_elem? s.views j ≡ some u → u.view.spent ≡ false → Names e u.view.name → ⊥)
        → (j : ℕ) (u : SeatView V) → j ≢ id → get_elem? s.views j ≡ some u → u.view.spent ≡ false
        → IsBacked (leads (opening_of k) r.history) u.view.name u.view.pending u.hand
        → IsBacked (leads (opening_of k) (entry v.view.name e ∷ r.history)) u.view.name u.view.pending u.hand
    others_still id v at awake e asks none j u ne there un back =
        let t = leads (opening_of k) r.history in let fine = sound (opening_of k) r.history r.stands.stands.legal in
        let apart : v.view.name ≢ u.view.name = λ q. ne (sym (r.stands.stands.team.names id j v.view u.view (at_map view_of s.views id v at)
        (at_map view_of s.views j u there) awake un u.view.name (inl q) (inl refl))) in
        backed_still t (leads (opening_of k) (entry v.view.name e ∷ r.history)) u.view.name u.view.pending u.hand
        (λ b ends. let a = stays_after (opening_of k) t b u.view.name v.view.name fine ends e asks apart (none j u ne there un) in
        ap (λ x. ((after t v.view.name e).object x).phase) a.latest ∙ (a.object.phase ∙ ends)) back

  -- an event that changes one object alone leaves what other blocks keep
  pub kept_else : (k : Shape) (h : List (Entry V)) (d : ℕ) (e : Event V) (o : ℕ) (x : Object) (c : ℕ)
      → (after (leads (opening_of k) h) d e).object ≡ put (leads (opening_of k) h).object o x
      → (after (leads (opening_of k) h) d e).latest ≡ (leads (opening_of k) h).latest
      → valued (leads (opening_of k) h) e (value (opening_of k) h) ≡ value (opening_of k) h → (leads (opening_of k) h).latest c ≢ o
      → kept (opening_of k) (entry d e ∷ h) c ≡ kept (opening_of k) h c
  kept_else k h d e o x c objects latest values n =
      let s = leads (opening_of k) h in
      (λ i. until_gone ((objects i) ((latest i) c)).phase ((values i) ((latest i) c)))
      ∙ ap (λ y. until_gone y.phase (value (opening_of k) h (s.latest c))) (put_other s.object o x (s.latest c) n)
