-- What a step makes of the rule.
use Rattle.std.proofs.Common.{◌≡◌, ℕ, ◌-◌, ◌<◌, ◌≤◌, Bool, true, false, ◌≢◌, ◌⊎◌, List, ◌∷◌, ◌++◌}
use Rattle.std.proofs.Common.{map, length, get_or, set, Some, None, Option, sym, refl, ap, ◌∙◌}
use Rattle.std.proofs.Common.{subst, inl, inr, ⊎_elim, arith}
use Rattle.control_block.proofs.Prelude
use Prelude.{Added, after, Allows, At, at_map, bag_size, Block, block_kept, Cell, ClearMember}
use Prelude.{Compare, empty, ending, Ends, Entry, entry, Event, get_elem?, handle, Has, has_part}
use Prelude.{HasRoomFor, Held, held, held_made, HoldingInBlock, InShape, IsBacked, IsLegal, IsOut}
use Prelude.{IsSlotOf, keeps, kept, Kind, kind_of_member, known, Knows, leads, legal_seen, loses}
use Prelude.{Member, Moved, NumberedHandle, Object, Opening, opening_of, part_has, Pending, Place}
use Prelude.{ReadyFunded, Ruled, SeatView, seeing, sees_as, set_else, Shape, some, some-injective, sound}
use Prelude.{StandsFunded, State, Stored, Swap, until_gone, value, valued, view_of}
use mathlib.Core.Logic.{dite}
use native.Mathlib.Decide.{ℕ_discrete}
use Rattle.atomic_table.specs.Table as Table
use Rattle.control_word.proofs.history.Kept.{Same}
use Rattle.control_word.proofs.views.Resting.{as_seen}
use Rattle.control_word.specs.Steps.{Point}
use Rattle.control_block.proofs.Endings.{Alike, fills_block, fills_latest, fills_phase, still_ends}
use Rattle.control_block.proofs.words.Lists.{each_set, map_set, set_there}

-- what a half-done call needs is still there, where no ending of the desk's was touched
pub backed_still : {V : Type 0} (s t : State) (d : ℕ) (p : Pending V) (c : Option Block)
    → ((b : ℕ) → (s.object (s.latest b)).phase ≡ ending d → (t.object (t.latest b)).phase ≡ ending d) → IsBacked s d p c → IsBacked t d p c
backed_still s t d p None same b = tt
backed_still s t d p (Some c) same b = ⊎_elim inl (λ e. inr (same c.0 e)) b

module _ {V : Type 0} where
  -- what becomes of a block's slot: it is at home with what it keeps, in the seat's hand, or as it was
  abbrev pub IsPlaced : (k : Shape) (s : Table.State (Option V) (SeatView V)) → Ruled k s → SeatView V → SeatView V
      → List (mathlib.Core.Option.Option (Option V)) → List (Entry V) → ℕ → Type 0
  IsPlaced k s r v w homes h b =
      let z = opening_of k in
      (get_elem? homes (b - 1) ≡ some (some (kept z h b)))
      ⊎ (IsSlotOf w.hand b
      ⊎ ((get_elem? homes (b - 1) ≡ get_elem? s.homes (b - 1)) × (kept z h b ≡ kept z r.history b) × (IsSlotOf v.hand b → ⊥)))

  -- the rule after a step of one seat
  pub next : (k : Shape) (s : Table.State (Option V) (SeatView V)) (r : Ruled k s) (id : ℕ) (v w : SeatView V) (words : List ℕ)
      (homes : List (mathlib.Core.Option.Option (Option V))) (h : List (Entry V))
      → get_elem? s.views id ≡ some v → w.view.spent ≡ false → w.shape ≡ k
      → StandsFunded (opening_of k) words (set (map view_of s.views) id w.view) h
      → length homes ≡ length s.homes
      → IsBacked (leads (opening_of k) h) w.view.name w.view.pending w.hand
      → ((j : ℕ) (u : SeatView V) → j ≢ id → get_elem? s.views j ≡ some u → u.view.spent ≡ false
      → IsBacked (leads (opening_of k) r.history) u.view.name u.view.pending u.hand
      → IsBacked (leads (opening_of k) h) u.view.name u.view.pending u.hand)
      → ((b : ℕ) → InShape (opening_of k) b → IsPlaced k s r v w homes h b)
      → Ruled k record { words = words; homes = homes; views = set s.views id w }
  next k s r id v w words homes h at awake shape stands sized mine others placed =
      let z = opening_of k in
      record {
        history = h;
        stands = subst (λ l. StandsFunded z words l h) (sym (map_set view_of s.views id w)) stands;
        limits = r.limits;
        shapes = each_set (λ j u. u.view.spent ≡ false → u.shape ≡ k) s.views id w (λ _. shape) (λ j u n e un. r.shapes j u e un);
        sized = sized ∙ r.sized;
        homes = λ b inside. place b inside (placed b inside);
        backed = each_set (λ j u. u.view.spent ≡ false → IsBacked (leads z h) u.view.name u.view.pending u.hand) s.views id w (λ _. mine)
            (λ j u n e un. others j u n e un (r.backed j u e un));
      }
    where
      still_out : (b : ℕ) → (IsSlotOf v.hand b → ⊥) → IsOut s.views b → IsOut (set s.views id w) b
      still_out b free o = dite (ℕ_discrete o.0 id)
          (λ (q : o.0 ≡ id). absurd (free (subst (λ (u : SeatView V). IsSlotOf u.hand b) (some-injective o.1 v (sym o.2
          ∙ (ap (get_elem? s.views) q ∙ at))) o.4)))
          (λ (n : o.0 ≢ id). (o.0, o.1, set_else s.views id o.0 w n ∙ o.2, o.3, o.4))

      place : (b : ℕ) → InShape (opening_of k) b → IsPlaced k s r v w homes h b
          → (get_elem? homes (b - 1) ≡ some (some (kept (opening_of k) h b))) ⊎ IsOut (set s.views id w) b
      place b inside (inl e) = inl e
      place b inside (inr (inl e)) = inr (id, w, set_there s.views id v w at, awake, e)
      place b inside (inr (inr t)) =
          ⊎_elim (λ (e : get_elem? s.homes (b - 1) ≡ some (some (kept (opening_of k) r.history b))). inl (t.0 ∙ (e
          ∙ ap (λ x. some (some x)) (sym t.1))))
          (λ o. inr (still_out b t.2 o)) (r.homes b inside)

  -- the point at which the seat makes its step
  abbrev pub point : (k : Shape) (s : Table.State (Option V) (SeatView V)) → Ruled k s → ℕ → SeatView V → Point V
  point k s r id v = record { opening = opening_of k; words = s.words; views = map view_of s.views; history = r.history; seat = id; view = v.view }

  module _ (k : Shape) (s : Table.State (Option V) (SeatView V)) (r : Ruled k s) (id : ℕ) (v : SeatView V) (at : get_elem? s.views id ≡ some v)
      (awake : v.view.spent ≡ false) where
    pub ready : (p : Pending V) → v.view.pending ≡ p → ReadyFunded (point k s r id v) p
    ready p pending = record { stands = r.stands; seated = at_map view_of s.views id v at; awake = awake; pending = pending }

    pub knows : Knows v.view.name r.history v.view.seen
    knows = (r.stands.stands.team.seated id v.view (at_map view_of s.views id v at) awake).knows v.view.name (inl refl)

    pub same : Same (leads (opening_of k) v.view.seen) (leads (opening_of k) r.history) v.view.name
    same = as_seen (opening_of k) r.stands.bare (map view_of s.views) r.history r.stands.stands id v.view (at_map view_of s.views id v at) awake

    pub known_as : known v ≡ leads (opening_of k) v.view.seen
    known_as = ap (λ z. leads (opening_of z) v.view.seen) (r.shapes id v at awake)

    -- what it holds by what it has seen, it holds
    pub still_held : (x : Held) → x.desk ≡ v.view.name → Has x (known v).hands → Has x (leads (opening_of k) r.history).hands
    still_held x e has =
        let l : Has x (leads (opening_of k) v.view.seen).hands = subst (λ (z : State). Has x z.hands) known_as has in
        (part_has (λ (y : Held). y.desk) v.view.name x (leads (opening_of k) r.history).hands
        (subst (Has x) (sym same.in_bag) (has_part (λ (y : Held). y.desk) v.view.name x (leads (opening_of k) v.view.seen).hands e l))).0

    pub still_stored : (x : Stored) → x.desk ≡ v.view.name → Has x (known v).stores → Has x (leads (opening_of k) r.history).stores
    still_stored x e has =
        let l : Has x (leads (opening_of k) v.view.seen).stores = subst (λ (z : State). Has x z.stores) known_as has in
        (part_has (λ (y : Stored). y.desk) v.view.name x (leads (opening_of k) r.history).stores
        (subst (Has x) (sym same.in_stock) (has_part (λ (y : Stored). y.desk) v.view.name x (leads (opening_of k) v.view.seen).stores e l))).0

    pub still_room : HasRoomFor v → bag_size (leads (opening_of k) r.history) v.view.name < (leads (opening_of k) r.history).allowance v.view.name
    still_room more =
        let l : bag_size (leads (opening_of k) v.view.seen) v.view.name < (leads (opening_of k) v.view.seen).allowance v.view.name =
        subst (λ (z : State). bag_size z v.view.name < z.allowance v.view.name) known_as more in
        let a = ap length same.in_bag in let b = same.may_hold in omega arith

    -- and its object is in the block that it knows
    pub still_there : (o b : ℕ) → o ≤ (leads (opening_of k) v.view.seen).made → ((known v).object o).block ≡ b
        → ((leads (opening_of k) r.history).object o).block ≡ b
    still_there o b made e =
        subst (λ (l : List (Entry V)). ((leads (opening_of k) l).object o).block ≡ b) (sym knows.1)
        ((block_kept (opening_of k) knows.0 v.view.seen o made).0 ∙ (ap (λ (z : State). (z.object o).block) (sym known_as) ∙ e))

    pub legal_known : IsLegal (opening_of k) v.view.seen
    legal_known = legal_seen (opening_of k) knows.0 v.view.seen (subst (IsLegal (opening_of k)) knows.1 r.stands.stands.legal)

    pub held_there : (m : Kind) (o : ℕ) (p : Option Place) (b : ℕ) → HoldingInBlock v m o p b
        → Has (held v.view.name (handle m (Some o) p)) (leads (opening_of k) r.history).hands
        × (((leads (opening_of k) r.history).object o).block ≡ b)
    held_there m o p b mine =
        let has = subst (λ (z : State). Has (held v.view.name (handle m (Some o) p)) z.hands) known_as mine.has in (
          still_held (held v.view.name (handle m (Some o) p)) refl mine.has,
          still_there o b (held_made (opening_of k) (leads (opening_of k) v.view.seen) v.view.name o m p (sound
              (opening_of k) v.view.seen legal_known) has) mine.there,
        )

    -- an object that ends in its hands ends there still, and is what it was
    pub still_ending : (o b : ℕ) → Ends v o b
        → ((leads (opening_of k) r.history).latest b ≡ o)
        × Alike ((known v).object o) ((leads (opening_of k) r.history).object o)
        × (value (opening_of k) r.history o ≡ value (opening_of v.shape) v.view.seen o)
    still_ending o b ends =
        let z = opening_of k in let shape = r.shapes id v at awake in
        let e = subst (λ (y : Opening). ((leads y v.view.seen).latest b ≡ o)
        × (((leads y v.view.seen).object o).phase ≡ ending v.view.name)) (ap opening_of shape) ends in
        let t = still_ends z knows.0 v.view.seen b v.view.name (subst (IsLegal z) knows.1 r.stands.stands.legal) knows.2
        (ap (λ x. ((leads z v.view.seen).object x).phase) e.0 ∙ e.1) in
        let back : r.history ≡ knows.0 ++ v.view.seen = knows.1 in (
          ap (λ l. (leads z l).latest b) back ∙ (t.latest ∙ e.0),
          subst (λ (y : State). Alike (y.object o) ((leads z r.history).object o)) (sym known_as)
              (subst (λ l. Alike ((leads z v.view.seen).object o) ((leads z l).object o)) (sym back)
              (subst (λ x. Alike ((leads z v.view.seen).object x) ((leads z (knows.0 ++ v.view.seen)).object x)) e.0 t.object)),
          ap (λ l. value z l o) back ∙ (ap (value z (knows.0 ++ v.view.seen)) (sym e.0) ∙ (t.value ∙ (ap (value z v.view.seen) e.0
              ∙ ap (λ y. value (opening_of y) v.view.seen o) (sym shape)))),
        )

    pub adds : (p : Pending V) (c : Option Block) (e : Event V) → IsLegal (opening_of k) (entry v.view.name e ∷ r.history)
        → Added v p c e (seeing v p c (entry v.view.name e ∷ r.history))
    adds p c e legal =
        record {
          between = knows.0;
          now = ap (λ l. seeing v p c (entry v.view.name e ∷ l)) knows.1;
          quiet = knows.2;
          legal = subst (λ z. IsLegal (opening_of z) (entry v.view.name e ∷ r.history)) (sym (r.shapes id v at awake)) legal;
        }

    pub moves : (p : Pending V) (c : Option Block) → Moved v p c (seeing v p c r.history)
    moves p c =
        record {
          between = knows.0;
          now = ap (λ l. seeing v p c l) knows.1;
          quiet = knows.2;
          legal = subst (λ z. IsLegal (opening_of z) r.history) (sym (r.shapes id v at awake)) r.stands.stands.legal;
        }

  -- the event moves no object, ends none, and changes no value
  pub record IsQuiet (e : Event V) : Type 0 where
    pub phases : (s : State) (d o : ℕ) → ((after s d e).object o).phase ≡ (s.object o).phase
    pub blocks : (s : State) (d o : ℕ) → ((after s d e).object o).block ≡ (s.object o).block
    pub latest : (s : State) (d : ℕ) → (after s d e).latest ≡ s.latest
    pub values : (s : State) (f : ℕ → Option V) → valued s e f ≡ f

  -- an event that changes no object
  pub plain : {e : Event V} → ((s : State) (d : ℕ) → (after s d e).object ≡ s.object) → ((s : State) (d : ℕ) → (after s d e).latest ≡ s.latest)
      → ((s : State) (f : ℕ → Option V) → valued s e f ≡ f) → IsQuiet e
  plain objects latest values =
      record {
        phases = λ s d o. ap (λ (g : ℕ → Object). (g o).phase) (objects s d);
        blocks = λ s d o. ap (λ (g : ℕ → Object). (g o).block) (objects s d);
        latest = latest;
        values = values;
      }

  pub quiet_swap : (c : Cell) (new old : NumberedHandle) → IsQuiet (Swap c new old)
  quiet_swap c new old =
      record {
        phases = λ s d o. fills_phase (loses d new s) c new o;
        blocks = λ s d o. fills_block (loses d new s) c new o;
        latest = λ s d. fills_latest (loses d new s) c new;
        values = λ s f. refl;
      }

  pub quiet_compare : (c : Cell) (expected new old : NumberedHandle) (swapped weak : Bool) → IsQuiet (Compare c expected new old swapped weak)
  quiet_compare c expected new old true weak =
      record {
        phases = λ s d o. fills_phase (loses d new s) c new o;
        blocks = λ s d o. fills_block (loses d new s) c new o;
        latest = λ s d. fills_latest (loses d new s) c new;
        values = λ s f. refl;
      }
  quiet_compare c expected new old false weak = plain (λ s d. refl) (λ s d. refl) (λ s f. refl)

  pub quiet_clear : (o m : ℕ) (h : NumberedHandle) → IsQuiet (ClearMember o m h)
  quiet_clear o m h =
      record {
        phases = λ s d q. fills_phase s (Member o m) (empty (kind_of_member s.owners m)) q;
        blocks = λ s d q. fills_block s (Member o m) (empty (kind_of_member s.owners m)) q;
        latest = λ s d. refl;
        values = λ s f. refl;
      }

  pub same_kept : (k : Shape) (h : List (Entry V)) (d : ℕ) (e : Event V) → IsQuiet e → (b : ℕ)
      → kept (opening_of k) (entry d e ∷ h) b ≡ kept (opening_of k) h b
  same_kept k h d e q b =
      let z = opening_of k in let s = leads z h in let l = q.latest s d in let v = q.values s (value z h) in
      ap (λ o. until_gone ((leads z (entry d e ∷ h)).object o).phase (value z (entry d e ∷ h) o)) (ap (λ (f : ℕ → ℕ). f b) l)
      ∙ ((λ i. until_gone (q.phases s d (s.latest b) i) ((v i) (s.latest b))))

  -- such an event with the slots left alone
  pub quiet_next : (k : Shape) (s : Table.State (Option V) (SeatView V)) (r : Ruled k s) (id : ℕ) (v : SeatView V) (words : List ℕ) (e : Event V)
      (p : Pending V)
      → get_elem? s.views id ≡ some v → v.view.spent ≡ false → v.hand ≡ None → IsQuiet e → let h = entry v.view.name e ∷ r.history in
      StandsFunded (opening_of k) words (set (map view_of s.views) id (sees_as v.view p h)) h
      → Ruled k record { words = words; homes = s.homes; views = set s.views id (seeing v p None h) }
  quiet_next k s r id v words e p at awake free q stands =
      let h = entry v.view.name e ∷ r.history in let t = leads (opening_of k) r.history in
      next k s r id v (seeing v p None h) words s.homes h at awake (r.shapes id v at awake) stands refl
      tt
      (λ j u ne there un b. backed_still t (leads (opening_of k) h) u.view.name u.view.pending u.hand
      (λ c y. ap (λ (o : ℕ). ((leads (opening_of k) h).object o).phase) (ap (λ (f : ℕ → ℕ). f c) (q.latest t v.view.name))
      ∙ (q.phases t v.view.name (t.latest c) ∙ y)) b)
      (λ b inside. inr (inr (refl, same_kept k r.history v.view.name e q b, λ y. subst (λ c. IsSlotOf c b) free y)))

  -- a step that makes such an event
  pub allows_telling : (k : Shape) (slots id i : ℕ) (me : At V) (f : ℕ → ℕ) (e : ℕ → Event V) (p : Pending V) (T : ℕ → At V → Type 0)
      → me.0.view.spent ≡ false → me.0.hand ≡ None → ((n : ℕ) → IsQuiet (e n))
      → ((s : Table.State (Option V) (SeatView V)) (r : Ruled k s) → get_elem? s.views id ≡ some me.0 → get_or s.words i 0 < 18446744073709551616
      → let n = get_or s.words i 0 in let h = entry me.0.view.name (e n) ∷ r.history in
      StandsFunded (opening_of k) (set s.words i (f n)) (set (map view_of s.views) id (sees_as me.0.view p h)) h
      × (Added me.0 p None (e n) (seeing me.0 p None h) → T n (seeing me.0 p None h, me.1)))
      → Allows (Ruled k) slots id me i f T
  allows_telling k slots id i me f e p T awake free quiet law s r sized at small =
      let v = me.0 in let n = get_or s.words i 0 in let h = entry v.view.name (e n) ∷ r.history in let now = law s r at small in (
        seeing v p None h,
        keeps,
        tt,
        quiet_next k s r id v (set s.words i (f n)) (e n) p at awake free (quiet n) now.0,
        now.1 (adds k s r id v at awake p None (e n) now.0.stands.legal),
      )

  pub allows_event : (k : Shape) (slots id i : ℕ) (me : At V) (f : ℕ → ℕ) (e : ℕ → Event V) (p : Pending V)
      → me.0.view.spent ≡ false → me.0.hand ≡ None → ((n : ℕ) → IsQuiet (e n))
      → ((s : Table.State (Option V) (SeatView V)) (r : Ruled k s) → get_elem? s.views id ≡ some me.0 → get_or s.words i 0 < 18446744073709551616
      → let n = get_or s.words i 0 in let h = entry me.0.view.name (e n) ∷ r.history in
      StandsFunded (opening_of k) (set s.words i (f n)) (set (map view_of s.views) id (sees_as me.0.view p h)) h)
      → Allows (Ruled k) slots id me i f (λ n after. Added me.0 p None (e n) after.0 × (after.1 ≡ me.1))
  allows_event k slots id i me f e p awake free quiet law =
      allows_telling k slots id i me f e p (λ n after. Added me.0 p None (e n) after.0 × (after.1 ≡ me.1)) awake free quiet
      (λ s r at small. (law s r at small, λ a. (a, refl)))
