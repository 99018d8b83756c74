-- The writes of a make and its claim are allowed.
use Rattle.std.proofs.Common.{◌≡◌, ℕ, suc, ◌+◌, ◌-◌, ◌<◌, ◌≤◌, Bool, false, ◌≢◌, List, [], ◌∷◌}
use Rattle.std.proofs.Common.{map, length, get_or, set, Some, None, Option, sym, refl, ap, ◌∙◌}
use Rattle.std.proofs.Common.{subst, inl, inr, ⊎_elim, arith, length-set}
use Rattle.control_block.proofs.Prelude
use Prelude.{Act, Allows, At, began, Block, carried_after, cases_eq, Entry, entry, Event, flags_of}
use Prelude.{get_elem?, gives, Has, HasRoomFor, Idle, IsSlotOf, keeps, kept, known, leads, load_is_write, made}
use Prelude.{Make, Making, new_object, none, opening_of, Pending, prepared, put, put_back}
use Prelude.{put_other, put_same, rest, Rests, Ruled, SeatView, seeing, set_else, set_here, Shape}
use Prelude.{some, sound, spot, StandsFunded, step, stepped, stored, takes, until_gone, Valid, value}
use Prelude.{valued, view_of, wrote}
use Rattle.atomic_table.specs.Table as Table
use Rattle.control_word.specs.Steps.{known_of}
use Rattle.control_block.proofs.Passage.{adds, moves, next, point, ready, still_room, still_stored}
use Rattle.control_block.proofs.words.Slots.{others_still, slots_apart, vacant_home}
use Rattle.control_block.proofs.words.Still.{unmoved}
use Rattle.control_word.proofs.funded.Making as making
use Rattle.control_block.specs.StepKinds.{found_begun}

module _ {V : Type 0} where
  module _ (k : Shape) (slots id i : ℕ) (b : Block) (me : At V) (rests : Rests me) (has : Has (stored me.0.view.name b.0) (known me.0).stores)
      (e : i ≡ spot b.0 1) where
    -- the make has begun: the weak word is 1
    begins : (m : ℕ) (s : Table.State (Option V) (SeatView V)) (r : Ruled k s) → get_elem? s.views id ≡ some me.0
        → StandsFunded (opening_of k) (set s.words i m)
        (set (map view_of s.views) id (seeing me.0 (Making b (known_of s.words b.0)) (Some b) r.history).view) r.history
        → (w : SeatView V) × (a : Act (Option V)) × Valid s.homes me.1 a × Ruled k (stepped s i m id me.1 w a)
        × began b (step slots i 0 0 none) me m (w, carried_after me.1 a)
    begins m s r at now =
        let v = me.0 in let z = opening_of k in let t = leads z r.history in
        let mine = still_stored k s r id v at rests.awake (stored v.view.name b.0) refl has in
        let inside = ((sound z r.history r.stands.stands.legal).stores v.view.name b.0 mine).1 in
        let l = known_of s.words b.0 in let w = seeing v (Making b l) (Some b) r.history in (
          w,
          takes (b.0 - 1) None,
          vacant_home k s r id v at rests.awake rests.empty b.0 mine,
          next k s r id v w (set s.words i m) (set s.homes (b.0 - 1) none) r.history at rests.awake (r.shapes id v at rests.awake)
              now
              (length-set s.homes (b.0 - 1) none) (inl refl) (λ j u ne there un back. back)
              (λ c within. ⊎_elim (λ (q : c ≡ b.0). inr (inl (sym q)))
              (λ (q : c ≢ b.0). inr (inr (
                set_else s.homes (b.0 - 1) (c - 1) none (slots_apart b.0 c inside.0 within.0 q),
                refl,
                λ y. subst
                    (λ h. IsSlotOf h c) rests.empty y,
              )))
              (cases_eq c b.0)),
          (l, refl, moves k s r id v at rests.awake (Making b l) (Some b), refl),
        )

    mine_still : (s : Table.State (Option V) (SeatView V)) (r : Ruled k s) → get_elem? s.views id ≡ some me.0
        → Has (stored me.0.view.name b.0) (leads (opening_of k) r.history).stores
    mine_still s r at = still_stored k s r id me.0 at rests.awake (stored me.0.view.name b.0) refl has

    pub allows_begin : Allows (Ruled k) slots id me i (λ _. 1) (λ _. began b (step slots i 1 0 none) me 1)
    allows_begin s r sized at small =
        begins 1 s r at
        (subst (λ x. StandsFunded (opening_of k) (set s.words x 1)
        (set (map view_of s.views) id (seeing me.0 (Making b (known_of s.words b.0)) (Some b) r.history).view) r.history) (sym e)
        (making.writes_weak_word_funded (point k s r id me.0) (ready k s r id me.0 at rests.awake Idle rests.idle) b (mine_still s r at)))

    -- by a look, where the word is 1 already
    pub allows_find : Allows (Ruled k) slots id me i (λ n. n) (found_begun b (step slots i 0 0 none) me)
    allows_find s r sized at small =
        let n = get_or s.words i 0 in
        ⊎_elim
        (λ (q : n ≡ 1).
        let view = seeing me.0 (Making b (known_of s.words b.0)) (Some b) r.history in
        let t = begins n s r at
        (subst (λ (l : List ℕ). StandsFunded (opening_of k) l (set (map view_of s.views) id view.view) r.history) (sym (load_is_write s.words i))
        (making.finds_weak_word_funded (point k s r id me.0) (ready k s r id me.0 at rests.awake Idle rests.idle) b (mine_still s r at)
        (ap (λ x. get_or s.words x 0) (sym e) ∙ q))) in
        (t.0, t.1, t.2, t.3, (λ _. t.4, λ ne. absurd (ne q))))
        (λ (ne : n ≢ 1). (me.0, keeps, tt, unmoved k s id i me.0 r at, (λ q. absurd (ne q), λ _. refl)))
        (cases_eq n 1)

  module _ (k : Shape) (slots id i j : ℕ) (b : Block) (me : At V) (awake : me.0.view.spent ≡ false) (l : List ℕ)
      (pending : me.0.view.pending ≡ Making b l)
      (hand : me.0.hand ≡ Some b) (five : length l ≡ 5) (low : j < 5) (e : i ≡ spot b.0 (2 + j)) where
    -- the word becomes n
    writes : (n : ℕ) (s : Table.State (Option V) (SeatView V)) (r : Ruled k s) → get_elem? s.views id ≡ some me.0
        → (w : SeatView V) × (a : Act (Option V)) × Valid s.homes me.1 a × Ruled k (stepped s i n id me.1 w a)
        × wrote b j (step slots i 0 0 none) me n (w, carried_after me.1 a)
    writes n s r at =
        let v = me.0 in let z = opening_of k in let p : Pending V = Making b (set l j n) in let w = seeing v p (Some b) r.history in
        let now = (making.writes_word_funded (point k s r id v) b l (ready k s r id v at awake (Making b l) pending) five j n low).1 in
        let same : p ≡ Making b (set (prepared v.view.pending) j n) = ap (λ q. Making b (set (prepared q) j n)) (sym pending) in (
          w,
          keeps,
          tt,
          next k s r id v w (set s.words i n) s.homes r.history at awake (r.shapes id v at awake)
              (subst (λ x. StandsFunded z (set s.words x n) (set (map view_of s.views) id w.view) r.history) (sym e) now)
              refl (inl refl) (λ q u ne there un back. back)
              (λ c within. ⊎_elim (λ (q : c ≡ b.0). inr (inl (sym q)))
              (λ (q : c ≢ b.0). inr (inr (refl, refl, λ y. q (sym (subst (λ h. IsSlotOf h c) hand y))))) (cases_eq c b.0)),
          (subst (λ q. Rattle.control_block.specs.StepKinds.Moved v q (Some b) w) same (moves k s r id v at awake p (Some b)), refl),
        )

    pub allows_look : Allows (Ruled k) slots id me i (λ n. n) (wrote b j (step slots i 0 0 none) me)
    allows_look s r sized at small = writes (get_or s.words i 0) s r at

    pub allows_write : (n : ℕ) → Allows (Ruled k) slots id me i (λ _. n) (λ _. wrote b j (step slots i n 0 none) me n)
    allows_write n s r sized at small = writes n s r at

  pub allows_claim : (k : Shape) (slots id i : ℕ) (b : Block) (enabled null : Bool) (fields : List ℕ) (me : At V) (x : V) → me.0.view.spent ≡ false
      → me.0.view.pending ≡ Making b (flags_of enabled null ∷ fields) → me.0.hand ≡ Some b
      → me.1 ≡ (b.0 - 1, Some x) ∷ [] → length fields ≡ 4
      → HasRoomFor me.0
      → i ≡ spot b.0 0
      → Allows (Ruled k) slots id me i (λ _. 1099511627777) (made b enabled null fields (step slots i 1099511627777 0 none) me)
  allows_claim k slots id i b enabled null fields me x awake pending hand carried four more e s r sized at small =
      let v = me.0 in let z = opening_of k in let t = leads z r.history in let d = v.view.name in let ev : Event V = Make b enabled null fields x in
      let h = entry d ev ∷ r.history in let w = seeing v Idle None h in let fine = sound z r.history r.stands.stands.legal in
      let now = making.claims_funded (point k s r id v) b enabled null fields x (ready k s r id v at awake (Making b
      (flags_of enabled null ∷ fields)) pending) four
      (still_room k s r id v at awake more) in
      let asks = now.stands.legal.1.asks in let inside = (fine.stores d b.0 asks.0).1 in let new = new_object t.owners b.0 enabled null fields in
      let m = suc t.made in
      let homes = set s.homes (b.0 - 1) (some (Some x)) in (
        w,
        gives,
        tt,
        subst (λ c. Ruled k record { words = set s.words i 1099511627777; homes = put_back s.homes c; views = set s.views id w }) (sym carried)
            (next k s r id v w (set s.words i 1099511627777) homes h at awake (r.shapes id v at awake)
            (subst (λ y. StandsFunded z (set s.words y 1099511627777) (set (map view_of s.views) id w.view) h) (sym e) now)
            (length-set s.homes (b.0 - 1) (some (Some x)))
            tt
            (others_still k s r id v at awake ev asks (λ _ _ _ _ _ n. n))
            (λ c within. ⊎_elim
            (λ (q : c ≡ b.0). inl (subst (λ y. get_elem? homes (y - 1) ≡ some (some (kept z h y))) (sym q)
            (set_here s.homes (b.0 - 1) (some (Some x)) (let l = r.sized in let l0 = inside.0 in let l1 = inside.1 in omega arith)
            ∙ ap (λ y. some (some y)) (sym (fresh_kept z r.history d b enabled null fields x)))))
            (λ (q : c ≢ b.0). inr (inr (
              set_else s.homes (b.0 - 1) (c - 1) (some (Some x)) (slots_apart b.0 c inside.0 within.0 q),
              other_kept z r.history d b enabled null fields x c q (fine.latest_made c),
              λ y. q (sym (subst (λ g. IsSlotOf g c) hand y)),
            ))) (cases_eq c b.0))),
        (x, carried, adds k s r id v at awake Idle None ev now.stands.legal, ap rest carried),
      )
    where
      fresh_kept : (z : Rattle.control_word.specs.State.Opening) (h : List (Entry V)) (d : ℕ) (b : Block) (enabled null : Bool)
          (fields : List ℕ) (x : V)
          → kept z (entry d (Make b enabled null fields x) ∷ h) b.0 ≡ Some x
      fresh_kept z h d b enabled null fields x =
          let s = leads z h in let m = suc s.made in
          ap (λ o. until_gone (put s.object m (new_object s.owners b.0 enabled null fields) o).phase (valued s (Make b enabled null fields x)
          (value z h) o)) (put_same s.latest b.0 m b.0 refl)
          ∙ (ap (λ y. until_gone y.phase (valued s (Make b enabled null fields x) (value z h) m)) (put_same s.object m
          (new_object s.owners b.0 enabled null fields) m refl)
          ∙ put_same (value z h) m (Some x) m refl)

      other_kept : (z : Rattle.control_word.specs.State.Opening) (h : List (Entry V)) (d : ℕ) (b : Block) (enabled null : Bool)
          (fields : List ℕ) (x : V) (c : ℕ) → c ≢ b.0
          → (leads z h).latest c ≤ (leads z h).made → kept z (entry d (Make b enabled null fields x) ∷ h) c ≡ kept z h c
      other_kept z h d b enabled null fields x c n le =
          let s = leads z h in let m = suc s.made in let ne : s.latest c ≢ m = λ q. omega arith in
          ap (λ o. until_gone (put s.object m (new_object s.owners b.0 enabled null fields) o).phase (valued s (Make b enabled null fields x)
          (value z h) o)) (put_other s.latest b.0 m c n)
          ∙ (ap (λ y. until_gone y.phase (valued s (Make b enabled null fields x) (value z h) (s.latest c))) (put_other s.object m
          (new_object s.owners b.0 enabled null fields) (s.latest c) ne)
          ∙ ap (until_gone (s.object (s.latest c)).phase) (put_other (value z h) m (Some x) (s.latest c) ne))
