-- The door of a visit: it is shut and the slot with the value taken, and it is opened and the slot given home.
use Rattle.std.proofs.Common.{◌≡◌, ℕ, ◌+◌, ◌-◌, ◌%◌, ◌^◌, ◌<◌, ◌≤◌, false, cond, ◌≢◌, [], ◌∷◌, map}
use Rattle.std.proofs.Common.{get_or, set, ◌==◌, Some, None, Option, sym, refl, ap, ◌∙◌, subst}
use Rattle.std.proofs.Common.{inl, inr, ⊎_elim, arith, length-set, eq-eqb, ne_eqb}
use Rattle.control_block.proofs.Prelude
use Prelude.{Allows, At, at_map, Block, cases_eq, counted_live, either, entry, Event, Fits}
use Prelude.{get_elem?, gives, has_value, held_busy, HoldingInBlock, Idle, InShape, IsSlotOf}
use Prelude.{keeps, kept, leads, names_an_object, none, opened, opening_of, Owner, owner}
use Prelude.{owner_counted, Pending, Place, put_back, put_other, put_same, rest, Rests, Ruled}
use Prelude.{SeatView, seeing, sees_as, set_else, set_here, Shape, some, sound, spot, StandsFunded, step}
use Prelude.{takes, until_gone, value, View, view_of, Visit, Visiting}
use Rattle.atomic_table.specs.Table as Table
use Rattle.control_word.proofs.funded.Apart.{body_apart}
use Rattle.control_word.proofs.funded.Next.{plain_word}
use Rattle.control_word.proofs.funded.Words as words
use Rattle.control_word.proofs.words.Flags.{flags_read, total_at}
use Rattle.control_word.specs.Views.{adds as door_added}
use Rattle.control_block.specs.DoorStepKinds.{shut}
use Rattle.control_block.proofs.Passage.{adds, held_there, moves, next, point, ready}
use Rattle.control_block.proofs.words.Slots.{live_home, slots_apart}
use Rattle.control_block.proofs.words.Still.{unmoved}

drops_four : (n : ℕ) → 4 ≤ n → n < 18446744073709551616 → (n + (2 ^ 64 - 4)) % 2 ^ 64 ≡ n - 4
drops_four n enough lt = omega arith

module _ {V : Type 0} where
  module _ (k : Shape) (slots id o i found : ℕ) (b : Block) (p : Option Place) (me : At V) (rests : Rests me) (holds : HoldingInBlock me.0 Owner o p b.0)
      (e : i ≡ spot b.0 2) (open' : found < 4) where
    pub allows_shut : Allows (Ruled k) slots id me i (λ n. either (n == found) (found + 4) n) (shut b o p (step slots i found (found + 4) none) me)
    allows_shut s r sized at small = ⊎_elim hit miss (cases_eq (get_or s.words i 0) found)
      where
        T : ℕ → At V → Type 0
        T = shut b o p (step slots i found (found + 4) none) me

        miss : get_or s.words i 0 ≢ found
            → (w : SeatView V) × (a : Table.Act (Option V)) × Table.Valid s.homes me.1 a
            × Ruled k (Table.stepped s i (either (get_or s.words i 0 == found) (found + 4) (get_or s.words i 0)) id me.1 w a)
            × T (get_or s.words i 0) (w, Table.carried_after me.1 a)
        miss q = (
          me.0,
          keeps,
          tt,
          subst (λ c. Ruled k record { words = set s.words i (either c (found + 4) (get_or s.words i 0)); homes = s.homes; views = set s.views id me.0 })
              (sym (ne_eqb (get_or s.words i 0) found q)) (unmoved k s id i me.0 r at),
          (λ m. absurd (q m), λ _. refl),
        )

        hit : get_or s.words i 0 ≡ found
            → (w : SeatView V) × (a : Table.Act (Option V)) × Table.Valid s.homes me.1 a
            × Ruled k (Table.stepped s i (either (get_or s.words i 0 == found) (found + 4) (get_or s.words i 0)) id me.1 w a)
            × T (get_or s.words i 0) (w, Table.carried_after me.1 a)
        hit q =
            let v = me.0 in let z = opening_of k in let views = map view_of s.views in let t = leads z r.history in
            let fine = sound z r.history r.stands.stands.legal in
            let mine = held_there k s r id v at rests.awake Owner o p b.0 holds in
            let n = names_an_object z r.history r.stands.stands.legal v.view.name Owner (owner o p) (mine.0, refl, refl) in
            let alive = counted_live z t o fine (owner_counted t v.view.name o p mine.0) in
            let x = has_value z r.history o n.0 n.1 in
            let j = spot (t.object o).block 2 in let same : j ≡ i = ap (λ y. spot y 2) mine.1 ∙ sym e in
            let word : get_or s.words j 0 ≡ found = ap (λ y. get_or s.words y 0) same ∙ q in
            let low : get_or s.words j 0 < 4 = omega arith in
            let busy = held_busy z t v.view.name o Owner p fine mine.0 in
            let told = (words.shuts_funded (point k s r id v) o p x.0 (ready k s r id v at rests.awake Idle rests.idle) mine.0 x.1).1 low in
            let call : Pending V = Visiting o p i x.0 in let w = seeing v call (Some b) r.history in
            let stands : StandsFunded z (set s.words i (found + 4)) (set views id (sees_as v.view call r.history)) r.history =
            subst (λ (y : ℕ × ℕ). StandsFunded z (set s.words y.0 (y.1 + 4)) (set views id (sees_as v.view (Visiting o p y.0 x.0) r.history)) r.history)
            (λ c. (same c, word c)) told in
            let plain = plain_word z s.words views r.history r.stands j
            (body_apart z t fine (t.object o).block 2 (fine.placed o busy).1.0 (omega arith) (omega arith)) in
            let nobody = (flags_read z r.stands.bare views r.history r.stands.stands id v.view (at_map view_of s.views id v at) rests.awake o p busy).1
            (omega arith) in
            let inside = subst (InShape z) mine.1 n.3 in (
              w,
              takes (b.0 - 1) (Some x.0),
              live_home k s r b.0 o inside (ap t.latest (sym mine.1) ∙ n.2) mine.1 alive
                  (λ y u there un out m.
                  let some' = total_at (λ (f : View V). door_added f.pending (spot b.0 2)) views y u.view (at_map view_of s.views y u there) in
                  let none' = ap (λ c. Rattle.control_word.specs.Views.added views (spot c 2)) (sym mine.1) ∙ nobody in
                  let door = m.door in omega arith)
                  ∙ ap (λ y. some (some y)) x.1,
              subst (λ c. Ruled k record {
                words = set s.words i (either c (found + 4) (get_or s.words i 0));
                homes = set s.homes (b.0 - 1) none;
                views = set s.views id w;
              })
                  (sym (eq-eqb (get_or s.words i 0) found q))
                  (next k s r id v w (set s.words i (found + 4)) (set s.homes (b.0 - 1) none) r.history at rests.awake (r.shapes id v at rests.awake) stands
                  (length-set s.homes (b.0 - 1) none) (inl e) (λ y u ne there un back. back)
                  (λ c within. ⊎_elim (λ (u : c ≡ b.0). inr (inl (sym u)))
                  (λ (u : c ≢ b.0). inr (inr (
                    set_else s.homes (b.0 - 1) (c - 1) none (slots_apart b.0 c inside.0 within.0 u),
                    refl,
                    λ y. subst (λ f. IsSlotOf f c) rests.empty y,
                  ))) (cases_eq c b.0))),
              (
                λ _. (
                  x.0,
                  moves k s r id v at rests.awake call (Some b),
                  ap (λ y. value (opening_of y) r.history o) (r.shapes id v at rests.awake) ∙ x.1,
                  refl,
                ),
                λ m. absurd (m q),
              ),
            )

  pub allows_open : (k : Shape) (slots id o i : ℕ) (b : Block) (p : Option Place) (was becomes : V) (me : At V) → me.0.view.spent ≡ false
      → me.0.view.pending ≡ Visiting o p i was → me.0.hand ≡ Some b → me.1 ≡ (b.0 - 1, Some becomes) ∷ [] → 1 ≤ b.0 → i ≡ spot b.0 2
      → Allows (Ruled k) slots id me i (λ n. (n + (2 ^ 64 - 4)) % 2 ^ 64) (opened b o p (step slots i 4 0 none) me)
  allows_open k slots id o i b p was becomes me awake pending hand carried low e s r sized at small =
      let v = me.0 in let z = opening_of k in let views = map view_of s.views in let t = leads z r.history in
      let fine = sound z r.history r.stands.stands.legal in
      let fits : Fits r.stands.bare t (value z r.history) v.view.name (Visiting o p i was) =
      subst (Fits r.stands.bare t (value z r.history) v.view.name) pending (r.stands.stands.team.seated id v.view (at_map view_of s.views id v at)
      awake).fits in
      let n = names_an_object z r.history r.stands.stands.legal v.view.name Owner (owner o p) (fits.0, refl, refl) in
      let word : i ≡ spot (t.object o).block 2 = fits.1 in let l0 = n.3.0 in
      let here : (t.object o).block ≡ b.0 = omega arith in
      let last : t.latest b.0 ≡ o = ap t.latest (sym here) ∙ n.2 in let inside = subst (InShape z) here n.3 in
      let alive = counted_live z t o fine (owner_counted t v.view.name o p fits.0) in
      let j = spot (t.object o).block 2 in
      let l = words.opens_funded (point k s r id v) o p was becomes
      (ready k s r id v at awake (Visiting o p j was) (pending ∙ ap (λ y. Visiting o p y was) word)) in
      let ev : Event V = Visit (owner o p) was becomes in let h = entry v.view.name ev ∷ r.history in
      let enough : 4 ≤ get_or s.words i 0 = subst (λ y. 4 ≤ get_or s.words y 0) (sym word) l.0 in
      let now = subst (λ c. StandsFunded z (set s.words i c) (set views id (sees_as v.view Idle h)) h) (sym (drops_four (get_or s.words i 0) enough small))
      (subst (λ y. StandsFunded z (set s.words y (get_or s.words y 0 - 4)) (set views id (sees_as v.view Idle h)) h) (sym word) l.1) in
      let w = seeing v Idle None h in let homes = set s.homes (b.0 - 1) (some (Some becomes)) in
      let new : kept z h b.0 ≡ Some becomes =
      ap (λ q. until_gone (t.object q).phase (cond (q == o) (Some becomes) (value z r.history q))) last
      ∙ (ap (λ y. until_gone y (cond (o == o) (Some becomes) (value z r.history o))) alive ∙ put_same (value z r.history) o (Some becomes) o refl) in (
        w,
        gives,
        tt,
        subst (λ c. Ruled k record {
          words = set s.words i ((get_or s.words i 0 + (2 ^ 64 - 4)) % 2 ^ 64);
          homes = put_back s.homes c;
          views = set s.views id w;
        }) (sym carried)
            (next k s r id v w _ homes h at awake (r.shapes id v at awake) now (length-set s.homes (b.0 - 1) (some (Some becomes))) tt
            (λ y u ne there un back. back)
            (λ c within. ⊎_elim
            (λ (q : c ≡ b.0). inl (subst (λ y. get_elem? homes (y - 1) ≡ some (some (kept z h y))) (sym q)
            (set_here s.homes (b.0 - 1) (some (Some becomes)) (let f = r.sized in let l1 = inside.0 in let l2 = inside.1 in omega arith)
            ∙ ap (λ y. some (some y)) (sym new))))
            (λ (q : c ≢ b.0). inr (inr (
              set_else s.homes (b.0 - 1) (c - 1) (some (Some becomes)) (slots_apart b.0 c inside.0 within.0 q),
              ap (until_gone (t.object (t.latest c)).phase) (put_other (value z r.history) o (Some becomes) (t.latest c)
                  (λ y. q (sym (fine.latest_in c (λ f. let l3 = n.0 in omega arith)) ∙ (ap (λ f. (t.object f).block) y ∙ here)))),
              λ y. q (sym (subst (λ g. IsSlotOf g c) hand y)),
            ))) (cases_eq c b.0))),
        (was, becomes, pending, carried, adds k s r id v at awake Idle None ev now.stands.legal, ap rest carried),
      )
