-- Leave: one owner less is allowed; the last one's leave takes the slot with the value.
use Rattle.std.proofs.Common.{◌≡◌, ℕ, ◌+◌, ◌-◌, ◌*◌, ◌%◌, ◌^◌, ◌<◌, ◌≤◌, true, false, ◌≢◌, List}
use Rattle.std.proofs.Common.{[], ◌∷◌, map, get_or, set, Some, None, Option, sym, refl, ap, ◌∙◌}
use Rattle.std.proofs.Common.{subst, inl, inr, ⊎_elim, arith, length-set, eq-eqb, ne_eqb}
use Rattle.control_block.proofs.Prelude
use Prelude.{Act, Allows, At, at_map, Block, carried_after, cases_eq, counted_live, ending, Ends}
use Prelude.{entry, Event, get_elem?, gives, Has, has_value, held, Idle, InShape, IsSlotOf, keeps}
use Prelude.{kept, leads, Leave, left, live, MayLeave, moved_to, names_an_object, none, opening_of}
use Prelude.{Owner, owner, owner_counted, Pending, Place, put_back, put_same, rest, Ruled}
use Prelude.{SeatView, seeing, sees_as, set_again, set_else, set_here, Shape, some, sound, spot}
use Prelude.{StandsFunded, step, stepped, takes, until_gone, Valid, value, view_of}
use Rattle.atomic_table.specs.Table as Table
use Rattle.control_word.proofs.lists.Tallies.{put_again}
use Rattle.control_block.specs.StepKinds.{gave_back}
use Rattle.control_block.proofs.Passage.{adds, next, plain, quiet_next, still_ending}
use Rattle.control_block.proofs.words.Slots.{kept_else, live_home, live_unmade, others_still}
use Rattle.control_block.proofs.words.Slots.{slots_apart}
use Rattle.control_block.proofs.leavings.LastOwners.{unvisited}
use Rattle.control_block.proofs.kept.Look.{looked}
use Rattle.control_block.proofs.kept.MayLeave.{may_awake, may_empty, may_have, may_stand}

module _ {V : Type 0} where
  module _ (k : Shape) (s : Table.State (Option V) (SeatView V)) (r : Ruled k s) (id : ℕ) (v : SeatView V) (at : get_elem? s.views id ≡ some v)
      (awake : v.view.spent ≡ false) (free : v.hand ≡ None) (o : ℕ) (p : Option Place) (b : Block)
      (mine : Has (held v.view.name (owner o p)) (leads (opening_of k) r.history).hands × (((leads (opening_of k) r.history).object o).block ≡ b.0)) where
    alive : ((leads (opening_of k) r.history).object o).phase ≡ live
    alive =
        let z = opening_of k in let t = leads z r.history in
        counted_live z t o (sound z r.history r.stands.stands.legal) (owner_counted t v.view.name o p mine.0)

    named : (1 ≤ o) × (o ≤ (leads (opening_of k) r.history).made) × ((leads (opening_of k) r.history).latest b.0 ≡ o) × InShape (opening_of k) b.0
    named =
        let z = opening_of k in let t = leads z r.history in
        let n = names_an_object z r.history r.stands.stands.legal v.view.name Owner (owner o p) (mine.0, refl, refl) in
        (n.0, n.1, ap t.latest (sym mine.1) ∙ n.2, subst (InShape z) mine.1 n.3)

    -- the last owner's leave, with the words after it
    leaves_last : (words : List ℕ) → let h = entry v.view.name (Leave (owner o p) true) ∷ r.history in
        StandsFunded (opening_of k) words (set (map view_of s.views) id (sees_as v.view Idle h)) h
        → Ruled k record { words = words; homes = set s.homes (b.0 - 1) none; views = set s.views id (seeing v Idle (Some b) h) }
    leaves_last words stands =
        let z = opening_of k in let t = leads z r.history in let d = v.view.name in let e : Event V = Leave (owner o p) true in
        let h = entry d e ∷ r.history in
        let x = moved_to (ending d) (t.object o) in let n = named in let fine = sound z r.history r.stands.stands.legal in
        let there = mine.1 in
        next k s r id v (seeing v Idle (Some b) h) words (set s.homes (b.0 - 1) none) h at awake (r.shapes id v at awake) stands
        (length-set s.homes (b.0 - 1) none)
        (inr (ap (λ q. (Rattle.control_word.specs.State.put t.object o x q).phase) n.2 ∙ ap (λ y. y.phase) (put_same t.object o x o refl)))
        (others_still k s r id v at awake e (stands.stands.legal.1.asks) (λ _ _ _ _ _ i. i))
        (λ c inside. ⊎_elim (λ (q : c ≡ b.0). inr (inl (sym q)))
        (λ (q : c ≢ b.0). inr (inr (
          set_else s.homes (b.0 - 1) (c - 1) none (slots_apart b.0 c n.3.0 inside.0 q),
          kept_else k r.history d e o x c refl refl refl
              (λ i. q (sym (fine.latest_in c (λ y. live_unmade (sym alive ∙ (ap (λ w. (t.object w).phase) (sym i ∙ y) ∙ fine.none))))
              ∙ (ap (λ w. (t.object w).block) i ∙ there))),
          λ y. subst (λ w. IsSlotOf w c) free y,
        ))) (cases_eq c b.0))

  pub allows_leave : (k : Shape) (slots id o i a f : ℕ) (b : Block) (p : Option Place) (me : At V) → 0 < b.0 → MayLeave me Owner o p b.0 f
      → i ≡ spot b.0 0 → a ≡ f * 4294967296 + 1
      → Allows (Ruled k) slots id me i (λ n. (n + (2 ^ 64 - a)) % 2 ^ 64) (left b o p (step slots i a 0 none) me)
  allows_leave k slots id o i a f b p me pos may e amount s r sized at small = ⊎_elim last others (cases_eq (get_or s.words i 0) a)
    where
      awake : me.0.view.spent ≡ false
      awake = may_awake me Owner o p b.0 f may

      free : me.0.hand ≡ None
      free = may_empty me Owner o p b.0 f may

      others : get_or s.words i 0 ≢ a
          → (w : SeatView V) × (c : Act (Option V)) × Valid s.homes me.1 c
          × Ruled k (stepped s i ((get_or s.words i 0 + (2 ^ 64 - a)) % 2 ^ 64) id me.1 w c)
          × left b o p (step slots i a 0 none) me (get_or s.words i 0) (w, carried_after me.1 c)
      others n =
          let v = me.0 in let ev : Event V = Leave (owner o p) false in let h = entry v.view.name ev ∷ r.history in
          let now = may_stand k s r id me at Owner o b.0 f p i a false pos may e amount small (ne_eqb (get_or s.words i 0) a n) in (
            seeing v Idle None h,
            keeps,
            tt,
            quiet_next k s r id v _ ev Idle at awake free (plain (λ t d. put_again t.object o) (λ t d. refl) (λ t f. refl)) now,
            (λ _. (adds k s r id v at awake Idle None ev now.stands.legal, refl), λ q. absurd (n q)),
          )

      last : get_or s.words i 0 ≡ a
          → (w : SeatView V) × (c : Act (Option V)) × Valid s.homes me.1 c
          × Ruled k (stepped s i ((get_or s.words i 0 + (2 ^ 64 - a)) % 2 ^ 64) id me.1 w c)
          × left b o p (step slots i a 0 none) me (get_or s.words i 0) (w, carried_after me.1 c)
      last q =
          let v = me.0 in let z = opening_of k in let ev : Event V = Leave (owner o p) true in let h = entry v.view.name ev ∷ r.history in
          let now = may_stand k s r id me at Owner o b.0 f p i a true pos may e amount small (eq-eqb (get_or s.words i 0) a q) in
          let mine = may_have k s r id me at Owner o b.0 f p pos may in
          let n = named k s r id v at awake free o p b mine in
          let x = has_value z r.history o n.0 n.1 in (
            seeing v Idle (Some b) h,
            takes (b.0 - 1) (Some x.0),
            live_home k s r b.0 o n.3 n.2 mine.1 (alive k s r id v at awake free o p b mine)
                (unvisited k s r id v at awake free o b.0 p mine.0 n.2 now.stands.legal.1.asks.1)
                ∙ ap (λ y. some (some y)) x.1,
            leaves_last k s r id v at awake free o p b mine _ now,
            (
              λ m. absurd (m q),
              λ _. (
                adds k s r id v at awake Idle (Some b) ev now.stands.legal,
                (
                  x.0,
                  ap (λ y. value (opening_of y) h o) (r.shapes id v at awake) ∙ x.1,
                  refl,
                  subst (λ y. ((leads y h).latest b.0 ≡ o) × (((leads y h).object o).phase ≡ ending v.view.name))
                      (sym (ap opening_of (r.shapes id v at awake)))
                      (n.2, ap (λ y. y.phase) (put_same (leads z r.history).object o (moved_to (ending v.view.name) ((leads z r.history).object o)) o refl)),
                ),
              ),
            ),
          )

  -- the slot of an ending goes home, with its value, at the next look
  pub allows_give_back : (k : Shape) (slots id i o : ℕ) (b : Block) (x : V) (me : At V) → me.0.view.spent ≡ false → me.0.view.pending ≡ Idle
      → me.0.hand ≡ Some b → me.1 ≡ (b.0 - 1, Some x) ∷ [] → (1 ≤ b.0) × (b.0 ≤ slots)
      → Ends me.0 o b.0 → value (opening_of me.0.shape) me.0.view.seen o ≡ Some x
      → Allows (Ruled k) slots id me i (λ n. n) (gave_back (step slots i 0 0 none) me)
  allows_give_back k slots id i o b x me awake idle hand carried inside ends val s r sized at small =
      let v = me.0 in let z = opening_of k in let w = seeing v Idle None v.view.seen in (
        w,
        gives,
        tt,
        subst (λ c. Ruled k record { words = set s.words i (get_or s.words i 0); homes = put_back s.homes c; views = set s.views id w }) (sym carried)
            (next k s r id v w _ (set s.homes (b.0 - 1) (some (Some x))) r.history at awake (r.shapes id v at awake)
            (looked z s.words i _ r.history (subst (λ l. StandsFunded z s.words l r.history) (sym (same_views s at)) r.stands))
            (length-set s.homes (b.0 - 1) (some (Some x))) tt (λ j u ne there un back. back)
            (λ c within. ⊎_elim
            (λ (q : c ≡ b.0). inl (subst (λ y. get_elem? (set s.homes (b.0 - 1) (some (Some x))) (y - 1) ≡ some (some (kept z r.history y))) (sym q)
            (set_here s.homes (b.0 - 1) (some (Some x)) (let l0 = inside.0 in let l1 = inside.1 in omega arith) ∙ ap (λ y. some (some y)) (sym full_there))))
            (λ (q : c ≢ b.0). inr (inr (
              set_else s.homes (b.0 - 1) (c - 1) (some (Some x)) (slots_apart b.0 c inside.0 within.0 q),
              refl,
              λ y. q (sym (subst (λ g. IsSlotOf g c) hand y)),
            )))
            (cases_eq c b.0))),
        (refl, ap rest carried),
      )
    where
      same_views : (s : Table.State (Option V) (SeatView V)) → get_elem? s.views id ≡ some me.0
          → set (map view_of s.views) id (sees_as me.0.view Idle me.0.view.seen) ≡ map view_of s.views
      same_views s at =
          ap (λ (y : Pending V). set (map view_of s.views) id (sees_as me.0.view y me.0.view.seen)) (sym idle)
          ∙ set_again (map view_of s.views) id me.0.view (at_map view_of s.views id me.0 at)

      full_there : kept (opening_of k) r.history b.0 ≡ Some x
      full_there =
          let t = leads (opening_of k) r.history in let still = still_ending k s r id me.0 at awake o b.0 ends in
          ap (λ y. until_gone (t.object y).phase (value (opening_of k) r.history y)) still.0
          ∙ (ap (λ y. until_gone y (value (opening_of k) r.history o)) (still.1.phase ∙ ends.1) ∙ (still.2 ∙ val))
