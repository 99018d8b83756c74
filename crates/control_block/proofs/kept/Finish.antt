-- Finish: the owners' common weak count is taken from an ending, or found alone and left, and its emptied slot goes home.
use Rattle.std.proofs.Common.{◌≡◌, ℕ, ◌+◌, ◌-◌, ◌%◌, ◌^◌, ◌<◌, ◌≤◌, Bool, true, false, ◌≢◌, List, [], ◌∷◌, map}
use Rattle.std.proofs.Common.{get_or, set, ◌==◌, Option, Some, None, sym, refl, ap, ◌∙◌, subst, inl, inr}
use Rattle.std.proofs.Common.{⊎_elim, arith, eq-eqb, length, length-set}
use Rattle.control_block.proofs.Prelude
use Prelude.{Act, Allows, At, Block, carried_after, cases_eq, Ends, Entry, entry, Event, Finish, get_elem?, gives}
use Prelude.{gone, Idle, IsClear, IsSlotOf, keeps, kept, leads, load_is_write, moved_to, none, opening_of, put, put_back}
use Prelude.{put_same, rest, Ruled, SeatView, seeing, sees_as, set_else, set_here, Shape, some, sound, spot}
use Prelude.{StandsFunded, State, step, stepped, until_gone, Valid, value, view_of}
use Rattle.atomic_table.specs.Table as Table
use Rattle.control_word.proofs.history.Kept.{members_led, owners_led}
use Rattle.control_word.proofs.funded.Counts as law
use Rattle.control_word.specs.State.{ending, kind_of_member}
use Rattle.control_word.specs.Handles.{empty}
use Rattle.control_block.specs.Rule.{members_of}
use Rattle.control_block.specs.StepKinds.{finished, found_finished}
use Rattle.control_block.proofs.Endings.{ends_here, ends_unmade}
use Rattle.control_block.proofs.Passage.{adds, next, point, ready, still_ending}
use Rattle.control_block.proofs.words.Slots.{kept_else, others_still, slots_apart}
use Rattle.control_block.proofs.words.Still.{unmoved}
use Rattle.control_block.proofs.kept.MayLeave.{falls}

module _ {V : Type 0} where
  module _ (k : Shape) (slots id o i : ℕ) (b : Block) (x : V) (me : At V) (awake : me.0.view.spent ≡ false) (idle : me.0.view.pending ≡ Idle)
      (hand : me.0.hand ≡ Some b) (carried : me.1 ≡ (b.0 - 1, None) ∷ []) (inside : (1 ≤ b.0) × (b.0 ≤ slots)) (ends : Ends me.0 o b.0)
      (clear : IsClear me.0 o) (val : value (opening_of me.0.shape) me.0.view.seen o ≡ Some x) (e : i ≡ spot b.0 1) where
    module _ (s : Table.State (Option V) (SeatView V)) (r : Ruled k s) (at : get_elem? s.views id ≡ some me.0) where
      abbrev now : State
      now = leads (opening_of k) r.history

      abbrev going : Bool → List (Entry V)
      going vacant = entry me.0.view.name (Finish o vacant x) ∷ r.history

      -- the words after it, with so much in the weak word
      abbrev StandsBy : Bool → ℕ → Type 0
      StandsBy vacant m =
          StandsFunded (opening_of k) (set s.words i m) (set (map view_of s.views) id (sees_as me.0.view Idle (going vacant))) (going vacant)

      latest : now.latest b.0 ≡ o
      latest = (still_ending k s r id me.0 at awake o b.0 ends).0

      phase : (now.object o).phase ≡ ending me.0.view.name
      phase = (still_ending k s r id me.0 at awake o b.0 ends).1.phase ∙ ends.1

      there : (now.object o).block ≡ b.0
      there =
          ap (λ y. (now.object y).block) (sym latest)
          ∙ ends_here (opening_of k) now b.0 me.0.view.name (sound (opening_of k) r.history r.stands.stands.legal) (ap (λ y. (now.object y).phase) latest
          ∙ phase)

      cleared : (m : ℕ) → m < now.members → (now.object o).member m ≡ empty (kind_of_member now.owners m)
      cleared m lt =
          (still_ending k s r id me.0 at awake o b.0 ends).1.member m
          ∙ (clear m (subst (λ (y : Shape). m < members_of y) (sym (r.shapes id me.0 at awake)) (let w = members_led (opening_of k) r.history in omega arith))
          ∙ ap (λ n. empty (kind_of_member n m)) (ap (λ (y : Shape). y.owners) (r.shapes id me.0 at awake) ∙ sym (owners_led (opening_of k) r.history)))

      has_value : value (opening_of k) r.history o ≡ Some x
      has_value = (still_ending k s r id me.0 at awake o b.0 ends).2 ∙ val

      same : spot (now.object o).block 1 ≡ i
      same = ap (λ y. spot y 1) there ∙ sym e

      -- one less in the weak word
      falls_so : get_or s.words i 0 < 18446744073709551616
          → StandsBy (get_or s.words i 0 == 1) ((get_or s.words i 0 + (2 ^ 64 - 1)) % 2 ^ 64)
      falls_so small =
          let v = me.0 in let z = opening_of k in let d = v.view.name in
          let l = law.finishes_funded (point k s r id v) o x (ready k s r id v at awake Idle idle) has_value phase cleared in
          let h : ℕ → List (Entry V) = λ y. entry d (Finish o (get_or s.words y 0 == 1) x) ∷ r.history in
          let some' : 0 < get_or s.words i 0 = subst (λ y. 0 < get_or s.words y 0) same l.0 in
          subst (λ m. StandsFunded z (set s.words i m) (set (map view_of s.views) id (sees_as v.view Idle (h i))) (h i)) (sym (falls _ 1 some' small))
          (subst (λ y. StandsFunded z (set s.words y (get_or s.words y 0 - 1)) (set (map view_of s.views) id (sees_as v.view Idle (h y))) (h y)) same l.1)

      -- the weak word stays as it was found
      stays_so : get_or s.words i 0 ≡ 1 → StandsBy (get_or s.words i 0 == 1) (get_or s.words i 0)
      stays_so one =
          let v = me.0 in let z = opening_of k in
          let l = law.finds_finished_funded (point k s r id v) o x (ready k s r id v at awake Idle idle) has_value phase cleared refl
          (ap (λ y. get_or s.words y 0) same ∙ one) in
          subst (λ (y : Bool). StandsBy y (get_or s.words i 0)) (sym (eq-eqb (get_or s.words i 0) 1 one))
          (subst (λ (w : List ℕ). StandsFunded z w (set (map view_of s.views) id (sees_as v.view Idle (going true))) (going true))
          (sym (load_is_write s.words i)) l)

      -- the slot goes home, and what the desk is told is its event
      over : length s.homes ≡ slots → (m : ℕ) → StandsBy (get_or s.words i 0 == 1) m
          → (w : SeatView V) × (a : Act (Option V)) × Valid s.homes me.1 a × Ruled k (stepped s i m id me.1 w a)
          × finished o (step slots i 1 0 none) me (get_or s.words i 0) (w, carried_after me.1 a)
      over sized m stands =
          let v = me.0 in let z = opening_of k in let t = now in let d = v.view.name in let fine = sound z r.history r.stands.stands.legal in
          let vacant = get_or s.words i 0 == 1 in
          let ev : Event V = Finish o vacant x in let h = going vacant in
          let gone_now = moved_to gone (t.object o) in let w = seeing v Idle None h in let full = set s.homes (b.0 - 1) (some None) in
          let empty_there : kept z h b.0 ≡ None =
          ap (λ y. until_gone (put t.object o gone_now y).phase (value z r.history y)) latest
          ∙ ap (λ y. until_gone y.phase (value z r.history o)) (put_same t.object o gone_now o refl) in (
            w,
            gives,
            tt,
            subst (λ c. Ruled k record { words = set s.words i m; homes = put_back s.homes c; views = set s.views id w }) (sym carried)
                (next k s r id v w _ full h at awake (r.shapes id v at awake) stands (length-set s.homes (b.0 - 1) (some None)) tt
                (others_still k s r id v at awake ev (stands.stands.legal.1.asks) (λ _ _ _ _ _ n. n))
                (λ c within. ⊎_elim
                (λ (q : c ≡ b.0). inl (subst (λ y. get_elem? full (y - 1) ≡ some (some (kept z h y))) (sym q)
                (set_here s.homes (b.0 - 1) (some None) (let l0 = inside.0 in let l1 = inside.1 in omega arith)
                ∙ ap (λ y. some (some y)) (sym empty_there))))
                (λ (q : c ≢ b.0). inr (inr (
                  set_else s.homes (b.0 - 1) (c - 1) (some None) (slots_apart b.0 c inside.0 within.0 q),
                  kept_else k r.history d ev o gone_now c refl refl refl
                      (λ j. q (sym (fine.latest_in c (λ y. ends_unmade d (sym phase ∙ (ap (λ n. (t.object n).phase) (sym j ∙ y) ∙ fine.none))))
                      ∙ (ap (λ n. (t.object n).block) j ∙ there))),
                  λ y. q (sym (subst (λ g. IsSlotOf g c) hand y)),
                ))) (cases_eq c b.0))),
            (x, val, adds k s r id v at awake Idle None ev stands.stands.legal, ap rest carried),
          )

    pub allows_finish : Allows (Ruled k) slots id me i (λ n. (n + (2 ^ 64 - 1)) % 2 ^ 64) (finished o (step slots i 1 0 none) me)
    allows_finish s r sized at small = over s r at sized _ (falls_so s r at small)

    -- by a look, where the word is 1
    pub allows_find : Allows (Ruled k) slots id me i (λ n. n) (found_finished o (step slots i 0 0 none) me)
    allows_find s r sized at small =
        ⊎_elim
        (λ (q : get_or s.words i 0 ≡ 1).
        let t = over s r at sized (get_or s.words i 0) (stays_so s r at q) in (t.0, t.1, t.2, t.3, (λ _. t.4, λ ne. absurd (ne q))))
        (λ (ne : get_or s.words i 0 ≢ 1). (me.0, keeps, tt, unmoved k s id i me.0 r at, (λ q. absurd (ne q), λ _. refl)))
        (cases_eq (get_or s.words i 0) 1)
