-- Trees that nobody else owns, over the events by which handles leave and objects end.
use Rattle.std.proofs.Common.{◌≡◌, ℕ, suc, ◌<◌, ◌≤◌, Bool, true, ◌≢◌, [], ◌∷◌, map, Some, None}
use Rattle.std.proofs.Common.{Option, sym, refl, ap, ◌∙◌, subst, inl, ⊎_elim, arith, nat_lt, ◌==◌}
use Rattle.std.proofs.Common.{le-ltb, ne_eqb}
use Rattle.scene_structures.proofs.Prelude
use Prelude.{bare, cases_lt, clears, cond-false, common, counted_live, empty, ending, finishes, gone, handle}
use Prelude.{Has, Held, held, in_cells, IsTree, Kind, kind_of_member, leaves, live, Member}
use Prelude.{members, moved_to, node, NumberedHandle, Object, one_of, Opening, Owner, owner, Place}
use Prelude.{put, put_cases, put_other, same_held, Sound, State, tally, tally_append, tally_here}
use Prelude.{Tree, upto, was_made, Weak, weak_leaves, without}
use Rattle.control_word.proofs.history.Cells.{member_counted, swap_count, tally_upto}
use Rattle.control_word.proofs.history.Moving.{count_same, less_owners, less_weaks}
use Rattle.control_word.proofs.history.Soundness.{Formed}
use Rattle.control_word.proofs.lists.Tallies.{tally_has}
use Rattle.control_word.specs.Handles.{IsFormed}
use Rattle.control_word.specs.State.{count, handles}

-- what keeps the only owners of a tree keeps the tree
pub tree_kept : (s t : State) (P : NumberedHandle → Type 0)
    → t.owners ≡ s.owners
    → ((r : ℕ) (h : NumberedHandle) → P h → h.object ≡ Some r → count s r ≡ 1
    → (count t r ≡ 1) × ((j : ℕ) → (t.object r).member j ≡ (s.object r).member j) × ((j : ℕ) → j < 2 → P ((s.object r).member j)))
    → (h : NumberedHandle) (tree : Tree) → P h → IsTree s h tree → IsTree t h tree
tree_kept s t P owners kept h bare p is = is
tree_kept s t P owners kept h (node r first next) p (is, one, below, beside, no_more) =
    let k = kept r h p is one in (
      is,
      k.0,
      subst (λ x. IsTree t x first) (sym (k.1 0)) (tree_kept s t P owners kept ((s.object r).member 0) first (k.2 0 (omega arith)) below),
      subst (λ x. IsTree t x next) (sym (k.1 1)) (tree_kept s t P owners kept ((s.object r).member 1) next (k.2 1 (omega arith)) beside),
      λ m lt le. ap (λ (x : NumberedHandle). x.object) (k.1 m) ∙ no_more m lt (omega (arith, le, owners)),
    )

abbrev Any : NumberedHandle → Type 0
Any h = Unit {0}

-- a tree's object lives
pub one_lives : (z : Opening) (s : State) (r : ℕ) → Sound z s → count s r ≡ 1 → (s.object r).phase ≡ live
one_lives z s r sound one = counted_live z s r sound (omega arith)

pub ending_live : (d : ℕ) → ending d ≡ live → ⊥
ending_live d e = cc

not_ending : (z : Opening) (s : State) (d r o : ℕ) → Sound z s → count s r ≡ 1 → (s.object o).phase ≡ ending d → r ≢ o
not_ending z s d r o sound one ends e =
    ending_live d (sym ends ∙ (ap (λ i. (s.object i).phase) (sym e) ∙ one_lives z s r sound one))

empty_formed : (k : Kind) → IsFormed (empty k)
empty_formed Owner = (tt, tt)
empty_formed Weak = (tt, refl)

-- a member goes out of an object that ends
clear_count : (s : State) (d o m : ℕ) → m < 9 → o < suc s.made → (q : ℕ) → count (clears d o m ((s.object o).member m) s) q ≡ count s q
clear_count s d o m lt made q =
    swap_count s d (Member o m) (empty (kind_of_member s.owners m)) (lt, made) (refl, inl (refl, empty_formed (kind_of_member s.owners m))) q

pub clear_member : (s : State) (d o m : ℕ) (h : NumberedHandle) (r j : ℕ) → (r ≡ o → j ≢ m)
    → ((clears d o m h s).object r).member j ≡ (s.object r).member j
clear_member s d o m h r j ne =
    let x = s.object o in
    put_cases (λ i (y : Object). y.member j ≡ (s.object i).member j) s.object o (record x { member = put x.member m (empty (kind_of_member s.owners m)) }) r
    (λ e. put_other x.member m (empty (kind_of_member s.owners m)) j (ne e) ∙ ap (λ i. (s.object i).member j) (sym e)) (λ n. refl)

pub tree_cleared : (z : Opening) (s : State) (d o m : ℕ) → Sound z s → (s.object o).phase ≡ ending d → m < 9
    → (h : NumberedHandle) (tree : Tree) → IsTree s h tree
    → IsTree (clears d o m ((s.object o).member m) s) h tree
tree_cleared z s d o m sound ends lt h tree is =
    let made = was_made z s o sound (λ u. let t = sym ends ∙ u in cc) in
    tree_kept s (clears d o m ((s.object o).member m) s) Any refl
    (λ r x p at one. (
      clear_count s d o m lt made r ∙ one,
      λ j. clear_member s d o m ((s.object o).member m) r j (λ e. absurd (not_ending z s d r o sound one ends e)),
      λ j low. tt,
    )) h tree tt is

weak_count : (s : State) (d o : ℕ) (p : Option Place) (vacant : Bool) → Has (held d (handle Weak (Some o) p)) s.hands → (r : ℕ)
    → count s r ≡ count (weak_leaves d (handle Weak (Some o) p) vacant s) r
unfolding count
weak_count s d o p vacant has r = (less_weaks s d o p has r).2

-- a weak handle goes
pub tree_weakly : (s : State) (d o : ℕ) (p : Option Place) (vacant : Bool) → Has (held d (handle Weak (Some o) p)) s.hands → (h : NumberedHandle) (tree : Tree)
    → IsTree s h tree → IsTree (weak_leaves d (handle Weak (Some o) p) vacant s) h tree
tree_weakly s d o p vacant has h tree is =
    tree_kept s (weak_leaves d (handle Weak (Some o) p) vacant s) Any refl
    (λ r x q at one. (sym (weak_count s d o p vacant has r) ∙ one, λ j. refl, λ j low. tt)) h tree tt is

-- an object is finished
finish_members : (s : State) (o r : ℕ) → members (put s.object o (moved_to gone (s.object o)) r) ≡ members (s.object r)
finish_members s o r =
    put_cases (λ j y. members y ≡ members (s.object j)) s.object o (moved_to gone (s.object o)) r
    (λ e. ap (λ n. members (s.object n)) (sym e)) (λ n. refl)

pub finish_member : (s : State) (d o : ℕ) (vacant : Bool) (r j : ℕ) → ((finishes d o vacant s).object r).member j ≡ (s.object r).member j
finish_member s d o vacant r j =
    put_cases (λ i (y : Object). y.member j ≡ (s.object i).member j) s.object o (moved_to gone (s.object o)) r
    (λ e. ap (λ i. (s.object i).member j) (sym e)) (λ n. refl)

finish_count : (s : State) (d o : ℕ) (vacant : Bool) (r : ℕ) → count (finishes d o vacant s) r ≡ count s r
unfolding count
finish_count s d o vacant r = count_same s s.hands (put s.object o (moved_to gone (s.object o))) (finish_members s o) r

pub tree_finished : (s : State) (d o : ℕ) (vacant : Bool) (h : NumberedHandle) (tree : Tree) → IsTree s h tree → IsTree (finishes d o vacant s) h tree
tree_finished s d o vacant h tree is =
    tree_kept s (finishes d o vacant s) Any refl
    (λ r x q at one. (finish_count s d o vacant r ∙ one, λ j. finish_member s d o vacant r j, λ j low. tt)) h tree tt is

pub owner_kind : (w j : ℕ) → 2 ≤ w → j < 2 → kind_of_member w j ≡ Owner
owner_kind w j two low =
    cond-false (j == 2) Weak _ (ne_eqb j 2 (λ e. absurd (omega (arith, low, e))))
    ∙ cond-false (nat_lt w j) Weak Owner (le-ltb w j (omega (arith, two, low)))

-- the only owner of an object is in no member when it is in a bag
pub in_no_member : (z : Opening) (s : State) (d q : ℕ) (p : Option Place) → Sound z s → Formed s → 2 ≤ s.owners → Has (held d (owner q p)) s.hands
    → count s q ≡ 1
    → (r j : ℕ) → j < 2 → ((s.object r).member j).object ≢ Some q
unfolding count
in_no_member z s d q p sound formed two has one r j low is =
    ⊎_elim
    (λ (gt : s.made < r).
    let e = sound.cleared r j (omega arith) (ap common (sound.fresh r gt)) in
    let n : Some q ≡ None = sym is ∙ (ap (λ (h : NumberedHandle). h.object) e) in cc n)
    (λ le.
    let kind = (formed.members r j).1 ∙ owner_kind s.owners j two low in
    let cells = upto s.cells (λ c. s.cell c ∷ []) in
    let rest = upto (suc s.made) (λ o. members (s.object o)) in
    let a = one_of Owner q ((s.object r).member j) kind is in
    let b = member_counted Owner q (s.object r) j (omega arith) in
    let c = tally_upto Owner q (suc s.made) r (λ o. members (s.object o)) (omega arith) in
    let e = tally_append Owner q cells rest in
    let f = tally_append Owner q (map (λ (x : Held). x.handle) s.hands) (in_cells s) in
    let g = tally_has Owner q (held d (owner q p)) s.hands [] has (let t = tally_here Owner q p [] in omega arith) in
    let k = tally_append Owner q (map (λ (x : Held). x.handle) s.hands) [] in
    let n : tally Owner q [] ≡ 0 = refl in
    let u : tally Owner q (handles s) ≡ 1 = one in
    omega arith)
    (cases_lt s.made r)

-- the last owner goes
leave_members : (s : State) (d q r : ℕ) → members (put s.object q (moved_to (ending d) (s.object q)) r) ≡ members (s.object r)
leave_members s d q r =
    put_cases (λ j y. members y ≡ members (s.object j)) s.object q (moved_to (ending d) (s.object q)) r
    (λ e. ap (λ n. members (s.object n)) (sym e)) (λ n. refl)

pub leave_member : (s : State) (d q : ℕ) (p : Option Place) (r j : ℕ) → ((leaves d (owner q p) true s).object r).member j ≡ (s.object r).member j
leave_member s d q p r j =
    put_cases (λ i (y : Object). y.member j ≡ (s.object i).member j) s.object q (moved_to (ending d) (s.object q)) r
    (λ e. ap (λ i. (s.object i).member j) (sym e)) (λ n. refl)

leave_count : (s : State) (d q : ℕ) (p : Option Place) → Has (held d (owner q p)) s.hands → (r : ℕ) → r ≢ q
    → count (leaves d (owner q p) true s) r ≡ count s r
unfolding count
leave_count s d q p has r ne =
    count_same s (without same_held (held d (owner q p)) s.hands) (put s.object q (moved_to (ending d) (s.object q))) (leave_members s d q) r
    ∙ sym ((less_owners s d q p has r).1 ne)

pub tree_left : (z : Opening) (s : State) (d q : ℕ) (p : Option Place) → Sound z s → Formed s → 2 ≤ s.owners → Has (held d (owner q p)) s.hands → count s q ≡ 1
    → (h : NumberedHandle) (tree : Tree) → h.object ≢ Some q → IsTree s h tree → IsTree (leaves d (owner q p) true s) h tree
tree_left z s d q p sound formed two has one h tree other is =
    tree_kept s (leaves d (owner q p) true s) (λ x. x.object ≢ Some q) refl
    (λ r x apart at single. (
      leave_count s d q p has r (λ e. apart (at ∙ ap Some e)) ∙ single,
      λ j. leave_member s d q p r j,
      λ j low. in_no_member z s d q p sound formed two has one r j low,
    )) h tree other is
