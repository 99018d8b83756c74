-- What ends in rounds of a pile, where nobody else owns it: whole trees, in their order.
use Rattle.std.proofs.Common.{◌≡◌, ℕ, ◌<◌, ◌≤◌, ◌≢◌, ◌==◌, cond, nat_lt, List, [], ◌∷◌, ◌++◌, map}
use Rattle.std.proofs.Common.{Some, None, Option, sym, refl, ap, ◌∙◌, subst, ⊎_elim, append_assoc}
use Rattle.std.proofs.Common.{append-nil, arith, eq-eqb, ne_eqb, le-ltb, lt-ltb}
use Rattle.scene_structures.proofs.Prelude
use Prelude.{AreRounds, bare, Block, cases_eq, cases_lt, Cleared, ClearsMember, ClearsTop, cond-false}
use Prelude.{cond-true, cond_both, DeskNow, Ended, Ending, FinishesTop, Gone, gone_of, handle_in}
use Prelude.{IsClearing, IsFinish, IsGone, IsLegal, IsRound, IsSole, IsTree, Kind, kind_of_member}
use Prelude.{latest_of, Left, map-append, next_member, NumberedHandle, objects_in_order, opening_of}
use Prelude.{Owner, Past, piled, Round, Settled, Shape, Shared, State, state_of, TearsDown, Tree, values_ended}
use Prelude.{values_ended_by, values_ended_in, Weak, with_clear}
use Rattle.std.proofs.lemmas.List.{append_cancel_left}
use Rattle.shared_handle.specs.declared.endings.Left.TheVariants as left
use Rattle.control_word.proofs.history.Allowances.{opened}
use Rattle.control_word.proofs.history.Kept.{owners_led}
use Rattle.shared_handle.specs.Endings.{ClearsOf, ClearsWeakly}
use Rattle.scene_structures.specs.Teardowns.{IsAbove}
use Rattle.scene_structures.specs.Trees.{IsTornDown}
use Rattle.scene_structures.proofs.Slots.{last_same, no_last}
use Rattle.scene_structures.proofs.Standing.{IsAlone, clearing_loses, finish_loses, left_loses}
use Rattle.scene_structures.proofs.Standing.{takes_loses}
use Rattle.scene_structures.proofs.Pending.{Frame, endings, left_of, Pend, value_of, Lets, lets}
use Rattle.scene_structures.proofs.Pending.{none_some, same_object}
use Rattle.scene_structures.proofs.Emptying.{Empties, emptied, without_first, without_next}
use Rattle.scene_structures.proofs.Emptying.{first_pends, next_pends, other_pends, weakly, finished}
use Rattle.scene_structures.proofs.Emptying.{without_other}
use Rattle.scene_structures.proofs.Trees.{owner_kind}

module _ {V : Type 0} where
  -- rounds so far: what came out, and what will, is what it was
  record Runs (base : List (Ending V)) (total : List (Option V)) (val : ℕ → Option V) (e : DeskNow V) (zs : List (Ending V)) (vs : List V)
      : Type 0 where
    alone : IsAlone e
    frames : List (Frame V)
    pile : zs ≡ base ++ endings frames
    pend : Pend (state_of e) frames
    values : value_of e ≡ val
    all : map Some vs ++ map val (left_of frames) ≡ total

  -- a member of the top was emptied, and what left by that is on the pile
  goes_on : (base : List (Ending V)) (total : List (Option V)) (val : ℕ → Option V) (d e : DeskNow V) (zs : List (Ending V)) (vs : List V) (how : Gone)
      (l : Left V) (f : Frame V) (fs : List (Frame V)) (tree : Tree) → Lets d e base l (f ∷ fs) tree → IsAlone e
      → value_of d ≡ val → how ≡ gone_of l
      → zs ≡ piled ((base ++ endings fs) ++ f.top ∷ []) l → map Some vs ++ map val (objects_in_order tree ++ left_of (f ∷ fs)) ≡ total
      → Runs base total val e zs (vs ++ values_ended_by how zs)
  goes_on base total val d e zs vs how l f fs tree lets alone values told are all =
      let low = append_assoc base (endings fs) (f.top ∷ []) in
      let are' : zs ≡ piled (base ++ endings (f ∷ fs)) l = are ∙ ap (λ k. piled k l) low in
      let now : map Some (values_ended_by how zs) ++ map val (left_of lets.frames) ≡ map val (objects_in_order tree ++ left_of (f ∷ fs)) =
      subst (λ (w : ℕ → Option V). map Some (values_ended_by how zs) ++ map w (left_of lets.frames) ≡ map w
      (objects_in_order tree ++ left_of (f ∷ fs))) values
      (ap (λ g. map Some (values_ended_by g zs) ++ map (value_of d) (left_of lets.frames)) told ∙ lets.told zs are') in
      record {
        alone = alone;
        frames = lets.frames;
        pile = are' ∙ lets.pile;
        pend = lets.pend;
        values = lets.values ∙ values;
        all = ap (λ k. k ++ map val (left_of lets.frames)) (map-append Some vs (values_ended_by how zs))
            ∙ (append_assoc (map Some vs) (map Some (values_ended_by how zs)) (map val (left_of lets.frames)) ∙ (ap (λ k. map Some vs ++ k) now ∙ all));
      }

  -- the number of the member that is cleared next is that of those that are cleared
  next_is : (x : Ending V) (m : ℕ) → next_member x ≡ Some m → x.cleared ≡ m
  next_is x m is =
      cond_both (nat_lt x.cleared x.members) (Some x.cleared) None (λ (o : Option ℕ). o ≡ Some m → x.cleared ≡ m)
      (λ lt e. same_object e) (λ le e. absurd (none_some e)) is

  -- a weak handle that left ended nothing
  quiet : (b : Option Block) (l : Left V) (zs : List (Ending V)) → IsGone b l
      → (values_ended_by (gone_of l) zs ≡ []) × ((k : List (Ending V)) → piled k l ≡ k)
  quiet b left.Empty zs g = (refl, λ k. refl)
  quiet b left.Others zs g = (refl, λ k. refl)
  quiet b (left.Last x) zs g = absurd g

  -- a member of the top was emptied, and what left by that is on the pile
  module _ (base : List (Ending V)) (total : List (Option V)) (val : ℕ → Option V) (d e : DeskNow V) (zs : List (Ending V)) (vs : List V)
      (how : Gone) (l : Left V) (f : Frame V) (fs : List (Frame V)) (m : ℕ) (at : f.top.cleared ≡ m) (a : IsAlone d) (b : IsAlone e)
      (pend : Pend (state_of d) (f ∷ fs)) (values : value_of d ≡ val) (told : how ≡ gone_of l)
      (are : zs ≡ piled ((base ++ endings fs) ++ with_clear f.top ∷ []) l) (all : map Some vs ++ map val (left_of (f ∷ fs)) ≡ total) where
    -- it was an owner, the root of what the frame says
    owner_on : (u : Frame V) (tree : Tree) (c : ClearsMember d f.top m l e) → u.top ≡ with_clear f.top
        → ((h : NumberedHandle) → h ≡ ((state_of d).object f.object).member m → IsTree (state_of d) h tree)
        → ((t : State) (h : NumberedHandle) → Empties (state_of d) t f fs m h → Pend t (u ∷ fs))
        → objects_in_order tree ++ left_of (u ∷ fs) ≡ left_of (f ∷ fs)
        → Runs base total val e zs (vs ++ values_ended_by how zs)
    owner_on u tree c top is pends whole =
        let h = handle_in c.between Owner c.block c.place in
        let em = emptied d c.between m h f fs c.takes.event a pend in
        let loses = takes_loses d c.between (latest_of d f.top.block.0) m h c.takes.event a in
        let t = lets c.between e base c.block c.place l (u ∷ fs) tree c.leaves loses.alone (em.0.tree h tree (is h em.0.held))
        (pends (state_of c.between) h em.0) in
        goes_on base total val c.between e zs vs how l u fs tree t b (em.1 ∙ values) told
        (are ∙ ap (λ k. piled ((base ++ endings fs) ++ k ∷ []) l) (sym top)) (ap (λ k. map Some vs ++ map val k) whole ∙ all)

    -- it was a weak handle
    weak_on : 1 < m → ClearsWeakly d f.top m l e → Runs base total val e zs (vs ++ values_ended_by how zs)
    weak_on far c =
        let h = handle_in c.between Weak c.block c.place in
        let em = emptied d c.between m h f fs c.takes.event a pend in
        let loses = takes_loses d c.between (latest_of d f.top.block.0) m h c.takes.event a in
        let w = weakly c.between e c.block c.place c.vacant (without_other f ∷ fs) c.leaves loses.alone
        (other_pends (state_of d) (state_of c.between) f fs m h far at em.0 pend) in
        let q = quiet c.block l zs c.told in
        let none : values_ended_by how zs ≡ [] = ap (λ g. values_ended_by g zs) told ∙ q.0 in
        record {
          alone = b;
          frames = without_other f ∷ fs;
          pile = are ∙ (q.1 ((base ++ endings fs) ++ with_clear f.top ∷ []) ∙ append_assoc base (endings fs) (with_clear f.top ∷ []));
          pend = w.0;
          values = w.1 ∙ (em.1 ∙ values);
          all = ap (λ k. map Some k ++ map val (left_of (f ∷ fs))) (ap (λ k. vs ++ k) none ∙ append-nil vs) ∙ all;
        }

    first_on : m ≡ 0 → ClearsMember d f.top m l e → Runs base total val e zs (vs ++ values_ended_by how zs)
    first_on zero c =
        owner_on (without_first f) f.first c refl
        (λ h was. subst (λ k. IsTree (state_of d) k f.first) (sym (was ∙ ap ((state_of d).object f.object).member zero)) pend.0.first)
        (λ t h em. first_pends (state_of d) t f fs h (at ∙ zero) (subst (λ k. Empties (state_of d) t f fs k h) zero em) pend)
        refl

    next_on : m ≡ 1 → ClearsMember d f.top m l e → Runs base total val e zs (vs ++ values_ended_by how zs)
    next_on one c =
        let nothing : f.first ≡ bare = pend.0.no_first (omega (arith, at, one)) in
        owner_on (without_next f) f.next c refl
        (λ h was. subst (λ k. IsTree (state_of d) k f.next) (sym (was ∙ ap ((state_of d).object f.object).member one)) pend.0.next)
        (λ t h em. next_pends (state_of d) t f fs h nothing (subst (λ k. Empties (state_of d) t f fs k h) one em) pend)
        (ap (λ k. objects_in_order k ++ (objects_in_order f.next ++ left_of fs)) (sym nothing))

    -- a further member owns nothing
    other_on : 2 < m → m ≤ (state_of d).owners → ClearsMember d f.top m l e → Runs base total val e zs (vs ++ values_ended_by how zs)
    other_on far le c =
        owner_on (without_other f) bare c refl (λ h was. ap (λ (k : NumberedHandle). k.object) was ∙ pend.0.no_more m far le)
        (λ t h em. other_pends (state_of d) t f fs m h (omega (arith, far)) at em pend) refl

    clears_on : ClearsOf (kind_of_member d.shape.owners m) d f.top m l e → Runs base total val e zs (vs ++ values_ended_by how zs)
    clears_on =
        let two : 2 ≤ d.shape.owners = (opened (opening_of d.shape) d.seen a.legal).owners.0 in
        ⊎_elim (λ (low : m < 2). as_owner (owner_kind d.shape.owners m two low)
        (⊎_elim (λ (e0 : m ≡ 0). first_on e0) (λ (ne : m ≢ 0). next_on (omega (arith, low, ne))) (cases_eq m 0)))
        (λ (high : 2 ≤ m). ⊎_elim (λ (e2 : m ≡ 2). as_weak (weak_kind e2) (omega (arith, e2)))
        (λ (ne : m ≢ 2). beyond (omega (arith, high, ne))) (cases_eq m 2))
        (cases_lt m 2)
      where
        as_owner : kind_of_member d.shape.owners m ≡ Owner → (ClearsMember d f.top m l e → Runs base total val e zs (vs ++ values_ended_by how zs))
            → ClearsOf (kind_of_member d.shape.owners m) d f.top m l e → Runs base total val e zs (vs ++ values_ended_by how zs)
        as_owner is on c = on (subst (λ (k : Kind). ClearsOf k d f.top m l e) is c).0

        as_weak : kind_of_member d.shape.owners m ≡ Weak → 1 < m → ClearsOf (kind_of_member d.shape.owners m) d f.top m l e
            → Runs base total val e zs (vs ++ values_ended_by how zs)
        as_weak is far c = weak_on far (subst (λ (k : Kind). ClearsOf k d f.top m l e) is c)

        weak_kind : m ≡ 2 → kind_of_member d.shape.owners m ≡ Weak
        weak_kind is = cond-true (m == 2) Weak (cond (nat_lt d.shape.owners m) Weak Owner) (eq-eqb m 2 is)

        beyond : 2 < m → ClearsOf (kind_of_member d.shape.owners m) d f.top m l e → Runs base total val e zs (vs ++ values_ended_by how zs)
        beyond far =
            let past = cond-false (m == 2) Weak (cond (nat_lt d.shape.owners m) Weak Owner) (ne_eqb m 2 (λ is. absurd (omega (arith, far, is)))) in
            ⊎_elim (λ (lt : d.shape.owners < m). as_weak (past ∙ cond-true (nat_lt d.shape.owners m) Weak Owner (lt-ltb _ _ lt)) (omega (arith, far)))
            (λ (le : m ≤ d.shape.owners). as_owner (past ∙ cond-false (nat_lt d.shape.owners m) Weak Owner (le-ltb _ _ le))
            (other_on far (let led = owners_led (opening_of d.shape) d.seen in omega (arith, le, led))))
            (cases_lt d.shape.owners m)

  round_on : (base : List (Ending V)) (total : List (Option V)) (val : ℕ → Option V) (d e : DeskNow V) (ys zs : List (Ending V)) (vs : List V) (r : Round V)
      (ws : List (Ending V)) (top : Ending V) → Runs base total val d ys vs → IsRound d ys r e zs → ys ≡ base ++ (ws ++ top ∷ [])
      → Runs base total val e zs (vs ++ values_ended_in r zs)
  round_on base total val d e ys zs vs r ws top runs is above = go runs.frames r runs.pile runs.pend runs.all is
    where
      cleared : (f : Frame V) (fs : List (Frame V)) (m : ℕ) (how : Gone) → ys ≡ base ++ (endings fs ++ f.top ∷ []) → Pend (state_of d) (f ∷ fs)
          → map Some vs ++ map val (left_of (f ∷ fs)) ≡ total → ClearsTop d ys m how e zs → Runs base total val e zs (vs ++ values_ended_by how zs)
      cleared f fs m how pile pend all c =
          let same = last_same (base ++ endings fs) c.below f.top c.top (append_assoc base (endings fs) (f.top ∷ []) ∙ (sym pile ∙ c.were)) in
          let loses = clearing_loses d e c.top c.left c.clears runs.alone in
          let at = next_is f.top m (subst (λ k. next_member k ≡ Some m) (sym same.1) c.next) in
          clears_on base total val d e zs vs how c.left f fs m at runs.alone loses.alone pend runs.values c.told
          (c.are ∙ (λ i. piled (sym same.0 i ++ with_clear (sym same.1 i) ∷ []) c.left)) all
          (subst (λ n. ClearsOf (kind_of_member d.shape.owners n) d f.top n c.left e) at
          (subst (λ k. IsClearing d k c.left e) (sym same.1) c.clears))

      out : (f : Frame V) (fs : List (Frame V)) (v : V) → ys ≡ base ++ (endings fs ++ f.top ∷ []) → Pend (state_of d) (f ∷ fs)
          → map Some vs ++ map val (left_of (f ∷ fs)) ≡ total → FinishesTop d ys v e zs → Runs base total val e zs (vs ++ [])
      out f fs v pile pend all c =
          let same = last_same (base ++ endings fs) zs f.top c.top (append_assoc base (endings fs) (f.top ∷ []) ∙ (sym pile ∙ c.were)) in
          let finish = subst (λ k. IsFinish d k v e) (sym same.1) c.finish in
          let loses = finish_loses d e f.top v finish runs.alone in
          let w = finished d e finish.vacant v f fs finish.event runs.alone pend in
          let clear = finish.clear in let many = pend.0.many in
          let none = pend.0.no_first (omega (arith, clear, many)) in let nothing = pend.0.no_next (omega (arith, clear, many)) in
          record {
            alone = loses.alone;
            frames = fs;
            pile = sym same.0;
            pend = w.0;
            values = w.1 ∙ runs.values;
            all = ap (λ k. map Some k ++ map val (left_of fs)) (append-nil vs)
                ∙ ((λ i. map Some vs ++ map val (objects_in_order (sym none i) ++ (objects_in_order (sym nothing i) ++ left_of fs))) ∙ all);
          }

      go : (fs : List (Frame V)) (r : Round V) → ys ≡ base ++ endings fs → Pend (state_of d) fs → map Some vs ++ map val (left_of fs) ≡ total
          → IsRound d ys r e zs → Runs base total val e zs (vs ++ values_ended_in r zs)
      go [] r pile pend all is = absurd (no_last ws top (append_cancel_left base [] (ws ++ top ∷ []) (sym pile ∙ above)))
      go (f ∷ fs) Settled pile pend all is =
          absurd (no_last (base ++ endings fs) f.top (sym is.0 ∙ (pile ∙ sym (append_assoc base (endings fs) (f.top ∷ [])))))
      go (f ∷ fs) (Cleared m how) pile pend all is = cleared f fs m how pile pend all is
      go (f ∷ fs) (Ended v) pile pend all is = out f fs v pile pend all is

  rounds_on : (base : List (Ending V)) (total : List (Option V)) (val : ℕ → Option V) (d e : DeskNow V) (ys zs : List (Ending V)) (vs : List V)
      (rs : List (Past V)) → Runs base total val d ys vs → AreRounds d ys rs e zs → IsAbove base rs → Runs base total val e zs (values_ended rs zs vs)
  rounds_on base total val d e ys zs vs [] runs (same, is) above =
      subst (λ (k : DeskNow V). Runs base total val k zs vs) (sym same) (subst (λ l. Runs base total val d l vs) (sym is) runs)
  rounds_on base total val d e ys zs vs (r ∷ rs) runs (before, last) (lower, (ws, top, here)) =
      round_on base total val r.desk e r.pile zs (values_ended rs r.pile vs) r.round ws top
      (rounds_on base total val d r.desk ys r.pile vs rs runs before lower) last here

  empty_frames : (fs : List (Frame V)) → endings fs ≡ [] → fs ≡ []
  empty_frames [] e = refl
  empty_frames (f ∷ fs) e = absurd (no_last (endings fs) f.top (sym e))

  -- a whole teardown
  pub torn_down : (z : Shape) (d e : DeskNow V) (xs ys : List (Ending V)) (root : Shared) (values : List V)
      (t : TearsDown z d xs root values e ys) → IsLegal (opening_of d.shape) d.seen → IsSole d → t.rest ≡ [] → IsTornDown d root values
  torn_down z d e xs ys root values t legal sole none tree is =
      let a : IsAlone d = record { legal = legal; sole = sole } in
      let lost = left_loses d t.released root.block root.place t.drops.left t.drops.leaves a in
      let first = lets d t.released xs root.block root.place t.drops.left [] tree t.drops.leaves a is tt in
      let are : t.pile ≡ piled (xs ++ []) t.drops.left = t.drops.are ∙ ap (λ l. piled l t.drops.left) (sym (append-nil xs)) in
      let total = map (value_of d) (objects_in_order tree) in
      let begins : Runs xs total (value_of d) t.released t.pile (values_ended_by t.gone t.pile) =
      record {
        alone = lost.alone;
        frames = first.frames;
        pile = are ∙ first.pile;
        pend = first.pend;
        values = first.values;
        all = ap (λ g. map Some (values_ended_by g t.pile) ++ map (value_of d) (left_of first.frames)) t.drops.told
            ∙ (first.told t.pile are ∙ ap (map (value_of d)) (append-nil (objects_in_order tree)));
      } in
      let end = rounds_on xs total (value_of d) t.released e t.pile ys (values_ended_by t.gone t.pile) t.rounds begins t.are t.above in
      let nothing : end.frames ≡ [] =
      empty_frames end.frames (append_cancel_left xs (endings end.frames) [] (sym end.pile ∙ (t.left ∙ ap (λ l. xs ++ l) none))) in
      ap (map Some) (t.whole none)
      ∙ (sym (append-nil (map Some (values_ended t.rounds ys (values_ended_by t.gone t.pile))))
      ∙ (ap (λ l. map Some (values_ended t.rounds ys (values_ended_by t.gone t.pile)) ++ map (value_of d) (left_of l)) (sym nothing) ∙ end.all))
