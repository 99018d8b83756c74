-- How many objects end in a desk's hands.
use Rattle.std.proofs.Common.{◌≡◌, ℕ, zero, suc, ◌+◌, ◌-◌, ◌<◌, ◌≤◌, Bool, true, false, cond, ◌≢◌}
use Rattle.std.proofs.Common.{List, [], ◌∷◌, ◌++◌, ◌==◌, sym, refl, ap, ◌∙◌, ⊎_elim, arith, eq-eqb}
use Rattle.std.proofs.Common.{ne_eqb}
use Rattle.control_block.proofs.Prelude
use Prelude.{after, Asks, Block, cases_eq, ClearMember, common, Compare, cond-false, cond-true}
use Prelude.{cond_both, Count, ending, ends_with, Entry, Event, Expired, Finish, gone, handed}
use Prelude.{Holds, IsLegal, Join, leads, Leave, live, Load, Lock, Make, many_ending, moved_to}
use Prelude.{Names, new_object, NoneBy, NumberedHandle, Object, object_of, Opening, Owner, Phase}
use Prelude.{put, put_other, put_same, Read, renamed, Same, Share, Shelve, Sound, sound, Split}
use Prelude.{State, sum_all, sum_below, sum_set, Swap, unmade, Unshelve, Visit, WeakLeave}
use Prelude.{WeakShare}
use Rattle.control_word.specs.Events.{leaves}
use Rattle.control_block.proofs.Endings.{owner_lives}
use Rattle.control_block.proofs.Passage.{IsQuiet}

-- an object without the owners' common count ends with nobody
ends_common : (n : ℕ) (p : Phase) → common p ≡ 0 → ends_with n p ≡ 0
ends_common n unmade e = refl
ends_common n live e = refl
ends_common n gone e = refl
ends_common n (ending d) e = omega arith

ends_once : (n : ℕ) (p : Phase) → ends_with n p ≤ 1
ends_once n unmade = omega arith
ends_once n live = omega arith
ends_once n gone = omega arith
ends_once n (ending d) = cond_both (d == n) 1 0 (λ x. x ≤ 1) (λ _. omega arith) (λ _. omega arith)

-- no more objects end than there are blocks
pub few_ending : (blocks : ℕ) (s : State) (n : ℕ) → many_ending blocks s n ≤ blocks
few_ending zero s n = omega arith
few_ending (suc j) s n = let a = few_ending j s n in let b = ends_once n (s.object (s.latest (suc j))).phase in omega arith

-- what ends with a desk is counted
pub some_ending : (blocks : ℕ) (s : State) (n b : ℕ) → 1 ≤ b → b ≤ blocks → (s.object (s.latest b)).phase ≡ ending n
    → 0 < many_ending blocks s n
some_ending zero s n b low high is = absurd (omega arith)
some_ending (suc j) s n b low high is =
    ⊎_elim
    (λ (e : b ≡ suc j).
    let one : ends_with n (s.object (s.latest (suc j))).phase ≡ 1 =
    ap (λ i. ends_with n (s.object (s.latest i)).phase) (sym e) ∙ (ap (ends_with n) is ∙ cond-true (n == n) 1 0 (eq-eqb n n refl)) in omega arith)
    (λ (ne : b ≢ suc j). let a = some_ending j s n b low (omega arith) is in omega arith) (cases_eq b (suc j))

-- a latest object tells its block
apart : (z : Opening) (s : State) (o b : ℕ) → Sound z s → ((s.object o).phase ≡ unmade → ⊥) → s.latest b ≡ o → (s.object o).block ≡ b
apart z s o b fine there is =
    ap (λ i. (s.object i).block) (sym is)
    ∙ fine.latest_in b (λ e. there (ap (λ i. (s.object i).phase) (sym is ∙ e) ∙ fine.none))

live_unmade : live ≡ unmade → ⊥
live_unmade e = cc

ends_unmade : (d : ℕ) → ending d ≡ unmade → ⊥
ends_unmade d e = cc

module _ (z : Opening) (s : State) (n : ℕ) (fine : Sound z s) where
  -- one object's phase changes
  one_changes : (o : ℕ) (x : Object) → ((s.object o).phase ≡ unmade → ⊥) → 0 < common (s.object o).phase
      → (t : State) → t.object ≡ put s.object o x → t.latest ≡ s.latest
      → many_ending z.blocks t n + ends_with n (s.object o).phase ≡ many_ending z.blocks s n + ends_with n x.phase
  one_changes o x there busy t objects latest =
      let b = (s.object o).block in
      let place = fine.placed o (let k = busy in omega arith) in let inside = place.1 in let low = inside.0 in
      let f : ℕ → ℕ = λ j. ends_with n (s.object (s.latest (suc j))).phase in
      let g : ℕ → ℕ = λ j. ends_with n (put s.object o x (s.latest (suc j))).phase in
      let p : suc (b - 1) ≡ b = omega arith in
      let at : s.latest (suc (b - 1)) ≡ o = ap s.latest p ∙ place.0 in
      let t0 = sum_set z.blocks (b - 1) f g (omega arith)
      (λ j lt ne. ap (λ (y : Object). ends_with n y.phase) (put_other s.object o x (s.latest (suc j))
      (λ is. let e = apart z s o (suc j) fine there is in ne (omega arith)))) in
      let a : f (b - 1) ≡ ends_with n (s.object o).phase = ap (λ i. ends_with n (s.object i).phase) at in
      let c : g (b - 1) ≡ ends_with n x.phase =
      ap (λ i. ends_with n (put s.object o x i).phase) at ∙ ap (λ (y : Object). ends_with n y.phase) (put_same s.object o x o refl) in
      let same : many_ending z.blocks t n ≡ sum_below z.blocks g =
      λ i. sum_below z.blocks (λ j. ends_with n ((objects i) ((latest i) (suc j))).phase) in
      omega arith

  pub leave_count : (d : ℕ) (h : NumberedHandle) (last : Bool) → Holds s d Owner h
      → many_ending z.blocks (leaves d h last s) n ≡ many_ending z.blocks s n + cond last (cond (d == n) 1 0) 0
  leave_count d h last asks =
      let o = object_of h in let x = s.object o in let alive = owner_lives z s d h fine asks in
      let y = cond last (moved_to (ending d) x) x in
      let t = one_changes o y (λ e. live_unmade (sym alive ∙ e)) (let k = ap common alive in omega arith) (leaves d h last s) refl refl in
      let a : ends_with n x.phase ≡ 0 = ap (ends_with n) alive in
      let b : ends_with n y.phase ≡ cond last (cond (d == n) 1 0) 0 =
      cond_both last (moved_to (ending d) x) x (λ u. ends_with n u.phase ≡ cond last (cond (d == n) 1 0) 0)
      (λ e. sym (cond-true last (cond (d == n) 1 0) 0 e)) (λ e. a ∙ sym (cond-false last (cond (d == n) 1 0) 0 e)) in
      omega arith

-- a join: what ended with either ends with the one
renamed_ends : (other d e n c : ℕ) → renamed other d e ≡ c → ends_with n (handed other d (ending e)) ≡ cond (c == n) 1 0
renamed_ends other d e n c is = ap (λ i. cond (i == n) 1 0) is

both_end : (other d : ℕ) (p : Phase) → other ≢ d → ends_with d (handed other d p) ≡ ends_with d p + ends_with other p
both_end other d unmade ne = refl
both_end other d live ne = refl
both_end other d gone ne = refl
both_end other d (ending e) ne =
    ⊎_elim
    (λ (q : e ≡ other).
    let a : ends_with d (handed other d (ending e)) ≡ 1 =
    renamed_ends other d e d d (cond-true (e == other) d e (eq-eqb e other q)) ∙ cond-true (d == d) 1 0 (eq-eqb d d refl) in
    let b : ends_with other (ending e) ≡ 1 = cond-true (e == other) 1 0 (eq-eqb e other q) in
    let c : ends_with d (ending e) ≡ 0 = cond-false (e == d) 1 0 (ne_eqb e d (λ u. ne (sym q ∙ u))) in omega arith)
    (λ (q : e ≢ other).
    let a : ends_with d (handed other d (ending e)) ≡ ends_with d (ending e) =
    renamed_ends other d e d e (cond-false (e == other) d e (ne_eqb e other q)) in
    let b : ends_with other (ending e) ≡ 0 = cond-false (e == other) 1 0 (ne_eqb e other q) in omega arith)
    (cases_eq e other)

third_ends : (other d n : ℕ) (p : Phase) → n ≢ d → n ≢ other → ends_with n (handed other d p) ≡ ends_with n p
third_ends other d n unmade a b = refl
third_ends other d n live a b = refl
third_ends other d n gone a b = refl
third_ends other d n (ending e) a b =
    ⊎_elim
    (λ (q : e ≡ other).
    let x : ends_with n (handed other d (ending e)) ≡ 0 =
    renamed_ends other d e n d (cond-true (e == other) d e (eq-eqb e other q)) ∙ cond-false (d == n) 1 0 (ne_eqb d n (λ u. a (sym u))) in
    let y : ends_with n (ending e) ≡ 0 = cond-false (e == n) 1 0 (ne_eqb e n (λ u. b (sym u ∙ q))) in omega arith)
    (λ (q : e ≢ other). renamed_ends other d e n e (cond-false (e == other) d e (ne_eqb e other q)))
    (cases_eq e other)

sum_plus : (k : ℕ) (f g h : ℕ → ℕ) → ((j : ℕ) → h j ≡ f j + g j) → sum_below k h ≡ sum_below k f + sum_below k g
sum_plus zero f g h e = refl
sum_plus (suc k) f g h e = let a = sum_plus k f g h e in let b = e k in omega arith

pub handed_count : (blocks : ℕ) (s : State) (d other : ℕ) → other ≢ d
    → sum_below blocks (λ j. ends_with d (handed other d (s.object (s.latest (suc j))).phase)) ≡ many_ending blocks s d + many_ending blocks s other
handed_count blocks s d other ne =
    sum_plus blocks (λ j. ends_with d (s.object (s.latest (suc j))).phase) (λ j. ends_with other (s.object (s.latest (suc j))).phase) _
    (λ j. both_end other d (s.object (s.latest (suc j))).phase ne)

-- and nothing ends with a desk that isn't there yet
pub ends_there : (n : ℕ) (p : Phase) (k : ℕ) → ((d : ℕ) → p ≡ ending d → d < k) → k ≤ n → ends_with n p ≡ 0
ends_there n unmade k there few = refl
ends_there n live k there few = refl
ends_there n gone k there few = refl
ends_there n (ending d) k there few = cond-false (d == n) 1 0 (ne_eqb d n (λ q. let a = there d refl in omega arith))

pub sum_none : (k : ℕ) (f : ℕ → ℕ) → ((j : ℕ) → f j ≡ 0) → sum_below k f ≡ 0
sum_none zero f e = refl
sum_none (suc k) f e = let a = sum_none k f e in let b = e k in omega arith

module _ {V : Type 0} where
  -- a desk's own or another's event that moves no object
  pub quiet_count : (blocks : ℕ) (s : State) (d n : ℕ) (e : Event V) → IsQuiet e → many_ending blocks (after s d e) n ≡ many_ending blocks s n
  quiet_count blocks s d n e q =
      sum_all blocks (λ j. ends_with n (s.object (s.latest (suc j))).phase) (λ j. ends_with n ((after s d e).object ((after s d e).latest (suc j))).phase)
      (λ j lt. ap (λ o. ends_with n ((after s d e).object o).phase) (ap (λ (f : ℕ → ℕ). f (suc j)) (q.latest s d))
      ∙ ap (ends_with n) (q.phases s d (s.latest (suc j))))

  module _ (z : Opening) (s : State) (d n : ℕ) (fine : Sound z s) where
    pub finish_count : (o : ℕ) (vacant : Bool) (v : V) → Asks s d (Finish o vacant v)
        → many_ending z.blocks (after s d (Finish o vacant v)) n + cond (d == n) 1 0 ≡ many_ending z.blocks s n
    finish_count o vacant v asks =
        let x = s.object o in
        let t = one_changes z s n fine o (moved_to gone x) (λ e. ends_unmade d (sym asks.0 ∙ e)) (let k = ap common asks.0 in omega arith)
        (after s d (Finish o vacant v)) refl refl in
        let a : ends_with n x.phase ≡ cond (d == n) 1 0 = ap (ends_with n) asks.0 in
        omega arith

    pub make_count : (c : Block) (enabled null : Bool) (fields : List ℕ) (v : V) → Asks s d (Make c enabled null fields v)
        → many_ending z.blocks (after s d (Make c enabled null fields v)) n ≡ many_ending z.blocks s n
    make_count c enabled null fields v asks =
        sum_all z.blocks (λ j. ends_with n (s.object (s.latest (suc j))).phase)
        (λ j. ends_with n (put s.object (suc s.made) (new_object s.owners c.0 enabled null fields) (put s.latest c.0 (suc s.made) (suc j))).phase)
        (λ j lt. one (suc j))
      where
        none_there : ends_with n (s.object (s.latest c.0)).phase ≡ 0
        none_there =
            ⊎_elim
            (λ (e : s.latest c.0 ≡ 0). ap (λ i. ends_with n (s.object i).phase) e ∙ ap (ends_with n) fine.none)
            (λ (ne : s.latest c.0 ≢ 0). ends_common n _ (let w = (fine.stores d c.0 asks.0).0 (s.latest c.0) (fine.latest_in c.0 ne) in omega arith))
            (cases_eq (s.latest c.0) 0)

        one : (b : ℕ) → ends_with n (put s.object (suc s.made) (new_object s.owners c.0 enabled null fields) (put s.latest c.0 (suc s.made) b)).phase
            ≡ ends_with n (s.object (s.latest b)).phase
        one b =
            let m = suc s.made in let x = new_object s.owners c.0 enabled null fields in
            ⊎_elim
            (λ (e : b ≡ c.0).
            ap (λ i. ends_with n (put s.object m x i).phase) (put_same s.latest c.0 m b e)
            ∙ (ap (λ (y : Object). ends_with n y.phase) (put_same s.object m x m refl)
            ∙ (sym none_there ∙ ap (λ i. ends_with n (s.object (s.latest i)).phase) (sym e))))
            (λ (ne : b ≢ c.0).
            ap (λ i. ends_with n (put s.object m x i).phase) (put_other s.latest c.0 m b ne)
            ∙ ap (λ (y : Object). ends_with n y.phase) (put_other s.object m x (s.latest b) (λ q. let l = fine.latest_made b in omega arith)))
            (cases_eq b c.0)

  -- what others do
  module _ (z : Opening) (s : State) (d n : ℕ) (fine : Sound z s) (ne : d ≢ n) where
    others_count : (e : Event V) → Asks s d e → (Names e n → ⊥) → many_ending z.blocks (after s d e) n ≡ many_ending z.blocks s n
    others_count (Make c enabled null fields v) asks m = make_count z s d n fine c enabled null fields v asks
    others_count (Share h p) asks m = refl
    others_count (Leave h last) asks m =
        let t = leave_count z s n fine d h last asks.0 in let o : ◌≡◌ {A = ℕ} (cond (d == n) 1 0) 0 = cond-false (d == n) 1 0 (ne_eqb d n ne) in
        let c = cond_both last (cond (d == n) 1 0) 0 (λ x. x ≡ 0) (λ _. o) (λ _. refl) in omega arith
    others_count (Count h c) asks m = refl
    others_count (Expired h c) asks m = refl
    others_count (Read h c) asks m = refl
    others_count (Same c h so) asks m = refl
    others_count (WeakShare o p) asks m = refl
    others_count (WeakLeave h c) asks m = refl
    others_count (Lock h c) asks m = refl
    others_count (Load c x) asks m = refl
    others_count (Swap c x y) asks m = quiet_count z.blocks s d n (Swap c x y) (Rattle.control_block.proofs.Passage.quiet_swap c x y)
    others_count (Compare c g x y true w) asks m =
        quiet_count z.blocks s d n (Compare c g x y true w) (Rattle.control_block.proofs.Passage.quiet_compare c g x y true w)
    others_count (Compare c g x y false w) asks m = refl
    others_count (ClearMember o c h) asks m = quiet_count z.blocks s d n (ClearMember o c h) (Rattle.control_block.proofs.Passage.quiet_clear o c h)
    others_count (Finish o c val) asks m = let t = finish_count z s d n fine o c val asks in
        let q : ◌≡◌ {A = ℕ} (cond (d == n) 1 0) 0 = cond-false (d == n) 1 0 (ne_eqb d n ne) in omega arith
    others_count (Visit h c val) asks m = refl
    others_count (Split to amount hs bs) asks m = refl
    others_count (Join other) asks m =
        sum_all z.blocks (λ j. ends_with n (s.object (s.latest (suc j))).phase) (λ j. ends_with n (handed other d (s.object (s.latest (suc j))).phase))
        (λ j lt. third_ends other d n (s.object (s.latest (suc j))).phase (λ q. ne (sym q)) (λ q. m (sym q)))
    others_count (Shelve b) asks m = refl
    others_count (Unshelve b) asks m = refl

  pub same_count : (z : Opening) (later seen : List (Entry V)) (n : ℕ) → IsLegal z (later ++ seen) → NoneBy n later
      → many_ending z.blocks (leads z (later ++ seen)) n ≡ many_ending z.blocks (leads z seen) n
  same_count z [] seen n legal none = refl
  same_count z (e ∷ later) seen n legal none =
      let h = later ++ seen in
      others_count z (leads z h) e.desk n (sound z h legal.0) none.0 e.event legal.1.asks none.1 ∙ same_count z later seen n legal.0 none.2
