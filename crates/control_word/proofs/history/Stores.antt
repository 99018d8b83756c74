-- A block that is in a store is a desk's that acts. So the shelf has just the vacant blocks where a sole desk's store is
-- empty.
use Rattle.std.proofs.Common.{◌≡◌, ℕ, zero, suc, ◌+◌, ◌<◌, ◌≤◌, Bool, true, false, ◌⊎◌, ◌↔◌, List, []}
use Rattle.std.proofs.Common.{◌∷◌, map, ◌==◌, cond, sym, refl, ap, ◌∙◌, subst, inl, inr, ⊎_elim, arith}
use Rattle.std.proofs.Common.{eq-eqb}
use Rattle.control_word.proofs.Prelude
use Prelude.{after, all_stored, Asks, Block, ClearMember, Compare, cond-true, cond_both, Count, Entry}
use Prelude.{eqb-false, Event, Expired, filter, Finish, Free, Has, how_often, InShape, IsActing, IsLegal}
use Prelude.{IsOpening, IsVacant, Join, leads, Leave, Load, Lock, Make, Member, on_shelf, Opening}
use Prelude.{passed, put, Read, renamed, Same, same_stored, Share, Shelve, Split, start, State}
use Prelude.{stock, Stored, stored, Swap, times_kept, Unshelve, Visit, WeakLeave, WeakShare, without}
use Rattle.control_word.proofs.history.Allowances.{allowed, opened}
use Rattle.control_word.proofs.history.Names.{unknown_free}
use Rattle.control_word.proofs.history.Sole.{alone}
use Rattle.control_word.proofs.history.Storing.{stored_once}
use Rattle.control_word.proofs.lists.Tallies.{put_other}
use Rattle.control_word.specs.Laws.{ShelfHasAll, StoresOfDesks}

in_without : {A : Type 0} (same : A → A → Bool) (x y : A) (l : List A) → Has y (without same x l) → Has y l
in_without same x y [] has = has
in_without same x y (z ∷ zs) has =
    cond_both (same x z) zs (z ∷ without same x zs) (λ l. Has y l → Has y (z ∷ zs)) (λ e h. inr h)
    (λ e h. ⊎_elim (λ q. inl q) (λ q. inr (in_without same x y zs q)) h) has

in_passed : {A T : Type 0} (same : A → A → Bool) (was is : T → A) (y : A) (ts : List T) (l : List A) → Has y (passed same was is ts l)
    → ((t : T) × (y ≡ is t)) ⊎ Has y l
in_passed same was is y [] l has = inr has
in_passed same was is y (t ∷ ts) l has =
    ⊎_elim (λ e. inl (t, e))
    (λ h. ⊎_elim (λ q. inl q) (λ q. inr (in_without same (was t) y l q)) (in_passed same was is y ts (without same (was t) l) h)) has

in_map : {A B : Type 0} (f : A → B) (y : B) (l : List A) → Has y (map f l) → (x : A) × (y ≡ f x) × Has x l
in_map f y [] has = absurd has
in_map f y (x ∷ l) has =
    ⊎_elim (λ e. (x, e, inl refl)) (λ h. let t = in_map f y l h in (t.0, t.1, inr t.2)) has

-- the desk is there and isn't joined
abbrev IsThere : State → ℕ → Type 0
IsThere s d = (d < s.names) × (s.joined d ≡ false)

abbrev AreDesks : State → Type 0
AreDesks s = (x : Stored) → Has x s.stores → IsThere s x.desk

at_start : (holder : ℕ → ℕ) (n m : ℕ) → ((b : ℕ) → holder b < m) → (x : Stored) → Has x (all_stored holder n) → x.desk < m
at_start holder zero m low x has = absurd has
at_start holder (suc n) m low x has =
    ⊎_elim (λ e. subst (λ (d : ℕ). d < m) (sym (ap (λ (y : Stored). y.desk) e)) (low (suc n))) (at_start holder n m low x) has

-- one more block is in the store of a desk that is there
one_more : (s : State) (d b : ℕ) → IsThere s d → AreDesks s → (x : Stored) → Has x (stored d b ∷ s.stores) → IsThere s x.desk
one_more s d b there all x has = ⊎_elim (λ e. subst (IsThere s) (sym (ap (λ (y : Stored). y.desk) e)) there) (all x) has

-- what the other desk had is another's
join_there : (s : State) (d other : ℕ) → (other ≡ d → ⊥) → IsThere s d → (e : ℕ) → IsThere s e
    → (renamed other d e < s.names) × (put s.joined other true (renamed other d e) ≡ false)
join_there s d other ne acts e there =
    cond_both (e == other) d e (λ j. (j < s.names) × (put s.joined other true j ≡ false))
    (λ q. (acts.0, put_other s.joined other true d (λ k. ne (sym k)) ∙ acts.1))
    (λ q. (there.0, put_other s.joined other true e (eqb-false e other q) ∙ there.1))

none_left : (d : ℕ) (l : List Stored) → ((x : Stored) → Has x l → x.desk ≡ d) → filter (λ (x : Stored). x.desk == d) l ≡ [] → l ≡ []
none_left d [] mine none = refl
none_left d (x ∷ l) mine none =
    absurd (some_none (sym (cond-true (x.desk == d) (x ∷ filter (λ (y : Stored). y.desk == d) l) (filter (λ (y : Stored). y.desk == d) l)
    (eq-eqb x.desk d (mine x (inl refl)))) ∙ none))
  where
    some_none : {y : Stored} {m : List Stored} → y ∷ m ≡ [] → ⊥
    some_none e = cc

module _ {V : Type 0} where
  desks_after : (s : State) (d : ℕ) (a : Event V) → Asks s d a → IsActing s d → ((e : ℕ) → s.names ≤ e → s.joined e ≡ false)
      → AreDesks s → AreDesks (after s d a)
  desks_after s d (Make b enabled null fields val) asks acts new all = λ x has. all x (in_without same_stored (stored d b.0) x s.stores has)
  desks_after s d (Share h p) asks acts new all = all
  desks_after s d (Leave h last) asks acts new all = all
  desks_after s d (Count h n) asks acts new all = all
  desks_after s d (Expired h n) asks acts new all = all
  desks_after s d (Read h n) asks acts new all = all
  desks_after s d (Same c h so) asks acts new all = all
  desks_after s d (WeakShare o p) asks acts new all = all
  desks_after s d (WeakLeave h true) asks acts new all = one_more s d _ (acts.0, acts.1) all
  desks_after s d (WeakLeave h false) asks acts new all = all
  desks_after s d (Lock h got) asks acts new all = all
  desks_after s d (Load c x) asks acts new all = all
  desks_after s d (Swap (Free c) x y) asks acts new all = all
  desks_after s d (Swap (Member o m) x y) asks acts new all = all
  desks_after s d (Compare (Free c) g x y true w) asks acts new all = all
  desks_after s d (Compare (Member o m) g x y true w) asks acts new all = all
  desks_after s d (Compare c g x y false w) asks acts new all = all
  desks_after s d (ClearMember o m h) asks acts new all = all
  desks_after s d (Finish o true val) asks acts new all = one_more s d _ (acts.0, acts.1) all
  desks_after s d (Finish o false val) asks acts new all = all
  desks_after s d (Visit h x y) asks acts new all = all
  desks_after s d (Split to n hs bs) asks acts new all = λ x has.
      ⊎_elim
      (λ t. subst (λ (e : ℕ). (e < suc s.names) × (s.joined e ≡ false)) (sym (ap (λ (y : Stored). y.desk) t.1))
      (let is = asks.0 in omega arith, new to (let is = asks.0 in omega arith)))
      (λ q. let t = all x q in let t0 = t.0 in (omega arith, t.1))
      (in_passed same_stored (λ (b : Block). stored d b.0) (λ b. stored to b.0) x bs s.stores has)
  desks_after s d (Join other) asks acts new all = λ x has.
      let t = in_map (λ (y : Stored). stored (renamed other d y.desk) y.block) x s.stores has in
      subst (λ (e : ℕ). (e < s.names) × (put s.joined other true e ≡ false)) (sym (ap (λ (y : Stored). y.desk) t.1))
      (join_there s d other asks.0 (acts.0, acts.1) t.0.desk (all t.0 t.2))
  desks_after s d (Shelve b) asks acts new all = λ x has. all x (in_without same_stored (stored d b.0) x s.stores has)
  desks_after s d (Unshelve b) asks acts new all = one_more s d _ (acts.0, acts.1) all

  are_desks : (z : Opening) (h : List (Entry V)) → IsLegal z h → AreDesks (leads z h)
  are_desks z [] legal = λ x has. (at_start z.holder z.blocks z.desks legal.holders x has, refl)
  are_desks z (e ∷ h) legal =
      desks_after (leads z h) e.desk e.event legal.1.asks legal.1.acting (unknown_free z h legal.0) (are_desks z h legal.0)

  pub stores_of_desks : StoresOfDesks V
  stores_of_desks z h legal d b has =
      let t = are_desks z h legal (stored d b) has in (t.0, t.1, (allowed z h legal).acts d t.0 t.1)

  -- where a sole desk's store is empty, the shelf has just the vacant blocks
  pub shelf_has_all : ShelfHasAll V
  shelf_has_all z h legal d whole none b inside =
      let s = leads z h in
      let mine : (x : Stored) → Has x s.stores → x.desk ≡ d = λ x has. alone z h legal d x.desk whole (stores_of_desks z h legal x.desk x.block has) in
      let empty = none_left d s.stores mine none in
      let many : how_often b s.stores ≡ 0 = ap (how_often b) empty in
      let same : times_kept s b ≡ on_shelf s b = omega arith in
      let t = (stored_once z h legal b inside).0 in
      (λ e. t.0 (same ∙ e), λ v. sym same ∙ t.1 v)
