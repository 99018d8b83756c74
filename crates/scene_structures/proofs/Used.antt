-- An object that ends in a desk's hands is finished, or loses what one of its members held.
use Rattle.std.proofs.Common.{◌≡◌, ℕ, ◌≤◌, Bool, true, false, ◌≢◌, ◌⊎◌, sym, refl, ap, ◌∙◌, inl}
use Rattle.std.proofs.Common.{inr, arith, eqb-true, subst}
use Rattle.scene_structures.proofs.Prelude
use Prelude.{after, Asks, ClearMember, counted_live, empty, ending, Event, Finish, gone}
use Prelude.{handle_self, in_no_cell, IsLooking, kind_of_member, Leave, live, Load, Lock, moved_to}
use Prelude.{NumberedHandle, Object, object_of, Opening, put, put_again, put_cases, put_same}
use Prelude.{PutsOnly, Read, same_handle, same_handle_true, Share, Sound, State, WeakLeave}
use Rattle.control_word.specs.State.{count}
use Rattle.scene_structures.proofs.Heads.{live_before}

pub record Used (s t : State) (d : ℕ) : Type 0 where
  pub object : ℕ
  pub ends : (s.object object).phase ≡ ending d
  pub there : object ≤ s.made
  pub dead : (t.object object).phase ≡ live → ⊥
  pub spent : (t.object object).phase ≡ ending d
      → (m : ℕ) × ((s.object object).member m ≢ empty (kind_of_member t.owners m)) × ((t.object object).member m ≡ empty (kind_of_member t.owners m))

pub live_ending : (d : ℕ) → ending d ≡ live → ⊥
live_ending d e = cc

gone_ending : (d : ℕ) → gone ≡ ending d → ⊥
gone_ending d e = cc

gone_live : gone ≡ live → ⊥
gone_live e = cc

-- a handle is an empty one, or not
pub is_empty : (h f : NumberedHandle) → (h ≡ f) ⊎ (h ≢ f)
is_empty h f = go (same_handle h f) refl
  where
    go : (b : Bool) → same_handle h f ≡ b → (h ≡ f) ⊎ (h ≢ f)
    go true e = inl (same_handle_true h f e)
    go false e = inr (λ same. absurd (let k : true ≡ false = sym (handle_self f) ∙ (ap (λ x. same_handle x f) (sym same) ∙ e) in cc))

-- a member that held nothing was emptied
pub cleared_again : (t : State) (o m : ℕ) → (t.object o).member m ≡ empty (kind_of_member t.owners m)
    → put t.object o (record (t.object o) { member = put (t.object o).member m (empty (kind_of_member t.owners m)) }) ≡ t.object
cleared_again t o m e =
    let f = (t.object o).member in
    let same : put f m (empty (kind_of_member t.owners m)) ≡ f = ap (put f m) (sym e) ∙ put_again f m in
    (λ i. put t.object o (record (t.object o) { member = same i })) ∙ put_again t.object o

-- a member that held something was emptied
pub used_clear : (V : Type 0) (s t : State) (d o m : ℕ) (h : NumberedHandle) → t.object ≡ s.object → o ≤ s.made → (t.object o).phase ≡ ending d
    → (t.object o).member m ≢ empty (kind_of_member t.owners m) → Used s (after {V = V} t d (ClearMember o m h)) d
used_clear V s t d o m h same le ends full =
    let x = record (t.object o) { member = put (t.object o).member m (empty (kind_of_member t.owners m)) } in
    let at = put_same t.object o x o refl in
    record {
      object = o;
      ends = ap (λ f. (f o).phase) (sym same) ∙ ends;
      there = le;
      dead = λ l. live_ending d (sym ends ∙ (ap (λ (y : Object). y.phase) (sym at) ∙ l));
      spent = λ e. (
        m,
        λ none. full (ap (λ f. (f o).member m) same ∙ none),
        ap (λ (y : Object). y.member m) at ∙ put_same (t.object o).member m (empty (kind_of_member t.owners m)) m refl,
      );
    }

module _ {V : Type 0} where
  pub looking_puts : (x : Event V) → IsLooking x → PutsOnly in_no_cell x
  looking_puts (Load c got) p = tt
  looking_puts (Lock h got) p = tt
  looking_puts (Read h y) p = tt
  looking_puts (Share h q) p = tt
  looking_puts (Leave h last) p = tt
  looking_puts (WeakLeave h v) p = tt
  looking_puts (ClearMember o m h) p = tt
  looking_puts (Finish o v y) p = tt
  looking_puts x p = absurd p

  -- what ends after an event, and didn't live before it, ended before it
  ended_before : (z : Opening) (t : State) (d o : ℕ) (x : Event V) → Sound z t → IsLooking x → Asks t d x → ((t.object o).phase ≡ live → ⊥)
      → ((after t d x).object o).phase ≡ ending d → (t.object o).phase ≡ ending d
  ended_before z t d o (Load c got) fine p asks dead e = e
  ended_before z t d o (Lock h got) fine p asks dead e = e
  ended_before z t d o (Read h y) fine p asks dead e = e
  ended_before z t d o (Share h q) fine p asks dead e = e
  ended_before z t d o (Leave h false) fine p asks dead e = ap (λ f. (f o).phase) (sym (put_again t.object (object_of h))) ∙ e
  ended_before z t d o (Leave h true) fine p asks dead e =
      let one : count t (object_of h) ≡ 1 = eqb-true (count t (object_of h)) 1 (sym asks.1) in
      let lives = counted_live z t (object_of h) fine (omega arith) in
      put_cases (λ j (y : Object). y.phase ≡ ending d → (t.object j).phase ≡ ending d) t.object (object_of h)
      (moved_to (ending d) (t.object (object_of h))) o (λ same e'. absurd (dead (ap (λ i. (t.object i).phase) same ∙ lives))) (λ n e'. e') e
  ended_before z t d o (WeakLeave h v) fine p asks dead e = e
  ended_before z t d o (ClearMember q m h) fine p asks dead e =
      put_cases (λ j (y : Object). y.phase ≡ ending d → (t.object j).phase ≡ ending d) t.object q
      (record (t.object q) { member = put (t.object q).member m (empty (kind_of_member t.owners m)) }) o
      (λ same e'. ap (λ i. (t.object i).phase) same ∙ e') (λ n e'. e') e
  ended_before z t d o (Finish q v y) fine p asks dead e =
      put_cases (λ j (y : Object). y.phase ≡ ending d → (t.object j).phase ≡ ending d) t.object q
      (moved_to gone (t.object q)) o (λ same e'. absurd (gone_ending d e')) (λ n e'. e') e
  ended_before z t d o x fine p asks dead e = absurd p

  -- an empty member stays empty
  empty_on : (t : State) (d o m : ℕ) (x : Event V) → IsLooking x → (t.object o).member m ≡ empty (kind_of_member t.owners m)
      → ((after t d x).object o).member m ≡ empty (kind_of_member t.owners m)
  empty_on t d o m (Load c got) p e = e
  empty_on t d o m (Lock h got) p e = e
  empty_on t d o m (Read h y) p e = e
  empty_on t d o m (Share h q) p e = e
  empty_on t d o m (Leave h false) p e = ap (λ f. (f o).member m) (put_again t.object (object_of h)) ∙ e
  empty_on t d o m (Leave h true) p e =
      put_cases (λ j (y : Object). (t.object j).member m ≡ empty (kind_of_member t.owners m) → y.member m ≡ empty (kind_of_member t.owners m)) t.object
      (object_of h)
      (moved_to (ending d) (t.object (object_of h))) o (λ same e'. ap (λ i. (t.object i).member m) (sym same) ∙ e') (λ n e'. e') e
  empty_on t d o m (WeakLeave h v) p e = e
  empty_on t d o m (ClearMember q k h) p e =
      put_cases (λ j (y : Object). (t.object j).member m ≡ empty (kind_of_member t.owners m) → y.member m ≡ empty (kind_of_member t.owners m)) t.object q
      (record (t.object q) { member = put (t.object q).member k (empty (kind_of_member t.owners k)) }) o
      (λ same e'. put_cases (λ i (y : NumberedHandle). (t.object q).member i ≡ empty (kind_of_member t.owners i) → y ≡ empty (kind_of_member t.owners i))
      (t.object q).member k
      (empty (kind_of_member t.owners k)) m (λ here w. ap (λ i. empty (kind_of_member t.owners i)) (sym here)) (λ n w. w)
      (ap (λ i. (t.object i).member m) (sym same) ∙ e'))
      (λ n e'. e') e
  empty_on t d o m (Finish q v y) p e =
      put_cases (λ j (y : Object). (t.object j).member m ≡ empty (kind_of_member t.owners m) → y.member m ≡ empty (kind_of_member t.owners m)) t.object q
      (moved_to gone (t.object q)) o (λ same e'. ap (λ i. (t.object i).member m) (sym same) ∙ e') (λ n e'. e') e
  empty_on t d o m x p e = absurd p

  -- how many owner members an object has stays
  looking_owners : (t : State) (d : ℕ) (x : Event V) → IsLooking x → (after t d x).owners ≡ t.owners
  looking_owners t d (Load c got) p = refl
  looking_owners t d (Lock h got) p = refl
  looking_owners t d (Read h y) p = refl
  looking_owners t d (Share h q) p = refl
  looking_owners t d (Leave h last) p = refl
  looking_owners t d (WeakLeave h v) p = refl
  looking_owners t d (ClearMember o m h) p = refl
  looking_owners t d (Finish o v y) p = refl
  looking_owners t d x p = absurd p

  -- what is gone doesn't come back
  pub used_on : (z : Opening) (s t : State) (d : ℕ) (x : Event V) → Sound z t → IsLooking x → Asks t d x → s.made ≤ t.made → Used s t d
      → Used s (after t d x) d
  used_on z s t d x fine p asks le used =
      let there = used.there in
      record {
        object = used.object;
        ends = used.ends;
        there = used.there;
        dead = λ l. used.dead (live_before t d used.object x in_no_cell (looking_puts x p) (omega arith) l);
        spent = λ e.
            let r = used.spent (ended_before z t d used.object x fine p asks used.dead e) in
            let same = sym (looking_owners t d x p) in (
              r.0,
              subst (λ n. (s.object used.object).member r.0 ≢ empty (kind_of_member n r.0)) same r.1,
              subst (λ n. ((after t d x).object used.object).member r.0 ≡ empty (kind_of_member n r.0)) same
                  (empty_on t d used.object r.0 x p r.2),
            );
      }

  -- an object was finished
  pub used_finish : (s t : State) (d o : ℕ) (v : Bool) (y : V) → t.object ≡ s.object → o ≤ s.made → (t.object o).phase ≡ ending d
      → Used s (after t d (Finish o v y)) d
  used_finish s t d o v y same le ends =
      let at : (put t.object o (moved_to gone (t.object o)) o).phase ≡ gone =
      ap (λ (w : Object). w.phase) (put_same t.object o (moved_to gone (t.object o)) o refl) in
      record {
        object = o;
        ends = ap (λ f. (f o).phase) (sym same) ∙ ends;
        there = le;
        dead = λ l. gone_live (sym at ∙ l);
        spent = λ e. absurd (gone_ending d (sym at ∙ e));
      }
