-- What stays on a sole desk over a call that puts little anywhere.
use Rattle.std.proofs.Common.{◌≡◌, ℕ, ◌≤◌, true, false, ◌⊎◌, List, ◌∷◌, ◌++◌, map, Some, All, sym}
use Rattle.std.proofs.Common.{refl, ap, ◌∙◌, subst, inl, inr}
use Rattle.scene_structures.proofs.Prelude
use Prelude.{All-append, All-cons, All-weaker, block_kept, Cell, cell_of, ClearMember, Compare}
use Prelude.{Count, DeskNow, Does, entry, Event, Expired, Finish, in_no_cell, InState, IsLegal}
use Prelude.{IsList, IsSole, Join, KeepsDesks, leads, Leave, Load, Lock, Make, Member, NextOf}
use Prelude.{NumberedHandle, object_of, opening_of, owner, Place, PutsOnly, Read, Rises, Same}
use Prelude.{Shape, Share, Shelve, Split, State, state_of, Swap, Unshelve, Visit, Watches}
use Prelude.{WeakLeave, WeakShare}
use Rattle.scene_structures.proofs.Frames.{Apart}
use Rattle.scene_structures.proofs.Grows.{in_front, risen}
use Rattle.scene_structures.proofs.Heads.{IsHead, Lives, cell_held, cell_put, frames_at, in_later}
use Rattle.scene_structures.proofs.Heads.{lives_run}
use Rattle.scene_structures.proofs.Rows.{partings_put}
use Rattle.scene_structures.proofs.Sole.{keep_all, legal_is, seen_is, sole_is, state_is}

module _ {V : Type 0} where
  -- what is put into these cells, is put into those
  puts_wider : (at bt : Cell → Type 0) → ((k : Cell) → at k → bt k) → (x : Event V) → PutsOnly at x → PutsOnly bt x
  puts_wider at bt f (Swap c new old) p = f c p
  puts_wider at bt f (Compare c ex new h true w) p = f c p
  puts_wider at bt f (Split to n hs bs) p = p
  puts_wider at bt f (Join other) p = p
  puts_wider at bt f (Compare c ex new h false w) p = tt
  puts_wider at bt f (Make b enabled null fields value) p = tt
  puts_wider at bt f (Leave h last) p = tt
  puts_wider at bt f (ClearMember q m h) p = tt
  puts_wider at bt f (Finish q v y) p = tt
  puts_wider at bt f (Share h q) p = tt
  puts_wider at bt f (Count h k) p = tt
  puts_wider at bt f (Expired h y) p = tt
  puts_wider at bt f (Read h k) p = tt
  puts_wider at bt f (Same c h so) p = tt
  puts_wider at bt f (WeakShare q y) p = tt
  puts_wider at bt f (WeakLeave h v) p = tt
  puts_wider at bt f (Lock h got) p = tt
  puts_wider at bt f (Load c got) p = tt
  puts_wider at bt f (Visit h y w) p = tt
  puts_wider at bt f (Shelve c) p = tt
  puts_wider at bt f (Unshelve c) p = tt

  pub all_wider : (at bt : Cell → Type 0) → ((k : Cell) → at k → bt k) → (xs : List (Event V)) → All (PutsOnly at) xs → All (PutsOnly bt) xs
  all_wider at bt f xs all = All-weaker (PutsOnly at) (PutsOnly bt) (puts_wider at bt f) xs all

  -- where a node that rises is put
  pub rises_puts : (d e : DeskNow V) (c : Cell) (node : NumberedHandle) → Rises d c node e
      → Does (PutsOnly (λ k. (k ≡ Member (object_of node) 1) ⊎ (k ≡ c))) d e
  rises_puts d e c node r =
      let at = λ (k : Cell). (k ≡ Member (object_of node) 1) ⊎ (k ≡ c) in
      let x = Compare c r.below node r.old true r.weak in let y = Swap (Member (object_of node) 1) r.below r.was in
      record {
        own = _;
        goes = r.goes;
        all = All-append (PutsOnly at) r.after (x ∷ (r.between ++ y ∷ r.before)) (partings_put at r.after r.late)
            (All-cons (PutsOnly at) x (r.between ++ y ∷ r.before) (inr refl)
            (All-append (PutsOnly at) r.between (y ∷ r.before) (partings_put at r.between r.leaves)
            (All-cons (PutsOnly at) y r.before (inl refl) (all_wider (NextOf (object_of node)) at (λ k p. inl p) r.before r.early))));
      }

  pub hangs_puts : (d e : DeskNow V) (o : ℕ) (up : NumberedHandle) → Watches d o up e → Does (PutsOnly (λ k. k ≡ Member o 2)) d e
  hangs_puts d e o up r =
      let at = λ (k : Cell). k ≡ Member o 2 in let y = Swap (Member o 2) up r.was in
      record {
        own = _;
        goes = r.goes;
        all = All-append (PutsOnly at) r.after (y ∷ r.before) (partings_put at r.after r.late)
            (All-cons (PutsOnly at) y r.before refl (all_wider in_no_cell at (λ k p. absurd p) r.before r.early));
      }

  -- a call on a sole desk
  module _ (at : Cell → Type 0) (d e : DeskNow V) (does : Does (PutsOnly at) d e) (legal : IsLegal (opening_of d.shape) d.seen) (sole : IsSole d) where
    keep : All KeepsDesks does.own
    keep = keep_all at does.own does.all

    seen : e.seen ≡ map (entry d.name) does.own ++ d.seen
    seen = seen_is d e does.own does.goes keep legal sole

    state : state_of e ≡ leads (opening_of d.shape) (map (entry d.name) does.own ++ d.seen)
    state = state_is d e does.own does.goes keep legal sole

    legal_row : IsLegal (opening_of d.shape) (map (entry d.name) does.own ++ d.seen)
    legal_row = legal_is d e does.own does.goes keep legal sole

    pub sole_on : IsSole e
    sole_on = sole_is d e does.own does.goes keep legal sole

    pub legal_on : IsLegal (opening_of e.shape) e.seen
    legal_on = subst (λ (k : Shape). IsLegal (opening_of k) e.seen) (sym does.goes.same.1) (does.goes.legal legal)

    pub in_on : (c : Cell) → InState (state_of d) c → InState (state_of e) c
    in_on c there = subst (λ (t : State). InState t c) (sym state) (in_later (opening_of d.shape) (map (entry d.name) does.own) d.seen c there)

    pub lives_on : (c : Cell) → InState (state_of d) c → Lives (state_of e) c → Lives (state_of d) c
    lives_on c there lives = lives_run (opening_of d.shape) d.name at does.own d.seen c does.all there (subst (λ (t : State). Lives t c) state lives)

    pub held_on : (c : Cell) → (at c → ⊥) → InState (state_of d) c → Lives (state_of e) c → cell_of (state_of e) c ≡ cell_of (state_of d) c
    held_on c not there lives =
        ap (λ (t : State). cell_of t c) state
        ∙ cell_held (opening_of d.shape) d.name at does.own d.seen c legal_row does.all not there (subst (λ (t : State). Lives t c) state lives)

    pub list_on : (c : Cell) (os : List ℕ) → (at c → ⊥) → Apart at os → InState (state_of d) c → Lives (state_of e) c → IsList (state_of d) c os
        → IsList (state_of e) c os
    list_on c os not apart there lives list =
        subst (λ (t : State). IsList t c os) (sym state)
        (frames_at (opening_of d.shape) d.name at does.own d.seen c os legal_row does.all there (subst (λ (t : State). Lives t c) state lives) not apart list)

    pub block_on : (o : ℕ) → o ≤ (state_of d).made → ((state_of e).object o).block ≡ ((state_of d).object o).block
    block_on o made =
        ap (λ (t : State). (t.object o).block) state ∙ (block_kept (opening_of d.shape) (map (entry d.name) does.own) d.seen o made).0

  -- a node that rose in front of a list
  pub grown : (d e : DeskNow V) (c : Cell) (o : ℕ) (q : Place) (os : List ℕ) → Rises d c (owner o (Some q)) e
      → IsLegal (opening_of d.shape) d.seen → IsSole d
      → IsHead c → InState (state_of d) c → Lives (state_of e) c → Apart (NextOf o) os → o ≤ (state_of d).made
      → q.block.0 ≡ ((state_of d).object o).block → IsList (state_of d) c os → IsList (state_of e) c (o ∷ os)
  unfolding rises_puts
  grown d e c o q os r legal sole head there lives apart made block list =
      let puts = rises_puts d e c (owner o (Some q)) r in
      let at = λ (k : Cell). (k ≡ Member o 1) ⊎ (k ≡ c) in
      let keep = keep_all at puts.own puts.all in
      let state = state_is d e puts.own r.goes keep legal sole in
      subst (λ (t : State). IsList t c (o ∷ os)) (sym state)
      (risen (opening_of d.shape) d.name o c q r.below r.was r.old r.weak r.before r.between r.after d.seen os
      (legal_is d e puts.own r.goes keep legal sole) r.early r.leaves r.late head there (subst (λ (t : State). Lives t c) state lives) apart made block list)

  -- what an object's `up` holds after it was put there
  pub hung_up : (d e : DeskNow V) (o : ℕ) (up : NumberedHandle) → Watches d o up e → IsLegal (opening_of d.shape) d.seen → IsSole d
      → InState (state_of d) (Member o 2) → Lives (state_of e) (Member o 2) → ((state_of e).object o).member 2 ≡ up
  unfolding hangs_puts
  hung_up d e o up r legal sole there lives =
      let puts = hangs_puts d e o up r in let at = λ (k : Cell). k ≡ Member o 2 in let c = Member o 2 in
      let z = opening_of d.shape in let n = d.name in
      let keep = keep_all at puts.own puts.all in
      let y = Swap (Member o 2) up r.was in
      let state = state_is d e puts.own r.goes keep legal sole in
      let split = in_front n r.after (y ∷ r.before) d.seen in
      let A = map (entry n) (y ∷ r.before) ++ d.seen in
      let legal' = subst (IsLegal z) split (legal_is d e puts.own r.goes keep legal sole) in
      let lives' = subst (λ l. Lives (leads z l) c) split (subst (λ (t : State). Lives t c) state lives) in
      ap (λ (t : State). cell_of t c) state
      ∙ (ap (λ l. cell_of (leads z l) c) split
      ∙ (cell_held z n in_no_cell r.after A c legal' (partings_put in_no_cell r.after r.late) (λ e. e)
      (in_later z (map (entry n) (y ∷ r.before)) d.seen c there) lives'
      ∙ cell_put (leads z (map (entry n) r.before ++ d.seen)) n c up r.was))
