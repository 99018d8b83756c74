-- What a desk's half-done call knows, where another desk's event comes.
use Rattle.std.proofs.Common.{◌≡◌, ℕ, suc, ◌+◌, ◌-◌, ◌<◌, ◌≤◌, Bool, true, false, ◌≢◌, List}
use Rattle.std.proofs.Common.{get_or, Some, Option, sym, refl, ap, ◌∙◌, arith}
use Rattle.control_word.proofs.Prelude
use Prelude.{after, Asks, blocks_of, ClearMember, Compare, Count, counts_at, Event, Expired}
use Prelude.{Finish, Fits, Free, handle, Has, held, Idle, IsActing, Join, Kind, Leave, Load, Lock}
use Prelude.{Make, Making, me, Member, Merging, Names, object_of, Opening, Owner, Parting, Paying}
use Prelude.{Pending, Place, put, Read, Same, Share, Shelve, slot, Split, spot, State, stored}
use Prelude.{Swap, Unshelve, valued, Values, Visit, Visiting, WeakLeave, WeakShare, word}
use Rattle.control_word.proofs.history.Clearing.{was_made}
use Rattle.control_word.proofs.history.Kept.{block_after, has_same, same_after, stored_same}
use Rattle.control_word.proofs.history.Legal.{held_busy, sound}
use Rattle.control_word.proofs.history.Soundness.{Sound}
use Rattle.control_word.proofs.lists.Tallies.{put_other, put_same}

-- what is held names an object that was made
pub held_made : (z : Opening) (s : State) (d o : ℕ) (k : Kind) (p : Option Place) → Sound z s
    → Has (held d (handle k (Some o) p)) s.hands → o ≤ s.made
held_made z s d o k p sound has =
    let busy = held_busy z s d o k p sound has in
    let t = was_made z s o sound (λ e. let u = sound.unmade_free o e in omega arith) in omega arith

pub at_blocks : (f g : ℕ → ℕ) (k : Kind) (o : ℕ) → f o ≡ g o → counts_at f k o ≡ counts_at g k o
at_blocks f g k o e = ap (λ b. spot b (slot k)) e

module _ {V : Type 0} where
  -- the event is a visit of o
  abbrev pub Visits : Event V → ℕ → Type 0
  Visits (Visit h was becomes) o = object_of h ≡ o
  Visits _ o = ⊥

  abbrev pub IsVisiting : Pending V → ℕ → Type 0
  IsVisiting (Visiting q p word v) o = q ≡ o
  IsVisiting _ o = ⊥

  -- the event names no other desk, and is no visit
  abbrev pub IsPlain : Event V → Type 0
  IsPlain (Visit h was becomes) = ⊥
  IsPlain (Split to n hs bs) = ⊥
  IsPlain (Join other) = ⊥
  IsPlain _ = Unit {0}

  -- the half-done call is no split and no join
  abbrev pub IsLone : Pending V → Type 0
  IsLone (Parting to) = ⊥
  IsLone (Merging other mine others) = ⊥
  IsLone _ = Unit {0}

  pub plain_names : (a : Event V) → IsPlain a → (d : ℕ) → Names a d → ⊥
  plain_names (Make b enabled null fields val) plain d n = n
  plain_names (Share h p) plain d n = n
  plain_names (Leave h last) plain d n = n
  plain_names (Count h c) plain d n = n
  plain_names (Expired h c) plain d n = n
  plain_names (Read h c) plain d n = n
  plain_names (Same c h so) plain d n = n
  plain_names (WeakShare o p) plain d n = n
  plain_names (WeakLeave h c) plain d n = n
  plain_names (Lock h c) plain d n = n
  plain_names (Load c x) plain d n = n
  plain_names (Swap c x y) plain d n = n
  plain_names (Compare c e x y s w) plain d n = n
  plain_names (ClearMember o m h) plain d n = n
  plain_names (Finish o c val) plain d n = n
  plain_names (Visit h c val) plain d n = n
  plain_names (Split to amount hs bs) plain d n = plain
  plain_names (Join other) plain d n = plain
  plain_names (Shelve b) plain d n = n
  plain_names (Unshelve b) plain d n = n

  pub plain_visits : (a : Event V) → IsPlain a → (o : ℕ) → Visits a o → ⊥
  plain_visits (Make b enabled null fields val) plain o n = n
  plain_visits (Share h p) plain o n = n
  plain_visits (Leave h last) plain o n = n
  plain_visits (Count h c) plain o n = n
  plain_visits (Expired h c) plain o n = n
  plain_visits (Read h c) plain o n = n
  plain_visits (Same c h so) plain o n = n
  plain_visits (WeakShare q p) plain o n = n
  plain_visits (WeakLeave h c) plain o n = n
  plain_visits (Lock h c) plain o n = n
  plain_visits (Load c x) plain o n = n
  plain_visits (Swap c x y) plain o n = n
  plain_visits (Compare c e x y s w) plain o n = n
  plain_visits (ClearMember q m h) plain o n = n
  plain_visits (Finish q c val) plain o n = n
  plain_visits (Visit h c val) plain o n = plain
  plain_visits (Split to amount hs bs) plain o n = n
  plain_visits (Join other) plain o n = n
  plain_visits (Shelve b) plain o n = n
  plain_visits (Unshelve b) plain o n = n

  pub plain_values : (a : Event V) (values : ℕ → Option V) → IsPlain a
      → ((o : ℕ) (b : Bool) (v : V) → a ≡ Finish o b v → values o ≡ Some v) → Values values a
  plain_values (Make b enabled null fields val) values plain f = tt
  plain_values (Share h p) values plain f = tt
  plain_values (Leave h last) values plain f = tt
  plain_values (Count h c) values plain f = tt
  plain_values (Expired h c) values plain f = tt
  plain_values (Read h c) values plain f = tt
  plain_values (Same c h so) values plain f = tt
  plain_values (WeakShare q p) values plain f = tt
  plain_values (WeakLeave h c) values plain f = tt
  plain_values (Lock h c) values plain f = tt
  plain_values (Load c x) values plain f = tt
  plain_values (Swap c x y) values plain f = tt
  plain_values (Compare c e x y s w) values plain f = tt
  plain_values (ClearMember q m h) values plain f = tt
  plain_values (Finish q c val) values plain f = f q c val refl
  plain_values (Visit h c val) values plain f = absurd plain
  plain_values (Split to amount hs bs) values plain f = tt
  plain_values (Join other) values plain f = tt
  plain_values (Shelve b) values plain f = tt
  plain_values (Unshelve b) values plain f = tt

  -- an object that was made keeps its value, but for visits of it
  pub valued_else : (s : State) (a : Event V) (values : ℕ → Option V) (o : ℕ) → o ≤ s.made → (Visits a o → ⊥)
      → valued s a values o ≡ values o
  valued_else s (Make b enabled null fields val) values o le n = put_other values (suc s.made) (Some val) o (λ e. omega arith)
  valued_else s (Share h p) values o le n = refl
  valued_else s (Leave h last) values o le n = refl
  valued_else s (Count h c) values o le n = refl
  valued_else s (Expired h c) values o le n = refl
  valued_else s (Read h c) values o le n = refl
  valued_else s (Same c h so) values o le n = refl
  valued_else s (WeakShare q p) values o le n = refl
  valued_else s (WeakLeave h c) values o le n = refl
  valued_else s (Lock h c) values o le n = refl
  valued_else s (Load c x) values o le n = refl
  valued_else s (Swap c x y) values o le n = refl
  valued_else s (Compare c e x y b w) values o le n = refl
  valued_else s (ClearMember q m h) values o le n = refl
  valued_else s (Finish q c val) values o le n = refl
  valued_else s (Visit h c val) values o le n = put_other values (object_of h) (Some val) o (λ e. n (sym e))
  valued_else s (Split to amount hs bs) values o le n = refl
  valued_else s (Join other) values o le n = refl
  valued_else s (Shelve b) values o le n = refl
  valued_else s (Unshelve b) values o le n = refl

  -- what another desk's half-done call knows
  pub fits_after : (z : Opening) (s : State) (words words' : List ℕ) (values : ℕ → Option V) (me : ℕ) (a : Event V) → Sound z s
      → (d : ℕ) (q : Pending V) → me ≢ d → (Names a d → ⊥)
      → ((o : ℕ) → Visits a o → IsVisiting q o → ⊥)
      → ((b : ℕ) → Has (stored d b) s.stores → (j : ℕ) → j < 5 → get_or words' (spot b (2 + j)) 0 ≡ get_or words (spot b (2 + j)) 0)
      → Fits words s values d q → Fits words' (after s me a) (valued s a values) d q
  fits_after z s words words' values me a sound d Idle n j apart same fits = tt
  fits_after z s words words' values me a sound d (Making b known) n j apart same fits =
      (stored_same s (after s me a) d b.0 (same_after s d me a n j) fits.0, λ k lt. same b.0 fits.0 k lt ∙ fits.1 k lt)
  fits_after z s words words' values me a sound d (Paying k o p word funds loads) n j apart same fits = (
    has_same s (after s me a) d (handle k (Some o) p) (same_after s d me a n j) fits.0,
    fits.1 ∙ sym (at_blocks (blocks_of (after s me a)) (blocks_of s) k o (block_after s me o a (held_made z s d o k p sound fits.0)).0),
    fits.2,
    fits.3,
    fits.4,
  )
  fits_after z s words words' values me a sound d (Visiting o p word v) n j apart same fits =
      let made = held_made z s d o Owner p sound fits.0 in (
        has_same s (after s me a) d (handle Owner (Some o) p) (same_after s d me a n j) fits.0,
        fits.1 ∙ ap (λ b. spot b 2) (sym (block_after s me o a made).0),
        valued_else s a values o made (λ u. apart o u refl) ∙ fits.2,
      )
  fits_after z s words words' values me a sound d (Parting to) n j apart same fits = tt
  fits_after z s words words' values me a sound d (Merging other mine others) n j apart same fits = tt

  -- a desk acts on after its own event
  pub acts_after : (s : State) (d : ℕ) (a : Event V) → IsActing s d → Asks s d a → IsActing (after s d a) d
  acts_after s d (Make b enabled null fields val) acts asks = acts
  acts_after s d (Share h p) acts asks = acts
  acts_after s d (Leave h last) acts asks = acts
  acts_after s d (Count h c) acts asks = acts
  acts_after s d (Expired h c) acts asks = acts
  acts_after s d (Read h c) acts asks = acts
  acts_after s d (Same c h so) acts asks = acts
  acts_after s d (WeakShare o p) acts asks = acts
  acts_after s d (WeakLeave h c) acts asks = acts
  acts_after s d (Lock h c) acts asks = acts
  acts_after s d (Load c x) acts asks = acts
  acts_after s d (Swap (Free c) x y) acts asks = acts
  acts_after s d (Swap (Member o m) x y) acts asks = acts
  acts_after s d (Compare (Free c) e x y true w) acts asks = acts
  acts_after s d (Compare (Member o m) e x y true w) acts asks = acts
  acts_after s d (Compare c e x y false w) acts asks = acts
  acts_after s d (ClearMember o m h) acts asks = acts
  acts_after s d (Finish o c val) acts asks = acts
  acts_after s d (Visit h c val) acts asks = acts
  acts_after s d (Split to amount hs bs) acts asks =
      let low = acts.0 in
      let e = asks.0 in
      let a = put_other (put s.allowance d (s.allowance d - amount)) to amount d (λ q. omega arith) in
      let b = put_same s.allowance d (s.allowance d - amount) d refl in
      let l = asks.2 in
      (omega arith, acts.1, omega arith)
  acts_after s d (Join other) acts asks =
      let n : d ≢ other = λ q. asks.0 (sym q) in
      let a = put_other (put s.allowance d (s.allowance d + s.allowance other)) other 0 d n in
      let b = put_same s.allowance d (s.allowance d + s.allowance other) d refl in
      let m = acts.2 in
      (acts.0, put_other s.joined other true d n ∙ acts.1, omega arith)
  acts_after s d (Shelve b) acts asks = acts
  acts_after s d (Unshelve b) acts asks = acts
