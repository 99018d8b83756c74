-- Each object that was made has a value.
use Rattle.std.proofs.Common.{◌≡◌, ℕ, suc, ◌≤◌, true, false, ◌≢◌, List, [], ◌∷◌, Some, Option, ◌∙◌}
use Rattle.std.proofs.Common.{⊎_elim, arith}
use Rattle.control_word.proofs.Prelude
use Prelude.{after, cases_eq, ClearMember, Compare, Count, Entry, Event, Expired, Finish, Free}
use Prelude.{Join, leads, Leave, Load, Lock, Make, Member, object_of, Opening, Read, Same, Share}
use Prelude.{Shelve, Split, State, Swap, Unshelve, value, valued, Visit, WeakLeave, WeakShare}
use Rattle.control_word.proofs.lists.Tallies.{put_other, put_same}

module _ {V : Type 0} where
  -- what has a value has one after an event, and a new object has one
  has_value_after : (s : State) (d : ℕ) (a : Event V) (f : ℕ → Option V) (o : ℕ) → (o ≤ s.made → (x : V) × (f o ≡ Some x))
      → o ≤ (after s d a).made
      → (x : V) × (valued s a f o ≡ Some x)
  has_value_after s d (Make b enabled null fields val) f o before le = ⊎_elim
      (λ (q : o ≡ suc s.made). (val, put_same f (suc s.made) (Some val) o q))
      (λ (q : o ≢ suc s.made). let t = before (omega arith) in (t.0, put_other f (suc s.made) (Some val) o q ∙ t.1)) (cases_eq o (suc s.made))
  has_value_after s d (Share y p) f o before le = before le
  has_value_after s d (Leave y last) f o before le = before le
  has_value_after s d (Count y c) f o before le = before le
  has_value_after s d (Expired y c) f o before le = before le
  has_value_after s d (Read y c) f o before le = before le
  has_value_after s d (Same c h so) f o before le = before le
  has_value_after s d (WeakShare q p) f o before le = before le
  has_value_after s d (WeakLeave y c) f o before le = before le
  has_value_after s d (Lock y c) f o before le = before le
  has_value_after s d (Load c x) f o before le = before le
  has_value_after s d (Swap (Free c) x y) f o before le = before le
  has_value_after s d (Swap (Member q c) x y) f o before le = before le
  has_value_after s d (Compare (Free c) g x y true w) f o before le = before le
  has_value_after s d (Compare (Member q c) g x y true w) f o before le = before le
  has_value_after s d (Compare c g x y false w) f o before le = before le
  has_value_after s d (ClearMember q m y) f o before le = before le
  has_value_after s d (Finish q c val) f o before le = before le
  has_value_after s d (Visit y c val) f o before le = ⊎_elim (λ (q : o ≡ object_of y). (val, put_same f (object_of y) (Some val) o q))
      (λ (q : o ≢ object_of y). let t = before le in (t.0, put_other f (object_of y) (Some val) o q ∙ t.1)) (cases_eq o (object_of y))
  has_value_after s d (Split to amount hs bs) f o before le = before le
  has_value_after s d (Join other) f o before le = before le
  has_value_after s d (Shelve b) f o before le = before le
  has_value_after s d (Unshelve b) f o before le = before le

  -- an object that was made has a value
  pub has_value : (z : Opening) (h : List (Entry V)) (o : ℕ) → 1 ≤ o → o ≤ (leads z h).made → (x : V) × (value z h o ≡ Some x)
  has_value z [] o lo hi = absurd (omega arith)
  has_value z (e ∷ h) o lo hi = has_value_after (leads z h) e.desk e.event (value z h) o (has_value z h o lo) hi
