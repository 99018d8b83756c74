-- Where the words of running desks stand after a step, if without the funds of handles in hand they do.
use Rattle.std.proofs.Common.{◌≡◌, ℕ, zero, suc, ◌+◌, ◌-◌, ◌*◌, ◌<◌, ◌≤◌, false, ◌≢◌, List, ◌∷◌, length, get_or, set, map, Option}
use Rattle.std.proofs.Common.{sym, refl, ap, ◌∙◌, subst, ⊎_elim, arith, length-set, get_or-set_other, get_or-set_same}
use Rattle.control_word.proofs.Prelude
use Prelude.{blocks_of, cases_eq, counts_at, Entry, get_elem?, handles, Held, in_cells, Kind, leads, Opening, Pending, Point, Ready, sees_as, some, Stands}
use Prelude.{State}
use Prelude.{tally, total, View}
use Rattle.control_word.proofs.funded.Hands.{hand_counts, hand_none, lacking_few, lacking_none}
use Rattle.control_word.proofs.history.Legal.{sound}
use Rattle.control_word.proofs.history.Soundness.{IsBusy}
use Rattle.control_word.proofs.lists.Tallies.{tally_append}
use Rattle.control_word.proofs.words.Counting.{number, number_tally, word_some}
use Rattle.control_word.proofs.words.Frames.{total_set}
use Rattle.control_word.proofs.words.Payments.{one_at, one_else, one_here}
use Rattle.control_word.specs.HandFunds.{hand_funds, lacking, lacks, StandsFunded}
use Rattle.control_word.specs.Limits.{one_fund}
use Rattle.control_word.specs.Steps.{ReadyBy}

-- the word counts no handles of a busy object
abbrev pub IsApart : State → ℕ → Type 0
IsApart s k = (m : Kind) (r : ℕ) → IsBusy s r → k ≢ counts_at (blocks_of s) m r

module _ {V : Type 0} where
  -- the point without the funds of handles in hand
  abbrev pub bared : (at : Point V) → StandsFunded at.opening at.words at.views at.history → Point V
  bared at is = record at { words = is.bare }

  pub bare_ready : (at : Point V) (p : Pending V) (ready : ReadyBy StandsFunded at p) → Ready (bared at ready.stands) p
  bare_ready at p ready = record { stands = ready.stands.stands; seated = ready.seated; awake = ready.awake; pending = ready.pending }

  -- one view's half-done call changes
  pub lacking_set : (views : List (View V)) (i : ℕ) (v : View V) (p : Pending V) (seen : List (Entry V)) (m : ℕ) → get_elem? views i ≡ some v
      → lacking (set views i (record v { pending = p; seen = seen })) m + lacks v.pending m ≡ lacking views m + lacks p m
  lacking_set views i v p seen m at = total_set (λ (u : View V). lacks u.pending m) views i v (record v { pending = p; seen = seen }) at

  module _ (z : Opening) (words : List ℕ) (views : List (View V)) (h : List (Entry V)) (is : StandsFunded z words views h) where
    -- such a word has no funds of handles in hand
    pub plain_word : (k : ℕ) → IsApart (leads z h) k → get_or words k 0 ≡ get_or is.bare k 0
    plain_word k apart =
        let a = hand_none z (leads z h) (sound z h is.stands.legal) k apart in
        let b = lacking_none z is.bare views h is.stands k apart in
        let c = is.funded k in omega arith

    -- a count's word has all funds of handles in hand but those that are lacking
    pub more_word : (m : Kind) (o : ℕ) → IsBusy (leads z h) o → let k = counts_at (blocks_of (leads z h)) m o in get_or is.bare k 0 ≤ get_or words k 0
    more_word m o busy =
        let k = counts_at (blocks_of (leads z h)) m o in
        let a = lacking_few z is.bare views h is.stands m o busy in let c = is.funded k in omega arith

    -- where no handle is counted, the word has its number only
    pub none_in_hand : (m : Kind) (o : ℕ) → IsBusy (leads z h) o → tally m o (handles (leads z h)) ≡ 0
        → let k = counts_at (blocks_of (leads z h)) m o in get_or words k 0 ≡ get_or is.bare k 0
    none_in_hand m o busy none =
        let s = leads z h in
        let a = hand_counts z s (sound z h is.stands.legal) m o busy in
        let b = lacking_few z is.bare views h is.stands m o busy in
        let c = tally_append m o (map (λ (x : Held). x.handle) s.hands) (in_cells s) in
        let d = is.funded (counts_at (blocks_of s) m o) in omega arith

    -- the word is 0 just where it is so without the funds
    pub zero_word : (m : Kind) (o : ℕ) → IsBusy (leads z h) o → let k = counts_at (blocks_of (leads z h)) m o in
        ◌≡◌ {A = ℕ} (get_or words k 0) 0 → ◌≡◌ {A = ℕ} (get_or is.bare k 0) 0
    zero_word m o busy e = let t = more_word m o busy in omega arith

    pub zero_bare : (m : Kind) (o : ℕ) → IsBusy (leads z h) o → let k = counts_at (blocks_of (leads z h)) m o in
        ◌≡◌ {A = ℕ} (get_or is.bare k 0) 0 → ◌≡◌ {A = ℕ} (get_or words k 0) 0
    zero_bare m o busy e =
        let s = leads z h in
        ⊎_elim (λ (t : number s m o ≡ 0). let n = number_tally s m o in let u = none_in_hand m o busy (omega arith) in omega arith)
        (λ (n : number s m o ≢ 0). let t = word_some z is.bare views h is.stands m o busy (omega arith) in absurd (omega arith)) (cases_eq (number s m o) 0)

    -- a step on a word
    pub next : (k n m : ℕ) (views' : List (View V)) (h' : List (Entry V)) → Stands z (set is.bare k m) views' h' → k < length is.bare
        → ((i : ℕ) → i ≢ k → lacking views' i + hand_funds (leads z h) i ≡ lacking views i + hand_funds (leads z h') i)
        → n + one_fund * lacking views' k ≡ m + one_fund * hand_funds (leads z h') k
        → StandsFunded z (set words k n) views' h'
    next k n m views' h' stands inside others here = record {
      bare = set is.bare k m;
      stands = stands;
      sized = length-set words k n ∙ (is.sized ∙ sym (length-set is.bare k m));
      funded = λ i. ⊎_elim
          (λ (e : i ≡ k).
          let size = is.sized in
          let a : get_or (set words k n) i 0 ≡ n = ap (λ j. get_or (set words k n) j 0) e ∙ get_or-set_same words k n 0 (omega arith) in
          let b : get_or (set is.bare k m) i 0 ≡ m = ap (λ j. get_or (set is.bare k m) j 0) e ∙ get_or-set_same is.bare k m 0 inside in
          let c = ap (lacking views') e in let d = ap (hand_funds (leads z h')) e in omega arith)
          (λ (ne : i ≢ k).
          let a = get_or-set_other words k i n 0 ne in let b = get_or-set_other is.bare k i m 0 ne in
          let c = others i ne in let d = is.funded i in omega arith)
          (cases_eq i k);
    }

    -- a look
    pub told : (views' : List (View V)) (h' : List (Entry V)) → Stands z is.bare views' h'
        → ((i : ℕ) → lacking views' i + hand_funds (leads z h) i ≡ lacking views i + hand_funds (leads z h') i)
        → StandsFunded z words views' h'
    told views' h' stands same = record {
      bare = is.bare;
      stands = stands;
      sized = is.sized;
      funded = λ i. let a = same i in let b = is.funded i in omega arith;
    }

    -- a step on a word that counts no handles
    pub beside : (k n : ℕ) (views' : List (View V)) (h' : List (Entry V)) → Stands z (set is.bare k n) views' h' → k < length is.bare
        → IsApart (leads z h) k
        → ((i : ℕ) → lacking views' i + hand_funds (leads z h) i ≡ lacking views i + hand_funds (leads z h') i)
        → StandsFunded z (set words k n) views' h'
    beside k n views' h' stands inside apart same =
        let a = hand_none z (leads z h) (sound z h is.stands.legal) k apart in
        let b = lacking_none z is.bare views h is.stands k apart in
        let c = same k in
        next k n n views' h' stands inside (λ i ne. same i) (omega arith)

    -- A step on a word that counts handles: of the handles in hand a go and b come, each with its funds, and of half-done calls c
    -- lacked theirs before and d do now
    pub counted : (k n m a b c d : ℕ) (views' : List (View V)) (h' : List (Entry V)) → Stands z (set is.bare k m) views' h' → k < length is.bare
        → ((i : ℕ) → hand_funds (leads z h') i + a * one_at k i ≡ hand_funds (leads z h) i + b * one_at k i)
        → ((i : ℕ) → lacking views' i + c * one_at k i ≡ lacking views i + d * one_at k i)
        → n + get_or is.bare k 0 + one_fund * (a + d) ≡ get_or words k 0 + m + one_fund * (b + c)
        → StandsFunded z (set words k n) views' h'
    counted k n m a b c d views' h' stands inside hands lack eq =
        next k n m views' h' stands inside
        (λ i ne.
        let one = one_else k i ne in
        let a0 : a * one_at k i ≡ a * 0 = ap (λ x. a * x) one in let b0 : b * one_at k i ≡ b * 0 = ap (λ x. b * x) one in
        let c0 : c * one_at k i ≡ c * 0 = ap (λ x. c * x) one in let d0 : d * one_at k i ≡ d * 0 = ap (λ x. d * x) one in
        let p = hands i in let q = lack i in omega arith)
        (let one = one_here k k refl in
        let a0 : a * one_at k k ≡ a * 1 = ap (λ x. a * x) one in let b0 : b * one_at k k ≡ b * 1 = ap (λ x. b * x) one in
        let c0 : c * one_at k k ≡ c * 1 = ap (λ x. c * x) one in let d0 : d * one_at k k ≡ d * 1 = ap (λ x. d * x) one in
        let p = hands k in let q = lack k in let r = is.funded k in omega arith)
