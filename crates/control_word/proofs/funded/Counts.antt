-- Steps on counts, where each handle in hand has its funds there: share, leave, lock, finish.
use Rattle.std.proofs.Common.{◌≡◌, ℕ, zero, suc, ◌+◌, ◌-◌, ◌*◌, ◌<◌, ◌≤◌, Bool, true, false, cond, ◌≢◌, ◌⊎◌, List, ◌∷◌, length, get_or}
use Rattle.std.proofs.Common.{set, ◌==◌, map, Some, None, Option, sym, refl, ap, ◌∙◌, subst, inl, inr, ⊎_elim, arith, eq-eqb, ne_eqb, eqb-true}
use Rattle.control_word.proofs.Prelude
use Prelude.{after, and_parts, blocks_of, cases_eq, common, cond-false, cond-true, cond_both, counts, counts_at, ending, Entry, entry, Event, Finish}
use Prelude.{get_elem?, handle}
use Prelude.{handles, Has, held, Held, Idle, in_cells, IsLegal, IsPointer, Kind, leads, Leave, Lock, me, Opening, owner, Owner, Paying, Pending, Place, Point}
use Prelude.{Ready, sees_as, Share, spot, Stands, state, State, tally, View, Weak, weak_number, weak_of, WeakLeave, WeakShare, word, worth}
use Rattle.control_word.proofs.funded.Events.{hand_finishes, hand_leaves, hand_weak_leaves}
use Rattle.control_word.proofs.funded.Hands.{hand_counts, lacking_few, lacking_fewer}
use Rattle.control_word.proofs.funded.Next.{bare_ready, bared, counted, lacking_set, more_word, none_in_hand, told, zero_bare, zero_word}
use Rattle.control_word.proofs.history.Legal.{held_busy, sound}
use Rattle.control_word.proofs.history.Moving.{owner_counted}
use Rattle.control_word.proofs.history.Soundness.{IsBusy}
use Rattle.control_word.proofs.lists.Tallies.{tally_append}
use Rattle.control_word.proofs.steps.Leave.{leaves'}
use Rattle.control_word.proofs.steps.LeaveWithFunds.{leaves_with_funds, weak_leaves_with_funds}
use Rattle.control_word.proofs.steps.Lock.{locks}
use Rattle.control_word.proofs.steps.Share.{shares}
use Rattle.control_word.proofs.steps.Finish.{finds_finished, finishes'}
use Rattle.control_word.proofs.steps.WeakLeave.{weak_leaves'}
use Rattle.control_word.proofs.steps.WeakShare.{weak_shares}
use Rattle.control_word.proofs.words.Payments.{cond_one, counts_inside, one_at}
use Rattle.control_word.specs.HandFunds.{hand_funds, lacking, lacks, short_of, StandsFunded}
use Rattle.control_word.specs.Limits.{cell_funds, one_fund, one_funded}
use Rattle.control_word.specs.State.{count, weak}
use Rattle.control_word.specs.Steps.{FindsFinished, Finishes, ReadyBy}
use Rattle.control_word.specs.FundedSteps.{LeavesFunded, LocksFunded, SharesFunded, WeakLeavesFunded, WeakSharesFunded}

-- a test of two words with one answer
pub one_answer : (w b n m : ℕ) → (b ≡ m → w ≡ n) → (w ≡ n → b ≡ m) → (w == n) ≡ (b == m)
one_answer w b n m f g =
    ⊎_elim (λ (e : b ≡ m). eq-eqb w n (f e) ∙ sym (eq-eqb b m e)) (λ (ne : b ≢ m). ne_eqb w n (λ u. ne (g u)) ∙ sym (ne_eqb b m ne)) (cases_eq b m)

module _ {V : Type 0} where
  -- a desk that owes nothing before a step and after it lacks nothing then
  pub calm : (at : Point V) → ReadyBy StandsFunded at Idle → (seen : List (Entry V)) (i : ℕ)
      → lacking (set at.views at.seat (sees_as at.view Idle seen)) i ≡ lacking at.views i
  calm at ready seen i =
      let a = lacking_set at.views at.seat at.view Idle seen i ready.seated in let b = ap (λ p. lacks p i) ready.pending in omega arith

  module _ (at : Point V) (p : Pending V) (ready : ReadyBy StandsFunded at p) (k : Kind) (o : ℕ) (busy : IsBusy (state at) o) where
    pub inside : counts at k o < length (ready.stands.bare)
    inside = counts_inside at.opening ready.stands.bare at.views at.history ready.stands.stands at.seat at.view ready.seated ready.awake k o busy

  -- a handle more, with its funds
  gain : (at : Point V) (ready : ReadyBy StandsFunded at Idle) (k : Kind) (o : ℕ) (q : Option Place) (e : Event V) → IsBusy (state at) o
      → ((i : ℕ) → hand_funds (leads at.opening (entry (me at) e ∷ at.history)) i ≡ worth (blocks_of (state at)) (handle k (Some o) q) 0 i + hand_funds
      (state at) i)
      → let i = counts at k o in let h = entry (me at) e ∷ at.history in
      Stands at.opening (set ready.stands.bare i (suc (get_or ready.stands.bare i 0))) (set at.views at.seat (sees_as at.view Idle h)) h
      → StandsFunded at.opening (set at.words i (word at i + one_funded)) (set at.views at.seat (sees_as at.view Idle h)) h
  gain at ready k o q e busy hands stands =
      let i = counts at k o in let h = entry (me at) e ∷ at.history in let bare = ready.stands.bare in
      counted at.opening at.words at.views at.history ready.stands i (word at i + one_funded) (suc (get_or bare i 0)) 0 cell_funds 0 0
      (set at.views at.seat (sees_as at.view Idle h)) h stands (inside at Idle ready k o busy)
      (λ j. let a = hands j in let b = cond_one i j cell_funds in omega arith)
      (λ j. let a = calm at ready h j in omega arith)
      (omega arith)

  pub shares_funded : SharesFunded V
  shares_funded at o p q ready holds fine room =
      let busy = held_busy at.opening (state at) (me at) o Owner p (sound at.opening at.history ready.stands.stands.legal) holds in
      gain at ready Owner o q (Share (owner o p) q) busy (λ i. refl)
      (shares (bared at ready.stands) o p q (bare_ready at Idle ready) holds fine room)

  pub weak_shares_funded : WeakSharesFunded V
  weak_shares_funded at o p ready some' asks room =
      gain at ready Weak o p (WeakShare o p) some' (λ i. refl)
      (weak_shares (bared at ready.stands) o p (bare_ready at Idle ready) some' asks room)

  pub locks_funded : LocksFunded V
  locks_funded at o p ready holds =
      let is = ready.stands in
      let busy = held_busy at.opening (state at) (me at) o Weak p (sound at.opening at.history is.stands.legal) holds in
      let law = locks (bared at is) o p (bare_ready at Idle ready) holds in
      let h = entry (me at) (Lock (weak_of o p) false) ∷ at.history in (
        λ none. told at.opening at.words at.views at.history is (set at.views at.seat (sees_as at.view Idle h)) h
            (law.0 (zero_word at.opening at.words at.views at.history ready.stands Owner o busy none)) (λ i. let a = calm at ready h i in omega arith),
        λ some' room. gain at ready Owner o p (Lock (weak_of o p) true) busy (λ i. refl) (law.1
            (⊎_elim (λ (e : get_or is.bare (counts at Owner o) 0 ≡ 0). let t = zero_bare at.opening at.words at.views at.history ready.stands Owner o busy e
            in absurd (omega arith))
            (λ n. omega arith) (cases_eq (get_or is.bare (counts at Owner o) 0) 0)) room),
      )

  module _ (at : Point V) (k : Kind) (o f : ℕ) (p : Option Place) (ready : ReadyBy StandsFunded at (short_of k o p (counts at k o) f))
      (holds : Has (held (me at) (handle k (Some o) p)) (state at).hands) (few : f ≤ cell_funds) where
    i : ℕ
    i = counts at k o

    busy : IsBusy (state at) o
    busy = held_busy at.opening (state at) (me at) o k p (sound at.opening at.history ready.stands.stands.legal) holds

    -- what the desk's handle lacks, and what it has out
    mine : ((f ≡ cell_funds) × (at.view.pending ≡ Idle)) ⊎ (at.view.pending ≡ Paying k o p (counts at k o) f 0)
    mine = ⊎_elim (λ (e : f ≡ cell_funds). inl (e, ready.pending ∙ cond-true (f == cell_funds) Idle (Paying k o p (counts at k o) f 0) (eq-eqb f cell_funds e)))
        (λ (n : f ≢ cell_funds). inr (ready.pending ∙ cond-false (f == cell_funds) Idle (Paying k o p (counts at k o) f 0) (ne_eqb f cell_funds n)))
        (cases_eq f cell_funds)

    -- one handle that is counted is the only one in hand
    alone : tally k o (handles (state at)) ≡ 1 → hand_funds (state at) (counts at k o) ≤ cell_funds
    alone one =
        let a = hand_counts at.opening (state at) (sound at.opening at.history ready.stands.stands.legal) k o busy in
        let c = tally_append k o (map (λ (x : Held). x.handle) (state at).hands) (in_cells (state at)) in omega arith

    -- a desk that owes nothing: the word is the handle with its funds just where it is 1 without them
    rested : at.view.pending ≡ Idle → 0 < get_or ready.stands.bare (counts at k o) 0
        → ((get_or ready.stands.bare (counts at k o) 0 == 1) ≡ true → tally k o (handles (state at)) ≡ 1)
        → (one_funded ≤ word at (counts at k o)) × ((word at (counts at k o) == one_funded) ≡ (get_or ready.stands.bare (counts at k o) 0 == 1))
    rested idle some' only =
        let is = ready.stands in let b = get_or is.bare (counts at k o) 0 in let w = word at (counts at k o) in
        let a = lacking_fewer at.opening is.bare at.views at.history is.stands k o busy at.seat at.view ready.seated ready.awake p holds
        (ap (λ q. lacks q (counts at k o)) idle) in
        let c = is.funded (counts at k o) in (
          omega arith,
          one_answer w b one_funded 1
              (λ e. let t = alone (only (eq-eqb b 1 e)) in omega arith)
              (λ e. omega arith),
        )

    -- one that has funds out: the word is what it takes just where it is so without the others' funds
    paying : at.view.pending ≡ Paying k o p (counts at k o) f 0 → one_fund * f + 1 ≤ get_or ready.stands.bare (counts at k o) 0
        → ((get_or ready.stands.bare (counts at k o) 0 == one_fund * f + 1) ≡ true → tally k o (handles (state at)) ≡ 1)
        → (one_fund * f + 1 ≤ word at (counts at k o))
        × ((word at (counts at k o) == one_fund * f + 1) ≡ (get_or ready.stands.bare (counts at k o) 0 == one_fund * f + 1))
    paying out enough only =
        let is = ready.stands in let j = counts at k o in let b = get_or is.bare j 0 in let w = word at j in let n = one_fund * f + 1 in
        let a = lacking_few at.opening is.bare at.views at.history is.stands k o busy in
        let l = lacking_set at.views at.seat at.view Idle at.history j ready.seated in
        let own : lacks at.view.pending j ≡ cell_funds = ap (λ q. lacks q j) out ∙ cond-true (j == j) cell_funds 0 (eq-eqb j j refl) in
        let c = is.funded j in (
          omega arith,
          one_answer w b n n (λ e. let t = alone (only (eq-eqb b n e)) in omega arith) (λ e. omega arith),
        )

    -- the handle goes with the funds that it has
    parts : (a : Bool → Event V) → (e : Bool → List (Entry V)) → ((t : Bool) → e t ≡ entry (me at) (a t) ∷ at.history)
        → ((t : Bool) (i : ℕ) → hand_funds (leads at.opening (e t)) i + worth (blocks_of (state at)) (handle k (Some o) p) 0 i ≡ hand_funds (state at) i)
        → (at.view.pending ≡ Idle → let b = get_or ready.stands.bare (counts at k o) 0 in (0 < b)
        × (Stands at.opening (set ready.stands.bare (counts at k o) (b - 1)) (set at.views at.seat (sees_as at.view Idle (e (b == 1)))) (e (b == 1))))
        → (at.view.pending ≡ Paying k o p (counts at k o) f 0 → let b = get_or ready.stands.bare (counts at k o) 0 in let n = one_fund * f + 1 in (n ≤ b)
        × (Stands at.opening (set ready.stands.bare (counts at k o) (b - n)) (set at.views at.seat (sees_as at.view Idle (e (b == n)))) (e (b == n))))
        → ((t : Bool) → IsLegal at.opening (e t) → t ≡ true → tally k o (handles (state at)) ≡ 1)
        → let n = one_fund * f + 1 in let t = word at (counts at k o) == n in (n ≤ word at (counts at k o))
        × StandsFunded at.opening (set at.words (counts at k o) (word at (counts at k o) - n)) (set at.views at.seat (sees_as at.view Idle (e t))) (e t)
    parts a e is_e hands idle_law paying_law only = ⊎_elim rest owe mine
      where
        n : ℕ
        n = one_fund * f + 1

        w : ℕ
        w = word at (counts at k o)

        b : ℕ
        b = get_or ready.stands.bare (counts at k o) 0

        in_words : counts at k o < length (ready.stands.bare)
        in_words = counts_inside at.opening ready.stands.bare at.views at.history ready.stands.stands at.seat at.view ready.seated ready.awake k o busy

        rest : (f ≡ cell_funds) × (at.view.pending ≡ Idle) → (n ≤ w)
            × StandsFunded at.opening (set at.words (counts at k o) (w - n)) (set at.views at.seat (sees_as at.view Idle (e (w == n)))) (e (w == n))
        rest m =
            let law = idle_law m.1 in
            let t = rested m.1 law.0 (only (b == 1) law.1.legal) in
            let full = m.0 in
            let nn : n ≡ one_funded = omega arith in
            let same : (w == n) ≡ (b == 1) = ap (λ x. w == x) nn ∙ t.1 in
            let enough = t.0 in let law0 = law.0 in (
              omega arith,
              subst (λ x. StandsFunded at.opening (set at.words (counts at k o) (w - n)) (set at.views at.seat (sees_as at.view Idle (e x))) (e x)) (sym same)
                  (counted at.opening at.words at.views at.history ready.stands (counts at k o) (w - n) (b - 1) cell_funds 0 0 0
                  (set at.views at.seat (sees_as at.view Idle (e (b == 1)))) (e (b == 1)) law.1 in_words
                  (λ j. let x = hands (b == 1) j in let y = cond_one (counts at k o) j cell_funds in omega arith)
                  (λ j. let x = lacking_set at.views at.seat at.view Idle (e (b == 1)) j ready.seated in let y = ap (λ q. lacks q j) m.1 in omega arith)
                  (omega arith)),
            )

        owe : at.view.pending ≡ Paying k o p (counts at k o) f 0 → (n ≤ w)
            × StandsFunded at.opening (set at.words (counts at k o) (w - n)) (set at.views at.seat (sees_as at.view Idle (e (w == n)))) (e (w == n))
        owe m =
            let law = paying_law m in
            let t = paying m law.0 (only (b == n) law.1.legal) in
            let enough = t.0 in let law0 = law.0 in (
              enough,
              subst (λ x. StandsFunded at.opening (set at.words (counts at k o) (w - n)) (set at.views at.seat (sees_as at.view Idle (e x))) (e x)) (sym t.1)
                  (counted at.opening at.words at.views at.history ready.stands (counts at k o) (w - n) (b - n) cell_funds 0 cell_funds 0
                  (set at.views at.seat (sees_as at.view Idle (e (b == n)))) (e (b == n)) law.1 in_words
                  (λ j. let x = hands (b == n) j in let y = cond_one (counts at k o) j cell_funds in omega arith)
                  (λ j. let x = lacking_set at.views at.seat at.view Idle (e (b == n)) j ready.seated in
                  let y = ap (λ q. lacks q j) m ∙ cond_one (counts at k o) j cell_funds in omega arith)
                  (omega arith)),
            )

  -- a desk's half-done call, read without the funds of handles in hand
  bare_as : (at : Point V) (p q : Pending V) (ready : ReadyBy StandsFunded at p) → at.view.pending ≡ q → Ready (bared at ready.stands) q
  bare_as at p q ready e = record { stands = ready.stands.stands; seated = ready.seated; awake = ready.awake; pending = e }

  pub leaves_funded : LeavesFunded V
  unfolding count
  leaves_funded at o f p ready holds few =
      parts at Owner o f p ready holds few (λ t. Leave (owner o p) t) (λ t. entry (me at) (Leave (owner o p) t) ∷ at.history) (λ t. refl)
      (λ t j. hand_leaves (state at) (me at) (owner o p) t j holds)
      (λ idle. leaves' (bared at ready.stands) o p (bare_as at _ Idle ready idle) holds)
      (λ out. leaves_with_funds (bared at ready.stands) o f p (bare_as at _ (Paying Owner o p (counts at Owner o) f 0) ready out))
      (λ t legal is. eqb-true (count (state at) o) 1 (sym (legal.1.asks.1) ∙ is))

  pub weak_leaves_funded : WeakLeavesFunded V
  unfolding weak
  weak_leaves_funded at o f p ready holds few =
      parts at Weak o f p ready holds few (λ t. WeakLeave (weak_of o p) t) (λ t. entry (me at) (WeakLeave (weak_of o p) t) ∷ at.history) (λ t. refl)
      (λ t j. hand_weak_leaves (state at) (me at) o Weak p t j holds)
      (λ idle. weak_leaves' (bared at ready.stands) o p (bare_as at _ Idle ready idle) holds)
      (λ out. weak_leaves_with_funds (bared at ready.stands) o f p (bare_as at _ (Paying Weak o p (counts at Weak o) f 0) ready out))
      (λ t legal is. eqb-true (weak (state at) o) 1 ((and_parts _ _ (sym (legal.1.asks.1) ∙ is)).0))

  pub finishes_funded : Finishes V StandsFunded
  unfolding weak
  finishes_funded at o v ready is end cleared =
      let k = counts at Weak o in
      let one : common ((state at).object o).phase ≡ 1 = ap common end in
      let busy : IsBusy (state at) o = omega arith in
      let law = finishes' (bared at ready.stands) o v (bare_ready at Idle ready) is end cleared in
      let b = get_or ready.stands.bare k 0 in let w = word at k in
      let more = more_word at.opening at.words at.views at.history ready.stands Weak o busy in
      let h = λ (t : Bool). entry (me at) (Finish o t v) ∷ at.history in
      let law0 = law.0 in
      let same : (w == 1) ≡ (b == 1) = one_answer w b 1 1
      (λ e. let t : weak (state at) o ≡ 0 = eqb-true (weak (state at) o) 0 (sym (law.1.legal.1.asks.2) ∙ eq-eqb b 1 e) in
      let u = none_in_hand at.opening at.words at.views at.history ready.stands Weak o busy t in omega arith) (λ e. omega arith) in (
        omega arith,
        subst (λ x. StandsFunded at.opening (set at.words k (w - 1)) (set at.views at.seat (sees_as at.view Idle (h x))) (h x)) (sym same)
            (counted at.opening at.words at.views at.history ready.stands k (w - 1) (b - 1) 0 0 0 0 (set at.views at.seat (sees_as at.view Idle (h (b == 1))))
            (h (b == 1)) law.1 (inside at Idle ready Weak o busy)
            (λ j. let x = hand_finishes (state at) (me at) o (b == 1) j in omega arith)
            (λ j. let a = calm at ready (h (b == 1)) j in omega arith)
            (omega arith)),
      )

  pub finds_finished_funded : FindsFinished V StandsFunded
  finds_finished_funded at o v ready is end cleared keeps found =
      let k = counts at Weak o in
      let one : common ((state at).object o).phase ≡ 1 = ap common end in
      let busy : IsBusy (state at) o = omega arith in
      let some' = (finishes' (bared at ready.stands) o v (bare_ready at Idle ready) is end cleared).0 in
      let more = more_word at.opening at.words at.views at.history ready.stands Weak o busy in
      let h = entry (me at) (Finish o true v) ∷ at.history in
      told at.opening at.words at.views at.history ready.stands (set at.views at.seat (sees_as at.view Idle h)) h
      (finds_finished (bared at ready.stands) o v (bare_ready at Idle ready) is end cleared keeps (omega arith))
      (λ j. let x = hand_finishes (state at) (me at) o true j in let a = calm at ready h j in omega arith)
