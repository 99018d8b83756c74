-- What a call has of a handle's funds: brought before a step, and settled, topped up or turned after it.
use Rattle.std.proofs.Common.{◌≡◌, ℕ, zero, suc, ◌+◌, ◌-◌, ◌*◌, ◌<◌, ◌≤◌, true, false, cond, ◌≢◌, ◌⊎◌, List, [], ◌∷◌, length, get_or}
use Rattle.std.proofs.Common.{set, ◌==◌, Some, None, Option, sym, refl, ap, subst, ⊎_elim, arith, eq-eqb, ne_eqb}
use Rattle.control_word.proofs.Prelude
use Prelude.{blocks_of, cases_eq, cond-false, cond-true, counts, counts_at}
use Prelude.{Entry, Fits, get_elem?, handle, Has, held, Idle, Kind, leads}
use Prelude.{me, NumberedHandle, Opening, Paying, Pending, Place, Point, purse, sees_as, some, state}
use Prelude.{value, View, word, worth}
use Rattle.control_word.proofs.funded.Apart.{set_again, set_found}
use Rattle.control_word.proofs.funded.Next.{bare_ready, bared, counted, lacking_set, told}
use Rattle.control_word.proofs.history.Legal.{held_busy, sound}
use Rattle.control_word.proofs.history.Soundness.{IsBusy}
use Rattle.control_word.proofs.steps.Bring.{brings}
use Rattle.control_word.proofs.steps.GiveBack.{gives_back}
use Rattle.control_word.proofs.steps.Look.{looks_on}
use Rattle.control_word.proofs.steps.Turn.{turns}
use Rattle.control_word.proofs.words.Payments.{cond_one, counts_inside}
use Rattle.control_word.specs.HandFunds.{drawn, lacking, lacks, StandsFunded}
use Rattle.control_word.specs.Limits.{cell_funds, fund_turned, one_fund}
use Rattle.control_word.specs.Steps.{ReadyBy}
use Rattle.control_word.specs.FundedSteps.{TopsUp, TurnsFunded}

-- a word that is written as it is
set_read : (l : List ℕ) (i : ℕ) → set l i (get_or l i 0) ≡ l
set_read [] i = refl
set_read (x ∷ xs) zero = refl
set_read (x ∷ xs) (suc i) = ap (λ l. x ∷ l) (set_read xs i)

module _ (V : Type 0) where
  -- what a call has of a handle's funds, all of them are lacking
  pub purse_lacks : (block : ℕ → ℕ) (h : NumberedHandle) (f i : ℕ) → lacks {V = V} (purse {V = V} block h f) i ≡ worth block h 0 i
  purse_lacks block h f i = go h.object
    where
      go : (n : Option ℕ) → lacks {V = V} (purse {V = V} block (handle h.kind n h.place) f) i ≡ worth block (handle h.kind n h.place) 0 i
      go None = refl
      go (Some o) = refl

module _ {V : Type 0} where
  same : {us : List (View V)} {z : Opening} {h : List (Entry V)} (words : List ℕ) (i : ℕ) → StandsFunded z (set words i (get_or words i 0)) us h
      → StandsFunded z words us h
  same {us} {z} {h} words i st = subst (λ (w : List ℕ). StandsFunded z w us h) (set_read words i) st

  -- the desk goes on with this half-done call
  abbrev pub turned : Point V → Pending V → Point V
  turned at p = record at { views = set at.views at.seat (sees_as at.view p at.history); view = sees_as at.view p at.history }

  pub turned_ready : (at : Point V) (p q : Pending V) (ready : ReadyBy StandsFunded at p)
      → StandsFunded at.opening at.words (set at.views at.seat (sees_as at.view q at.history)) at.history → ReadyBy StandsFunded (turned at q) q
  turned_ready at p q ready stands = record {
    stands = stands;
    seated = set_found at.views at.seat at.view (sees_as at.view q at.history) ready.seated;
    awake = ready.awake;
    pending = refl;
  }

  turned_views : (at : Point V) (p q : Pending V) (seen : List (Entry V))
      → set (turned at p).views at.seat (sees_as (turned at p).view q seen) ≡ set at.views at.seat (sees_as at.view q seen)
  turned_views at p q seen = set_again at.views at.seat (sees_as at.view p at.history) (sees_as at.view q seen)

  paying_few : (at : Point V) (k : Kind) (o f l : ℕ) (p : Option Place) → ReadyBy StandsFunded at (Paying k o p (counts at k o) f l)
      → IsBusy (state at) o × (f ≤ cell_funds)
  paying_few at k o f l p ready =
      let is = ready.stands.stands in
      let fits : Fits ready.stands.bare (state at) (value at.opening at.history) (me at) (Paying k o p (counts at k o) f l) =
      subst (Fits ready.stands.bare (state at) (value at.opening at.history) (me at)) ready.pending
      (is.team.seated at.seat at.view ready.seated ready.awake).fits in
      (held_busy at.opening (state at) (me at) o k p (sound at.opening at.history is.legal) fits.0, fits.4)

  pub counted_in : (at : Point V) (p : Pending V) (ready : ReadyBy StandsFunded at p) (k : Kind) (o : ℕ) → IsBusy (state at) o
      → counts at k o < length (ready.stands.bare)
  counted_in at p ready k o busy =
      counts_inside at.opening ready.stands.bare at.views at.history ready.stands.stands at.seat at.view ready.seated ready.awake k o busy

  -- a desk that has a handle may say that its call has the handle's funds out
  brought : (at : Point V) (k : Kind) (o : ℕ) (p : Option Place) → ReadyBy StandsFunded at Idle → Has (held (me at) (handle k (Some o) p)) (state at).hands
      → StandsFunded at.opening at.words (set at.views at.seat (sees_as at.view (Paying k o p (counts at k o) cell_funds 0) at.history)) at.history
  brought at k o p ready has =
      let is = ready.stands in let i = counts at k o in
      let law = brings (bared at is) k o cell_funds p (bare_ready at Idle ready) has (omega arith) in
      let q : Pending V = Paying k o p i cell_funds 0 in
      let us = set at.views at.seat (sees_as at.view q at.history) in
      let busy = held_busy at.opening (state at) (me at) o k p (sound at.opening at.history is.stands.legal) has in
      same at.words i (counted at.opening at.words at.views at.history is i (word at i) (get_or is.bare i 0 + one_fund * cell_funds) 0 0 0 cell_funds us
      at.history law
      (counted_in at Idle ready k o busy) (λ j. omega arith)
      (λ j. let x = lacking_set at.views at.seat at.view q at.history j ready.seated in let y = ap (λ c. lacks c j) ready.pending in
      let w = cond_one i j cell_funds in omega arith) (omega arith))

  -- and one that has all of them in hand owes nothing
  settled : (at : Point V) (k : Kind) (o : ℕ) (p : Option Place) → ReadyBy StandsFunded at (Paying k o p (counts at k o) cell_funds 0)
      → StandsFunded at.opening at.words (set at.views at.seat (sees_as at.view Idle at.history)) at.history
  settled at k o p ready =
      let is = ready.stands in let i = counts at k o in
      let law = gives_back (bared at is) k o cell_funds p (bare_ready at _ ready) in
      let us = set at.views at.seat (sees_as at.view Idle at.history) in
      let busy = (paying_few at k o cell_funds 0 p ready).0 in
      let enough = law.0 in
      same at.words i (counted at.opening at.words at.views at.history is i (word at i) (get_or is.bare i 0 - one_fund * cell_funds) 0 0 cell_funds 0 us
      at.history
      law.1 (counted_in at _ ready k o busy) (λ j. omega arith)
      (λ j. let x = lacking_set at.views at.seat at.view Idle at.history j ready.seated in let y = ap (λ c. lacks c j) ready.pending in
      let w = cond_one i j cell_funds in omega arith) (omega arith))

  -- what a handle lacks is brought
  pub tops_up : TopsUp V
  tops_up at k o f p ready =
      let is = ready.stands in let i = counts at k o in
      let law = gives_back (bared at is) k o f p (bare_ready at _ ready) in
      let us = set at.views at.seat (sees_as at.view Idle at.history) in
      let t = paying_few at k o f 0 p ready in
      let enough = law.0 in let few = t.1 in
      counted at.opening at.words at.views at.history is i (word at i + one_fund * (cell_funds - f)) (get_or is.bare i 0 - one_fund * f) 0 0 cell_funds 0 us
      at.history law.1 (counted_in at _ ready k o t.0) (λ j. omega arith)
      (λ j. let x = lacking_set at.views at.seat at.view Idle at.history j ready.seated in let y = ap (λ c. lacks c j) ready.pending in
      let w = cond_one i j cell_funds in omega arith) (omega arith)

  -- the fund of a load under way becomes a handle, and the others of its funds are brought
  pub turns_funded : TurnsFunded V
  turns_funded at k o p ready =
      let is = ready.stands in let i = counts at k o in
      let law = turns (bared at is) k o p (bare_ready at _ ready) in
      let us = set at.views at.seat (sees_as at.view Idle at.history) in
      let t = paying_few at k o 1 1 p ready in
      let enough = law.0 in
      counted at.opening at.words at.views at.history is i (word at i + one_fund * (cell_funds - 1) + 1) (get_or is.bare i 0 - fund_turned) 0 0 cell_funds 0 us
      at.history law.1 (counted_in at _ ready k o t.0) (λ j. omega arith)
      (λ j. let x = lacking_set at.views at.seat at.view Idle at.history j ready.seated in let y = ap (λ c. lacks c j) ready.pending in
      let w = cond_one i j cell_funds in omega arith) (omega arith)

  -- what goes in: with an object its funds go with it, and without one there are none
  module _ (at : Point V) (ready : ReadyBy StandsFunded at Idle) where
    pub into : (k : Kind) (n : Option ℕ) (p : Option Place) → ((n ≡ None) ⊎ Has (held (me at) (handle k n p)) (state at).hands)
        → StandsFunded at.opening at.words (set at.views at.seat (sees_as at.view (purse (blocks_of (state at)) (handle k n p) cell_funds) at.history))
        at.history
    into k None p why = told at.opening at.words at.views at.history ready.stands (set at.views at.seat (sees_as at.view Idle at.history)) at.history
        (looks_on (bared at ready.stands) (bare_ready at Idle ready))
        (λ i. let x = lacking_set at.views at.seat at.view Idle at.history i ready.seated in let y = ap (λ c. lacks c i) ready.pending in omega arith)
    into k (Some o) p why = brought at k o p ready (⊎_elim (λ e. absurd (none e)) (λ t. t) why)
      where
        none : {o : ℕ} → Some o ≡ None → ⊥
        none e = cc

  -- what came out with all its funds owes nothing
  pub come_out : (at : Point V) → get_elem? at.views at.seat ≡ some at.view → at.view.spent ≡ false
      → (words : List ℕ) (h : List (Entry V)) (block : ℕ → ℕ) → block ≡ blocks_of (leads at.opening h) → (k : Kind) (n : Option ℕ) (p : Option Place) (f : ℕ)
      → StandsFunded at.opening words (set at.views at.seat (sees_as at.view (purse block (handle k n p) f) h)) h
      → StandsFunded at.opening words (set at.views at.seat (sees_as at.view (drawn block (handle k n p) f) h)) h
  come_out at seated awake words h block same' k None p f st = st
  come_out at seated awake words h block same' k (Some o) p f st =
      let w = counts_at block k o in
      ⊎_elim
      (λ (e : f ≡ cell_funds).
      subst (λ (q : Pending V). StandsFunded at.opening words (set at.views at.seat (sees_as at.view q h)) h)
      (sym (cond-true (f == cell_funds) Idle (Paying k o p w f 0) (eq-eqb f cell_funds e)))
      (let q : Pending V = Paying k o p w f 0 in
      let at' : Point V = record {
        opening = at.opening;
        words = words;
        views = set at.views at.seat (sees_as at.view q h);
        history = h;
        seat = at.seat;
        view = sees_as at.view q h;
      } in
      let r : ReadyBy StandsFunded at' (Paying k o p (counts at' k o) cell_funds 0) = record {
        stands = st;
        seated = set_found at.views at.seat at.view (sees_as at.view q h) seated;
        awake = awake;
        pending = λ i. Paying k o p (counts_at (same' i) k o) (e i) 0;
      } in
      subst (λ (us : List (View V)). StandsFunded at.opening words us h) (set_again at.views at.seat (sees_as at.view q h) (sees_as at.view Idle h))
      (settled at' k o p r)))
      (λ (n : f ≢ cell_funds).
      subst (λ (q : Pending V). StandsFunded at.opening words (set at.views at.seat (sees_as at.view q h)) h)
      (sym (cond-false (f == cell_funds) Idle (Paying k o p w f 0) (ne_eqb f cell_funds n))) st)
      (cases_eq f cell_funds)
