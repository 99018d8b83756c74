-- How a block is made, where each handle in hand has its funds: a new owner has them from its claim on.
use Rattle.std.proofs.Common.{◌≡◌, ℕ, suc, ◌+◌, ◌-◌, ◌*◌, ◌<◌, ◌≤◌, Bool, false, cond, ◌≢◌, List, [], ◌∷◌, length, get_or, set, Some, Option, sym, refl, ap}
use Rattle.std.proofs.Common.{◌∙◌, subst}
use Rattle.std.proofs.Common.{⊎_elim, arith, eq-eqb}
use Rattle.control_word.proofs.Prelude
use Prelude.{Block, blocks_of, cases_eq, counts_at, Entry, entry, flags_of, handle, Has, Idle, leads, Make, Making, me, new_object, Object, origin, Owner}
use Prelude.{Pending, Point}
use Prelude.{put, Ready, sees_as, spot, Stands, state, State, stored, View, word, worth}
use Rattle.control_word.proofs.funded.Apart.{body_apart, stored_apart}
use Rattle.control_word.proofs.funded.Events.{hand_made}
use Rattle.control_word.proofs.funded.Hands.{hand_none, lacking_none, worth_here, worth_else}
use Rattle.control_word.proofs.funded.Next.{bare_ready, bared, beside, IsApart, lacking_set, next, plain_word, told}
use Rattle.control_word.proofs.history.Legal.{sound}
use Rattle.control_word.proofs.history.Making.{made_state}
use Rattle.control_word.proofs.history.Soundness.{Sound}
use Rattle.control_word.proofs.lists.Tallies.{put_same}
use Rattle.control_word.proofs.steps.Claim.{claims}
use Rattle.control_word.proofs.steps.Begin.{finds_weak_word, writes_weak_word}
use Rattle.control_word.proofs.steps.Write.{writes_word}
use Rattle.control_word.proofs.words.Frames.{spot_fits}
use Rattle.control_word.specs.FundedSteps.{ClaimsFunded}
use Rattle.control_word.specs.HandFunds.{hand_funds, lacking, lacks, StandsFunded}
use Rattle.control_word.specs.Limits.{cell_funds, one_fund, one_funded}
use Rattle.control_word.specs.Steps.{FindsWeakWord, known_of, ReadyBy, WritesWeakWord, WritesWord}
use Rattle.control_word.proofs.Prelude.{Fits, value}

module _ {V : Type 0} where
  module _ (at : Point V) (p : Pending V) (ready : ReadyBy StandsFunded at p) (b : Block) (mine : Has (stored (me at) b.0) (state at).stores) where
    fine' : Sound at.opening (state at)
    fine' = sound at.opening at.history ready.stands.stands.legal

    -- a word of a block of the desk's store
    own_apart : (j : ℕ) → j < 16 → IsApart (state at) (spot b.0 j)
    own_apart j lt = stored_apart at.opening (state at) fine' (me at) b.0 j mine lt

    own_same : (j : ℕ) → j < 16 → word at (spot b.0 j) ≡ get_or ready.stands.bare (spot b.0 j) 0
    own_same j lt = plain_word at.opening at.words at.views at.history ready.stands (spot b.0 j) (own_apart j lt)

    own_in : (j : ℕ) → j < 16 → spot b.0 j < length (ready.stands.bare)
    own_in j lt =
        let u = spot_fits at.opening b.0 j (fine'.stores (me at) b.0 mine).1 lt in let t = ready.stands.stands.shows.sized in omega arith

    -- a write of it
    writes : (j n : ℕ) (q : Pending V) → j < 16 → ((i : ℕ) → lacks p i ≡ 0) → ((i : ℕ) → lacks q i ≡ 0)
        → Stands at.opening (set ready.stands.bare (spot b.0 j) n) (set at.views at.seat (sees_as at.view q at.history)) at.history
        → StandsFunded at.opening (set at.words (spot b.0 j) n) (set at.views at.seat (sees_as at.view q at.history)) at.history
    writes j n q lt none none' law =
        beside at.opening at.words at.views at.history ready.stands (spot b.0 j) n (set at.views at.seat (sees_as at.view q at.history)) at.history law
        (own_in j lt) (own_apart j lt)
        (λ i. let x = lacking_set at.views at.seat at.view q at.history i ready.seated in let y = ap (λ c. lacks c i) ready.pending in
        let a = none i in let c = none' i in omega arith)

  store_of : (at : Point V) (b : Block) (known : List ℕ) → ReadyBy StandsFunded at (Making b known) → Has (stored (me at) b.0) (state at).stores
  store_of at b known ready =
      let is = ready.stands.stands in
      let fits : Fits ready.stands.bare (state at) (value at.opening at.history) (me at) (Making b known) =
      subst (Fits ready.stands.bare (state at) (value at.opening at.history) (me at)) ready.pending
      (is.team.seated at.seat at.view ready.seated ready.awake).fits in fits.0

  known_same : (at : Point V) (ready : ReadyBy StandsFunded at Idle) (b : Block) → Has (stored (me at) b.0) (state at).stores
      → known_of ready.stands.bare b.0 ≡ known_of at.words b.0
  known_same at ready b mine =
      let r = λ (j : ℕ) (lt : j < 16). own_same at Idle ready b mine j lt in
      λ i. sym (r 2 (omega arith)) i ∷ sym (r 3 (omega arith)) i ∷ sym (r 4 (omega arith)) i ∷ sym (r 5 (omega arith)) i ∷ sym (r 6 (omega arith)) i ∷ []

  pub finds_weak_word_funded : FindsWeakWord V StandsFunded
  finds_weak_word_funded at ready b mine found =
      let p : Pending V = Making b (known_of at.words b.0) in
      let law = finds_weak_word (bared at ready.stands) (bare_ready at Idle ready) b mine (sym (own_same at Idle ready b mine 1 (omega arith)) ∙ found) in
      told at.opening at.words at.views at.history ready.stands (set at.views at.seat (sees_as at.view p at.history)) at.history
      (subst (λ l. Stands at.opening ready.stands.bare (set at.views at.seat (sees_as at.view (Making b l) at.history)) at.history)
      (known_same at ready b mine) law)
      (λ i. let x = lacking_set at.views at.seat at.view p at.history i ready.seated in let y = ap (λ c. lacks c i) ready.pending in omega arith)

  pub writes_weak_word_funded : WritesWeakWord V StandsFunded
  writes_weak_word_funded at ready b mine =
      let law = writes_weak_word (bared at ready.stands) (bare_ready at Idle ready) b mine in
      let same = known_same at ready b mine in
      writes at Idle ready b mine 1 1 (Making b (known_of at.words b.0)) (omega arith) (λ i. refl) (λ i. refl)
      (subst (λ l. Stands at.opening (set ready.stands.bare (spot b.0 1) 1) (set at.views at.seat (sees_as at.view (Making b l) at.history)) at.history) same
      law)

  pub writes_word_funded : WritesWord V StandsFunded
  writes_word_funded at b known ready five j n lt =
      let law = writes_word (bared at ready.stands) b known (bare_ready at (Making b known) ready) five j n lt in
      let mine = store_of at b known ready in (
        own_same at (Making b known) ready b mine (2 + j) (omega arith) ∙ law.0,
        writes at (Making b known) ready b mine (2 + j) n (Making b (set known j n)) (omega arith) (λ i. refl) (λ i. refl) law.1,
      )

  pub claims_funded : ClaimsFunded V
  claims_funded at b enabled null fields v ready four room =
      let z = at.opening in let s = state at in
      let p : Pending V = Making b (flags_of enabled null ∷ fields) in
      let mine = store_of at b (flags_of enabled null ∷ fields) ready in
      let fine = fine' at p ready b mine in
      let h = entry (me at) (Make b enabled null fields v) ∷ at.history in
      let t = made_state z s (me at) b.0 enabled null fields in
      let k = spot b.0 0 in
      let law = claims (bared at ready.stands) b enabled null fields v (bare_ready at p ready) four room in
      let apart = own_apart at p ready b mine 0 (omega arith) in
      let us = set at.views at.seat (sees_as at.view Idle h) in
      let place : blocks_of t (suc s.made) ≡ b.0 = ap (λ (x : Object). x.block) (put_same s.object (suc s.made) (new_object s.owners b.0 enabled null fields)
      (suc s.made) refl) in
      let here : counts_at (blocks_of t) Owner (suc s.made) ≡ k = ap (λ c. spot c 0) place in
      let lack : (i : ℕ) → lacking us i ≡ lacking at.views i = λ i. let x = lacking_set at.views at.seat at.view Idle h i ready.seated in
      let y = ap (λ c. lacks c i) ready.pending in omega arith in
      next z at.words at.views at.history ready.stands k one_funded 1 us h law (own_in at p ready b mine 0 (omega arith))
      (λ i ne. let a = hand_made z s (me at) b.0 enabled null fields i fine in
      let w = worth_else (blocks_of t) Owner (suc s.made) (origin b.0 null) i (λ e. ne (e ∙ here)) in let l = lack i in omega arith)
      (let a = hand_made z s (me at) b.0 enabled null fields k fine in
      let w = worth_here (blocks_of t) Owner (suc s.made) (origin b.0 null) k (sym here) in
      let x = hand_none z s fine k apart in
      let y = lacking_none z ready.stands.bare at.views at.history ready.stands.stands k apart in
      let l = lack k in omega arith)
