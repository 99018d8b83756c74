-- Lock: the look for an owner and the compare-exchange are allowed.
use Rattle.std.proofs.Common.{◌≡◌, ℕ, ◌+◌, ◌<◌, Bool, true, false, not, ◌≢◌, ◌∷◌}
use Rattle.std.proofs.Common.{◌++◌, map, get_or, set, ◌==◌, None, Option, sym, refl, ap, ◌∙◌}
use Rattle.std.proofs.Common.{subst, ⊎_elim, arith}
use Rattle.control_block.proofs.Prelude
use Prelude.{Allows, At, cases_eq, either, entry, Event, has_headroom_funded, HasRoomFor, held_busy}
use Prelude.{HoldingInBlock, Idle, IsLegal, keeps, leads, Lock, locked, none, opening_of, Owner}
use Prelude.{Place, Rests, Ruled, SeatView, seeing, sees_as, Shape, sought_owner, sound, spot}
use Prelude.{StandsFunded, step, tells, view_of, Weak, weak_of}
use Rattle.control_word.proofs.funded.Counts as law
use Rattle.control_block.specs.LockStepKinds.{GotOwner, earlier}
use Rattle.control_block.proofs.Passage.{adds, held_there, plain, point, quiet_next, ready}
use Rattle.control_block.proofs.Passage.{still_room}
use Rattle.control_block.proofs.words.Still.{allows_exchange, unmoved}
use Rattle.control_block.proofs.kept.Look.{looked}
use Rattle.control_block.proofs.kept.Share.{fits_one}

module _ {V : Type 0} where
  -- what a lock told is what its step found
  pub got_owner : (v w : SeatView V) (o : ℕ) (p : Option Place) (got : Bool) → tells (Lock (weak_of o p) got) v w → GotOwner o got w
  got_owner v w o p got a =
      let seen = ap (λ (u : SeatView V). u.view.seen) a.now in let shape = ap (λ (u : SeatView V). u.shape) a.now in
      subst (λ h. got ≡ not (Rattle.control_word.specs.State.count (leads (opening_of w.shape) (earlier h)) o == 0)) (sym seen)
      (subst (λ k. got ≡ not (Rattle.control_word.specs.State.count (leads (opening_of k) (a.between ++ v.view.seen)) o == 0)) (sym shape)
      (subst (IsLegal (opening_of v.shape)) seen a.legal).1.asks.1)

  pub allows_seek : (k : Shape) (slots id b o i : ℕ) (p : Option Place) (me : At V) → Rests me → HoldingInBlock me.0 Weak o p b → i ≡ spot b 0
      → Allows (Ruled k) slots id me i (λ n. n) (sought_owner o p (step slots i 0 0 none) me)
  allows_seek k slots id b o i p me rests holds e s r sized at small =
      let v = me.0 in let z = opening_of k in let n = get_or s.words i 0 in
      let now = ready k s r id v at rests.awake Idle rests.idle in
      let mine = held_there k s r id v at rests.awake Weak o p b holds in
      let same : spot ((leads z r.history).object o).block 0 ≡ i = ap (λ x. spot x 0) mine.1 ∙ sym e in
      let busy = held_busy z (leads z r.history) v.view.name o Weak p (sound z r.history r.stands.stands.legal) mine.0 in
      let head = has_headroom_funded (point k s r id v) Idle now Owner o busy in
      let ev : Event V = Lock (weak_of o p) false in let h = entry v.view.name ev ∷ r.history in
      ⊎_elim
      (λ (q : n ≡ 0).
      let told = (law.locks_funded (point k s r id v) o p now mine.0).0 (ap (λ x. get_or s.words x 0) same ∙ q) in (
        seeing v Idle None h,
        keeps,
        tt,
        quiet_next k s r id v (set s.words i n) ev Idle at rests.awake rests.empty
            (plain (λ t d. refl) (λ t d. refl) (λ t f. refl)) (looked z s.words i _ h told),
        (λ _. (adds k s r id v at rests.awake Idle None ev told.stands.legal, refl), λ m. absurd (m q)),
      ))
      (λ (q : n ≢ 0). (
        v,
        keeps,
        tt,
        unmoved k s id i v r at,
        (
          λ m. absurd (q m),
          λ _. (
            refl,
            subst (λ x. get_or s.words x 0 + 1099511627777 < 18446744073709551616) same (fits_one _ head.1),
          ),
        ),
      )) (cases_eq n 0)

  pub allows_lock : (k : Shape) (slots id b o i found : ℕ) (p : Option Place) (me : At V) → Rests me → HoldingInBlock me.0 Weak o p b → HasRoomFor me.0
      → found ≢ 0 → i ≡ spot b 0
      → Allows (Ruled k) slots id me i (λ n. either (n == found) (found + 1099511627777) n) (locked o p (step slots i found (found + 1099511627777) none) me)
  allows_lock k slots id b o i found p me rests holds more some' e =
      allows_exchange k slots id i found (found + 1099511627777) me (locked o p (step slots i found (found + 1099511627777) none) me) (λ s r at q. (
        λ m.
            absurd (q m),
        λ _. refl,
      ))
      (λ s r at q.
      let v = me.0 in let z = opening_of k in let views = map view_of s.views in
      let now = ready k s r id v at rests.awake Idle rests.idle in
      let mine = held_there k s r id v at rests.awake Weak o p b holds in
      let same : spot ((leads z r.history).object o).block 0 ≡ i = ap (λ x. spot x 0) mine.1 ∙ sym e in
      let ev : Event V = Lock (weak_of o p) true in let h = entry v.view.name ev ∷ r.history in
      let there : get_or s.words (spot ((leads z r.history).object o).block 0) 0 ≡ found = ap (λ x. get_or s.words x 0) same ∙ q in
      let told = (law.locks_funded (point k s r id v) o p now mine.0).1 (omega arith) (still_room k s r id v at rests.awake more) in
      let stands = subst (λ m. StandsFunded z (set s.words i (m + 1099511627777)) (set views id (sees_as v.view Idle h)) h) q
      (subst (λ x. StandsFunded z (set s.words x (get_or s.words x 0 + 1099511627777)) (set views id (sees_as v.view Idle h)) h) same told) in (
        seeing v Idle None h,
        quiet_next k s r id v (set s.words i (found + 1099511627777)) ev Idle at rests.awake rests.empty
            (plain (λ t d. refl) (λ t d. refl) (λ t f. refl)) stands,
        (λ _. (adds k s r id v at rests.awake Idle None ev told.stands.legal, refl), λ m. absurd (m refl)),
      ))
