-- Looks, which change no word: use_count, expired, and a field.
use Rattle.std.proofs.Common.{◌≡◌, ℕ, ◌+◌, ◌*◌, ◌/◌, ◌%◌, ◌<◌, false, List, ◌∷◌, map, get_or, set}
use Rattle.std.proofs.Common.{◌==◌, Some, Option, sym, refl, ap, ◌∙◌, subst, inl, arith}
use Rattle.control_block.proofs.Prelude
use Prelude.{Allows, At, Count, Entry, entry, Expired, get_elem?, handle, HoldingInBlock, Idle}
use Prelude.{Kind, leads, load_is_write, none, Opening, opening_of, Owner, owner, Place, Read}
use Prelude.{Rests, Ruled, sees_as, Shape, some, spot, StandsFunded, step, View, view_of, Weak, weak_of}
use Rattle.control_word.proofs.history.Sole.{alone as acts_alone}
use Rattle.control_word.proofs.funded.Looks as law
use Rattle.control_word.proofs.views.Resting.{sole_owes}
use Rattle.control_word.specs.State.{count}
use Rattle.control_word.specs.Packing.{told}
use Rattle.control_block.specs.StepKinds.{counted, found_expired, read}
use Rattle.control_block.proofs.Passage.{allows_event, allows_telling, held_there, plain, point}
use Rattle.control_block.proofs.Passage.{ready}

halved : (n : ℕ) → n ≡ n % 4294967296 + 4294967296 * (n / 4294967296)
halved n = omega arith

low_half : (n : ℕ) → n % 4294967296 < 4294967296
low_half n = omega arith

module _ {V : Type 0} where
  -- where a desk has the whole allowance, no other is left
  pub alone : (z : Opening) (words : List ℕ) (views : List (View V)) (h : List (Entry V)) → StandsFunded z words views h → (i : ℕ) (v : View V)
      → get_elem? views i ≡ some v → v.spent ≡ false → (leads z h).allowance v.name ≡ z.allowance → (j : ℕ) (u : View V)
      → get_elem? views j ≡ some u
      → u.spent ≡ false → j ≡ i
  alone z words views h stands i v at awake whole j u there un =
      let acts = (stands.stands.team.seated j u there un).acts u.name (inl refl) in
      stands.stands.team.names j i u v there at un awake v.name
      (inl (acts_alone z h stands.stands.legal v.name u.name whole acts)) (inl refl)

  -- a load is a write of what is there
  pub looked : (z : Opening) (words : List ℕ) (i : ℕ) (views : List (View V)) (h : List (Entry V)) → StandsFunded z words views h
      → StandsFunded z (set words i (get_or words i 0)) views h
  looked z words i views h stands = subst (λ l. StandsFunded z l views h) (sym (load_is_write words i)) stands

  pub allows_count : (k : Shape) (slots id b o i : ℕ) (m : Kind) (p : Option Place) (me : At V) → Rests me → HoldingInBlock me.0 m o p b
      → i ≡ spot b 0
      → Allows (Ruled k) slots id me i (λ n. n) (counted m o p (step slots i 0 0 none) me)
  allows_count k slots id b o i m p me rests holds e =
      allows_telling k slots id i me (λ n. n)
      (λ n. Count (handle m (Some o) p) (told n)) Idle (counted m o p (step slots i 0 0 none) me) rests.awake rests.empty
      (λ n. (plain (λ s d. refl) (λ s d. refl) (λ s f. refl)))
      (λ s r at small.
      let v = me.0 in let z = opening_of k in let views = map view_of s.views in
      let mine = held_there k s r id v at rests.awake m o p b holds in
      let j = spot ((leads z r.history).object o).block 0 in let same : j ≡ i = ap (λ x. spot x 0) mine.1 ∙ sym e in
      let n = get_or s.words i 0 in
      let now = ready k s r id v at rests.awake Idle rests.idle in
      let t = law.tells_count_funded (point k s r id v) m o p (n % 4294967296) (n / 4294967296) now mine.0 (ap (λ x. get_or s.words x 0) same
      ∙ halved n) (low_half n) in (
        looked z s.words i _ _ t.0,
        λ a. (
          a,
          refl,
          λ whole. t.1 (sole_owes z r.stands.bare views r.history r.stands.stands id v.view now.seated rests.awake rests.idle
              (subst (λ y. (leads (opening_of y) r.history).allowance v.view.name ≡ y.allowance) (r.shapes id v at rests.awake) whole) j)
              ∙ ap (λ y. count (leads (opening_of y) r.history) o) (sym (r.shapes id v at rests.awake)),
        ),
      ))

  pub allows_expired : (k : Shape) (slots id b o i : ℕ) (p : Option Place) (me : At V) → Rests me → HoldingInBlock me.0 Weak o p b → i ≡ spot b 0
      → Allows (Ruled k) slots id me i (λ n. n) (found_expired o p (step slots i 0 0 none) me)
  allows_expired k slots id b o i p me rests holds e =
      allows_event k slots id i me (λ n. n) (λ n. Expired (weak_of o p) (n == 0)) Idle rests.awake rests.empty
      (λ n. (plain (λ s d. refl) (λ s d. refl) (λ s f. refl)))
      (λ s r at small.
      let v = me.0 in let z = opening_of k in let views = map view_of s.views in
      let mine = held_there k s r id v at rests.awake Weak o p b holds in
      let same = ap (λ x. spot x 0) mine.1 ∙ sym e in
      let h : ℕ → List (Entry V) = λ x. entry v.view.name (Expired (weak_of o p) (get_or s.words x 0 == 0)) ∷ r.history in
      looked z s.words i _ _ (subst (λ x. StandsFunded z s.words (set views id (sees_as v.view Idle (h x))) (h x)) same
      (law.tells_expired_funded (point k s r id v) o p (ready k s r id v at rests.awake Idle rests.idle) mine.0)))

  pub allows_read : (k : Shape) (slots id i o : ℕ) (place : Place) (p : Option Place) (me : At V) → Rests me → p ≡ Some place
      → HoldingInBlock me.0 Owner o p place.block.0 → place.field < 4 → i ≡ spot place.block.0 (3 + place.field)
      → Allows (Ruled k) slots id me i (λ n. n) (read o p (step slots i 0 0 none) me)
  allows_read k slots id i o place p me rests is holds low e =
      allows_event k slots id i me (λ n. n) (λ n. Read (owner o p) n) Idle rests.awake rests.empty
      (λ n. (plain (λ s d. refl) (λ s d. refl) (λ s f. refl)))
      (λ s r at small.
      let v = me.0 in let z = opening_of k in let views = map view_of s.views in
      let mine = held_there k s r id v at rests.awake Owner o (Some place) place.block.0 (subst (λ x. HoldingInBlock v Owner o x place.block.0) is holds) in
      let h : ℕ → Option Place → List (Entry V) = λ x y. entry v.view.name (Read (owner o y) (get_or s.words x 0)) ∷ r.history in
      looked z s.words i _ _ (subst (λ (y : ℕ
      × Option Place). StandsFunded z s.words (set views id (sees_as v.view Idle (h y.0 y.1))) (h y.0 y.1)) (λ j. (sym e j, sym is j))
      (law.reads_funded (point k s r id v) o place (ready k s r id v at rests.awake Idle rests.idle) mine.0 (sym mine.1) low)))
