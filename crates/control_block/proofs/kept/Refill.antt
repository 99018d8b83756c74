-- Refill: funds of a handle in hand go into the cell, in place of those taken.
use Rattle.std.proofs.Common.{◌≡◌, ℕ, ◌+◌, ◌-◌, ◌*◌, ◌≤◌, map, get_or, set, ◌==◌, Some, None, Option}
use Rattle.std.proofs.Common.{sym, refl, ap, ◌∙◌, subst, arith}
use Rattle.control_block.proofs.Prelude
use Prelude.{Allows, At, Block, block_of, blocks_of, Cell, cell_bits, cell_of, cell_shown}
use Prelude.{CellWord, either, get_elem?, handle, held_busy, HoldingInBlock, Idle, in_call, IsCellAt, IsCellWord, Kind}
use Prelude.{kind_in, leads, none, opening_of, owing, Paying, Pending, Place, Rests, Ruled, same_counts, SeatView}
use Prelude.{sees_as, Shape, slot, some, sound, spot, StandsFunded, step, view_of}
use Rattle.atomic_table.specs.Table as Table
use Rattle.control_word.proofs.funded.Refills as law
use Rattle.control_word.specs.Words.{packed}
use Rattle.control_block.specs.CellStepKinds.{refilled}
use Rattle.control_block.proofs.CellWords.{Decoded, Opened, cell_keeps, decoded, found_is, is_open}
use Rattle.control_block.proofs.CellWords.{opened}
use Rattle.control_block.proofs.words.Hands.{same_number}
use Rattle.control_block.proofs.Passage.{held_there, point, ready}
use Rattle.control_block.proofs.words.Still.{allows_exchange, moved_on}
use Rattle.control_word.specs.Limits.{cell_funds, one_taken}

module _ {V : Type 0} where
  module _ (k : Shape) (slots id i found new : ℕ) (c : Cell) (x : CellWord) (m : Kind) (o : ℕ) (p : Option Place) (b : Block) (me : At V)
      (rests : Rests me) (kind : m ≡ kind_in me.0.shape c) (holds : HoldingInBlock me.0 m o p b.0) (few : x.taken ≤ cell_funds)
      (cell : IsCellAt me.0 c i) (valid : IsCellWord x)
      (is_found : found ≡ cell_bits x) (owned : x.owned ≡ Some b) (less : new + one_taken * x.taken ≡ found) where
    abbrev short : Pending V
    short = owing m o p b.0 (cell_funds - x.taken) 0

    refilling : (s : Table.State (Option V) (SeatView V)) (r : Ruled k s) (at : get_elem? s.views id ≡ some me.0)
        (is : Opened k s r id me.0 at rests.awake c i) → Decoded k s r id me.0 at rests.awake c i is → get_or s.words i 0 ≡ found
        → (q : Option ℕ) → (cell_of (leads (opening_of k) r.history) c).object ≡ q
        → Ruled k record { words = set s.words i new; homes = s.homes; views = set s.views id (in_call me.0 short) }
    refilling s r at is d hit None bare =
        let t = leads (opening_of k) r.history in let same = found_is k s r id me.0 at rests.awake c i is d x valid (hit ∙ is_found) in
        absurd (none_some (sym (ap (block_of (blocks_of t)) bare) ∙ (sym (ap (λ y. y.owned) same) ∙ owned)))
      where
        none_some : None ≡ Some b → ⊥
        none_some e = cc
    refilling s r at is d hit (Some q) has =
        let v = me.0 in let z = opening_of k in let t = leads z r.history in let old = cell_of t c in
        let same = found_is k s r id v at rests.awake c i is d x valid (hit ∙ is_found) in
        let mine = held_there k s r id v at rests.awake m o p b.0 holds in
        let there : b.0 ≡ blocks_of t q = same_number b.0 (blocks_of t q) (sym owned ∙ (ap (λ y. y.owned) same ∙ ap (block_of (blocks_of t)) has)) in
        let fine = sound z r.history r.stands.stands.legal in
        let one = (same_counts z t fine m m o q (held_busy z t v.view.name o m p fine mine.0) (cell_keeps k s r id v at rests.awake c i is q has)
        (ap (λ n. spot n (slot m)) (mine.1 ∙ there))).1 in
        let it : handle m (Some o) x.place ≡ old = λ j. record { kind = (kind ∙ sym d.kind) j; object = (ap Some one ∙ sym has) j; place = (same j).place } in
        let bits : get_or s.words i 0 ≡ packed (blocks_of t) (handle m (Some o) x.place) + one_taken * x.taken =
        d.bits ∙ (sym (cell_shown (blocks_of t) old d.taken)
        ∙ (λ j. packed (blocks_of t) (sym it j) + one_taken * sym (ap (λ y. y.taken) same) j)) in
        let told = law.refills_funded (point k s r id v) c m o x.taken p x.place (ready k s r id v at rests.awake Idle rests.idle) mine.0 few
        (is_open k s r id v at rests.awake c i cell) it
        (ap (λ y. get_or s.words y 0) is.there ∙ bits) in
        let stands = subst (λ y. StandsFunded z (set s.words y (get_or s.words y 0 - one_taken * x.taken))
        (set (map view_of s.views) id (sees_as v.view (Paying m o p (spot ((t.object o).block) (slot m)) (cell_funds - x.taken) 0) r.history)) r.history)
        is.there told in
        let here = subst (λ n. StandsFunded z (set s.words i (get_or s.words i 0 - one_taken * x.taken))
        (set (map view_of s.views) id (sees_as v.view (Paying m o p (spot n (slot m)) (cell_funds - x.taken) 0) r.history)) r.history) mine.1 stands in
        let value : get_or s.words i 0 - one_taken * x.taken ≡ new = omega arith in
        moved_on k s r id v (set s.words i new) short at rests.awake rests.empty record { single = λ d q. q; both = λ d seen. tt }
        (subst (λ n. StandsFunded z (set s.words i n) (set (map view_of s.views) id (sees_as v.view short r.history)) r.history) value here)

    pub allows_refill : Allows (Ruled k) slots id me i (λ n. either (n == found) new n) (refilled m o p b x.taken (step slots i found new none) me)
    allows_refill =
        allows_exchange k slots id i found new me (refilled m o p b x.taken (step slots i found new none) me) (λ s r at q. (λ m. absurd (q m), λ _. refl))
        (λ s r at q.
        let v = me.0 in let is = opened k s r id v at rests.awake c i cell in let d = decoded k s r id v at rests.awake c i is in (
          in_call v short,
          refilling s r at is d q _ refl,
          (λ _. (refl, refl), λ m. absurd (m refl)),
        ))
