-- A look at a cell which tells whether it holds a handle that the desk has.
use Rattle.std.proofs.Common.{◌≡◌, ℕ, ◌%◌, List, ◌∷◌, map, get_or, set, ◌==◌, Option, sym, refl}
use Rattle.std.proofs.Common.{ap, subst, arith}
use Rattle.control_block.proofs.Prelude
use Prelude.{Allows, At, Block, block_of, blocks_of, Cell, cell_bits, cell_shown, CellWord, Entry}
use Prelude.{entry, Idle, InHand, IsCellAt, kind_in, known, leads, none, NumberedHandle}
use Prelude.{opening_of, Rests, Ruled, Same, sees_as, Shape, shown, StandsFunded, step, view_of}
use Rattle.control_word.proofs.funded.Looks as law
use Rattle.control_word.specs.Words.{packed}
use Rattle.control_block.specs.CellStepKinds.{told_same}
use Rattle.control_block.proofs.CellWords.{is_open, opened}
use Rattle.control_block.proofs.Passage.{allows_event, plain, point, ready}
use Rattle.control_block.proofs.kept.Look.{looked}
use Rattle.control_block.proofs.words.Hands.{hand_block, hand_there}
use Rattle.control_word.specs.Packing.{without_taken}

-- a handle's word goes by its object's block alone
pub packed_by : (f g : ℕ → ℕ) (h : NumberedHandle) → block_of f h.object ≡ block_of g h.object → packed f h ≡ packed g h
packed_by f g h e =
    let a = cell_shown f h 0 in let b = cell_shown g h 0 in
    let same = ap (λ (q : Option Block). cell_bits record { owned = q; place = h.place; taken = 0 }) e in omega arith

-- the word that shows a handle with no fund taken is the handle's
pub shown_bits : (block : ℕ → ℕ) (h : NumberedHandle) (x : CellWord) → x ≡ shown block h x.taken → x.taken ≡ 0 → packed block h ≡ cell_bits x
shown_bits block h x shows bare =
    let a = cell_shown block h x.taken in let b = ap cell_bits shows in omega arith

module _ {V : Type 0} where
  pub allows_same : (k : Shape) (slots id i : ℕ) (c : Cell) (h : NumberedHandle) (me : At V) → Rests me → IsCellAt me.0 c i
      → InHand (known me.0) me.0.view.name (kind_in me.0.shape c) h
      → Allows (Ruled k) slots id me i (λ n. n) (told_same c h (step slots i 0 0 none) me)
  allows_same k slots id i c h me rests cell hand =
      allows_event k slots id i me (λ n. n) (λ n. Same c h (without_taken n == packed (blocks_of (known me.0)) h)) Idle rests.awake rests.empty
      (λ n. (plain (λ s d. refl) (λ s d. refl) (λ s f. refl)))
      (λ s r at small.
      let v = me.0 in let z = opening_of k in let t = leads z r.history in let views = map view_of s.views in
      let is = opened k s r id v at rests.awake c i cell in let p = point k s r id v in
      let word = packed_by (blocks_of t) (blocks_of (known v)) h (sym (hand_block k s r id v at rests.awake (kind_in v.shape c) h hand)) in
      let told : ℕ → ℕ → List (Entry V) =
      λ x n. entry v.view.name (Same c h (without_taken (get_or s.words x 0) == n)) ∷ r.history in
      looked z s.words i _ _ (subst (λ (y : ℕ × ℕ). StandsFunded z s.words (set views id (sees_as v.view Idle (told y.0 y.1))) (told y.0 y.1))
      (λ j. (is.there j, word j))
      (law.tells_same_funded p c h (ready k s r id v at rests.awake Idle rests.idle) (is_open k s r id v at rests.awake c i cell)
      (hand_there k s r id v at rests.awake (kind_in v.shape c) h hand _ is.kind))))
