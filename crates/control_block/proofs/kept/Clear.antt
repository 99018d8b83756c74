-- Clear: a member of an object that ends is emptied, by a look where it holds nothing.
use Rattle.std.proofs.Common.{◌≡◌, ℕ, ◌+◌, ◌-◌, ◌*◌, ◌<◌, false, ◌≢◌, [], ◌∷◌, map, get_or, set}
use Rattle.std.proofs.Common.{None, Option, sym, refl, ap, ◌∙◌, subst, ⊎_elim, arith}
use Rattle.control_block.proofs.Prelude
use Prelude.{AddsFunded, after, Allows, At, blocks_of, cases_eq, cell_of, cell_shown, cell_word}
use Prelude.{CellWord, ClearMember, common, empty, ending, Ends, entry, Event, Gave, get_elem?}
use Prelude.{HasRoom, HasRoomFor, Idle, keeps, kind_of_member, leads, Member, none, NumberedHandle}
use Prelude.{drawn, opening_of, Rests, Ruled, SeatView, seeing, sees_as, Shape, shown, some, sound}
use Prelude.{spot, StandsFunded, step, view_of}
use Rattle.atomic_table.specs.Table as Table
use Rattle.control_word.proofs.history.Kept.{members_led, owners_led}
use Rattle.control_word.proofs.funded.Cells as law
use Rattle.control_word.specs.Words.{packed}
use Rattle.control_block.specs.CellStepKinds.{cleared, looked_clear}
use Rattle.control_block.specs.Rule.{members_of}
use Rattle.control_block.proofs.cells.CellRetries.{no_block}
use Rattle.control_block.proofs.CellWords.{Opened, decoded, found_is, one_cell}
use Rattle.control_block.proofs.Endings.{ends_here}
use Rattle.control_block.proofs.words.Hands.{gets_most}
use Rattle.control_block.proofs.Passage.{adds, point, quiet_clear, quiet_next, ready, still_ending}
use Rattle.control_block.proofs.Passage.{still_room}
use Rattle.control_block.proofs.words.Still.{unmoved}
use Rattle.control_block.proofs.kept.Swap.{gives}
use Rattle.control_word.specs.Limits.{one_taken}
use Rattle.control_word.specs.Limits.{cell_funds}

-- the word of a member that holds nothing
abbrev no_cell : CellWord
no_cell = record { owned = None; place = None; taken = 0 }

module _ {V : Type 0} where
  module _ (k : Shape) (s : Table.State (Option V) (SeatView V)) (r : Ruled k s) (id : ℕ) (v : SeatView V) (at : get_elem? s.views id ≡ some v)
      (awake : v.view.spent ≡ false) (o b m i : ℕ) (ends : Ends v o b) (lt : m < members_of v.shape) (e : i ≡ spot b (7 + m)) where
    -- the object ends with the desk, and is in the block
    phase : ((leads (opening_of k) r.history).object o).phase ≡ ending v.view.name
    phase = (still_ending k s r id v at awake o b ends).1.phase ∙ ends.1

    in_block : ((leads (opening_of k) r.history).object o).block ≡ b
    in_block =
        let z = opening_of k in let t = leads z r.history in let still = still_ending k s r id v at awake o b ends in
        ap (λ y. (t.object y).block) (sym still.0) ∙ ends_here z t b v.view.name (sound z r.history r.stands.stands.legal)
        (ap (λ y. (t.object y).phase) still.0 ∙ phase)

    -- the domain uses the member
    used : m < members_of k
    used = subst (λ (y : Shape). m < members_of y) (r.shapes id v at awake) lt

    -- so its member is a cell with this word
    there : Opened k s r id v at awake (Member o m) i
    there =
        let one : common ((leads (opening_of k) r.history).object o).phase ≡ 1 = ap common phase in
        let kind = ap (λ n. kind_of_member n m)
        (owners_led (opening_of k) r.history ∙ ap (λ y. y.owners) (sym (r.shapes id v at awake))) in
        record {
          kept = ((let u = used in let w = r.limits.members.2 in omega arith), omega arith);
          there = ap (λ y. spot y (7 + m)) in_block ∙ sym e;
          kind = kind;
        }

    room : HasRoomFor v → (h : NumberedHandle) → HasRoom (after {V = V} (leads (opening_of k) r.history) v.view.name (ClearMember o m h)) v.view.name
    room more h =
        let a = still_room k s r id v at awake more in let t = leads (opening_of k) r.history in
        let x = t.object o in
        let g = gets_most (Rattle.control_word.specs.Events.changes o
        (record x { member = Rattle.control_word.specs.State.put x.member m (empty (kind_of_member t.owners m)) }) t) v.view.name h in
        omega arith

    told : (taken : ℕ) → Rests (v, []) → HasRoomFor v → (let t = leads (opening_of k) r.history in let old = (t.object o).member m in
        get_or s.words i 0 ≡ packed (blocks_of t) old + one_taken * taken
        → AddsFunded (point k s r id v) (cell_word (point k s r id v) (Member o m)) 0 (ClearMember o m old) (drawn (blocks_of t) old (cell_funds - taken)))
    told taken rests more found =
        let t = leads (opening_of k) r.history in let old = (t.object o).member m in
        law.clears_funded (point k s r id v) o m (ready k s r id v at awake Idle rests.idle) phase
        (let u = used in let w = members_led (opening_of k) r.history in omega arith) (room more old) taken
        (ap (λ j. get_or s.words j 0) there.there ∙ found)

  pub allows_clear : (k : Shape) (slots id b o m i : ℕ) (me : At V) → Rests me → Ends me.0 o b → m < members_of me.0.shape
      → i ≡ spot b (7 + m) → HasRoomFor me.0
      → Allows (Ruled k) slots id me i (λ _. 0) (cleared o m (step slots i 0 0 none) me)
  allows_clear k slots id b o m i me rests ends lt e more s r sized at small =
      let v = me.0 in let t = leads (opening_of k) r.history in let c = Member o m in
      let is = there k s r id v at rests.awake o b m i ends lt e in let d = decoded k s r id v at rests.awake c i is in
      let x = shown (blocks_of t) (cell_of t c) d.taken in
      let rest : Rests (v, []) = record { awake = rests.awake; idle = rests.idle; empty = rests.empty; none = refl } in
      let g = gives k s r id i c v at rests.awake rests.empty (λ h. ClearMember o m h) (λ h. quiet_clear o m h) is d 0 x refl
      (told k s r id v at rests.awake o b m i ends lt e d.taken rest more (d.bits ∙ sym (cell_shown (blocks_of t) (cell_of t c) d.taken))) in (
        g.0,
        keeps,
        tt,
        g.1,
        (
          record { cell = x; valid = d.valid; bits = d.bits },
          λ y valid is_y. (
            subst (λ a. Gave (λ h. ClearMember o m h) (kind_of_member v.shape.owners m) v a g.0)
                (sym (found_is k s r id v at rests.awake c i is d y valid is_y)) g.2,
            refl,
          ),
        ),
      )

  pub allows_look_clear : (k : Shape) (slots id b o m i : ℕ) (me : At V) → Rests me → Ends me.0 o b → m < members_of me.0.shape
      → i ≡ spot b (7 + m) → HasRoomFor me.0
      → Allows (Ruled k) slots id me i (λ n. n) (looked_clear o m (step slots i 0 0 none) me)
  allows_look_clear k slots id b o m i me rests ends lt e more s r sized at small =
      ⊎_elim
      (λ (q : get_or s.words i 0 ≡ 0).
      let v = me.0 in let z = opening_of k in let t = leads z r.history in let c = Member o m in let old = cell_of t c in
      let is = there k s r id v at rests.awake o b m i ends lt e in let d = decoded k s r id v at rests.awake c i is in
      let x = shown (blocks_of t) old d.taken in
      let same : x ≡ no_cell = one_cell x no_cell d.valid record { owned = tt; place = tt; taken = omega arith } (sym d.bits ∙ q) in
      let bare : old.object ≡ None = no_block (blocks_of t) old.object (ap (λ y. y.owned) same) in
      let nothing : old ≡ empty (kind_of_member v.shape.owners m) = λ j. record { kind = d.kind j; object = bare j; place = (same j).place } in
      let rest : Rests (v, []) = record { awake = rests.awake; idle = rests.idle; empty = rests.empty; none = refl } in
      let ev : Event V = ClearMember o m (empty (kind_of_member v.shape.owners m)) in let hist = entry v.view.name ev ∷ r.history in
      let adds' = told k s r id v at rests.awake o b m i ends lt e d.taken rest more (d.bits ∙ sym (cell_shown (blocks_of t) old d.taken)) in
      let now : StandsFunded z (set s.words i 0) (set (map view_of s.views) id (sees_as v.view Idle hist)) hist =
      subst (λ y. StandsFunded z (set s.words y 0) (set (map view_of s.views) id (sees_as v.view Idle hist)) hist) is.there
      (subst (λ h. AddsFunded (point k s r id v) (cell_word (point k s r id v) c) 0 (ClearMember o m h)
      (drawn (blocks_of t) h (cell_funds - d.taken))) nothing adds') in (
        seeing v Idle None hist,
        keeps,
        tt,
        quiet_next k s r id v (set s.words i (get_or s.words i 0)) ev Idle at rests.awake rests.empty
            (quiet_clear o m (empty (kind_of_member v.shape.owners m)))
            (subst (λ n. StandsFunded z (set s.words i n) (set (map view_of s.views) id (sees_as v.view Idle hist)) hist) (sym q) now),
        (λ _. (adds k s r id v at rests.awake Idle None ev now.stands.legal, refl), λ n. absurd (n q)),
      ))
      (λ (q : get_or s.words i 0 ≢ 0). (me.0, keeps, tt, unmoved k s id i me.0 r at, (λ n. absurd (q n), λ _. refl)))
      (cases_eq (get_or s.words i 0) 0)
