-- What goes on from one try at a cell to the next.
use Rattle.std.proofs.Common.{◌≡◌, ℕ, Bool, true, false, ◌≢◌, [], Some, None, Option, sym, refl}
use Rattle.std.proofs.Common.{ap, ◌∙◌, subst}
use Rattle.control_block.proofs.Prelude
use Prelude.{after, and_parts, At, Block, block_of, blocks_of, Cell, CellWord, equivalent, Event}
use Prelude.{Gave, goes_on, handle, Has, HasRoomFor, Held, HoldingInBlock, Idle, in_call, InHand}
use Prelude.{IsAim, IsCellWord, IsCounted, IsSized, IsWordOf, Kind, kind_in, known, NumberedHandle}
use Prelude.{Pending, Place, Rests, same_number, same_number_true, same_place, same_place_true}
use Prelude.{SeatView, State, TableId, tells, Took}
use Rattle.control_block.specs.CellRetries.{IsOffer, IsOut}
use Rattle.control_block.proofs.cells.CellRetries.{added_awake, came_empty, came_object}
use Rattle.control_block.proofs.cells.CellRetries.{given_back, over_rests, took_inside, turned}
use Rattle.control_block.proofs.cells.CellTrades.{Trades, cell_still}

pub none_shown : {q : Option Block} {b : Block} → q ≡ Some b → q ≢ None
none_shown e n = absurd (cc (e, n))

module _ {V : Type 0} where
  -- a step that left the seat as it was
  pub aim_at : {c : Cell} {k : Kind} {i : ℕ} {id own own' : TableId} {me me' : At V} → IsAim c k i id own me → own' ≡ own → me' ≡ me
      → IsAim c k i id own' me'
  aim_at {c = c} {k = k} {i = i} {id = id} {own = own} {own' = own'} {me = me} {me' = me'} aim table same =
      subst (λ (y : TableId × At V). IsAim c k i id y.0 y.1) (λ j. (sym table j, sym same j)) aim

  pub offer_at : {k : Kind} {x h : NumberedHandle} {n : CellWord} {id : TableId} (me me' : At V) → IsOffer k x h n id me.0 → me' ≡ me
      → IsOffer k x h n id me'.0
  offer_at {k = k} {x = x} {h = h} {n = n} {id = id} me me' offer same = subst (λ (y : At V). IsOffer k x h n id y.0) (sym same) offer

  pub holding_at : {k : Kind} {o : ℕ} {p : Option Place} {b : ℕ} {me me' : At V}
      → HoldingInBlock me.0 k o p b → me' ≡ me → HoldingInBlock me'.0 k o p b
  holding_at {k = k} {o = o} {p = p} {b = b} holds same = subst (λ (y : At V). HoldingInBlock y.0 k o p b) (sym same) holds

  pub room_at : (me me' : At V) → me ≡ me' → HasRoomFor me'.0 → HasRoomFor me.0
  room_at me me' same room = subst (λ (y : At V). HasRoomFor y.0) (sym same) room

  pub hands_at : (me me' : At V) (k : Kind) (h : NumberedHandle) → me ≡ me' → InHand (known me'.0) me'.0.view.name k h → InHand (known me.0) me.0.view.name k h
  hands_at me me' k h same hand = subst (λ (y : At V). InHand (known y.0) y.0.view.name k h) (sym same) hand

  pub hand_of_kind : {c : Cell} {k : Kind} {i : ℕ} {id own : TableId} {me : At V} (h : NumberedHandle) → IsAim c k i id own me
      → InHand (known me.0) me.0.view.name k h → InHand (known me.0) me.0.view.name (kind_in me.0.shape c) h
  hand_of_kind {me = me} h aim hand = subst (λ y. InHand (known me.0) me.0.view.name y h) aim.kind hand

  -- what came out did so since before the tries that changed nothing
  pub out_since : {e : NumberedHandle → Event V} {k : Kind} {x : CellWord} {me me' now : At V} → IsOut e k me'.0 x now → me' ≡ me → IsOut e k me.0 x now
  out_since {e = e} {k = k} {x = x} {me = me} {me' = me'} {now = now} out same = subst (λ (y : At V). IsOut e k y.0 x now) same out

  pub out_at : {e : NumberedHandle → Event V} {k : Kind} {v : SeatView V} {x : CellWord} {now now' : At V} → IsOut e k v x now → now' ≡ now → IsOut e k v x now'
  out_at {e = e} {k = k} {v = v} {x = x} out same = subst (λ (y : At V). IsOut e k v x y) (sym same) out

  -- after an event of its own a seat rests
  pub told_rests : {v : SeatView V} {e : Event V} (me : At V) → tells e v me.0 → v.view.spent ≡ false → me.1 ≡ [] → Rests me
  told_rests {v = v} {e = e} me a awake none =
      record {
        awake = added_awake v me.0 Idle e a awake;
        idle = ap (λ (u : SeatView V). u.view.pending) a.now;
        empty = ap (λ (u : SeatView V). u.hand) a.now;
        none = none;
      }

  -- the look of a cell without an object was its load
  pub out_empty : (e : NumberedHandle → Event V) (k : Kind) (v : SeatView V) (x : CellWord) (me : At V) → IsCellWord x → x.owned ≡ None
      → tells (e (handle k None x.place)) v me.0 → v.view.spent ≡ false → me.1 ≡ [] → IsOut e k v x me
  out_empty e k v x me valid none told awake empty =
      record { valid = valid; rests = told_rests me told awake empty; out = came_empty e k v me.0 x none told }

  -- a word without an object that shows another handle than is expected is not equivalent to it
  pub differs_none : (v : SeatView V) (k : Kind) (h : NumberedHandle) (x y : CellWord) → IsWordOf v h y → (x.owned ≡ y.owned → x.place ≡ y.place → ⊥)
      → x.owned ≡ None → equivalent (handle k None x.place) h ≡ false
  differs_none v k h x y is differs none = go (equivalent (handle k None x.place) h) refl
    where
      go : (b : Bool) → equivalent (handle k None x.place) h ≡ b → equivalent (handle k None x.place) h ≡ false
      go false e = e
      go true e =
          let t = and_parts (same_number None h.object) (same_place x.place h.place) e in
          absurd (differs (none ∙ (ap (block_of (blocks_of (known v))) (same_number_true None h.object t.0) ∙ sym (ap (λ z. z.owned) is)))
          (same_place_true x.place h.place t.1 ∙ sym (ap (λ z. z.place) is)))

  -- the cell was swapped, and what came out has its funds
  pub swapped_at : (e : NumberedHandle → Event V) (k : Kind) (v w : SeatView V) (me : At V) (x : CellWord) → IsCellWord x
      → Gave e k v x w → me.0 ≡ goes_on w → Rests me → IsOut e k v x me
  swapped_at e k v w me x valid gave settled rests = record { valid = valid; rests = rests; out = given_back e k v w me.0 x gave settled }

  module _ (e : NumberedHandle → Event V) (c : Cell) (k : Kind) (i : ℕ) (id own : TableId) (x : CellWord) (lost : NumberedHandle) (b : Block) where
    -- the fund that was taken was turned
    pub out_turned : (me me₁ me₂ : At V) → IsAim c k i id own me → IsCellWord x → Took e k me.0 x me₁.0
        → me₂.0 ≡ goes_on me₁.0 → me₂.1 ≡ []
        → IsOut e k me.0 x me₂
    out_turned me me₁ me₂ aim valid t is none =
        record {
          valid = valid;
          rests = over_rests me₂ me₁.0 (added_awake me.0 me₁.0 _ _ t.event aim.rests.awake) is none;
          out = turned e k me.0 me₁.0 me₂.0 x t is;
        }

    pub counted_out : (me me₁ : At V) → IsAim c k i id own me → Trades e lost → Took e k me.0 x me₁.0 → x.owned ≡ Some b → IsCounted k b id
    counted_out me me₁ aim trades t is = took_inside e k me.0 me₁.0 x lost b id trades t is aim.sized

    pub holding_out : (me me₂ : At V) → Trades e lost → IsOut e k me.0 x me₂ → x.owned ≡ Some b
        → HoldingInBlock me₂.0 k ((known me₂.0).latest b.0) x.place b.0
    holding_out me me₂ trades out is = (came_object e k me.0 me₂.0 x lost b trades out.out is).1

    -- and the cell is still open
    pub aim_out : (me me₂ : At V) (own₂ : TableId) → IsAim c k i id own me → (out : IsOut e k me.0 x me₂) → own₂ ≡ own
        → ((t : State) (n : ℕ) (y : Held) → Has y t.hands → Has y (after t n (e out.out.handle)).hands) → IsAim c k i id own₂ me₂
    aim_out me me₂ own₂ aim out table keeps =
        let a = out.out.event in let still = cell_still me.0 me₂.0 (e out.out.handle) c i k keeps a (aim.cell, aim.kind) in
        record {
          table = table ∙ aim.table;
          sized = subst (IsSized id) (sym (ap (λ (u : SeatView V). u.shape) a.now)) aim.sized;
          rests = out.rests;
          word = aim.word;
          cell = still.0;
          kind = still.1;
        }
