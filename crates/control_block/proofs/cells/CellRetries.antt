-- What the steps of one call on a cell come to.
use Rattle.std.proofs.Common.{◌≡◌, ℕ, ◌-◌, true, false, ◌&&◌, ◌≢◌, [], is_some, IfSome, Some, None}
use Rattle.std.proofs.Common.{Option, sym, refl, ap, ◌∙◌, subst, true≢false, eq-eqb, ne_eqb, arith, ◌==◌, ◌≤◌}
use Rattle.std.proofs.lemmas.Bool.{cond-false}
use Rattle.control_block.proofs.Prelude
use Prelude.{Added, At, Block, block_of, blocks_of, CameOut, Cell, CellWord, debt, equivalent}
use Prelude.{Event, Free, Gave, goes_on, handle, Has, Held, held, HoldingInBlock, Idle, in_call}
use Prelude.{InHand, IsCellAt, IsCounted, IsLegal, IsSized, IsWordOf, Kind, kind_in, known, Member}
use Prelude.{names_an_object, NumberedHandle, object_of, opening_of, Owes, owing, Paying, Pending, Place, Rests, short_of, slot, spot}
use Prelude.{same_number, same_place, SeatView, TableId, tells, Took}
use Rattle.control_block.proofs.words.Seats.{added_as}
use Rattle.control_block.proofs.cells.CellTrades.{Trades, in_bag, came_inside}
use Rattle.control_word.specs.Limits.{cell_funds}

pub not_none : (q : Option Block) → is_some q ≡ true → q ≢ None
not_none None e n = true≢false (sym e)
not_none (Some b) e n = absurd (cc n)

-- the block of a handle that a word shows is that of an object
pub object_shown : (f : ℕ → ℕ) (q : Option ℕ) (b : Block) → block_of f q ≡ Some b → (o : ℕ) × (q ≡ Some o) × (f o ≡ b.0)
object_shown f None b e = absurd (cc e)
object_shown f (Some o) b e = (o, refl, number (record { 0 = f o }) b e)
  where
    number : (x y : Block) → ◌≡◌ {A = Option Block} (Some x) (Some y) → x.0 ≡ y.0
    number x y e = cc

pub place_self : (p : Option Place) → (same_number None None && same_place p p) ≡ true
place_self None = refl
place_self (Some q) = λ i. eq-eqb q.block.0 q.block.0 refl i && eq-eqb q.field q.field refl i

-- and where it shows none there is none
pub no_block : (f : ℕ → ℕ) (q : Option ℕ) → block_of f q ≡ None → q ≡ None
no_block f None e = refl
no_block f (Some o) e = absurd (cc e)

pub same_block : (b c : Block) (q : Option Block) → q ≡ Some b → q ≡ Some c → b ≡ c
same_block b c q e f = go (sym e ∙ f)
  where
    go : ◌≡◌ {A = Option Block} (Some b) (Some c) → b ≡ c
    go e = cc

module _ {V : Type 0} where
  -- when nothing is owed any more, the desk rests
  pub over_rests : (me : At V) (w : SeatView V) → w.view.spent ≡ false → me.0 ≡ goes_on w → me.1 ≡ [] → Rests me
  over_rests me w awake is none =
      record {
        awake = ap (λ (u : SeatView V). u.view.spent) is ∙ awake;
        idle = ap (λ (u : SeatView V). u.view.pending) is;
        empty = ap (λ (u : SeatView V). u.hand) is;
        none = none;
      }

  pub added_awake : (v w : SeatView V) (p : Pending V) (e : Event V) → Added v p None e w → v.view.spent ≡ false → w.view.spent ≡ false
  added_awake v w p e a awake = ap (λ (u : SeatView V). u.view.spent) a.now ∙ awake

  pub added_owes : (v : SeatView V) (me : At V) (p : Pending V) (e : Event V) → Added v p None e me.0 → v.view.spent ≡ false → me.1 ≡ [] → Owes p me
  added_owes v me p e a awake none =
      record {
        awake = added_awake v me.0 p e a awake;
        pending = ap (λ (u : SeatView V). u.view.pending) a.now;
        empty = ap (λ (u : SeatView V). u.hand) a.now;
        none = none;
      }

  -- the load whose fund was turned is over
  pub turned : (e : NumberedHandle → Event V) (k : Kind) (v w u : SeatView V) (x : CellWord) → Took e k v x w → u ≡ goes_on w → CameOut e k v x u
  turned e k v w u x t is =
      let h = handle k (Some t.object) x.place in
      let b : block_of (blocks_of (known w)) (Some t.object) ≡ Some t.block = ap (λ n. Some record { 0 = n }) t.there in
      let shows : IsWordOf (goes_on w) h x = λ i. record { owned = (t.owned ∙ sym b) i; place = x.place; taken = x.taken } in
      record {
        handle = h;
        kind = refl;
        shows = subst (λ (y : SeatView V). IsWordOf y h x) (sym is) shows;
        event = added_as v w u (owing k t.object x.place t.block.0 1 1) Idle None None (e h) t.event is;
      }

  -- the swap is over when what came out has its funds
  pub given_back : (e : NumberedHandle → Event V) (k : Kind) (v w u : SeatView V) (x : CellWord) → Gave e k v x w → u ≡ goes_on w → CameOut e k v x u
  given_back e k v w u x g is =
      record {
        handle = g.old;
        kind = g.kind;
        shows = subst (λ (y : SeatView V). IsWordOf y g.old x) (sym is) g.shows;
        event = added_as v w u (debt g.old x.owned (cell_funds - x.taken)) Idle None None (e g.old) g.event is;
      }

  -- and at once where nothing had been in the cell
  pub given_none : (e : NumberedHandle → Event V) (k : Kind) (v w : SeatView V) (x : CellWord) → Gave e k v x w → x.owned ≡ None → CameOut e k v x w
  given_none e k v w x g none =
      record {
        handle = g.old;
        kind = g.kind;
        shows = g.shows;
        event = subst (λ (y : Option Block). Added v (debt g.old y (cell_funds - x.taken)) None (e g.old) w) none g.event;
      }

  -- the load of a cell without an object
  pub came_empty : (e : NumberedHandle → Event V) (k : Kind) (v w : SeatView V) (x : CellWord) → x.owned ≡ None → tells (e (handle k None x.place)) v w
      → CameOut e k v x w
  came_empty e k v w x none a =
      record {
        handle = handle k None x.place;
        kind = refl;
        shows = λ i. record { owned = none i; place = x.place; taken = x.taken };
        event = a;
      }

  -- what is so of a desk that rests, and of one whose handle lacks funds
  pub rested : (me : At V) → Rests me → goes_on me.0 ≡ me.0
  rested me r = λ i. record {
    shape = me.0.shape;
    view = record { name = me.0.view.name; spent = me.0.view.spent; pending = sym r.idle i; seen = me.0.view.seen };
    hand = sym r.empty i;
  }

  pub brought_owes : (me me' : At V) (p : Pending V) → Rests me → me'.0 ≡ in_call me.0 p → me'.1 ≡ [] → Owes p me'
  brought_owes me me' p r is none =
      record {
        awake = ap (λ (u : SeatView V). u.view.spent) is ∙ r.awake;
        pending = ap (λ (u : SeatView V). u.view.pending) is;
        empty = ap (λ (u : SeatView V). u.hand) is;
        none = none;
      }

  -- a handle that a word shows is where its word is
  pub gave_inside : (e : NumberedHandle → Event V) (k : Kind) (v w : SeatView V) (x : CellWord) (lost : NumberedHandle) (b : Block) (id : TableId)
      → Trades e lost
      → Gave e k v x w → x.owned ≡ Some b → IsSized id v.shape → IsCounted k b id
  gave_inside e k v w x lost b id trades g is sized =
      let o = object_shown (blocks_of (known w)) g.old.object b (sym (ap (λ y. y.owned) g.shows) ∙ is) in
      came_inside v w (debt g.old x.owned (cell_funds - x.taken)) e lost g.old k o.0 b id trades g.event g.kind o.1 o.2 sized

  pub gave_counted : (e : NumberedHandle → Event V) (k : Kind) (v w : SeatView V) (x : CellWord) (lost : NumberedHandle) (id : TableId) → Trades e lost
      → Gave e k v x w
      → IsSized id v.shape → IfSome x.owned (λ b. IsCounted k b id)
  gave_counted e k v w x lost id trades g sized = go x.owned refl
    where
      go : (q : Option Block) → x.owned ≡ q → IfSome q (λ b. IsCounted k b id)
      go None is = tt
      go (Some b) is = gave_inside e k v w x lost b id trades g is sized

  pub took_inside : (e : NumberedHandle → Event V) (k : Kind) (v w : SeatView V) (x : CellWord) (lost : NumberedHandle) (b : Block) (id : TableId)
      → Trades e lost
      → Took e k v x w → x.owned ≡ Some b → IsSized id v.shape → IsCounted k b id
  took_inside e k v w x lost b id trades t is sized =
      subst (λ (y : Block). IsCounted k y id) (same_block t.block b x.owned t.owned is)
      (came_inside v w (owing k t.object x.place t.block.0 1 1) e lost (handle k (Some t.object) x.place) k t.object t.block id trades t.event refl
      refl t.there sized)

  pub took_owes : (e : NumberedHandle → Event V) (k : Kind) (v : SeatView V) (me : At V) (x : CellWord) (b : Block) → Took e k v x me.0 → x.owned ≡ Some b
      → v.view.spent ≡ false → me.1 ≡ [] → (o : ℕ) × (p : Option Place) × Owes (owing k o p b.0 1 1) me
  took_owes e k v me x b t is awake none = (
    t.object,
    x.place,
    subst (λ (y : Block). Owes (owing k t.object x.place y.0 1 1) me) (same_block t.block b x.owned t.owned is)
        (added_owes v me _ _ t.event awake none),
  )

  -- what came out lacks the funds that were taken
  pub out_lacks : (me : At V) (k : Kind) (h : NumberedHandle) (x : CellWord) (b : Block) (n : ℕ) → h.kind ≡ k → Owes (debt h x.owned (cell_funds - x.taken)) me
      → x.owned ≡ Some b → n ≢ 0 → n ≤ cell_funds → cell_funds - n ≡ cell_funds - x.taken
      → (o : ℕ) × (p : Option Place) × Owes (owing k o p b.0 (cell_funds - n) 0) me
  out_lacks me k h x b n kind owes is some' few left =
      let f = cell_funds - x.taken in let w = spot b.0 (slot h.kind) in
      let now : Owes (short_of h.kind (object_of h) h.place w f) me = subst (λ q. Owes (debt h q f) me) is owes in
      let less : f ≢ cell_funds = λ e. omega arith in
      let short = subst (λ (q : Pending V). Owes q me) (cond-false (f == cell_funds) Idle (Paying h.kind (object_of h) h.place w f 0) (ne_eqb f cell_funds
      less)) now in
      (object_of h, h.place, subst (λ (y : Kind × ℕ). Owes (owing y.0 (object_of h) h.place b.0 y.1 0) me) (λ i. (kind i, sym left i)) short)

  -- nothing is owed any more, and nothing has changed
  pub back_again : (me me₁ me₂ : At V) (p : Pending V) → Rests me → me₁.0 ≡ in_call me.0 p → me₂.0 ≡ goes_on me₁.0
      → me₂.1 ≡ [] → me₂ ≡ me
  back_again me me₁ me₂ p rests brought settled none =
      let first : me₂.0 ≡ me.0 = settled ∙ (ap goes_on brought ∙ rested me rests) in λ i. (first i, (none ∙ sym rests.none) i)

  -- a word with the same block and place shows the same handle
  pub word_alike : (v : SeatView V) (h : NumberedHandle) (x y : CellWord) → IsWordOf v h y → x.owned ≡ y.owned → x.place ≡ y.place → IsWordOf v h x
  word_alike v h x y is owned place =
      λ i. record { owned = (owned ∙ ap (λ z. z.owned) is) i; place = (place ∙ ap (λ z. z.place) is) i; taken = x.taken }

  pub word_differs : (v : SeatView V) (h : NumberedHandle) (x y : CellWord) → IsWordOf v h y → (x.owned ≡ y.owned → x.place ≡ y.place → ⊥)
      → IsWordOf v h x → ⊥
  word_differs v h x y is differs other =
      differs (ap (λ z. z.owned) other ∙ sym (ap (λ z. z.owned) is)) (ap (λ z. z.place) other ∙ sym (ap (λ z. z.place) is))

  -- what came out is held, on the object last made in its block
  pub came_object : (e : NumberedHandle → Event V) (k : Kind) (v w : SeatView V) (x : CellWord) (lost : NumberedHandle) (b : Block) → Trades e lost
      → (c : CameOut e k v x w) → x.owned ≡ Some b
      → (c.handle.object ≡ Some ((known w).latest b.0)) × HoldingInBlock w k ((known w).latest b.0) x.place b.0
  came_object e k v w x lost b trades c is =
      let o = object_shown (blocks_of (known w)) c.handle.object b (sym (ap (λ y. y.owned) c.shows) ∙ is) in
      let a = c.event in let has = in_bag v w Idle e lost c.handle o.0 trades a o.1 in
      let name : w.view.name ≡ v.view.name = ap (λ (u : SeatView V). u.view.name) a.now in
      let shape : w.shape ≡ v.shape = ap (λ (u : SeatView V). u.shape) a.now in
      let legal = subst (λ y. IsLegal (opening_of y) w.view.seen) (sym shape) a.legal in
      let place : c.handle.place ≡ x.place = sym (ap (λ y. y.place) c.shows) in
      let it : Has (held w.view.name (handle k (Some o.0) x.place)) (known w).hands =
      subst (λ (y : Held). Has y (known w).hands)
      (λ i. held (sym name i) record { kind = c.kind i; object = o.1 i; place = place i }) has in
      let n = names_an_object (opening_of w.shape) w.view.seen legal w.view.name k (handle k (Some o.0) x.place) (it, refl, refl) in
      let last : (known w).latest b.0 ≡ o.0 = ap (known w).latest (sym o.2) ∙ n.2 in (
        o.1 ∙ ap Some (sym last),
        record {
          has = subst (λ y. Has (held w.view.name (handle k (Some y) x.place)) (known w).hands) (sym last) it;
          there = ap (λ y. ((known w).object y).block) last ∙ o.2;
        },
      )

  pub came_holding : (e : NumberedHandle → Event V) (k : Kind) (v w : SeatView V) (x : CellWord) (lost : NumberedHandle) → Trades e lost → CameOut e k v x w
      → IfSome x.owned (λ b. HoldingInBlock w k ((known w).latest b.0) x.place b.0)
  came_holding e k v w x lost trades c = go x.owned refl
    where
      go : (q : Option Block) → x.owned ≡ q → IfSome q (λ b. HoldingInBlock w k ((known w).latest b.0) x.place b.0)
      go None is = tt
      go (Some b) is = (came_object e k v w x lost b trades c is).1

  pub came_counted : (e : NumberedHandle → Event V) (k : Kind) (v w : SeatView V) (x : CellWord) (lost : NumberedHandle) (id : TableId) → Trades e lost
      → CameOut e k v x w → IsSized id v.shape → IfSome x.owned (λ b. IsCounted k b id)
  came_counted e k v w x lost id trades c sized = go x.owned refl
    where
      go : (q : Option Block) → x.owned ≡ q → IfSome q (λ b. IsCounted k b id)
      go None is = tt
      go (Some b) is =
          let o = object_shown (blocks_of (known w)) c.handle.object b (sym (ap (λ y. y.owned) c.shows) ∙ is) in
          came_inside v w Idle e lost c.handle k o.0 b id trades c.event c.kind o.1 o.2 sized

  pub hand_at : (me me' : At V) (k : Kind) (h : NumberedHandle) → me' ≡ me → InHand (known me.0) me.0.view.name k h
      → InHand (known me'.0) me'.0.view.name k h
  hand_at me me' k h is hand = subst (λ (y : At V). InHand (known y.0) y.0.view.name k h) (sym is) hand

  pub hand_of_cell : (me me' : At V) (k : Kind) (c : Cell) (h : NumberedHandle) → me' ≡ me → k ≡ kind_in me.0.shape c
      → InHand (known me.0) me.0.view.name k h → InHand (known me'.0) me'.0.view.name (kind_in me'.0.shape c) h
  hand_of_cell me me' k c h is kind hand =
      subst (λ (y : At V). InHand (known y.0) y.0.view.name (kind_in y.0.shape c) h) (sym is)
      (subst (λ m. InHand (known me.0) me.0.view.name m h) kind hand)

  -- a look that saw what is expected changed nothing
  pub unmoved_alike : (me me' : At V) (k : Kind) (h : NumberedHandle) (x y : CellWord) → IsWordOf me.0 h y → x.owned ≡ y.owned → x.place ≡ y.place
      → (x.owned ≡ None → equivalent (handle k None x.place) h ≡ true → me' ≡ me) → (x.owned ≢ None → me' ≡ me) → me' ≡ me
  unmoved_alike me me' k h x y is owned place none some' = go x.owned refl
    where
      go : (q : Option Block) → x.owned ≡ q → me' ≡ me
      go (Some b) e = some' (not_none x.owned (ap is_some e))
      go None e =
          let shows = word_alike me.0 h x y is owned place in
          let obj : h.object ≡ None = no_block _ h.object (sym (ap (λ z. z.owned) shows) ∙ e) in
          let same : x.place ≡ h.place = ap (λ z. z.place) shows in
          none e ((λ i. same_number None (obj i) && same_place (same i) h.place) ∙ place_self h.place)
