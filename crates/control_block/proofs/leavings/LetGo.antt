-- What the steps of a call come to by which a handle comes out of a cell and leaves.
use Rattle.std.proofs.Common.{◌≡◌, ℕ, ◌-◌, ◌≤◌, ◌≢◌, ◌==◌, false, [], IfSome, Some, None, Option, sym, refl}
use Rattle.std.proofs.Common.{ap, ◌∙◌, subst, inl, inr, ⊎_elim, arith, eq-eqb, ne_eqb}
use Rattle.std.proofs.lemmas.Bool.{cond-false, cond-true}
use Rattle.control_block.proofs.Prelude
use Prelude.{Added, At, Block, block_out, blocks_of, CameOut, cases_eq, CellWord, debt, Event, Gave, goes_on}
use Prelude.{handle, HoldingInBlock, Idle, IsCounted, IsReleasedBy, IsSized, Kind, known, LetGo, MayLeave}
use Prelude.{NumberedHandle, object_by, object_of, opening_of, OutAndGone, Owes, owing, Paying, Pending, short_of, slot, spot}
use Prelude.{Place, Released, Rests, SeatView, shown_handle, TableId, value}
use Rattle.control_block.specs.Leaving.{OwesFor, leave_of, nothing}
use Rattle.control_block.proofs.cells.CellRetries.{added_owes, came_object, given_back}
use Rattle.control_block.proofs.cells.CellRetries.{object_shown}
use Rattle.control_block.proofs.words.Seats.{added_as}
use Rattle.control_block.proofs.cells.CellTrades.{Trades, came_in_shape, came_inside}
use Rattle.control_word.specs.Limits.{cell_funds}

module _ {V : Type 0} where
  pub owes_rests : (me : At V) → Owes Idle me → Rests me
  owes_rests me o = record { awake = o.awake; idle = o.pending; empty = o.empty; none = o.none }

  -- a desk that owes nothing and tells an event rests
  pub gone_rests : (v : SeatView V) (me : At V) (e : Event V) → Added v Idle None e me.0 → v.view.spent ≡ false → me.1 ≡ [] → Rests me
  gone_rests v me e a awake none = owes_rests me (added_owes v me Idle e a awake none)

  -- what came out may leave with the funds that it has
  pub may_go : (k : Kind) (x : CellWord) (me : At V) (b : Block) (o : ℕ) (p : Option Place) (f : ℕ) → OwesFor k x me → x.owned ≡ Some b
      → o ≡ (known me.0).latest b.0 → p ≡ x.place → f ≡ cell_funds - x.taken → HoldingInBlock me.0 k o p b.0 → MayLeave me k o p b.0 f
  may_go k x me b o p f owes is object place left holds =
      let l = (known me.0).latest b.0 in let w = spot b.0 (slot k) in let n = cell_funds - x.taken in
      let now : Owes (short_of k l x.place w n) me =
      subst (λ q. Owes (debt (handle k (object_by (known me.0).latest q) x.place) q (cell_funds - x.taken)) me) is owes in
      ⊎_elim
      (λ (e : n ≡ cell_funds).
      inl (
        owes_rests me (subst (λ (q : Pending V). Owes q me) (cond-true (n == cell_funds) Idle (Paying k l x.place w n 0) (eq-eqb n cell_funds e)) now),
        holds,
        left ∙ e,
      ))
      (λ (ne : n ≢ cell_funds).
      inr (
        subst (λ (y : ℕ × Option Place × ℕ). Owes (owing k y.0 y.1 b.0 y.2 0) me) (λ i. (sym object i, sym place i, sym left i))
            (subst (λ (q : Pending V). Owes q me) (cond-false (n == cell_funds) Idle (Paying k l x.place w n 0) (ne_eqb n cell_funds ne)) now),
        omega arith,
      ))
      (cases_eq n cell_funds)

  pub meant_out : (k : Kind) (v : SeatView V) (x : CellWord)
      → IfSome x.owned (λ b. (block_out x ≡ b) × (object_of (shown_handle v k x) ≡ (known v).latest b.0))
  meant_out k v x = go x.owned
    where
      go : (q : Option Block) → IfSome q (λ b. ((elim q as (λ _. Block) [ None ↦ record { 0 = 0 } | Some c ↦ c ]) ≡ b)
          × (object_of (handle k (object_by (known v).latest q) x.place) ≡ (known v).latest b.0))
      go None = tt
      go (Some b) = (refl, refl)

  -- an empty handle owes nothing
  pub none_owed : (k : Kind) (x : CellWord) (me : At V) → OwesFor k x me → x.owned ≡ None → Rests me
  none_owed k x me owes is =
      owes_rests me (subst (λ q. Owes (debt (handle k (object_by (known me.0).latest q) x.place) q (cell_funds - x.taken)) me) is owes)

  pub none_gone : (k : Kind) (v : SeatView V) (x : CellWord) (r : Released V) → x.owned ≡ None → r ≡ nothing → LetGo k v x.owned x.place r v
  none_gone k v x r is none = subst (λ q. LetGo k v q x.place r v) (sym is) (none, refl)

  -- what left is the handle that was shown
  pub some_gone : (k : Kind) (v u : SeatView V) (x : CellWord) (b : Block) (o : ℕ) (p : Option Place) (r : Released V) → x.owned ≡ Some b
      → o ≡ (known v).latest b.0 → p ≡ x.place → Added v Idle None (leave_of k (handle k (Some o) p) r) u → IsReleasedBy k r
      → IfSome r.value (λ y. value (opening_of v.shape) u.view.seen o ≡ Some y) → LetGo k v x.owned x.place r u
  some_gone k v u x b o p r is object place a only kept =
      subst (λ q. LetGo k v q x.place r u) (sym is)
      (subst (λ (y : ℕ × Option Place). Added v Idle None (leave_of k (handle k (Some y.0) y.1) r) u × IsReleasedBy k r
      × IfSome r.value (λ c. value (opening_of v.shape) u.view.seen y.0 ≡ Some c)) (λ i. (object i, place i)) (a, only, kept))

  module _ (e : NumberedHandle → Event V) (k : Kind) (v : SeatView V) (x : CellWord) (lost : NumberedHandle) (trades : Trades e lost) where
    -- the handle that came out owes its funds
    pub gave_owes : (me : At V) → Gave e k v x me.0 → v.view.spent ≡ false → me.1 ≡ [] → OwesFor k x me
    gave_owes me g awake none = go x.owned refl
      where
        go : (q : Option Block) → x.owned ≡ q → Owes (debt (handle k (object_by (known me.0).latest q) x.place) q (cell_funds - x.taken)) me
        go None is =
            added_owes v me Idle (e g.old) (subst (λ q. Added v (debt g.old q (cell_funds - x.taken)) None (e g.old) me.0) is g.event) awake none
        go (Some b) is =
            let w = me.0 in
            let c : CameOut e k v x (goes_on w) = record {
              handle = g.old;
              kind = g.kind;
              shows = g.shows;
              event = added_as v w (goes_on w) (debt g.old x.owned (cell_funds - x.taken)) Idle None None (e g.old) g.event refl;
            } in
            let o = (came_object e k v (goes_on w) x lost b trades c is).0 in
            let object : object_of g.old ≡ (known w).latest b.0 = ap (λ (q : Option ℕ). object_of (handle k q None)) o in
            let place : g.old.place ≡ x.place = sym (ap (λ y. y.place) g.shows) in
            let now = added_owes v me _ (e g.old) (subst (λ q. Added v (debt g.old q (cell_funds - x.taken)) None (e g.old) w) is g.event) awake none in
            subst (λ (y : Kind × ℕ × Option Place). Owes (short_of y.0 y.1 y.2 (spot b.0 (slot y.0)) (cell_funds - x.taken)) me)
            (λ i. (g.kind i, object i, place i)) now

    -- and is in the desk's hands
    pub gave_holds : (me : At V) → Gave e k v x me.0
        → IfSome x.owned (λ b. HoldingInBlock me.0 k (object_of (shown_handle me.0 k x)) x.place b.0)
    gave_holds me g = go x.owned refl
      where
        go : (q : Option Block) → x.owned ≡ q
            → IfSome q (λ b. HoldingInBlock me.0 k (object_of (handle k (object_by (known me.0).latest q) x.place)) x.place b.0)
        go None is = tt
        go (Some b) is =
            let c = given_back e k v me.0 (goes_on me.0) x g refl in
            let h = (came_object e k v (goes_on me.0) x lost b trades c is).1 in
            record { has = h.has; there = h.there }

    -- and its block and count are the table's
    pub gave_there : (w : SeatView V) (id : TableId) → Gave e k v x w → IsSized id v.shape → IfSome x.owned (λ b. IsCounted k b id × (b.0 ≤ id.slots))
    gave_there w id g sized = go x.owned refl
      where
        go : (q : Option Block) → x.owned ≡ q → IfSome q (λ b. IsCounted k b id × (b.0 ≤ id.slots))
        go None is = tt
        go (Some b) is =
            let o = object_shown (blocks_of (known w)) g.old.object b (sym (ap (λ y. y.owned) g.shows) ∙ is) in
            let p = debt g.old x.owned (cell_funds - x.taken) in
            let inside = came_in_shape v w p e lost g.old k o.0 b trades g.event g.kind o.1 o.2 in let low = inside.1 in let slots = sized.slots in
            (came_inside v w p e lost g.old k o.0 b id trades g.event g.kind o.1 o.2 sized, omega arith)

  over_already : (w : SeatView V) → w.view.pending ≡ Idle → w.hand ≡ None → goes_on w ≡ w
  over_already w idle empty =
      λ i. record {
        shape = w.shape;
        view = record { name = w.view.name; spent = w.view.spent; pending = sym idle i; seen = w.view.seen };
        hand = sym empty i;
      }

  module _ (e : NumberedHandle → Event V) (k : Kind) (v w : SeatView V) (x : CellWord) (g : Gave e k v x w) (is : x.owned ≡ None) where
    none_over : goes_on w ≡ w
    none_over =
        let now = subst (λ q. Added v (debt g.old q (cell_funds - x.taken)) None (e g.old) w) is g.event in
        over_already w (ap (λ (u : SeatView V). u.view.pending) now.now) (ap (λ (u : SeatView V). u.hand) now.now)

  again : (v u : SeatView V) (a : Event V) → Added v Idle None a u → Added (goes_on v) Idle None a u
  again v u a t = record { between = t.between; now = t.now; quiet = t.quiet; legal = t.legal }

  -- it came out and left
  pub out_and_gone : (e : NumberedHandle → Event V) (k : Kind) (v w u : SeatView V) (x : CellWord) (r : Released V) → Gave e k v x w
      → LetGo k w x.owned x.place r u → OutAndGone e k v x r u
  out_and_gone e k v w u x r g gone =
      record { between = goes_on w; out = given_back e k v w (goes_on w) x g refl; gone = go x.owned refl gone }
    where
      go : (q : Option Block) → x.owned ≡ q → LetGo k w q x.place r u → LetGo k (goes_on w) q x.place r u
      go None is t = (t.0, t.1 ∙ sym (none_over e k v w x g is))
      go (Some b) is t = (again w u _ t.0, t.1, t.2)
