-- Where the cell of a call is.
use Rattle.std.proofs.Common.{◌≡◌, ℕ, ◌+◌, ◌<◌, sym, refl, ap, ◌∙◌, subst, arith}
use Rattle.control_block.proofs.Prelude.{Cell, cell_place, desk_now, DeskNow, Inside, IsAim}
use Rattle.control_block.proofs.Prelude.{IsCellAt, IsDesk, IsSized, Kind, kind_in, Owner, Shape}
use Rattle.control_block.proofs.Prelude.{site_place, TableId}
use Rattle.control_word.specs.Layout.{IsSite}
use Rattle.control_block.specs.CellCalls.{IsOpenAt, cell_of_site}
use Rattle.control_word.specs.declared.site.Site.{Site}
use Rattle.control_word.specs.declared.site.Site.TheVariants.{Free, Member}
use Rattle.control_block.proofs.desks.DeskBags.{holding_in}
use Rattle.control_block.proofs.desks.DeskSteps.{word_inside}

module _ {V : Type 0} where
  module _ (d : Inside V) (h : IsDesk d) (k : Kind) (i : ℕ) where
    own_word : (id : TableId) (z : Shape) (s : Site) → d.seat.table_id ≡ id → d.seat.me.0.shape ≡ z → IsOpenAt (desk_now d) s k
        → i ≡ site_place z.blocks s
        → IsSite s × (i < id.words)
    own_word id z (Free n) table shape cell at =
        let words = ap (λ (y : TableId). y.words) (sym table) ∙ h.sized.words in let blocks = ap (λ (y : Shape). y.blocks) shape in let low = cell.0 in
        (tt, omega arith)
    own_word id z (Member b m) table shape cell at =
        let t = cell.2 in let low = cell.0 in let most = h.limits.members.2 in let lt : m < 9 = omega arith in
        let w = word_inside d id Owner _ t.0 b.0 (7 + m) h table (holding_in d (desk_now d) Owner t.0 b.0 h refl t.1) (omega arith) in
        ((w.0, lt), subst (λ j. j < id.words) (sym at) w.1)

    own_cell : (z : Shape) (s : Site) → d.seat.me.0.shape ≡ z → IsOpenAt (desk_now d) s k → i ≡ site_place z.blocks s
        → IsCellAt d.seat.me.0 (cell_of_site (desk_now d) s) i × (k ≡ kind_in d.seat.me.0.shape (cell_of_site (desk_now d) s))
    own_cell z (Free n) shape cell at = ((cell.0, at ∙ ap (λ (y : Shape). cell_place y.blocks n) (sym shape)), cell.1)
    own_cell z (Member b m) shape cell at =
        let t = cell.2 in ((cell.0, (t.0, b.0, holding_in d (desk_now d) Owner t.0 b.0 h refl t.1, at)), cell.1)

    -- the word of a cell that is open to the desk is one of the table's, and of the cell
    pub word_there : (y : DeskNow V) (id : TableId) (z : Shape) (s : Site) → desk_now d ≡ y → d.seat.table_id ≡ id → d.seat.me.0.shape ≡ z
        → IsOpenAt y s k → i ≡ site_place z.blocks s → IsSite s × (i < id.words)
    word_there y id z s is table shape cell at =
        own_word id z s table shape (subst (λ (u : DeskNow V). IsOpenAt u s k) (sym is) cell) at

    pub cell_there : (y : DeskNow V) (z : Shape) (s : Site) (c : Cell) → desk_now d ≡ y → d.seat.me.0.shape ≡ z → IsOpenAt y s k
        → c ≡ cell_of_site y s
        → i ≡ site_place z.blocks s → IsCellAt d.seat.me.0 c i × (k ≡ kind_in d.seat.me.0.shape c)
    cell_there y z s c is shape cell named at =
        subst (λ (x : Cell). IsCellAt d.seat.me.0 x i × (k ≡ kind_in d.seat.me.0.shape x)) (ap (λ (u : DeskNow V). cell_of_site u s) is ∙ sym named)
        (own_cell z s shape (subst (λ (u : DeskNow V). IsOpenAt u s k) (sym is) cell) at)

    -- and so a call on it may begin
    pub aim_of : (y : DeskNow V) (id : TableId) (z : Shape) (s : Site) (c : Cell) → desk_now d ≡ y → d.seat.table_id ≡ id → d.seat.me.0.shape ≡ z
        → IsOpenAt y s k → c ≡ cell_of_site y s → i ≡ site_place z.blocks s → IsAim c k i id d.seat.table_id d.seat.me
    aim_of y id z s c is table shape cell named at =
        let there = cell_there y z s c is shape cell named at in
        record {
          table = table;
          sized = subst (λ (u : TableId). IsSized u d.seat.me.0.shape) table h.sized;
          rests = h.rests;
          word = (word_there y id z s is table shape cell at).1;
          cell = there.0;
          kind = there.1;
        }
