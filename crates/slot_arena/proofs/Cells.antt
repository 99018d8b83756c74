-- Cells at their type parameters, under short names.
--     Cell            a cell as a row.       cell_ty      its MIR type
--     word            its machine value, at the allocator's handle
use Rattle.std.proofs.Common.{ℕ, T}
use Rattle.std.specs.Prelude.{None, Option, Some}
use Rattle.slot_arena.proofs.Prelude.{block_owns, block_ptr, Bx, content, Fits, Fml, has_ty, lent_at_shr_laws}
use Rattle.slot_arena.proofs.Prelude.{P, Ptr, ptr_row_laws, R, RattleType, shape, Struct}
use Rattle.slot_arena.proofs.Prelude.{Struct-row_laws, tcons, tnil, token, Ty, ty_ptr, Val, value_lent}
use Rattle.slot_arena.proofs.Prelude.{vcons, vnil, vptr, vstruct, WT, X, α}
use Rattle.std.proofs.ResultValues.{and_tt}
use denote.RattleType.{RowLaws}
use denote.Sharing.{ShrLaws}
use denote.SharingLaws.{beside_shr_laws, nothing_shr_laws}
use denote.Struct.Owning.{Owning}
use mir.Syntax.{ty_struct}
use Rattle.slot_arena.specs.declared.cell.RawCell.{RawCell}
use Rattle.slot_arena.specs.contracts.cell.RawCell as C

pub value_lent_laws : (R : RattleType) → RowLaws R → (p : Ptr) (c : Option R.Denot) → ShrLaws (value_lent R p c)
value_lent_laws R L p None = nothing_shr_laws
value_lent_laws R L p (Some x) = lent_at_shr_laws R L p x

module _ (E : Bx) where
  abbrev pub D : Type 0
  D = RawCell (X E) E.al.row.Denot

  abbrev pub Held : Type 0
  Held = Option (X E)

  abbrev pub cell : Owning
  cell = C.the_type (R E) (P E) E.al.g

  abbrev pub Cell : RattleType
  Cell = C.the_row (R E) (P E) E.al.g

  abbrev pub cell_ty : Ty
  cell_ty = ty_struct cell.name (tcons ty_ptr (tcons (α E.al) tnil))

  -- the value or the room for one, in this place
  abbrev pub inside : Held → ℕ → ℕ → Fml
  inside c b o = content (R E) (block_ptr b o) c

  -- what a cell owns beside that
  abbrev pub block : E.al.row.Denot → Ptr → Fml
  block a p = block_owns (R E) p (token E.al a)

  abbrev pub word : Val → ℕ → ℕ → Val
  word hv b o = vstruct (vcons (vptr b o) (vcons hv vnil))

  pub cell_typed : (hv : Val) (b o : ℕ) → Fits E.al hv → T (has_ty cell_ty (word hv b o)) × WT (word hv b o)
  cell_typed hv b o fa = (and_tt (has_ty (α E.al) hv) fa.0, (tt, (fa.1, tt)))

  pub cell_row_laws : RowLaws Cell
  cell_row_laws d b o =
      beside_shr_laws ((Struct (shape cell)).shr_at (d.at, (d.alloc, tt)) b o) (value_lent (R E) d.at d.held)
      (Struct-row_laws (shape cell) (ptr_row_laws, (E.al.laws.shr_laws, tt)) (d.at, (d.alloc, tt)) b o)
      (value_lent_laws (R E) E.laws.shr_laws d.at d.held)
