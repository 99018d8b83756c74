-- The words of elsewhere that the proofs of this crate cite, passed on from one place. Declares nothing.
pub use Rattle.std.specs.declared.alloc.Allocator.{Ghosts}
pub use Rattle.std.proofs.BoxSteps.Form.{args, Bx, Good, handle, own, P, R, X, τ}
pub use Rattle.std.proofs.VecSteps.Shapes.{after}
pub use Rattle.std.proofs.alloc.Calls.{Fits, Goes-blank, handle_tells, second, token, α}
pub use base.Fml.{fat, flft, Fml, froom, fsep, ftrue, GName, Incl-trans, Lft, Share}
pub use base.Fraction.{full_share}
pub use base.Logic.{emp, ent, fst∗, sep, SProp, via}
pub use contract.BorrowLft.{meet_⊑_right, ◌⊑◌}
pub use contract.Monad.{fact, Fun}
pub use contract.Running.{tables}
pub use denote.Exit.{no}
pub use denote.Memory.{cell_at, mem, part_at}
pub use denote.Param.Send.{Frees, IsSend, IsSync}
pub use denote.RattleType.{owns, RattleType, Valss}
pub use denote.RawPtr.{block_of, block_ptr, count_of, lies_at, null_ptr, Ptr, ptr_row_laws, RawPtr}
pub use denote.Signature.{plain}
pub use denote.Steps.{nothing}
pub use denote.Struct.Lending.{lent_at, lent_at_shr_laws}
pub use denote.Struct.Owning.{shape}
pub use denote.Struct.Struct.{Struct, Struct-row_laws, within}
pub use denote.Struct.Tuple.{Tuple}
pub use denote.Triple.Carry.{spared}
pub use denote.Triple.Clauses.{Clauses, closing, Ended}
pub use denote.Triple.Entry.{on_entry}
pub use denote.Triple.Spec.{Meets, triple_of}
pub use denote.Triple.Statement.{Triple}
pub use denote.Triple.Table.{entered, run_framed}
pub use denote.Triple.Walked.{ends_at, Goes-dropped, says, stay_dropped, Stays, walk_Meets}
pub use denote.Triple.Walked.{walk_of, walked}
pub use mir.MapTy.{inst_fn}
pub use mir.Syntax.{Body, Fn, named, tcons, tnil, Ty, ty_ptr}
pub use mir.Val.{has_ty, Val, vcons, vnil, vptr, vstruct, WT}
pub use prog.Capped.{capped_fits}
pub use prog.Memory.{align, capped, Memory, size}
pub use prog.RawLaws.{align-raw, size-raw}
pub use prog.Routine.{Routine}
pub use prog.Wp.{Calls, Env, Loops, Tables, WpFn}
pub use seplogic.Ra.Ura.{Ura}
pub use sound.WpLaws.{fm_of, FmC, WpFn-mono}
pub use types.ByLocal.{alloc_all, env, free_all, get, get_in, give_at, look_at, pass_all, sets}
pub use types.ByLocal.{sets_last, take_at, through}
pub use types.Kit.{at_ret, await, by, done, drop, feq_i, fjoin, fpack, frame, fsplit, given, join}
pub use types.Kit.{keep, later, learn, move, pick, qed, raw, some, split, split3, suffices, use1}
pub use types.Kit.{use2, !, ‵, ◌$◌, ◌∵◌, ◌⊛◌}
pub use types.Logic.{Logic, sem}
pub use types.Part.{agg, sub, whole}
pub use types.Run.{addr, align_word, and_then, assigns_last, blocks, enter, exec, first, fld, from}
pub use types.Run.{init, load, look, no_more, of_opd, returns, size_word, stop}
pub use Rattle.slot_arena.specs.Ownership.{block_owns, content, value_lent}
pub use Rattle.slot_arena.specs.contracts.cell.RawCell.{the_row}
