-- The words of elsewhere that the proofs of this crate cite, passed on from one place. Declares nothing.
pub use Rattle.left_right.specs.Parted.{tokens}
pub use Rattle.atomic_table.proofs.Walks.{proved}
pub use base.Before.{before}
pub use base.Fml.{flft, Fml, fsep, ftrue, Lft}
pub use base.Logic.{emp, ent, id⊢, sep, snd∗, SProp, via}
pub use base.Stored.{Gv}
pub use contract.Monad.{fact, fact_i}
pub use contract.Running.{tables}
pub use denote.Builtin.{RefOf, unit}
pub use denote.Exit.{no, yes}
pub use denote.Param.{bounded, param}
pub use denote.Param.Laws.{Laws}
pub use denote.Param.Send.{IsSend, IsSync, sendable}
pub use denote.Param.Shared.{copy_shared}
pub use denote.RattleType.{owns, RattleType}
pub use denote.Ref.{mut_Tells, mut_vals, shr_Tells, shr_vals}
pub use denote.Sharing.{said}
pub use denote.Signature.{plain, types_at}
pub use denote.Steps.{closes, nothing, opens}
pub use denote.Struct.Laws.{field_copy}
pub use denote.Struct.Lending.{of_Lends}
pub use denote.Struct.Owning.{shape}
pub use denote.Struct.Struct.{Struct}
pub use denote.Struct.Tuple.{Tuple}
pub use denote.Triple.Entry.{alive}
pub use denote.Triple.Walked.{Goes-dropped, Goes-ref, stay_dropped, stay_ref, Stays, walk_of}
pub use mir.MapTy.{inst_fn}
pub use mir.Syntax.{a_type, dcons, dnil, named}
pub use mir.Val.{Val, vptr, vunit}
pub use seplogic.Ra.Ura.{Ura}
pub use types.ByLocal.{alloc_all, free_all, get, look_at, pass_all, sets}
pub use types.Kit.{await, by, done, drop, feq_i, fjoin, fjoin3, fsplit, fsplit3, given, join, keep}
pub use types.Kit.{later, learn, move, now, pick, qed, raw, rewrite, some, split, updating, use0}
pub use types.Kit.{use1, use2, use3, !, ‵, ◌$◌, ◌∵◌, ◌⊛◌}
pub use types.Logic.{Logic, sem}
pub use types.Part.{agg}
pub use types.Run.{and_then, enter, no_more, of_opd, returns, unit_lit}
pub use Rattle.ghost_map.specs.Chain.{blank_owns, Cell, chain, entry_owns, map_owns, path, state}
pub use Rattle.ghost_map.specs.contracts.entry.GhostEntry.{the_row}
pub use Rattle.ghost_map.specs.declared.map.Named.{Ghosts}
