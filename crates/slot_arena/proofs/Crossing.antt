-- Which cells may cross threads: as their values and their allocators may, where what frees the allocator's blocks
-- names no key.
use Rattle.slot_arena.proofs.Prelude.{block_of, block_owns, block_ptr, content, count_of, Fml, Frees, ftrue}
use Rattle.slot_arena.proofs.Prelude.{full_share, Ghosts, IsSend, IsSync}
use Rattle.slot_arena.proofs.Prelude.{null_ptr, Ptr, RattleType, shape, value_lent}
use Rattle.std.specs.Prelude.{None, Option, Some}
use base.Shift.{Keyless}
use denote.Builtin.{RawPtr}
use denote.Exit.{Exit, hidden, leaves, unchanged, under}
use denote.Param.Send.{Common, owning_send, part_keyless, Quiet, sendable, struct_send}
use denote.Param.Send.{struct_sync}
use denote.RawPtr.{in_block}
use denote.Struct.Owning.{fields, to}
use denote.Struct.Struct.{exits_of}
use Rattle.slot_arena.specs.Ownership.{block_type}
use Rattle.slot_arena.specs.contracts.cell.RawCell as C

quiet : {D X : Type 0} (to : D → X) (e : Exit X) → Quiet e → Quiet (hidden (under to e))
quiet to unchanged q = λ x w. tt
quiet to (leaves L l S s r₀) q = λ d. q (to d)

inside : (R : RattleType) → IsSend R → (p : Ptr) (c : Option R.Denot) → Keyless (content R p c)
inside R s (block_ptr b o) None = tt
inside R s null_ptr None = tt
inside R s (block_ptr b o) (Some x) = part_keyless R s full_share x b o
inside R s null_ptr (Some x) = tt

beside : (p : Ptr) (F : Fml) → Keyless F → Keyless (in_block p F)
beside (block_ptr b o) F k = k
beside null_ptr F k = tt

seen : (R : RattleType) → IsSync R → (p : Ptr) (c : Option R.Denot) → Common (value_lent R p c)
seen R s p None κ = tt
seen R s p (Some x) κ = (beside p ftrue tt, s.shared x (block_of p) (count_of p) κ)

pointer_sends : IsSend RawPtr
pointer_sends = search sendable

pointer_shares : IsSync RawPtr
pointer_shares = search sendable

module _ (V A : RattleType) (g : Ghosts A.Denot) where
  blocks : Frees g g.dealloc_token → (a : A.Denot) (p : Ptr) → Keyless (block_owns V p (g.dealloc_token a))
  blocks f a p = f.frees a (block_type V) p

  pub Cell-send : IsSend V → IsSend A → Frees g g.dealloc_token → IsSend (C.the_row V A g)
  Cell-send v s f =
      let O = C.the_type V A g in
      owning_send O (pointer_sends, (s, tt)) (λ d. (inside V v d.at d.held, blocks f d.alloc d.at))
      (λ k. quiet (to O) (exits_of k (fields O)) ((struct_send (shape O) (pointer_sends, (s, tt))).leaving k))

  pub Cell-sync : IsSync V → IsSync A → IsSync (C.the_row V A g)
  Cell-sync v s =
      record {
        shared = λ d b o κ.
            let O = C.the_type V A g in
            ((struct_sync (shape O) (pointer_shares, (s, tt))).shared (to O d) b o κ, seen V v d.at d.held κ);
      }
