-- Owners among so many vertices are edges among so many vertices.
use Rattle.std.proofs.Common.{ℕ, ◌+◌, Bool, true, false, cond, List, [], ◌∷◌, ◌++◌, arith}
use Rattle.owner_graph.proofs.Prelude.{All, All-cons, All-head, All-nil, All-tail, AreWithin}
use Rattle.owner_graph.proofs.Prelude.{edge_of, Holding, IsAmong, IsEdgeWithin, owner_edges}

pub among_within : (vertices : ℕ) (hs : List Holding) → All (IsAmong vertices) hs
    → AreWithin (vertices + 1) (owner_edges hs)
among_within vertices [] all = All-nil (IsEdgeWithin (vertices + 1))
among_within vertices (h ∷ hs) all =
    let a = All-head (IsAmong vertices) h hs all in
    let x = a.0 in
    let y = a.1 in
    go h.is_owner (omega (arith, x), omega (arith, y))
    (among_within vertices hs (All-tail (IsAmong vertices) h hs all))
  where
    go : (t : Bool) → IsEdgeWithin (vertices + 1) (edge_of h)
        → AreWithin (vertices + 1) (owner_edges hs)
        → AreWithin (vertices + 1) (cond t (edge_of h ∷ []) [] ++ owner_edges hs)
    go true here rest = All-cons (IsEdgeWithin (vertices + 1)) (edge_of h) (owner_edges hs) here
        rest
    go false here rest = rest
