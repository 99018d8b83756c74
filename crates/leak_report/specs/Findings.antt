-- What cells hold at a scene, and what is found of it. All of it is own.
use Rattle.std.specs.Prelude.{ℕ, suc, List, [], ◌∷◌}
use Rattle.leak_report.specs.Prelude.{AbstractState, AreFindings, Findings, Holding, state_in}
use Rattle.leak_report.specs.Holders.{all_held}

-- a handle whose slot is its place in a list; which cell it is in is told by its label
abbrev pub placed : ℕ → Holding → Holding
placed n h = record { from = h.from; to = h.to; slot = n; label = h.label; is_owner = h.is_owner }

-- all of them, from this place on
abbrev pub numbered : ℕ → List Holding → List Holding
numbered n [] = []
numbered n (h ∷ hs) = placed n h ∷ numbered (suc n) hs

-- what all cells hold at a scene
abbrev pub held_at : AbstractState → List Holding
held_at c = numbered 0 (all_held (state_in c) c.extent.shape.blocks)

-- this was found of it: which blocks are kept, their knots, what ties them, and what cuts one
abbrev pub AreFound : AbstractState → Findings → Type 0
AreFound c f = AreFindings c.extent.shape.blocks (held_at c) f
