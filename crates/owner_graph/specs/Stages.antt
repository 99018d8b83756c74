-- Stages: parts of a knot, one after another, from each of which one owner leads to the next. All
-- of it is own.
use Rattle.std.specs.Prelude.{◌≡◌, ◌≢◌, ◌⊎◌, ℕ, ◌+◌, ◌<◌, ◌≤◌, true, Bool, List}
use Rattle.owner_graph.specs.declared.holding.Holding.{Holding}
use Rattle.owner_graph.specs.declared.stages.Stages.{Stages}
use Rattle.owner_graph.specs.Fed.{marked}
use Rattle.owner_graph.specs.Labels.{at}

-- the handle is at the place that is recorded for a stage
abbrev pub IsExit : Stages → ℕ → Holding → Type 0
IsExit c s h = (h.from ≡ at c.sources.items s) × (h.slot ≡ at c.slots.items s)

-- the owner is within a stage, and in a vertex of a lesser rank
abbrev pub LeadsOn : Stages → Holding → Type 0
LeadsOn c h =
    (at c.stages.items h.from ≡ at c.stages.items h.to)
    × (at c.ranks.items h.from < at c.ranks.items h.to)

-- the owner that leads from a stage leads to the next one, and to a vertex of a greater rank
abbrev pub LeadsOut : Stages → Holding → Type 0
LeadsOut c h =
    IsExit c (at c.stages.items h.from) h
    × (at c.stages.items h.from + 1 ≡ at c.stages.items h.to)
    × (at c.ranks.items h.from < at c.ranks.items h.to)

-- that of the last stage of a knot leads to the first
abbrev pub LeadsRound : Stages → ℕ → Holding → Type 0
LeadsRound c k h =
    IsExit c (at c.stages.items h.from) h
    × (at c.stages.items h.from + 1 ≡ at c.afters.items k)
    × (at c.stages.items h.to ≡ at c.firsts.items k)

-- where an owner in a vertex that stays is on one of a knot with stages, it is in one of that knot,
-- and does one of these
abbrev pub IsStaged : List Bool → List ℕ → Stages → Holding → Type 0
IsStaged stays knots c h =
    h.is_owner ≡ true → marked stays h.from ≡ true
    → marked c.are.items (at knots h.to) ≡ true
    → (h.from ≢ 0) × (at knots h.from ≡ at knots h.to)
    × (LeadsOn c h ⊎ (LeadsOut c h ⊎ LeadsRound c (at knots h.to) h))

-- a tie is recorded as the owner that leads from a stage of its knot
abbrev pub IsOut : Stages → Holding → Type 0
IsOut c t =
    let s = at c.stages.items t.from in
    (marked c.are.items t.to ≡ true) × (at c.firsts.items t.to ≤ s)
    × (s < at c.afters.items t.to) × IsExit c s t
