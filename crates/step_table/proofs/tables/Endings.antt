-- Steps on the block of an object that ends.
use Rattle.std.proofs.Common.{◌≡◌, ℕ, ◌+◌, ◌-◌, ◌<◌, Bool, ◌↔◌, List, ◌∷◌, get_or, set, ◌==◌, sym}
use Rattle.std.proofs.Common.{refl, ap, ◌∙◌, subst, arith}
use Rattle.step_table.proofs.Prelude.{allowed, Block, blocks_of, Clear, clears', empty, ending}
use Rattle.step_table.proofs.Prelude.{entry, Finish, ghost_after_step, GhostState, HasRoom, Idle}
use Rattle.step_table.proofs.Prelude.{Kind}
use Rattle.step_table.proofs.Prelude.{kind_of_member, me, model_state, Nothing, NumberedHandle}
use Rattle.step_table.proofs.Prelude.{object_of_block, opening, pending, purse, sees_as, spot}
use Rattle.step_table.proofs.Prelude.{Stands, TableInvariant, view_in, weak}
use Rattle.std.proofs.lemmas.List.{set-get_or}
use Rattle.control_word.proofs.steps.Finish.{finishes'}
use Rattle.control_word.proofs.words.CellWords.{cell_read}
use Rattle.control_word.specs.declared.model.event.Cell.TheVariants.{Member}
use Rattle.control_word.specs.declared.model.event.Event.TheVariants as event
use Rattle.control_word.specs.Events.{after as cleared}
use Rattle.control_word.specs.Words.{packed}
use Rattle.step_table.proofs.tables.Cells.{decoded, zero_shows}
use Rattle.step_table.proofs.tables.Members.{member_kind, three_members}
use Rattle.step_table.proofs.tables.Standing.{point, ready, kept_after}
use Rattle.step_table.proofs.tables.Places.{event_by, named, ending_busy, there}
use Rattle.step_table.proofs.tables.Values.{ending_value}

packed_empty : (block : ℕ → ℕ) (m : ℕ) → packed block (empty (kind_of_member 2 m)) ≡ 0
unfolding packed
packed_empty block m = refl

ends : (v : GhostState) (d : ℕ) (b : Block) → TableInvariant v → d < v.extent.actors → ((model_state v).object (object_of_block v b)).phase ≡ ending d
    → ((model_state v).object (object_of_block v b)).phase ≡ ending (me (point v d))
ends v d b kept lt e = e ∙ ap ending (sym (named v d kept lt))

-- a member of an ending object is empty just where its word is 0
pub member_shows : (v : GhostState) (d : ℕ) (b : Block) (m : ℕ) → TableInvariant v → d < v.extent.actors
    → ((model_state v).object (object_of_block v b)).phase ≡ ending d → m < 3
    → (get_or v.words (spot b.0 (7 + m)) 0 ≡ 0) ↔ (((model_state v).object (object_of_block v b)).member m ≡ empty (kind_of_member 2 m))
member_shows v d b m kept lt end few =
    let busy = ending_busy v d b end in
    let c = Member (object_of_block v b) m in
    subst (λ (i : ℕ). (get_or v.words (spot i (7 + m)) 0 ≡ 0) ↔ (((model_state v).object (object_of_block v b)).member m ≡ empty (kind_of_member 2 m)))
    (there v b kept busy).0 (subst (λ (k : Kind). (get_or v.words (spot ((model_state v).object (object_of_block v b)).block (7 + m)) 0 ≡ 0)
    ↔ (((model_state v).object (object_of_block v b)).member m ≡ empty k)) (member_kind v m)
    (zero_shows v c (decoded v d c kept lt (omega (arith, few), busy))))

-- a member of an ending object is found empty
pub member_zero : (v : GhostState) (d : ℕ) (b : Block) (m : ℕ) → TableInvariant v → d < v.extent.actors → pending v d ≡ Idle
    → ((model_state v).object (object_of_block v b)).phase ≡ ending d → m < 3
    → ((model_state v).object (object_of_block v b)).member m ≡ empty (kind_of_member 2 m)
    → get_or v.words (spot b.0 (7 + m)) 0 ≡ 0
member_zero v d b m kept lt idle end few bare =
    let o = object_of_block v b in
    let busy = ending_busy v d b end in
    let h = there v b kept busy in
    let r = ready v d Idle kept lt idle in
    let read = cell_read (opening v.extent) v.words v.views v.history kept.stands d (view_in v.views d) r.seated r.awake (Member o m)
    (omega (arith, few), busy) in
    let none = kept.stands.bare.members b.0 m h.1 (omega (arith, few)) (ap (λ (x : NumberedHandle). x.object) bare) in
    let zero = ap (packed (blocks_of (model_state v))) bare ∙ packed_empty (blocks_of (model_state v)) m in
    subst (λ (c : ℕ). get_or v.words (spot c (7 + m)) 0 ≡ 0) h.0
    (let taken : kept.stands.taken (spot ((model_state v).object o).block (7 + m))
    ≡ 0 = subst (λ (c : ℕ). kept.stands.taken (spot c (7 + m)) ≡ 0) (sym h.0) none in
    omega arith)

pub kept_clear : (v : GhostState) (d : ℕ) (b : Block) (m : ℕ) → TableInvariant v → d < v.extent.actors → pending v d ≡ Idle
    → ((model_state v).object (object_of_block v b)).phase ≡ ending d → m < 3
    → ((model_state v).object (object_of_block v b)).member m ≡ empty (kind_of_member 2 m)
    → TableInvariant (ghost_after_step v d (Clear b m))
kept_clear v d b m kept lt idle end few bare =
    let o = object_of_block v b in
    let x = (model_state v).object o in
    let h = there v b kept (ending_busy v d b end) in
    let zero = member_zero v d b m kept lt idle end few bare in
    let here = ap (λ (c : ℕ). spot c (7 + m)) h.0 in
    let found : get_or v.words (spot x.block (7 + m)) 0 ≡ 0 = ap (λ (i : ℕ). get_or v.words i 0) here ∙ zero in
    let same : set v.words (spot x.block (7 + m)) 0 ≡ v.words =
    subst (λ (n : ℕ). set v.words (spot x.block (7 + m)) n ≡ v.words) found (set-get_or v.words (spot x.block (7 + m)) 0) in
    let room = (allowed (opening v.extent) v.history kept.stands.legal).rooms (me (point v d)) in
    let r = ready v d Idle kept lt idle in
    let law : Stands (opening v.extent) (set v.words (spot x.block (7 + m)) 0)
    (set v.views d (sees_as (view_in v.views d) Idle (entry (me (point v d)) (event.ClearMember o m (empty (kind_of_member 2 m))) ∷ v.history)))
    (entry (me (point v d)) (event.ClearMember o m (empty (kind_of_member 2 m))) ∷ v.history) =
    subst (λ (k : NumberedHandle). Stands (opening v.extent) (set v.words (spot x.block (7 + m)) 0)
    (set v.views d (sees_as (view_in v.views d) (purse (blocks_of (model_state v)) k 256) (entry (me (point v d)) (event.ClearMember o m k) ∷ v.history)))
    (entry (me (point v d)) (event.ClearMember o m k) ∷ v.history)) bare
    (clears' (point v d) o m r (ends v d b kept lt end) (let n = (three_members v).0 in omega (arith, few, n))
    (subst (λ (k : NumberedHandle). HasRoom (cleared {V = Nothing} (model_state v) (me (point v d)) (event.ClearMember o m k)) (me (point v d))) (sym bare)
    room) 0
    (let t = ap (packed (blocks_of (model_state v))) bare ∙ packed_empty (blocks_of (model_state v)) m in omega arith)) in
    kept_after v d (Clear b m) kept lt
    (event_by v d v.words Idle (event.ClearMember o m (empty (kind_of_member 2 m))) kept lt
    (subst (λ (w : List ℕ). Stands (opening v.extent) w
    (set v.views d (sees_as (view_in v.views d) Idle (entry (me (point v d)) (event.ClearMember o m (empty (kind_of_member 2 m))) ∷ v.history)))
    (entry (me (point v d)) (event.ClearMember o m (empty (kind_of_member 2 m))) ∷ v.history)) same law))

finishing : (v : GhostState) (d : ℕ) (b : Block) → TableInvariant v → d < v.extent.actors → pending v d ≡ Idle
    → ((model_state v).object (object_of_block v b)).phase ≡ ending d
    → ((m : ℕ) → m < 3 → ((model_state v).object (object_of_block v b)).member m ≡ empty (kind_of_member 2 m))
    → (0 < get_or v.words (spot b.0 1) 0)
    × (let e = event.Finish (object_of_block v b) (get_or v.words (spot b.0 1) 0 == 1) tt in
    Stands (opening v.extent) (set v.words (spot b.0 1) (get_or v.words (spot b.0 1) 0 - 1))
    (set v.views d (sees_as (view_in v.views d) Idle (entry (me (point v d)) e ∷ v.history))) (entry (me (point v d)) e ∷ v.history))
finishing v d b kept lt idle end bare =
    subst (λ (c : ℕ). (0 < get_or v.words (spot c 1) 0)
    × (let e = event.Finish (object_of_block v b) (get_or v.words (spot c 1) 0 == 1) tt in
    Stands (opening v.extent) (set v.words (spot c 1) (get_or v.words (spot c 1) 0 - 1))
    (set v.views d (sees_as (view_in v.views d) Idle (entry (me (point v d)) e ∷ v.history))) (entry (me (point v d)) e ∷ v.history)))
    (there v b kept (ending_busy v d b end)).0
    (finishes' (point v d) (object_of_block v b) tt (ready v d Idle kept lt idle) (ending_value (opening v.extent) v.history kept.stands.legal
    (object_of_block v b) d end)
    (ends v d b kept lt end) (λ m few. let n = (three_members v).0 in bare m (omega (arith, few, n)) ∙ ap empty (sym (member_kind v m))))

pub some_weak : (v : GhostState) (d : ℕ) (b : Block) → TableInvariant v → d < v.extent.actors → pending v d ≡ Idle
    → ((model_state v).object (object_of_block v b)).phase ≡ ending d
    → ((m : ℕ) → m < 3 → ((model_state v).object (object_of_block v b)).member m ≡ empty (kind_of_member 2 m)) → 0 < get_or v.words (spot b.0 1) 0
some_weak v d b kept lt idle end bare = (finishing v d b kept lt idle end bare).0

pub kept_finish : (v : GhostState) (d : ℕ) (b : Block) (vacant : Bool) → TableInvariant v → d < v.extent.actors → pending v d ≡ Idle
    → ((model_state v).object (object_of_block v b)).phase ≡ ending d
    → ((m : ℕ) → m < 3 → ((model_state v).object (object_of_block v b)).member m ≡ empty (kind_of_member 2 m))
    → vacant ≡ (get_or v.words (spot b.0 1) 0 == 1) → TableInvariant (ghost_after_step v d (Finish b vacant))
kept_finish v d b vacant kept lt idle end bare is =
    let o = object_of_block v b in
    kept_after v d (Finish b vacant) kept lt
    (event_by v d (set v.words (spot b.0 1) (get_or v.words (spot b.0 1) 0 - 1)) Idle (event.Finish o vacant tt) kept lt
    (subst (λ (l : Bool). let e = event.Finish o l tt in
    Stands (opening v.extent) (set v.words (spot b.0 1) (get_or v.words (spot b.0 1) 0 - 1))
    (set v.views d (sees_as (view_in v.views d) Idle (entry (me (point v d)) e ∷ v.history))) (entry (me (point v d)) e ∷ v.history)) (sym is)
    (finishing v d b kept lt idle end bare).1))

-- the event of a finish says whether the block is vacant
pub finished_vacant : (v : GhostState) (d : ℕ) (b : Block) (vacant : Bool) → TableInvariant (ghost_after_step v d (Finish b vacant))
    → vacant ≡ (weak (model_state v) (object_of_block v b) == 0)
finished_vacant v d b vacant kept = kept.stands.legal.1.asks.2
