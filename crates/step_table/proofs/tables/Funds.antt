-- Funds that are brought, given back, and turned into handles.
use Rattle.std.proofs.Common.{◌≡◌, ℕ, ◌+◌, ◌-◌, ◌*◌, ◌<◌, ◌≤◌, get_or, set, Some, Option, sym}
use Rattle.std.proofs.Common.{refl, ap, ◌∙◌, subst, arith, eq-eqb}
use Rattle.step_table.proofs.Prelude
use Prelude.{Block, Bring, cond-true, Fits, funds_of, ghost_after_step, GhostState, GiveBack}
use Prelude.{handle_in_block, Has, has_headroom, held, held_busy, Idle, InShape, IsBusy, Kind, me}
use Prelude.{model_state, Nothing, number_of, object_of_block, OnCell, opening, owing_funds}
use Prelude.{Paying, Pending, pending, Place, Ready, sees_as, slot, sound, spot, Stands}
use Prelude.{TableInvariant, Turn, value, View, view_in}
use Rattle.control_word.proofs.words.Flags.{total_at}
use Rattle.control_word.proofs.steps.Bring.{brings}
use Rattle.control_word.proofs.steps.GiveBack.{gives_back}
use Rattle.control_word.proofs.steps.Turn.{turns}
use Rattle.control_word.proofs.words.Funds.{slot_low}
use Rattle.control_word.proofs.words.Rooms.{halves}
use Rattle.control_word.specs.Views.{pays}
use Rattle.step_table.proofs.tables.Owners.{mine_as}
use Rattle.step_table.proofs.tables.Places.{handle_busy, there}
use Rattle.step_table.proofs.tables.Standing.{kept_after, point, ready}

pub slot_few : (k : Kind) → slot k < 10
slot_few k = let l = slot_low k in omega (arith, l)

pub kept_bring : (v : GhostState) (d : ℕ) (k : Kind) (b : Block) (p : Option Place) (f : ℕ) → TableInvariant v → d < v.extent.actors → pending v d ≡ Idle
    → Has (held d (handle_in_block v k b p)) (model_state v).hands → f ≤ 256 → TableInvariant (ghost_after_step v d (OnCell (Bring k b p f)))
kept_bring v d k b p f kept lt idle has few =
    let o = object_of_block v b in
    kept_after v d (OnCell (Bring k b p f)) kept lt
    (subst (λ (c : ℕ). Stands (opening v.extent) (set v.words (spot c (slot k)) (get_or v.words (spot c (slot k)) 0 + 4294967296 * f))
    (set v.views d (sees_as (view_in v.views d) (Paying k o p (spot c (slot k)) f 0) v.history)) v.history)
    (there v b kept (handle_busy v d k b p kept has)).0
    (brings (point v d) k o f p (ready v d Idle kept lt idle) (mine_as v d k b p kept lt has) few))

-- whoever has funds out holds a handle of the object
pub paying_held : (v : GhostState) (d : ℕ) (k : Kind) (b : Block) (p : Option Place) (f l : ℕ) → TableInvariant v → d < v.extent.actors
    → pending v d ≡ owing_funds (model_state v) k (Some b) p f l → Has (held (me (point v d)) (handle_in_block v k b p)) (model_state v).hands
paying_held v d k b p f l kept lt is =
    let q : Pending Nothing = Paying k (object_of_block v b) p (spot b.0 (slot k)) f l in
    let r = ready v d q kept lt is in
    let fits : Fits v.words (model_state v) (value (opening v.extent) v.history) (me (point v d)) q =
    subst (λ (y : Pending Nothing). Fits v.words (model_state v) (value (opening v.extent) v.history) (me (point v d)) y) is
    (kept.stands.team.seated d (view_in v.views d) r.seated r.awake).fits in
    fits.0

pub paying_busy : (v : GhostState) (d : ℕ) (k : Kind) (b : Block) (p : Option Place) (f l : ℕ) → TableInvariant v → d < v.extent.actors
    → pending v d ≡ owing_funds (model_state v) k (Some b) p f l → IsBusy (model_state v) (object_of_block v b)
paying_busy v d k b p f l kept lt is =
    held_busy (opening v.extent) (model_state v) (me (point v d)) (object_of_block v b) k p (sound (opening v.extent) v.history kept.stands.legal)
    (paying_held v d k b p f l kept lt is)

pub paying_there : (v : GhostState) (d : ℕ) (k : Kind) (b : Block) (p : Option Place) (f l : ℕ) → TableInvariant v → d < v.extent.actors
    → pending v d ≡ owing_funds (model_state v) k (Some b) p f l → (((model_state v).object (object_of_block v b)).block ≡ b.0)
    × InShape (opening v.extent) b.0
paying_there v d k b p f l kept lt is = there v b kept (paying_busy v d k b p f l kept lt is)

ready_paying : (v : GhostState) (d : ℕ) (k : Kind) (b : Block) (p : Option Place) (f l : ℕ) (kept : TableInvariant v) (lt : d < v.extent.actors)
    (is : pending v d ≡ owing_funds (model_state v) k (Some b) p f l)
    → Ready (point v d) (Paying k (object_of_block v b) p (spot ((model_state v).object (object_of_block v b)).block (slot k)) f l)
ready_paying v d k b p f l kept lt is =
    ready v d _ kept lt
    (is ∙ ap (λ (c : ℕ). Paying k (object_of_block v b) p (spot c (slot k)) f l) (sym (paying_there v d k b p f l kept lt is).0))

giving : (v : GhostState) (d : ℕ) (k : Kind) (b : Block) (p : Option Place) (f : ℕ) → TableInvariant v → d < v.extent.actors
    → pending v d ≡ owing_funds (model_state v) k (Some b) p f 0
    → let i = spot b.0 (slot k) in (4294967296 * f ≤ get_or v.words i 0)
    × Stands (opening v.extent) (set v.words i (get_or v.words i 0 - 4294967296 * f)) (set v.views d (sees_as (view_in v.views d) Idle v.history)) v.history
giving v d k b p f kept lt is =
    subst (λ (c : ℕ). let i = spot c (slot k) in (4294967296 * f ≤ get_or v.words i 0)
    × Stands (opening v.extent) (set v.words i (get_or v.words i 0 - 4294967296 * f)) (set v.views d (sees_as (view_in v.views d) Idle v.history)) v.history)
    (paying_there v d k b p f 0 kept lt is).0
    (gives_back (point v d) k (object_of_block v b) f p (ready_paying v d k b p f 0 kept lt is))

pub funds_there : (v : GhostState) (d : ℕ) (k : Kind) (b : Block) (p : Option Place) (f : ℕ) → TableInvariant v → d < v.extent.actors
    → pending v d ≡ owing_funds (model_state v) k (Some b) p f 0 → 4294967296 * f ≤ get_or v.words (spot b.0 (slot k)) 0
funds_there v d k b p f kept lt is = (giving v d k b p f kept lt is).0

pub kept_give : (v : GhostState) (d : ℕ) (k : Kind) (b : Block) (p : Option Place) (f : ℕ) → TableInvariant v → d < v.extent.actors
    → pending v d ≡ owing_funds (model_state v) k (Some b) p f 0 → TableInvariant (ghost_after_step v d (OnCell (GiveBack k b f)))
kept_give v d k b p f kept lt is = kept_after v d (OnCell (GiveBack k b f)) kept lt (giving v d k b p f kept lt is).1

pub kept_turn : (v : GhostState) (d : ℕ) (k : Kind) (b : Block) (p : Option Place) → TableInvariant v → d < v.extent.actors
    → pending v d ≡ owing_funds (model_state v) k (Some b) p 1 1 → TableInvariant (ghost_after_step v d (OnCell (Turn k b)))
kept_turn v d k b p kept lt is =
    kept_after v d (OnCell (Turn k b)) kept lt
    (subst (λ (c : ℕ). let i = spot c (slot k) in
    Stands (opening v.extent) (set v.words i (get_or v.words i 0 - 4294967295)) (set v.views d (sees_as (view_in v.views d) Idle v.history)) v.history)
    (paying_there v d k b p 1 1 kept lt is).0
    (turns (point v d) k (object_of_block v b) p (ready_paying v d k b p 1 1 kept lt is)).1)

-- the fund of a load under way is there, and the number has room for the handle
pub fund_there : (v : GhostState) (d : ℕ) (k : Kind) (b : Block) (p : Option Place) → TableInvariant v → d < v.extent.actors
    → pending v d ≡ owing_funds (model_state v) k (Some b) p 1 1
    → let w = get_or v.words (spot b.0 (slot k)) 0 in (0 < funds_of w) × (number_of w < 4294967295)
fund_there v d k b p kept lt is =
    let o = object_of_block v b in
    let h = paying_there v d k b p 1 1 kept lt is in
    let busy = paying_busy v d k b p 1 1 kept lt is in
    let r = ready_paying v d k b p 1 1 kept lt is in
    let i = spot ((model_state v).object o).block (slot k) in
    let w = get_or v.words i 0 in
    let one : pays (view_in v.views d).pending i ≡ 1 = ap (λ (q : Pending Nothing). pays q i) r.pending ∙ cond-true _ 1 0 (eq-eqb i i refl) in
    let most = total_at (λ (u : View Nothing). pays u.pending i) v.views d (view_in v.views d) r.seated in
    let split : w ≡ number_of w + 4294967296 * funds_of w = omega arith in
    let half = halves (opening v.extent) v.words v.views v.history kept.stands k o busy (number_of w) (funds_of w) split (omega arith) in
    let room = (has_headroom (point v d) _ r k o busy).1 (number_of w) (funds_of w) split (omega arith) in
    subst (λ (c : ℕ). let w = get_or v.words (spot c (slot k)) 0 in (0 < funds_of w) × (number_of w < 4294967295)) h.0
    (let a = half.1 in omega (arith, a, one, most), let a = room.0 in omega (arith, a))
