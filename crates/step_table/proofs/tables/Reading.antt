-- What the flags and fields of a block say of the object in it.
use Rattle.std.proofs.Common.{◌≡◌, ℕ, zero, suc, ◌+◌, ◌-◌, ◌<◌, true, false, ◌≢◌, List, [], ◌∷◌}
use Rattle.std.proofs.Common.{length, get_or, Some, sym, refl, ap, ◌∙◌, subst, arith}
use Rattle.step_table.proofs.Prelude
use Prelude.{Block, blocks_of, cond-false, cond-true, flags_of, ghost_after_step, GhostState, Has}
use Prelude.{held, Idle, IsBusy, look_event, model_state, Object, object_of_block, opening}
use Prelude.{owner_in, pending, Place, Read, sound, spot, TableInvariant, view_in}
use Rattle.control_word.proofs.words.Body.{body_more, body_read, words_field, words_flags}
use Rattle.control_word.specs.declared.model.event.Event.TheVariants as event
use Rattle.control_word.specs.Words.{object_words}
use Rattle.step_table.specs.declared.memory.ended.Ended.TheVariants.{Fields, Null}
use Rattle.step_table.specs.AtomicSteps.{remains}
use Rattle.step_table.proofs.tables.Doors.{no_door}
use Rattle.step_table.proofs.tables.Owners.{mine}
use Rattle.step_table.proofs.tables.Places.{event_by, owner_busy, there}
use Rattle.step_table.proofs.tables.Standing.{ready, kept_after}

pub flags_read : (v : GhostState) (b : Block) → TableInvariant v → IsBusy (model_state v) (object_of_block v b)
    → get_or v.words (spot b.0 2) 0 ≡ flags_of ((model_state v).object (object_of_block v b)).enabled ((model_state v).object (object_of_block v b)).null
flags_read v b kept busy =
    let x = (model_state v).object (object_of_block v b) in
    let h = there v b kept busy in
    let r = body_read (opening v.extent) v.words v.views v.history kept.stands (object_of_block v b) 2 busy (omega arith) (omega arith) in
    let f = words_flags (blocks_of (model_state v)) x in
    let n = no_door v x.block kept in
    subst (λ (c : ℕ). get_or v.words (spot c 2) 0 ≡ flags_of x.enabled x.null) h.0 (omega (arith, r, f, n))

pub field_read : (v : GhostState) (b : Block) (j : ℕ) → TableInvariant v → IsBusy (model_state v) (object_of_block v b) → j < 4
    → get_or v.words (spot b.0 (3 + j)) 0 ≡ get_or ((model_state v).object (object_of_block v b)).fields j 0
field_read v b j kept busy lt =
    let x = (model_state v).object (object_of_block v b) in
    let h = there v b kept busy in
    let place = ((sound (opening v.extent) v.history kept.stands.legal).placed (object_of_block v b) busy).1 in
    let r = body_read (opening v.extent) v.words v.views v.history kept.stands (object_of_block v b) (3 + j) busy (omega arith) (omega arith) in
    let n = (body_more (opening v.extent) v.words v.views v.history kept.stands x.block (3 + j) place (omega arith) (omega arith)).2 (omega arith) in
    let f = words_field (blocks_of (model_state v)) x j lt in
    let k : 3 + j - 2 ≡ 1 + j = omega arith in
    subst (λ (c : ℕ). get_or v.words (spot c (3 + j)) 0 ≡ get_or x.fields j 0) h.0
    (let e = ap (λ (i : ℕ). get_or (object_words (blocks_of (model_state v)) x) i 0) k in omega (arith, r, e, f, n))

alike : {a b c d a' b' c' d' : ℕ} → a ≡ a' → b ≡ b' → c ≡ c' → d ≡ d' → a ∷ b ∷ c ∷ d ∷ [] ≡ a' ∷ b' ∷ c' ∷ d' ∷ []
alike p q r s = cc

four : (l : List ℕ) → length l ≡ 4 → l ≡ get_or l 0 0 ∷ get_or l 1 0 ∷ get_or l 2 0 ∷ get_or l 3 0 ∷ []
four [] e = absurd (omega (arith, e))
four (a ∷ []) e = absurd (omega (arith, e))
four (a ∷ b ∷ []) e = absurd (omega (arith, e))
four (a ∷ b ∷ c ∷ []) e = absurd (omega (arith, e))
four (a ∷ b ∷ c ∷ d ∷ []) e = refl
four (a ∷ b ∷ c ∷ d ∷ f ∷ l) e = absurd (omega (arith, e))

-- four words that were read
pub four_of : (words : List ℕ) (b w x y z : ℕ) → w ≡ get_or words (spot b 3) 0 → x ≡ get_or words (spot b 4) 0 → y ≡ get_or words (spot b 5) 0
    → z ≡ get_or words (spot b 6) 0 → (j : ℕ) → j < 4 → get_or (w ∷ x ∷ y ∷ z ∷ []) j 0 ≡ get_or words (spot b (3 + j)) 0
four_of words b w x y z p q r s zero lt = p
four_of words b w x y z p q r s (suc zero) lt = q
four_of words b w x y z p q r s (suc (suc zero)) lt = r
four_of words b w x y z p q r s (suc (suc (suc zero))) lt = s
four_of words b w x y z p q r s (suc (suc (suc (suc j)))) lt = absurd (omega arith)

-- the object has four fields
whole_here : (v : GhostState) (b : Block) → TableInvariant v → IsBusy (model_state v) (object_of_block v b)
    → length ((model_state v).object (object_of_block v b)).fields ≡ 4
whole_here v b kept busy =
    let fine = sound (opening v.extent) v.history kept.stands.legal in
    let some : object_of_block v b ≢ 0 = λ e. let z = fine.unmade_free 0 fine.none in
    let t : 0 < 0 = subst (λ n. 0 < n) z (subst (IsBusy (model_state v)) e busy) in omega arith in
    kept.whole (object_of_block v b) (omega arith) (fine.latest_made b.0)

-- a field of an object that a desk owns
pub kept_read : (v : GhostState) (d : ℕ) (b : Block) (p : Place) (n : ℕ) → TableInvariant v → d < v.extent.actors → pending v d ≡ Idle
    → Has (held d (owner_in v b (Some p))) (model_state v).hands → p.block.0 ≡ b.0
    → n ≡ get_or ((model_state v).object (object_of_block v b)).fields p.field 0
    → TableInvariant (ghost_after_step v d (Read b (Some p) n))
kept_read v d b p n kept lt idle has here is =
    let r = ready v d Idle kept lt idle in
    let h = there v b kept (owner_busy v d b (Some p) kept has) in
    kept_after v d (Read b (Some p) n) kept lt
    (event_by v d v.words Idle (event.Read (owner_in v b (Some p)) n) kept lt
    (look_event (opening v.extent) v.words v.views v.history kept.stands d (view_in v.views d) r.seated r.awake r.pending (object_of_block v b) (Some p)
    (event.Read (owner_in v b (Some p)) n) tt ((mine v d b (Some p) kept lt has, refl, refl), (p, refl, here ∙ sym h.0, is)) tt refl refl))

-- what an ending object leaves, by its words
pub remains_null : (x : Object) → x.null ≡ true → remains x ≡ Null
remains_null x is = cond-true x.null Null (Fields x.fields) is

pub remains_fields : (v : GhostState) (b : Block) (l : List ℕ) → TableInvariant v → IsBusy (model_state v) (object_of_block v b)
    → ((model_state v).object (object_of_block v b)).null ≡ false
    → length l ≡ 4 → ((j : ℕ) → j < 4 → get_or l j 0 ≡ get_or v.words (spot b.0 (3 + j)) 0)
    → remains ((model_state v).object (object_of_block v b)) ≡ Fields l
remains_fields v b l kept busy null size same =
    let x = (model_state v).object (object_of_block v b) in
    let at : (j : ℕ) → j < 4 → get_or x.fields j 0 ≡ get_or l j 0 = λ j lt. sym (field_read v b j kept busy lt) ∙ sym (same j lt) in
    let p = at 0 (omega arith) in let q = at 1 (omega arith) in let r = at 2 (omega arith) in let s = at 3 (omega arith) in
    let m = four x.fields (whole_here v b kept busy) in
    let n = four l size in
    let e : x.fields ≡ l = m ∙ alike p q r s ∙ sym n in
    cond-false x.null Null (Fields x.fields) null ∙ ap Fields e
