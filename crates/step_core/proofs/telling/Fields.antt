-- The fields that are read in a block are those of the object in it.
use Rattle.std.proofs.Common.{◌≡◌, ℕ, Bool, true, false, not, ◌≢◌, [], ◌∷◌, length, get_or}
use Rattle.std.proofs.Common.{is_some, ◌==◌, Some, None, Option, sym, ap, ◌∙◌, subst, ⊎_elim}
use Rattle.std.proofs.Common.{arith, ext_get_or, eq-eqb, ne_eqb}
use Rattle.step_core.proofs.Prelude.{Block, cases_eq, census_of, cond-false, cond-true, count}
use Rattle.step_core.proofs.Prelude.{Counts, false≢true, GhostState, IsBusy, model_state}
use Rattle.step_core.proofs.Prelude.{object_of_block, opening, sound, spot, TableInvariant, weak}
use Rattle.step_core.proofs.Prelude.{weak_number, WorldState}
use Rattle.step_table.proofs.tables.Reading.{field_read, four_of}
use Rattle.step_core.specs.Totals.{fields_of}

-- the object has four fields
whole : (v : GhostState) (b : Block) → TableInvariant v → IsBusy (model_state v) (object_of_block v b)
    → length ((model_state v).object (object_of_block v b)).fields ≡ 4
whole v b kept busy =
    let fine = sound (opening v.extent) v.history kept.stands.legal in
    let z = fine.unmade_free 0 fine.none in
    let some : object_of_block v b ≢ 0 = λ e. let t = ap (weak_number (model_state v)) e in omega (arith, busy, z, t) in
    kept.whole (object_of_block v b) (omega (arith, some)) (fine.latest_made b.0)

four_read : (v : GhostState) (b : Block) (w x y z : ℕ) → TableInvariant v → IsBusy (model_state v) (object_of_block v b) → w ≡ get_or v.words (spot b.0 3) 0
    → x ≡ get_or v.words (spot b.0 4) 0 → y ≡ get_or v.words (spot b.0 5) 0 → z ≡ get_or v.words (spot b.0 6) 0
    → w ∷ x ∷ y ∷ z ∷ [] ≡ ((model_state v).object (object_of_block v b)).fields
four_read v b w x y z kept busy p q r s =
    let n = whole v b kept busy in
    ext_get_or 0 (w ∷ x ∷ y ∷ z ∷ []) ((model_state v).object (object_of_block v b)).fields (sym n)
    (λ j lt. four_of v.words b.0 w x y z p q r s j lt ∙ field_read v b j kept busy lt)

abbrev counts_at : GhostState → ℕ → Counts
counts_at v b = record { owners = count (model_state v) ((model_state v).latest b); weaks = weak (model_state v) ((model_state v).latest b) }

-- the census tells just whether the block is vacant
vacant_by : (v : GhostState) (b : ℕ) (t : Bool) → is_some (census_of (model_state v) b) ≡ t
    → (t ≡ false → weak_number (model_state v) ((model_state v).latest b) ≡ 0)
    × (t ≡ true → weak_number (model_state v) ((model_state v).latest b) ≢ 0)
vacant_by v b t is =
    let n = weak_number (model_state v) ((model_state v).latest b) in
    let c = counts_at v b in (
      λ none. ⊎_elim (λ (e : n ≡ 0). e)
          (λ (ne : n ≢ 0). absurd (false≢true (sym none ∙ sym is ∙ ap is_some (cond-false (n == 0) None (Some c) (ne_eqb n 0 ne))))) (cases_eq n 0),
      λ some e. absurd (false≢true (sym (ap is_some (cond-true (n == 0) None (Some c) (eq-eqb n 0 e))) ∙ is ∙ some)),
    )

-- a vacant block has none
pub no_fields : (v : GhostState) (b : ℕ) (r : Option Counts) (t : Bool) → r ≡ census_of (model_state v) b → is_some r ≡ not t → t ≡ true
    → None ≡ fields_of (model_state v) b
no_fields v b r t is some none =
    let n = weak_number (model_state v) ((model_state v).latest b) in
    let e = (vacant_by v b (not t) (ap is_some (sym is) ∙ some)).0 (ap not none) in
    sym (cond-true (n == 0) None (Some ((model_state v).object ((model_state v).latest b)).fields) (eq-eqb n 0 e))

fields_in : (v : GhostState) (b : Block) (w x y z : ℕ) (r : Option Counts) (t : Bool) → TableInvariant v → r ≡ census_of (model_state v) b.0
    → is_some r ≡ not t → t ≡ false → w ≡ get_or v.words (spot b.0 3) 0 → x ≡ get_or v.words (spot b.0 4) 0
    → y ≡ get_or v.words (spot b.0 5) 0 → z ≡ get_or v.words (spot b.0 6) 0 → Some (w ∷ x ∷ y ∷ z ∷ []) ≡ fields_of (model_state v) b.0
fields_in v b w x y z r t kept is some there p q u s =
    let n = weak_number (model_state v) ((model_state v).latest b.0) in
    let ne = (vacant_by v b.0 (not t) (ap is_some (sym is) ∙ some)).1 (ap not there) in
    ap Some (four_read v b w x y z kept (omega (arith, ne)) p q u s)
    ∙ sym (cond-false (n == 0) None (Some ((model_state v).object ((model_state v).latest b.0)).fields) (ne_eqb n 0 ne))

-- any other has those that were read
pub fields_now : (u : WorldState) (v : GhostState) (b : Block) (w x y z : ℕ) (r : Option Counts) (t : Bool) → v ≡ u.ghost_state → TableInvariant v
    → r ≡ census_of (model_state u.ghost_state) b.0 → is_some r ≡ not t → t ≡ false → w ≡ get_or v.words (spot b.0 3) 0
    → x ≡ get_or v.words (spot b.0 4) 0 → y ≡ get_or v.words (spot b.0 5) 0 → z ≡ get_or v.words (spot b.0 6) 0
    → Some (w ∷ x ∷ y ∷ z ∷ []) ≡ fields_of (model_state u.ghost_state) b.0
fields_now u v b w x y z r t same kept is some there p q k s =
    subst (λ (l : GhostState). Some (w ∷ x ∷ y ∷ z ∷ []) ≡ fields_of (model_state l) b.0) same
    (fields_in v b w x y z r t kept (is ∙ ap (λ (l : GhostState). census_of (model_state l) b.0) (sym same)) some there p q k s)
