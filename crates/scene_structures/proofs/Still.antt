-- A call on a sole desk that puts nothing anywhere and gives back just what it took: no object ends in it, so what it saw is
-- what there was before.
use Rattle.std.proofs.Common.{◌≡◌, ℕ, suc, ◌<◌, ◌≤◌, Bool, true, false, not, ◌⊎◌, List, [], ◌∷◌}
use Rattle.std.proofs.Common.{◌++◌, map, length, ◌==◌, slice_index, Some, All, sym, refl, ap, ◌∙◌}
use Rattle.std.proofs.Common.{subst, inl, inr, ⊎_elim, arith, eqb-true}
use Rattle.scene_structures.proofs.Prelude
use Prelude.{after, All-cons, All-head, All-nil, All-tail, All-weaker, Asks, bag, bag_of}
use Prelude.{block_kept, cases_lt, Cell, cell_of, ClearMember, common, counted_live, DeskNow}
use Prelude.{empty, ending, Entry, entry, Event, Finish, Free, Goes, gone, handle, Has, has_part}
use Prelude.{Held, held, in_cells, in_no_cell, IsLegal, IsLooking, IsSole, KeepsDesks}
use Prelude.{KeepsEndings, kind_of_member, leads, Leave, live, Load, Lock, Member, members}
use Prelude.{moved_to, NumberedHandle, object_of, Opening, opening_of, Owner, OwnersFit, Phase}
use Prelude.{Place, put_again, put_same, PutsOnly, Read, same_held, same_kind, Shape, Share}
use Prelude.{shown_held, Sound, sound, State, state_of, tally, tally_append, tally_here, unmade}
use Prelude.{upto, value, was_made, WeakLeave, without}
use Rattle.std.proofs.lemmas.Bool.{and_parts}
use Rattle.control_word.proofs.history.Allowances.{allowed}
use Rattle.control_word.proofs.history.Legal.{written}
use Rattle.control_word.proofs.history.Moving.{live_busy, owner_counted}
use Rattle.control_word.proofs.history.Sole.{alone}
use Rattle.control_word.proofs.history.Soundness.{IsBusy}
use Rattle.control_word.proofs.lists.Tallies.{same_kind_true, same_number_true, tally_without}
use Rattle.control_word.specs.Handles.{same_number}
use Rattle.control_word.specs.State.{IsActing, count}
use Rattle.control_word.specs.Words.{blocks_of}
use Rattle.control_block.proofs.Bags.{seen_as}
use Rattle.control_block.specs.Desks.{in_block}
use Rattle.scene_structures.proofs.Heads.{live_before}
use Rattle.scene_structures.proofs.Latest.{has_mapped}
use Rattle.scene_structures.proofs.Sole.{keep_all, state_is}
use Rattle.scene_structures.proofs.Counted.{hand_of, in_hands}
use Rattle.scene_structures.proofs.Used.{Used, cleared_again, is_empty, looking_puts, used_clear}
use Rattle.scene_structures.proofs.Used.{used_finish, used_on}
use Rattle.control_word.proofs.history.Values.{has_value}

-- objects and cells are as they were
pub record Still (s t : State) : Type 0 where
  pub objects : t.object ≡ s.object
  pub cell : t.cell ≡ s.cell
  pub made : t.made ≡ s.made
  pub cells : t.cells ≡ s.cells

-- an object that no cell owned ended
pub record Lost (s t : State) : Type 0 where
  pub object : ℕ
  pub lived : (s.object object).phase ≡ live
  pub there : object ≤ s.made
  pub alone : tally Owner object (in_cells s) ≡ 0
  pub ended : (t.object object).phase ≡ live → ⊥

abbrev pub Moved : State → State → ℕ → Type 0
Moved s t d = Lost s t ⊎ Used s t d

same_cells : (s t : State) → Still s t → in_cells t ≡ in_cells s
same_cells s t st = λ i. upto (st.cells i) (λ c. st.cell i c ∷ []) ++ upto (suc (st.made i)) (λ o. members (st.objects i o))

-- an owner that is the only one is in no cell
last_alone : (t : State) (d : ℕ) (h : NumberedHandle) → Has (held d h) t.hands → h.kind ≡ Owner → h.object ≡ Some (object_of h)
    → count t (object_of h) ≡ 1
    → tally Owner (object_of h) (in_cells t) ≡ 0
unfolding count
last_alone t d h has kind object one =
    let o = object_of h in let x = held d (handle Owner (Some o) h.place) in
    let there = written t.hands d Owner h has kind object in
    omega (
      arith,
      tally_without Owner o x t.hands (in_cells t) there,
      tally_here Owner o h.place [],
      tally_append Owner o (map (λ (y : Held). y.handle) (without same_held x t.hands)) (in_cells t),
    )

abbrev is_live : Phase → Bool
is_live unmade = false
is_live live = true
is_live gone = false
is_live (ending d) = false

no_zero : (n : ℕ) → 0 < n → (n == 0) ≡ false
no_zero n lt = go (n == 0) refl
  where
    go : (b : Bool) → (n == 0) ≡ b → b ≡ false
    go true e = absurd (let z = eqb-true n 0 e in omega arith)
    go false e = refl

fits_zero : (p : Phase) (n : ℕ) → OwnersFit p n → (n == 0) ≡ not (is_live p)
fits_zero unmade n f = ap (λ k. k == 0) f
fits_zero live n f = no_zero n f
fits_zero gone n f = ap (λ k. k == 0) f
fits_zero (ending d) n f = ap (λ k. k == 0) f

-- an object that is as it was has owners just where it had some
same_zero : (z : Opening) (s t : State) → Sound z s → Sound z t → (o : ℕ) → (t.object o).phase ≡ (s.object o).phase
    → (count t o == 0) ≡ (count s o == 0)
same_zero z s t a b o same =
    fits_zero (t.object o).phase (count t o) (b.owners o) ∙ (ap (λ p. not (is_live p)) same
    ∙ sym (fits_zero (s.object o).phase (count s o) (a.owners o)))

some_length : {A : Type 0} (x : A) (l : List A) → Has x l → 0 < length l
some_length x [] has = absurd has
some_length x (y ∷ l) has = omega arith

made_before : (z : Opening) (s t : State) (d o : ℕ) → Sound z t → (t.object o).phase ≡ ending d → Still s t → o ≤ s.made
made_before z s t d o fine ends st =
    let made : o < suc t.made = was_made z t o fine (λ u. let e : ending d ≡ unmade = sym ends ∙ u in absurd (cc e)) in
    let same = st.made in omega arith

module _ {V : Type 0} where
  pub all_puts : (xs : List (Event V)) → All IsLooking xs → All (PutsOnly in_no_cell) xs
  all_puts xs all = All-weaker IsLooking (PutsOnly in_no_cell) looking_puts xs all

  same_latest : (s : State) (d : ℕ) (x : Event V) → IsLooking x → (after s d x).latest ≡ s.latest
  same_latest s d (Load c got) p = refl
  same_latest s d (Lock h got) p = refl
  same_latest s d (Read h y) p = refl
  same_latest s d (Share h q) p = refl
  same_latest s d (Leave h last) p = refl
  same_latest s d (WeakLeave h v) p = refl
  same_latest s d (ClearMember o m h) p = refl
  same_latest s d (Finish o v y) p = refl
  same_latest s d x p = absurd p

  latest_run : (z : Opening) (d : ℕ) (own : List (Event V)) (seen : List (Entry V)) → All IsLooking own
      → (leads z (map (entry d) own ++ seen)).latest ≡ (leads z seen).latest
  latest_run z d [] seen all = refl
  latest_run z d (x ∷ own) seen all =
      same_latest (leads z (map (entry d) own ++ seen)) d x (All-head IsLooking x own all) ∙ latest_run z d own seen (All-tail IsLooking x own all)

  one_step : (z : Opening) (s t : State) (d : ℕ) (x : Event V) → Sound z t → IsLooking x → Asks t d x → Still s t
      → Still s (after t d x) ⊎ Moved s (after t d x) d
  one_step z s t d (Load c got) fine p asks st = inl record { objects = st.objects; cell = st.cell; made = st.made; cells = st.cells }
  one_step z s t d (Lock h got) fine p asks st = inl record { objects = st.objects; cell = st.cell; made = st.made; cells = st.cells }
  one_step z s t d (Read h y) fine p asks st = inl st
  one_step z s t d (Share h q) fine p asks st = inl record { objects = st.objects; cell = st.cell; made = st.made; cells = st.cells }
  one_step z s t d (Leave h false) fine p asks st =
      inl record { objects = put_again t.object (object_of h) ∙ st.objects; cell = st.cell; made = st.made; cells = st.cells }
  one_step z s t d (Leave h true) fine p asks st =
      let o = object_of h in
      let one : count t o ≡ 1 = eqb-true (count t o) 1 (sym asks.1) in
      let lives = counted_live z t o fine (omega arith) in
      let lived = ap (λ f. (f o).phase) (sym st.objects) ∙ lives in
      let made : o < suc t.made = was_made z t o fine (λ u. let e : live ≡ unmade = sym lives ∙ u in absurd (cc e)) in
      let same = st.made in
      inr (inl record {
        object = o;
        lived = lived;
        there = omega arith;
        alone = ap (tally Owner o) (sym (same_cells s t st)) ∙ last_alone t d h asks.0.0 asks.0.1 asks.0.2 one;
        ended = λ l. let e : live ≡ ending d = sym l ∙ ap (λ y. y.phase) (put_same t.object o (moved_to (ending d) (t.object o)) o refl) in absurd (cc e);
      })
  one_step z s t d (WeakLeave h v) fine p asks st = inl record { objects = st.objects; cell = st.cell; made = st.made; cells = st.cells }
  one_step z s t d (ClearMember o m h) fine p asks st =
      ⊎_elim (λ none. inl record { objects = cleared_again t o m none ∙ st.objects; cell = st.cell; made = st.made; cells = st.cells })
      (λ full. inr (inr (used_clear V s t d o m h st.objects (made_before z s t d o fine asks.0 st) asks.0 full)))
      (is_empty ((t.object o).member m) (empty (kind_of_member t.owners m)))
  one_step z s t d (Finish o v y) fine p asks st =
      inr (inr (used_finish s t d o v y st.objects (made_before z s t d o fine asks.0 st) asks.0))
  one_step z s t d x fine p asks st = absurd p

  -- what ended doesn't come back
  lost_on : (s t : State) (d : ℕ) (x : Event V) → IsLooking x → s.made ≤ t.made → Lost s t → Lost s (after t d x)
  lost_on s t d x p le lost =
      let there = lost.there in
      record {
        object = lost.object;
        lived = lost.lived;
        there = lost.there;
        alone = lost.alone;
        ended = λ l. lost.ended (live_before t d lost.object x in_no_cell (looking_puts x p) (omega arith) l);
      }

  moved_on : (z : Opening) (s t : State) (d : ℕ) (x : Event V) → Sound z t → IsLooking x → Asks t d x → s.made ≤ t.made → Moved s t d
      → Moved s (after t d x) d
  moved_on z s t d x fine p asks le moved =
      ⊎_elim (λ lost. inl (lost_on s t d x p le lost)) (λ used. inr (used_on z s t d x fine p asks le used)) moved

  module _ (z : Opening) (d : ℕ) (seen : List (Entry V)) where
    made_later : (own : List (Event V)) → (leads z seen).made ≤ (leads z (map (entry d) own ++ seen)).made
    made_later own = (block_kept z (map (entry d) own) seen (leads z seen).made (omega arith)).1

    run : (own : List (Event V)) → IsLegal z (map (entry d) own ++ seen) → All IsLooking own
        → Still (leads z seen) (leads z (map (entry d) own ++ seen)) ⊎ Moved (leads z seen) (leads z (map (entry d) own ++ seen)) d
    run [] legal all = inl record { objects = refl; cell = refl; made = refl; cells = refl }
    run (x ∷ own) legal all =
        let h = map (entry d) own ++ seen in let p = All-head IsLooking x own all in
        ⊎_elim (λ st. one_step z (leads z seen) (leads z h) d x (sound z h legal.0) p legal.1.asks st)
        (λ moved. inr (moved_on z (leads z seen) (leads z h) d x (sound z h legal.0) p legal.1.asks (made_later own) moved))
        (run own legal.0 (All-tail IsLooking x own all))

    -- the event told what there was before
    abbrev pub IsTrueIn : Event V → Type 0
    IsTrueIn (Load c got) = got ≡ cell_of (leads z seen) c
    IsTrueIn (Lock h got) = (h.object ≡ Some (object_of h)) × (got ≡ not (count (leads z seen) (object_of h) == 0))
    IsTrueIn (Read h y) = (p : Place) × (h.place ≡ Some p) × (y ≡ slice_index ((leads z seen).object (object_of h)).fields p.field)
    IsTrueIn _ = Unit {0}

    same_cell : (t : State) (c : Cell) → Still (leads z seen) t → cell_of t c ≡ cell_of (leads z seen) c
    same_cell t (Free n) st = ap (λ f. f n) st.cell
    same_cell t (Member o m) st = ap (λ f. (f o).member m) st.objects

    one_true : (t : State) (x : Event V) → IsLegal z seen → Sound z t → Still (leads z seen) t → IsLooking x → Asks t d x → IsTrueIn x
    one_true t (Load c got) legal fine st p asks = asks.1 ∙ same_cell t c st
    one_true t (Lock h got) legal fine st p asks =
        (asks.0.2, asks.1 ∙ ap not (same_zero z (leads z seen) t (sound z seen legal) fine (object_of h) (ap (λ f. (f (object_of h)).phase) st.objects)))
    one_true t (Read h y) legal fine st p asks =
        let r = asks.1 in (r.0, r.1, r.3 ∙ ap (λ f. slice_index (f (object_of h)).fields r.0.field) st.objects)
    one_true t (Share h q) legal fine st p asks = tt
    one_true t (Leave h last) legal fine st p asks = tt
    one_true t (WeakLeave h v) legal fine st p asks = tt
    one_true t (ClearMember o m h) legal fine st p asks = tt
    one_true t (Finish o v y) legal fine st p asks = tt
    one_true t x legal fine st p asks = absurd p

    pub all_true : (own : List (Event V)) → IsLegal z seen → IsLegal z (map (entry d) own ++ seen) → All IsLooking own
        → (Moved (leads z seen) (leads z (map (entry d) own ++ seen)) d → ⊥) → All IsTrueIn own
    all_true [] legal now all not' = All-nil IsTrueIn
    all_true (x ∷ own) legal now all not' =
        let h = map (entry d) own ++ seen in let p = All-head IsLooking x own all in let rest = All-tail IsLooking x own all in
        let never : Moved (leads z seen) (leads z h) d → ⊥ =
        λ moved. not' (moved_on z (leads z seen) (leads z h) d x (sound z h now.0) p now.1.asks (made_later own) moved) in
        let st = ⊎_elim (λ (k : Still (leads z seen) (leads z h)). k) (λ moved. absurd (never moved)) (run own now.0 rest) in
        All-cons IsTrueIn x own (one_true (leads z h) x legal (sound z h now.0) st p now.1.asks) (all_true own legal now.0 rest never)

  pub looking_keep : (own : List (Event V)) → All IsLooking own → All KeepsDesks own
  looking_keep own all = keep_all in_no_cell own (all_puts own all)

  -- whoever has a handle acts
  acts : (z : Opening) (h : List (Entry V)) → IsLegal z h → (x : Held) → Has x (leads z h).hands → IsActing (leads z h) x.desk
  acts z h legal x has =
      let s = leads z h in let a = allowed z h legal in
      let some' = some_length x (bag s x.desk) (has_part (λ (y : Held). y.desk) x.desk x s.hands refl has) in
      let room = a.rooms x.desk in
      let has_room : 0 < s.allowance x.desk = omega arith in (
        ⊎_elim (λ (lt : x.desk < s.names). lt) (λ le. let none = a.beyond x.desk le in absurd (omega arith)) (cases_lt x.desk s.names),
        go (s.joined x.desk) refl has_room,
        has_room,
      )
    where
      go : (b : Bool) → (leads z h).joined x.desk ≡ b → 0 < (leads z h).allowance x.desk → (leads z h).joined x.desk ≡ false
      go true e lt = absurd (let none = (allowed z h legal).spent x.desk e in omega arith)
      go false e lt = e

  module _ (d e : DeskNow V) (own : List (Event V)) (goes : Goes d own e) (quiet : All IsLooking own) (legal : IsLegal (opening_of d.shape) d.seen)
      (sole : IsSole d) (same_bag : bag_of e ≡ bag_of d) where
    -- on a sole desk that has in the end what it had, no object ended
    pub none_lost : Lost (state_of d) (leads (opening_of d.shape) (map (entry d.name) own ++ d.seen)) → ⊥
    none_lost lost =
        let z = opening_of d.shape in let s = state_of d in let o = lost.object in let fine = sound z d.seen legal in
        let counted = subst (λ p. OwnersFit p (count s o)) lost.lived (fine.owners o) in
        let f = hand_of o s.hands (in_hands s o counted lost.alone) in let x = f.0 in
        let is = and_parts (same_kind Owner x.handle.kind) (same_number (Some o) x.handle.object) f.1.1 in
        let kind = same_kind_true Owner x.handle.kind is.0 in let object = same_number_true (Some o) x.handle.object is.1 in
        let mine : x.desk ≡ d.name = alone z d.seen legal d.name x.desk sole (acts z d.seen legal x f.1.0) in
        let b = (s.object o).block in let p = x.handle.place in
        let seen : Has (seen_as s x) (bag_of d) = has_mapped (seen_as s) x (bag s d.name) (has_part (λ (y : Held). y.desk) d.name x s.hands mine f.1.0) in
        let shown : seen_as s x ≡ handle Owner (Some b) p =
        λ i. record { kind = sym kind i; object = in_block (blocks_of s) (sym object i); place = p } in
        let has : Has (handle Owner (Some b) p) (bag_of e) = subst (Has (handle Owner (Some b) p)) (sym same_bag) (subst (λ k. Has k (bag_of d)) shown seen) in
        let legal_e : IsLegal (opening_of e.shape) e.seen = subst (λ (k : Shape). IsLegal (opening_of k) e.seen) (sym goes.same.1) (goes.legal legal) in
        let held' = (shown_held (opening_of e.shape) e.seen e.name Owner p b legal_e has).0 in
        let t = state_of e in let q = t.latest b in
        let alive = counted_live (opening_of e.shape) t q (sound (opening_of e.shape) e.seen legal_e) (owner_counted t e.name q p held') in
        let state = state_is d e own goes (looking_keep own quiet) legal sole in
        let here : q ≡ o =
        ap (λ (k : State). k.latest b) state ∙ (ap (λ l. l b) (latest_run z d.name own d.seen quiet) ∙ (fine.placed o (live_busy s o lost.lived)).0) in
        lost.ended (ap (λ (k : State). (k.object o).phase) (sym state) ∙ (ap (λ j. (t.object j).phase) (sym here) ∙ alive))

    -- nor did one that ended before lose anything, where what did so does so still
    pub none_used : KeepsEndings d e → Used (state_of d) (leads (opening_of d.shape) (map (entry d.name) own ++ d.seen)) d.name → ⊥
    none_used keeps used =
        let z = opening_of d.shape in let s = state_of d in let o = used.object in let fine = sound z d.seen legal in let le = used.there in
        let low : 0 < o = ⊎_elim (λ (lt : 0 < o). lt)
        (λ le'. absurd (let k : ending d.name ≡ unmade = sym used.ends
        ∙ (ap (λ i. (s.object i).phase) (let n : o ≡ 0 = omega arith in n) ∙ fine.none) in cc)) (cases_lt 0 o) in
        let v = has_value z d.seen o (omega arith) le in
        let one : common (s.object o).phase ≡ 1 = ap common used.ends in
        let busy : IsBusy s o = omega arith in
        let b = (s.object o).block in let there = (fine.placed o busy).0 in
        let still = keeps b v.0 record { phase = ap (λ j. (s.object j).phase) there ∙ used.ends; kept = ap (value z d.seen) there ∙ v.1 } in
        let state = state_is d e own goes (looking_keep own quiet) legal sole in let t = state_of e in
        let here : t.latest b ≡ o = ap (λ (k : State). k.latest b) state ∙ (ap (λ l. l b) (latest_run z d.name own d.seen quiet) ∙ there) in
        let r = used.spent (ap (λ (k : State). (k.object o).phase) (sym state)
        ∙ (ap (λ j. (t.object j).phase) (sym here) ∙ (still.ends.phase ∙ ap ending goes.same.2))) in
        r.1 (ap (λ j. (s.object j).member r.0) (sym there) ∙ (sym (still.members r.0)
        ∙ (ap (λ j. (t.object j).member r.0) here ∙ (ap (λ (k : State). (k.object o).member r.0) state ∙ r.2))))
