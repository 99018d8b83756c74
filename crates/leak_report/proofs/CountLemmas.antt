-- Where no desk has a handle, the handles that cells hold on a block are just those that are counted.
use Rattle.std.proofs.Common.{◌≡◌, ℕ, zero, suc, ◌+◌, ◌-◌, ◌<◌, ◌≤◌, Bool, true, false, cond, ◌&&◌, ◌≢◌, List}
use Rattle.std.proofs.Common.{[], ◌∷◌, ◌++◌, map, length, nat_lt, ◌==◌, Some, None, Option, refl}
use Rattle.std.proofs.Common.{sym, ap, ◌∙◌, subst, ⊎_elim, arith, eq-eqb, ne_eqb}
use Rattle.leak_report.proofs.Prelude.{all_held, AllCounted, cases_eq, cond-false, cond-true, flat_map}
use Rattle.leak_report.proofs.Prelude.{from, held_by_block, held_by_free, held_on, Kind, model_state}
use Rattle.leak_report.proofs.Prelude.{NumberedHandle, opening, Owner, same_kind, tally, tally_append}
use Rattle.leak_report.proofs.Prelude.{upto, Weak}
use Rattle.control_word.specs.Handles.{same_number}
use Rattle.control_word.specs.State.{common, count, handles, Held, in_cells, kind_of_member}
use Rattle.control_word.specs.State.{members, Opening, State, weak, weak_number}
use Rattle.control_word.specs.Words.{block_of, blocks_of}
use Rattle.control_word.specs.declared.packed.counts.Counts.{Counts}
use Rattle.control_word.specs.declared.site.Site.{Site}
use Rattle.control_word.specs.declared.site.Site.TheVariants.{Free}
use Rattle.step_table.specs.GhostStates.{GhostState, TableInvariant}
use Rattle.control_word.proofs.history.Formation.{formed}
use Rattle.control_word.proofs.history.Legal.{sound}
use Rattle.control_word.proofs.history.Making.{empty_counts}
use Rattle.control_word.proofs.history.Soundness.{Formed, IsBusy, Sound}
use Rattle.control_word.proofs.lists.Tallies.{tally_cons, tally_upto_empty}
use Rattle.control_word.proofs.words.Funds.{cell_busy, counted_busy, member_busy}
use Rattle.step_table.proofs.tables.Members.{three_members}
use Rattle.leak_report.specs.Holders.{AreCounted, held_by, held_by_members, holding, holdings_in}
use Rattle.leak_report.specs.Holders.{holds_owner, member}
use Rattle.leak_report.proofs.HitLemmas.{all_kinds, hits, hits_append, hits_sum, is_of, kind_by, of_kind}
use Rattle.leak_report.proofs.HitLemmas.{one_by, tally_sum}
use Rattle.leak_report.proofs.SumLemmas.{IsOnly, sum_by_way, sum_same}

and_none : (b : Bool) → (b && false) ≡ false
and_none true = refl
and_none false = refl

empty_list : {A : Type 0} → (l : List A) → length l ≡ 0 → l ≡ []
empty_list [] e = refl
empty_list (x ∷ xs) e = absurd (omega (arith, e))

-- the object in the block is the one that is counted
abbrev AtHome : State → ℕ → Option ℕ → Type 0
AtHome s b x = (o : ℕ) → x ≡ Some o → (blocks_of s o == b) ≡ (s.latest b == o)

-- one cell: its handle is listed on the block just where it is counted for the object there
one_cell : (k : Kind) (b : ℕ) (s : State) (c : Site) (h : NumberedHandle) → is_of k (holds_owner s.shared c) ≡ same_kind k h.kind
    → AtHome s b h.object → hits k b (held_by s.shared c (block_of (blocks_of s) h.object)) ≡ tally k (s.latest b) (h ∷ [])
one_cell k b s c h kind home = go h.object home
  where
    go : (x : Option ℕ) → AtHome s b x → hits k b (held_by s.shared c (block_of (blocks_of s) x))
        ≡ length (cond (same_kind k h.kind && same_number (Some (s.latest b)) x) (h ∷ []) [])
    go None at = sym (ap (length {A = NumberedHandle}) (cond-false (same_kind k h.kind && false) (h ∷ []) [] (and_none (same_kind k h.kind))))
    go (Some o) at =
        one_by (of_kind k) (holding s.shared c (record { 0 = blocks_of s o })) h (same_kind k h.kind) (blocks_of s o == b) kind
        ∙ ap (λ (t : Bool). length (cond (same_kind k h.kind && t) (h ∷ []) [])) (at o refl)

-- the lists behind the third are empty
first_three : (k : Kind) (o n : ℕ) (f : ℕ → List NumberedHandle) → 3 ≤ n → ((i : ℕ) → 3 ≤ i → tally k o (f i) ≡ 0)
    → tally k o (upto n f) ≡ tally k o (upto 3 f)
first_three k o zero f le none = absurd (omega (arith, le))
first_three k o (suc n) f le none =
    ⊎_elim (λ (e : n ≡ 2). ap (λ (i : ℕ). tally k o (upto (suc i) f)) e)
    (λ (ne : n ≢ 2).
    let more : 3 ≤ n = omega (arith, le, ne) in
    let rest = first_three k o n f more none in
    let last = none n more in
    omega (arith, tally_append k o (f n) (upto n f), rest, last))
    (cases_eq n 2)

-- the objects have three members, of which two are owners
module _ (z : Opening) (s : State) (fine : Sound z s) (form : Formed s) (three : (s.members ≡ 3) × (s.owners ≡ 2)) where
  made_some : (o : ℕ) → IsBusy s o → o ≢ 0
  made_some o busy e = let n = fine.unmade_free 0 fine.none in let t = ap (weak_number s) e in omega (arith, busy, n, t)

  at_home : (b : ℕ) (x : Option ℕ) → ((o : ℕ) → x ≡ Some o → IsBusy s o) → AtHome s b x
  at_home b x busy o is =
      let p = (fine.placed o (busy o is)).0 in
      ⊎_elim
      (λ (e : blocks_of s o ≡ b). eq-eqb (blocks_of s o) b e ∙ sym (eq-eqb (s.latest b) o (ap s.latest (sym e) ∙ p)))
      (λ (ne : blocks_of s o ≢ b).
      ne_eqb (blocks_of s o) b ne
      ∙ sym (ne_eqb (s.latest b) o (λ e.
      ne (ap (blocks_of s) (sym e) ∙ fine.latest_in b (λ none. made_some o (busy o is) (sym e ∙ none))))))
      (cases_eq (blocks_of s o) b)

  free_cell : (k : Kind) (b n : ℕ) → n < s.cells
      → hits k b (held_by_free s n) ≡ tally k (s.latest b) (s.cell n ∷ [])
  free_cell k b n lt =
      one_cell k b s (Free n) (s.cell n)
      (kind_by k (nat_lt n s.shared) ∙ ap (same_kind k) (sym (form.frees n lt).1))
      (at_home b (s.cell n).object (λ o e. cell_busy z s fine n o lt e))

  member_cell : (k : Kind) (b a m : ℕ) → m < 3 → is_of k (holds_owner s.shared (member a m)) ≡ same_kind k (kind_of_member 2 m)
      → hits k b (holdings_in s (member a m)) ≡ tally k (s.latest b) ((s.object (s.latest a)).member m ∷ [])
  member_cell k b a m lt kind =
      let i = s.latest a in
      let h = (s.object i).member m in
      let l = fine.latest_made a in
      one_cell k b s (member a m) h (kind ∙ ap (λ (n : ℕ). same_kind k (kind_of_member n m)) (sym three.1)
      ∙ ap (same_kind k) (sym (form.members i m).1))
      (at_home b h.object (λ o e. member_busy z s fine i m o (omega (arith, l)) (omega (arith, lt)) e))

  -- what is counted in the members of an object
  abbrev in_members : Kind → ℕ → ℕ → ℕ
  in_members k o i = tally k o (members (s.object i))

  -- an object that is gone has none
  idle_members : (k : Kind) (o i : ℕ) → weak_number s i ≡ 0 → in_members k o i ≡ 0
  idle_members k o i none =
      let c : common (s.object i).phase ≡ 0 = omega (arith, none) in
      tally_upto_empty k o 9 (λ m. (s.object i).member m ∷ [])
      (λ m lt. ap (λ (h : NumberedHandle). tally k o (h ∷ [])) (fine.cleared i m lt c)
      ∙ empty_counts k (kind_of_member s.owners m) o [])

  -- of an object that is there only the first three count
  few_members : (k : Kind) (o i : ℕ) → in_members k o i ≡ tally k o (upto 3 (λ m. (s.object i).member m ∷ []))
  few_members k o i =
      first_three k o 9 (λ m. (s.object i).member m ∷ []) (omega arith)
      (λ m le. ap (λ (h : NumberedHandle). tally k o (h ∷ [])) (fine.unused i m (let n = three.0 in omega (arith, le, n)))
      ∙ empty_counts k (kind_of_member s.owners m) o [])

  abbrev counts_of : ℕ → Counts
  counts_of b = record { owners = count s (s.latest b); weaks = weak s (s.latest b) }

  -- a block
  block_cells : (k : Kind) (b a : ℕ) → hits k b (held_by_block s a) ≡ in_members k (s.latest b) (s.latest a)
  block_cells k b a =
      let i = s.latest a in
      let n = weak_number s i in
      ⊎_elim
      (λ (e : n ≡ 0).
      ap (λ (c : Option Counts). hits k b (held_by_members s a c)) (cond-true (n == 0) None (Some (counts_of a)) (eq-eqb n 0 e))
      ∙ sym (idle_members k (s.latest b) i e))
      (λ (ne : n ≢ 0).
      let first = holdings_in s (member a 0) in
      let next = holdings_in s (member a 1) in
      let up = holdings_in s (member a 2) in
      let x = (s.object i).member 0 in
      let y = (s.object i).member 1 in
      let w = (s.object i).member 2 in
      let c = ap (λ (c : Option Counts). hits k b (held_by_members s a c)) (cond-false (n == 0) None (Some (counts_of a)) (ne_eqb n 0 ne)) in
      let p = hits_append k b (first ++ next) up in
      let q = hits_append k b first next in
      let r = hits_append k b first (next ++ up) in
      let t = hits_append k b next up in
      let e0 = member_cell k b a 0 (omega arith) (kind_by k true) in
      let e1 = member_cell k b a 1 (omega arith) (kind_by k true) in
      let e2 = member_cell k b a 2 (omega arith) (kind_by k false) in
      let u = tally_cons k (s.latest b) w (y ∷ x ∷ []) in
      let v = tally_cons k (s.latest b) y (x ∷ []) in
      let all = few_members k (s.latest b) i in
      omega (arith, c, p, q, r, t, e0, e1, e2, u, v, all))
      (cases_eq n 0)

  -- an object with something in its members is the latest in just one block
  one_block : (k : Kind) (o i : ℕ) → in_members k o i ≢ 0 → (j : ℕ) × IsOnly z.blocks (λ n. s.latest (1 + n)) i j
  one_block k o i some =
      let busy : IsBusy s i = ⊎_elim (λ (e : weak_number s i ≡ 0). absurd (some (idle_members k o i e)))
      (λ (ne : weak_number s i ≢ 0). omega (arith, ne)) (cases_eq (weak_number s i) 0) in
      let p = fine.placed i busy in
      let b = blocks_of s i in
      let l = p.1.0 in
      let h = p.1.1 in
      let e : 1 + (b - 1) ≡ b = omega (arith, l) in (
        b - 1,
        record {
          within = omega (arith, l, h);
          leads = ap s.latest e ∙ p.0;
          only = λ n lt is.
              let f : blocks_of s (s.latest (1 + n)) ≡ 1 + n = fine.latest_in (1 + n) (λ none. made_some i busy (sym is ∙ none)) in
              let g = ap (blocks_of s) is in omega (arith, f, g);
        },
      )

  -- all that cells hold on a block
  cells_counted : (k : Kind) (b : ℕ) → hits k b (all_held s z.blocks) ≡ tally k (s.latest b) (in_cells s)
  cells_counted k b =
      let o = s.latest b in
      let frees = upto s.cells (λ c. s.cell c ∷ []) in
      let rest = upto (suc s.made) (λ i. members (s.object i)) in
      let p = hits_append k b (flat_map (held_by_free s) (from 0 s.cells)) (flat_map (held_by_block s) (from 1 z.blocks)) in
      let q = tally_append k o frees rest in
      let a = hits_sum k b (held_by_free s) 0 s.cells in
      let c = tally_sum k o (λ c. s.cell c ∷ []) s.cells in
      let d = sum_same s.cells (λ i. hits k b (held_by_free s (0 + i))) (λ i. tally k o (s.cell i ∷ []))
      (λ i lt. let n : 0 + i ≡ i = omega arith in ap (λ (j : ℕ). hits k b (held_by_free s j)) n ∙ free_cell k b i lt) in
      let e = hits_sum k b (held_by_block s) 1 z.blocks in
      let f = sum_same z.blocks (λ i. hits k b (held_by_block s (1 + i))) (λ i. in_members k o (s.latest (1 + i)))
      (λ i lt. block_cells k b (1 + i)) in
      let g = sum_by_way z.blocks (suc s.made) (in_members k o) (λ i. s.latest (1 + i))
      (λ i lt. let l = fine.latest_made (1 + i) in omega (arith, l)) (λ i lt some. one_block k o i some) in
      let h = tally_sum k o (λ i. members (s.object i)) (suc s.made) in
      omega (arith, p, q, a, c, d, e, f, g, h)

  kind_counted : (k : Kind) (b : ℕ) → s.hands ≡ []
      → hits k b (all_held s z.blocks) ≡ tally k (s.latest b) (handles s)
  kind_counted k b none =
      cells_counted k b
      ∙ ap (λ (l : List Held). tally k (s.latest b) (map (λ (x : Held). x.handle) l ++ in_cells s)) (sym none)

  owners_counted : (b : ℕ) → s.hands ≡ [] → hits Owner b (all_held s z.blocks) ≡ count s (s.latest b)
  unfolding count
  owners_counted b none = kind_counted Owner b none

  weaks_counted : (b : ℕ) → s.hands ≡ [] → hits Weak b (all_held s z.blocks) ≡ weak s (s.latest b)
  unfolding weak
  weaks_counted b none = kind_counted Weak b none

  -- on a vacant block there is none
  none_listed : (b : ℕ) → s.hands ≡ [] → weak_number s (s.latest b) ≡ 0
      → length (held_on (all_held s z.blocks) b) ≡ 0
  none_listed b none e =
      let hs = all_held s z.blocks in
      let a = all_kinds b hs in
      let p = kind_counted Owner b none in
      let q = kind_counted Weak b none in
      let here : (k : Kind) → tally k (s.latest b) (handles s) ≡ 0 =
      λ k. ⊎_elim (λ (t : tally k (s.latest b) (handles s) ≡ 0). t)
      (λ (ne : tally k (s.latest b) (handles s) ≢ 0).
      let busy = counted_busy z s fine k (s.latest b) (omega (arith, ne)) in absurd (omega (arith, busy, e)))
      (cases_eq (tally k (s.latest b) (handles s)) 0) in
      let x = here Owner in let y = here Weak in
      omega (arith, a, p, q, x, y)

  all_counted : s.hands ≡ [] → AllCounted z.blocks s (all_held s z.blocks)
  all_counted none b from within =
      let n = weak_number s (s.latest b) in
      let hs = held_on (all_held s z.blocks) b in
      ⊎_elim
      (λ (e : n ≡ 0).
      subst (AreCounted hs) (sym (cond-true (n == 0) None (Some (counts_of b)) (eq-eqb n 0 e)))
      (empty_list hs (none_listed b none e)))
      (λ (ne : n ≢ 0).
      subst (AreCounted hs) (sym (cond-false (n == 0) None (Some (counts_of b)) (ne_eqb n 0 ne)))
      (owners_counted b none, weaks_counted b none))
      (cases_eq n 0)

pub counted : (v : GhostState) → TableInvariant v → (model_state v).hands ≡ []
    → AllCounted v.extent.shape.blocks (model_state v) (all_held (model_state v) v.extent.shape.blocks)
counted v kept none =
    let z = opening v.extent in
    all_counted z (model_state v) (sound z v.history kept.stands.legal) (formed z v.history kept.stands.legal)
    (three_members v) none
