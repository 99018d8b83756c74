-- A sole desk that has a list in a free cell: what each step of a prune leaves of it.
use Rattle.std.proofs.Common.{◌≡◌, ℕ, ◌<◌, Bool, not, List, [], ◌∷◌, ◌++◌, Some, None, Option, sym}
use Rattle.std.proofs.Common.{refl, ap, ◌∙◌, subst}
use Rattle.scene_structures.proofs.Prelude
use Prelude.{AddsEvent, after, Block, Cell, Chain, comes_next, DeskNow, Does, does_none, does_one}
use Prelude.{Event, Expired, Free, goes_in_turn, GoesOn, handle_in, in_no_cell, is_owned, IsExpiry}
use Prelude.{IsLegal, IsList, IsParting, IsSole, leads, NumberedHandle, opening_of, OwnsObject}
use Prelude.{Place, PutsOnly, same_Some, State, state_of, Swap, Weak}
use Rattle.scene_structures.proofs.Alone.{in_on, legal_on, list_on, sole_on}
use Rattle.scene_structures.proofs.Cuts.{cut_at, end_of, onto}
use Rattle.scene_structures.proofs.Grows.{apart_nowhere}
use Rattle.scene_structures.proofs.Rows.{does_wider, parting_puts}

-- a node that was found is what the list below goes on by
pub found_first : (s : State) (h : NumberedHandle) (rest : List ℕ) → Chain s h rest → (o : ℕ) → h.object ≡ Some o
    → (after : List ℕ) × (rest ≡ o ∷ after)
found_first s h [] chain o is = absurd (let e : None ≡ Some o = sym chain ∙ is in cc)
found_first s h (p ∷ rest) chain o is =
    let e : Some p ≡ Some o = sym (ap (λ (k : NumberedHandle). k.object) chain.0.1) ∙ is in (rest, ap (λ n. n ∷ rest) (same_Some _ _ e))

-- what is no node has nothing below it
pub nothing_there : (s u : State) (h : NumberedHandle) (os : List ℕ) → ((o : ℕ) → OwnsObject u h o → ⊥) → u.object ≡ s.object
    → Chain s h os → os ≡ []
nothing_there s u h [] none same chain = refl
nothing_there s u h (o ∷ os) none same chain = absurd (none o (chain.0.0, chain.0.1, chain.0.2 ∙ sym (ap (λ f. (f o).block) same)))

module _ {V : Type 0} where
  -- a sole desk, and the list in a free cell
  pub record Stands (m : ℕ) (os : List ℕ) (d : DeskNow V) : Type 0 where
    pub legal : IsLegal (opening_of d.shape) d.seen
    pub sole : IsSole d
    pub there : m < (state_of d).cells
    pub list : IsList (state_of d) (Free m) os

  pub puts_nothing : (d e : DeskNow V) → Does IsParting d e → Does (PutsOnly in_no_cell) d e
  puts_nothing d e does = does_wider IsParting (PutsOnly in_no_cell) d e (parting_puts in_no_cell) does

  pub goes_both : (d e f : DeskNow V) → GoesOn d e → GoesOn e f → GoesOn d f
  goes_both d e f a b = (b.0 ++ a.0, goes_in_turn d a.0 e b.0 f a.1 b.1)

  pub goes : (is : Event V → Type 0) (d e : DeskNow V) → Does is d e → GoesOn d e
  goes is d e does = (does.own, does.goes)

  pub stands_on : (m : ℕ) (os : List ℕ) (d e : DeskNow V) → Does (PutsOnly in_no_cell) d e → Stands m os d → Stands m os e
  stands_on m os d e does st =
      record {
        legal = legal_on in_no_cell d e does st.legal st.sole;
        sole = sole_on in_no_cell d e does st.legal st.sole;
        there = in_on in_no_cell d e does st.legal st.sole (Free m) st.there;
        list = list_on in_no_cell d e does st.legal st.sole (Free m) os (λ k. k) (apart_nowhere os) st.there tt st.list;
      }

  -- one call on a sole desk
  pub state_next : (d e : DeskNow V) (x : Event V) → AddsEvent d x e → IsSole d → state_of e ≡ after (state_of d) d.name x
  state_next d e x adds sole =
      let next = comes_next d x e adds sole in λ i. leads (opening_of (adds.same.1 i)) (next i)

  -- a node went out of the cell that comes after these
  pub stands_cut : (m : ℕ) (kept rest : List ℕ) (p : ℕ) (d e : DeskNow V) (new old : NumberedHandle) → AddsEvent d (Swap (end_of (Free m) kept) new old) e
      → new ≡ ((state_of d).object p).member 1 → Stands m (onto kept (p ∷ rest)) d → Stands m (onto kept rest) e
  stands_cut m kept rest p d e new old adds is st =
      let k = end_of (Free m) kept in let at = λ (c : Cell). c ≡ k in
      let does = does_one (PutsOnly at) d e (Swap k new old) adds refl in
      record {
        legal = legal_on at d e does st.legal st.sole;
        sole = sole_on at d e does st.legal st.sole;
        there = in_on at d e does st.legal st.sole (Free m) st.there;
        list = subst (λ (s : State). IsList s (Free m) (onto kept rest)) (sym (state_next d e _ adds st.sole))
            (cut_at (state_of d) d.name (Free m) kept rest p new old (λ o e'. cc e') is st.list);
      }

  -- what an `up` was asked is whether its subject has no owner
  pub expiry_told : (d e : DeskNow V) (b : Option Block) (p : Option Place) (gone : Bool) → IsExpiry d b p gone e
      → IsLegal (opening_of d.shape) d.seen → IsSole d → is_owned (state_of d) (handle_in d Weak b p) ≡ not gone
  expiry_told d e None p gone is legal sole = ap not (sym is.0)
  expiry_told d e (Some b) p gone is legal sole =
      let h = handle_in d Weak (Some b) p in
      let next = comes_next d (Expired h gone) e is sole in
      ap not (sym ((subst (IsLegal (opening_of d.shape)) next is.legal).1.asks.1))

  pub expiry_does : (d e : DeskNow V) (b : Option Block) (p : Option Place) (gone : Bool) → IsExpiry d b p gone e → Does (PutsOnly in_no_cell) d e
  expiry_does d e None p gone is = subst (Does (PutsOnly in_no_cell) d) (sym is.1) (does_none (PutsOnly in_no_cell) d)
  expiry_does d e (Some b) p gone is = does_one (PutsOnly in_no_cell) d e _ is tt
