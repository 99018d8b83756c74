-- What tries to take the top node say, put together.
use Rattle.std.proofs.Common.{◌≡◌, ℕ, Bool, true, false, [], ◌∷◌, ◌++◌, Some, None, Ok, Err}
use Rattle.std.proofs.Common.{Option, Result, sym, refl, ap, ◌∙◌, subst}
use Rattle.scene_structures.proofs.Prelude
use Prelude.{AddsEvent, All-append, All-cons, All-nil, bag_of, Block, Cell, Compare, DeskNow, Does}
use Prelude.{Event, FindsNone, goes_by_call, goes_in_turn, handle_in, in_no_cell, IsLegal}
use Prelude.{IsMember, IsParting, IsWithin, latest_of, Lists, Load, Looks, Member, node_in, Null}
use Prelude.{NumberedHandle, opening_of, Outside, Owner, owner, OwnsObject, Place, PutsOnly}
use Prelude.{Refusal, Sees, Shape, Shared, shown_held, state_of}
use Rattle.scene_structures.specs.Stacks.{PopsNode}
use Rattle.scene_structures.proofs.Rows.{partings_put}

same_block : (a b : Block) → a.0 ≡ b.0 → a ≡ b
same_block a b e = λ i. record { 0 = e i }

module _ {V : Type 0} where
  -- what a desk holds points into the block of what it owns, if it points into what it owns
  pub within_held : (d : DeskNow V) (h : Shared) → IsLegal (opening_of d.shape) d.seen → Lists h.block h.place (bag_of d) → (o : ℕ)
      → OwnsObject (state_of d) (node_in d h) o → IsWithin h.block h.place
  within_held d h legal lists o owns = go h.block h.place lists owns
    where
      go : (b : Option Block) (p : Option Place) → Lists b p (bag_of d) → OwnsObject (state_of d) (handle_in d Owner b p) o → IsWithin b p
      go None p lists owns = absurd (let e : None ≡ Some o = ap (λ (x : NumberedHandle). x.object) owns.1 in cc)
      go (Some c) p lists owns =
          let q = owns.0 in
          let place : p ≡ Some q = ap (λ (x : NumberedHandle). x.place) owns.1 in
          let object : Some (latest_of d c.0) ≡ Some o = ap (λ (x : NumberedHandle). x.object) owns.1 in
          let number : latest_of d c.0 ≡ o = cc in
          let held = shown_held (opening_of d.shape) d.seen d.name Owner p c.0 legal lists in
          let block : c.0 ≡ q.block.0 = sym held.1 ∙ (ap (λ n. ((state_of d).object n).block) number ∙ sym owns.2) in
          (q, place, ap Some (same_block c q.block block))

  pub legal_after : (d e : DeskNow V) (x : Event V) → AddsEvent d x e → IsLegal (opening_of e.shape) e.seen
  legal_after d e x adds = subst (λ (k : Shape). IsLegal (opening_of k) e.seen) (sym adds.same.1) adds.legal

  -- the first look
  pub looks_first : (d e : DeskNow V) (c : Cell) (h : Shared) → AddsEvent d (Load c (node_in e h)) e → Lists h.block h.place (bag_of e) → Looks d c h e
  looks_first d e c h adds lists =
      record {
        at = e;
        look = Load c (node_in e h);
        before = [];
        after = [];
        sees = (refl, refl);
        looks = goes_by_call d _ e adds;
        leaves = Rattle.control_block.proofs.Own.goes_by_none e;
        early = All-nil (PutsOnly in_no_cell);
        late = All-nil IsParting;
        within = within_held e h (legal_after d e _ adds) lists;
      }

  pub sees_none : (c : Cell) (h : NumberedHandle) (x : Event V) → Sees c h x → PutsOnly in_no_cell x
  sees_none c h (Load k got) sees = tt
  sees_none c h (Compare k expected new got false weak) sees = tt
  sees_none c h x sees = absurd sees

  pub looks_does : (d e : DeskNow V) (c : Cell) (h : Shared) → Looks d c h e → Does (PutsOnly in_no_cell) d e
  looks_does d e c h l =
      record {
        own = l.after ++ l.look ∷ l.before;
        goes = goes_in_turn d (l.look ∷ l.before) l.at l.after e l.looks l.leaves;
        all = All-append (PutsOnly in_no_cell) l.after (l.look ∷ l.before) (partings_put in_no_cell l.after l.late)
            (All-cons (PutsOnly in_no_cell) l.look l.before (sees_none c (node_in l.at h) l.look l.sees) l.early);
      }

  -- the look was the last one, and found no node
  pub finds_none : (d e f : DeskNow V) (c : Cell) (h : Shared) → Looks d c h e → (IsWithin h.block h.place → ⊥)
      → Does IsParting e f → FindsNone d c f
  finds_none d e f c h l not does =
      record {
        found = h;
        looks = record {
          at = l.at;
          look = l.look;
          before = l.before;
          after = does.own ++ l.after;
          sees = l.sees;
          looks = l.looks;
          leaves = goes_in_turn l.at l.after e does.own f l.leaves does.goes;
          early = l.early;
          late = All-append IsParting does.own l.after does.all l.late;
          within = l.within;
        };
        none = λ o owns. not (l.within o owns);
      }

  -- a load and a compare that differs
  pub looks_again : (d e m u f : DeskNow V) (c : Cell) (h held : Shared) (k : Cell) (below ex new : NumberedHandle) (w : Bool) → Looks d c h e
      → AddsEvent e (Load k below) m
      → AddsEvent m (Compare c ex new (node_in u held) false w) u → Lists held.block held.place (bag_of u) → Does IsParting u f → Looks d c held f
  looks_again d e m u f c h held k below ex new w l loads differs lists does =
      let a = looks_does d e c h l in
      let x = Load k below in let y = Compare c ex new (node_in u held) false w in
      record {
        at = u;
        look = y;
        before = x ∷ a.own;
        after = does.own;
        sees = (refl, refl);
        looks = goes_in_turn d (x ∷ a.own) m (y ∷ []) u (goes_in_turn d a.own e (x ∷ []) m a.goes (goes_by_call e x m loads))
            (goes_by_call m y u differs);
        leaves = does.goes;
        early = All-cons (PutsOnly in_no_cell) x a.own tt a.all;
        late = does.all;
        within = within_held u held (legal_after m u _ differs) lists;
      }

  -- a load and a compare that swaps
  pub takes : (d e m u f : DeskNow V) (c : Cell) (h : Shared) (o : ℕ) (q : Place) (below old : NumberedHandle) (w : Bool) → Looks d c h e
      → AddsEvent e (Load (Member o 1) below) m
      → AddsEvent m (Compare c (owner o (Some q)) below old true w) u → Does IsParting u f → PopsNode d c o q f
  takes d e m u f c h o q below old w l loads swaps does =
      let a = looks_does d e c h l in
      let x = Load (Member o 1) below in let y = Compare c (owner o (Some q)) below old true w in
      record {
        below = below;
        old = old;
        weak = w;
        before = a.own;
        after = does.own;
        goes = goes_in_turn d (y ∷ (x ∷ a.own)) u does.own f
            (goes_in_turn d (x ∷ a.own) m (y ∷ []) u (goes_in_turn d a.own e (x ∷ []) m a.goes (goes_by_call e x m loads)) (goes_by_call m y u swaps))
            does.goes;
        early = a.all;
        late = does.all;
      }

  -- an owner that points into its block, by its object
  pub owner_within : (d : DeskNow V) (h : Shared) (q : Place) → h.place ≡ Some q → h.block ≡ Some q.block
      → node_in d h ≡ owner (latest_of d q.block.0) (Some q)
  owner_within d h q place block = λ i. handle_in d Owner (block i) (place i)

-- what has no member is no node
pub no_member : {A : Type 0} (is : Block → A → Type 0) (b : Option Block) (p : Option Place) (r : Result A Refusal) → IsMember is b p r
    → ((x : A) → r ≡ Ok x → ⊥) → IsWithin b p → ⊥
no_member is b p (Ok at) h not within = not at refl
no_member is b p (Err Null) h not within = absurd (let e = within.1 in let t : None ≡ Some within.0 = sym h ∙ e in cc)
no_member is b p (Err Outside) h not within =
    let same : h.0 ≡ within.0 = (let e : Some h.0 ≡ Some within.0 = sym h.1 ∙ within.1 in cc) in
    h.2 (within.2 ∙ ap (λ (q : Place). Some q.block) (sym same))
no_member is b p (Err why) h not within = absurd h
