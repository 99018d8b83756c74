-- What the own events of an attach come to: in a row, and on a sole desk.
use Rattle.std.proofs.Common.{◌≡◌, ℕ, suc, ◌<◌, ◌≤◌, true, false, List, [], ◌∷◌, ◌++◌, map, Some}
use Rattle.std.proofs.Common.{All, sym, refl, ap, ◌∙◌, subst, arith}
use Rattle.scene_structures.proofs.Prelude
use Prelude.{All-append, All-cons, All-nil, Attaches, block_kept, Cell, cells_led, Compare}
use Prelude.{DeskNow, entry, Free, Goes, goes_by_call, goes_in_turn, in_no_cell, IsLegal, IsList}
use Prelude.{IsSole, KeepsDesks, latest_of, leads, live, Make, Member, NextOf, Object, opening_of}
use Prelude.{owner, Place, put_same, PutsOnly, Shared, sound, State, state_of, Swap, ups}
use Prelude.{weak_of_owner}
use Rattle.scene_structures.specs.Observers.{IsAttached}
use Rattle.scene_structures.proofs.Alone.{all_wider}
use Rattle.scene_structures.proofs.Frames.{Apart, chain_live, frames}
use Rattle.scene_structures.proofs.Grows.{in_front, risen}
use Rattle.scene_structures.proofs.Members.{member_run, ups_run}
use Rattle.scene_structures.proofs.Rows.{partings_put}
use Rattle.scene_structures.proofs.Sole.{fresh_apart, keep_all, legal_is, state_is}

abbrev member_no : Cell → ℕ
member_no (Free n) = 0
member_no (Member o m) = m

abbrev pub UpOf : ℕ → Cell → Type 0
UpOf o c = c ≡ Member o 2

-- the cell is no object's `up`
abbrev NoUp : Cell → Type 0
NoUp c = (p : ℕ) → c ≡ Member p 2 → ⊥

next_no_up : (o p : ℕ) → Member o 1 ≡ Member p 2 → ⊥
next_no_up o p e = let n : ◌≡◌ {A = ℕ} 1 2 = ap member_no e in absurd (omega arith)

pub apart_up : (o : ℕ) (os : List ℕ) → Apart (UpOf o) os
apart_up o [] = tt
apart_up o (p ∷ os) = (λ e. next_no_up p o e, apart_up o os)

module _ {V : Type 0} where
  -- what goes into the new node's `up` stays there, as do those of the others
  pub attached_list : (d e : DeskNow V) (m : ℕ) (subject : Shared) (x : V) → Attaches d (Free m) subject x e → IsLegal (opening_of d.shape) d.seen
      → IsSole d → m < (opening_of d.shape).cells → IsAttached d (Free m) subject e
  attached_list d e m subject x a legal sole lt os list =
      let z = opening_of d.shape in let n = d.name in let s = state_of d in
      let w = a.watches in let r = a.rises in let b = a.block in
      let make = Make b false false (0 ∷ 0 ∷ 0 ∷ 0 ∷ []) x in
      let q : Place = record { block = record { 0 = b.0 }; field = 0 } in
      let o = suc s.made in let up = weak_of_owner d subject in
      let goes_m = goes_by_call d make a.made a.makes in
      let keep_m = All-cons KeepsDesks make [] tt (All-nil KeepsDesks) in
      let state_m = state_is d a.made (make ∷ []) goes_m keep_m legal sole in
      let latest : latest_of a.made b.0 ≡ o = ap (λ (t : State). t.latest b.0) state_m ∙ put_same s.latest b.0 o b.0 refl in
      let hang = w.after ++ Swap (Member o 2) up w.was ∷ w.before in
      let goes_h : Goes a.made hang a.hung = subst (λ k. Goes a.made (w.after ++ Swap (Member k 2) up w.was ∷ w.before) a.hung) latest w.goes in
      let head = hang ++ make ∷ [] in
      let goes_f : Goes d head a.hung = goes_in_turn d (make ∷ []) a.made hang a.hung goes_m goes_h in
      let P = PutsOnly (UpOf o) in
      let puts_h : All P hang = All-append P w.after (Swap (Member o 2) up w.was ∷ w.before) (partings_put (UpOf o) w.after w.late)
      (All-cons P (Swap (Member o 2) up w.was) w.before refl (all_wider in_no_cell (UpOf o) (λ c k. absurd k) w.before w.early)) in
      let puts_f : All P head = All-append P hang (make ∷ []) puts_h (All-cons P make [] tt (All-nil P)) in
      let keep_f = keep_all (UpOf o) head puts_f in
      let x' = Compare (Free m) r.below (owner o (Some q)) r.old true r.weak in let y' = Swap (Member o 1) r.below r.was in
      let row = r.after ++ x' ∷ (r.between ++ y' ∷ r.before) in
      let goes_r : Goes a.hung row e = subst (λ k. Goes a.hung (r.after ++ Compare (Free m) r.below (owner k (Some q)) r.old true r.weak ∷
      (r.between ++ Swap (Member k 1) r.below r.was ∷ r.before)) e) latest r.goes in
      let early : All (PutsOnly (NextOf o)) r.before = subst (λ k. All (PutsOnly (NextOf k)) r.before) latest r.early in
      let N = PutsOnly NoUp in
      let puts_r : All N row =
      All-append N r.after (x' ∷ (r.between ++ y' ∷ r.before)) (partings_put NoUp r.after r.late)
      (All-cons N x' (r.between ++ y' ∷ r.before) (λ p k. absurd (let t : Free m ≡ Member p 2 = k in cc))
      (All-append N r.between (y' ∷ r.before) (partings_put NoUp r.between r.leaves)
      (All-cons N y' r.before (next_no_up o)
      (all_wider (NextOf o) NoUp (λ c k p j. next_no_up o p (sym k ∙ j)) r.before early)))) in
      let own = row ++ head in
      let goes : Goes d own e = goes_in_turn d head a.hung row e goes_f goes_r in
      let keep = All-append KeepsDesks row head (keep_all NoUp row puts_r) keep_f in
      let state_e = state_is d e own goes keep legal sole in
      let legal_e = legal_is d e own goes keep legal sole in
      let legal_f = legal_is d a.hung head goes_f keep_f legal sole in
      let split = in_front n row head d.seen in
      let M = map (entry n) head ++ d.seen in
      let E = map (entry n) row ++ M in
      let legal_me : IsLegal z E = subst (IsLegal z) split legal_e in
      let lives = chain_live z s (Free m) os (sound z d.seen legal) (let t = cells_led z d.seen in omega arith) list in
      let list_f = frames z n (UpOf o) head d.seen m os legal_f puts_f lt (λ k. absurd (let t : Free m ≡ Member o 2 = k in cc)) (apart_up o os) list in
      let over = in_front n hang (make ∷ []) d.seen in
      let B = entry n make ∷ d.seen in
      let made_b : ((leads z B).object o).block ≡ b.0 = ap (λ (y : Object). y.block) (put_same s.object o _ o refl) in
      let kept = block_kept z (map (entry n) hang) B o (omega arith) in
      let block : q.block.0 ≡ ((leads z M).object o).block =
      sym (ap (λ l. ((leads z l).object o).block) over ∙ (kept.0 ∙ made_b)) in
      let le : o ≤ (leads z M).made = subst (λ l. o ≤ (leads z l).made) (sym over) kept.1 in
      let done : IsList (leads z E) (Free m) (o ∷ os) =
      risen z n o (Free m) q r.below r.was r.old r.weak r.before r.between r.after M os legal_me early r.leaves r.late (λ j e. cc e)
      (let t = cells_led z M in omega arith) tt (fresh_apart s os lives) le block list_f in
      let end = chain_live z (leads z E) (Free m) (o ∷ os) (sound z E legal_me) (let t = cells_led z E in omega arith) done in
      let live_f = chain_live z (leads z M) (Free m) os (sound z M legal_f) (let t = cells_led z M in omega arith) list_f in
      let mine = member_run z n NoUp row M o 2 legal_me puts_r (λ f. f o refl) le end.0 in
      let after_row : ups (leads z E) (o ∷ os) ≡ ups (leads z M) (o ∷ os) =
      ups_run z n NoUp row M (o ∷ os) legal_me puts_r (λ p k f. f p refl) (mine.1, le, live_f) end in
      let after_head : ups (leads z M) os ≡ ups s os =
      ups_run z n (UpOf o) head d.seen os legal_f puts_f (λ p k f. let t : p ≡ o = (let u : Member p 2 ≡ Member o 2 = f in cc) in absurd (omega arith))
      lives live_f in
      let W = map (entry n) w.before ++ B in
      let swap = Swap (Member o 2) up w.was in
      let at_swap = in_front n w.after (swap ∷ w.before) B in
      let F = map (entry n) w.after ++ (entry n swap ∷ W) in
      let whole : M ≡ F = over ∙ at_swap in
      let legal_w : IsLegal z F = subst (IsLegal z) whole legal_f in
      let kept_b = block_kept z (map (entry n) (swap ∷ w.before)) B o (omega arith) in
      let alive = subst (λ l. ((leads z l).object o).phase ≡ live) whole mine.1 in
      let stays = member_run z n in_no_cell w.after (entry n swap ∷ W) o 2 legal_w (partings_put in_no_cell w.after w.late) (λ k. k) kept_b.1 alive in
      let put_in : ((leads z (entry n swap ∷ W)).object o).member 2 ≡ up =
      ap (λ (y : Object). y.member 2) (put_same (leads z W).object o _ o refl) ∙ put_same ((leads z W).object o).member 2 up 2 refl in
      let held : ((leads z M).object o).member 2 ≡ up = ap (λ l. ((leads z l).object o).member 2) whole ∙ (stays.0 ∙ put_in) in
      let here : ups (leads z E) (o ∷ os) ≡ up ∷ ups s os = after_row ∙ (λ i. held i ∷ after_head i) in
      let state : state_of e ≡ leads z E = state_e ∙ ap (leads z) split in (
        subst (λ (t : State). IsList t (Free m) (o ∷ os)) (sym state) done,
        subst (λ (t : State). ups t (o ∷ os) ≡ up ∷ ups s os) (sym state) here,
      )
