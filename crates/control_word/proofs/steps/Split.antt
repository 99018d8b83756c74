-- The look of a split.
use Rattle.std.proofs.Common.{◌≡◌, ℕ, ◌-◌, false, List, ◌∷◌, set, sym, refl, ap, subst, inl, inr}
use Rattle.std.proofs.Common.{arith}
use Rattle.control_word.proofs.Prelude
use Prelude.{adds, after, Asks, Block, cell_spot, Entry, entry, get_elem?, HasRoom, Idle, IsActing}
use Prelude.{leads, more, NumberedHandle, Opening, owed, owes, Parting, pays, put, sees_as, some}
use Prelude.{Split, splits_off, spot, Stands, value, View}
use Rattle.control_word.proofs.history.Legal.{sound}
use Rattle.control_word.proofs.history.Names.{unknown_free}
use Rattle.control_word.proofs.history.Others.{fits_after}
use Rattle.control_word.proofs.lists.Tallies.{put_same}
use Rattle.control_word.proofs.views.Cutting.{part_step}
use Rattle.control_word.proofs.views.Teams.{event_step}
use Rattle.control_word.proofs.words.Passed.{same_sums, split_bank, split_vacant, split_words}
use Rattle.control_word.proofs.words.Payments.{shows_all}
use Rattle.control_word.specs.Steps.{CutsView, Splits}

module _ {V : Type 0} where
  module _ (z : Opening) (words : List ℕ) (views : List (View V)) (h : List (Entry V)) (stands : Stands z words views h)
      (i : ℕ) (v : View V) (at : get_elem? views i ≡ some v) (awake : v.spent ≡ false) where
    -- the look of a split: the new desk has its name, its allowance and what it was given
    pub split_step : (to n : ℕ) (hs : List NumberedHandle) (bs : List Block) → v.pending ≡ Idle → Asks {V = V} (leads z h) v.name (Split to n hs bs)
        → HasRoom (after {V = V} (leads z h) v.name (Split to n hs bs)) v.name
        → let e = entry v.name (Split to n hs bs) in Stands z words (set views i (sees_as v (Parting to) (e ∷ h))) (e ∷ h)
    split_step to n hs bs idle asks room =
        let s = leads z h in
        let e = entry v.name (Split to n hs bs) in
        let w = sees_as v (Parting to) (e ∷ h) in
        let t = splits_off v.name to n hs bs s in
        let acting = (stands.team.seated i v at awake).acts v.name (inl refl) in
        let low = acting.0 in
        let to-is = asks.0 in
        let same = same_sums z words views h stands i v at awake w (λ m. ap (λ p. owes p m) idle) (λ m. ap (λ p. pays p m) idle) (λ m. ap
        (λ p. adds p m) idle) in
        let new : IsActing t to =
        let a = put_same (put s.allowance v.name (s.allowance v.name - n)) to n to refl in let g = asks.1 in
        (omega arith, unknown_free z h stands.legal to (omega arith), omega arith) in
        event_step z words words views h i v (Split to n hs bs) (Parting to) stands.taken stands at awake
        (λ d q. inr (λ act. let l = act.0 in let y : to ≡ d = q in omega arith)) asks tt room
        (shows_all z words words (owed views) (more z s views stands.taken) (owed (set views i w)) (more z t
        (set views i w) stands.taken) s t refl stands.shows (split_vacant s v.name to n hs bs asks.4) (λ b hb y one. one)
        (λ b j hb hj. let m = spot b j in let x = same m in let x0 = x.0 in let x1 = x.1 in let x2 = x.2 in
        let y = split_words s v.name to n hs bs asks.4 b j in let g = split_bank s z v.name to n hs bs stands.taken m in omega arith)
        (λ c hc. let m = cell_spot z c in let x = same m in let x0 = x.0 in let x1 = x.1 in let x2 = x.2 in
        let g = split_bank s z v.name to n hs bs stands.taken m in omega arith)
        stands.shows.shelf)
        stands.most stands.blank (record { members = stands.bare.members; frees = stands.bare.frees })
        (λ b hb. let x = (same (spot b 2)).2 in let y = stands.doors b hb in omega arith)
        tt
        (λ d q. let y : to ≡ d = q in ((λ r. omega arith), subst (IsActing t) y new, inr (λ act. let l = act.0 in omega arith)))
        tt
        (λ j u m f l ne fits. fits_after z s words words (value z h) v.name (Split to n hs bs) (sound z h stands.legal) u.name u.pending (λ q. ne (sym q))
        (λ q. let act = (stands.team.seated j u f l).acts u.name (inl refl) in let l0 = act.0 in
        let y : to ≡ u.name = q in omega arith) (λ o q. absurd q) (λ b has y lt. refl) fits)

module _ {V : Type 0} where
  pub splits : Splits V Stands
  splits at to n hs bs ready asks room = split_step at.opening at.words at.views at.history ready.stands at.seat at.view ready.seated ready.awake to n
      hs bs ready.pending asks room

  pub cuts_view : CutsView V Stands
  cuts_view at to ready = part_step at.opening at.words at.views at.history ready.stands at.seat at.view ready.seated ready.awake to ready.pending
