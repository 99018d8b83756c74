-- The look of a join.
use Rattle.std.proofs.Common.{◌≡◌, ℕ, ◌+◌, ◌≤◌, false, ◌≢◌, List, [], ◌∷◌, map, length, set, ◌==◌}
use Rattle.std.proofs.Common.{sym, refl, ap, ◌∙◌, subst, inl, inr, ⊎_elim, arith, eq-eqb, ne_eqb}
use Rattle.control_word.proofs.Prelude
use Prelude.{adds, bag_size, cases_eq, cell_spot, cond-false, cond-true, Entry, entry, get_elem?}
use Prelude.{HasRoom, Held, held, Idle, IsSecond, Join, joins_up, leads, Merging, more, Opening}
use Prelude.{owed, owes, pays, put, renamed, sees, some, spot, Stands, State, value, View}
use Rattle.control_word.proofs.history.Allowances.{allowed}
use Rattle.control_word.proofs.history.Bags.{desk_of}
use Rattle.control_word.proofs.history.Bounds.{there}
use Rattle.control_word.proofs.history.Legal.{sound}
use Rattle.control_word.proofs.history.Others.{fits_after}
use Rattle.control_word.proofs.lists.Parts.{part_mine, part_other}
use Rattle.control_word.proofs.lists.Tallies.{num, num_cons, put_other, put_same}
use Rattle.control_word.proofs.views.Merging.{merge_step}
use Rattle.control_word.proofs.views.Teams.{event_step}
use Rattle.control_word.proofs.words.Passed.{join_bank, join_vacant, join_words, same_sums}
use Rattle.control_word.proofs.words.Payments.{shows_all}
use Rattle.control_word.specs.Steps.{Joins, MergesViews}

module _ {V : Type 0} where
  module _ (z : Opening) (words : List ℕ) (views : List (View V)) (h : List (Entry V)) (stands : Stands z words views h)
      (i : ℕ) (v : View V) (at : get_elem? views i ≡ some v) (awake : v.spent ≡ false) where
    -- the look of a join: all that the other desk had is this one's
    pub join_step : (other : ℕ) (mine others : List (Entry V)) → v.pending ≡ Merging other mine others
        → let e = entry v.name (Join other) in Stands z words (set views i (sees v (e ∷ h))) (e ∷ h)
    join_step other mine others busy =
        let s = leads z h in
        let e = entry {V = V} v.name (Join other) in
        let w = sees v (e ∷ h) in
        let t = joins_up v.name other s in
        let seat = stands.team.seated i v at awake in
        let second : IsSecond v.pending other = subst (λ p. IsSecond p other) (sym busy) refl in
        let apart = seat.apart other second in
        let acting = seat.acts other (inr second) in
        let same = same_sums z words views h stands i v at awake w (λ m. ap (λ p. owes p m) busy) (λ m. ap (λ p. pays p m) busy) (λ m. ap
        (λ p. adds p m) busy) in
        let fine = allowed z h stands.legal in
        let rooms = fine.rooms in
        event_step z words words views h i v (Join other) Idle stands.taken stands at awake
        (λ d q. inl (inr (subst (λ p. IsSecond p d) (sym busy) q))) ((λ q. apart (sym q)), acting) tt
        (join_room s v.name other (λ q. apart q) (rooms v.name) (rooms other))
        (shows_all z words words (owed views) (more z s views stands.taken) (owed (set views i w)) (more z t
        (set views i w) stands.taken) s t refl stands.shows (join_vacant s v.name other) (λ b hb y one. one)
        (λ b j hb hj. let m = spot b j in let x = same m in let x0 = x.0 in let x1 = x.1 in let x2 = x.2 in let y = join_words s v.name other b j in
        let g = join_bank s z v.name other stands.taken m in omega arith)
        (λ c hc. let m = cell_spot z c in let x = same m in let x0 = x.0 in let x1 = x.1 in let x2 = x.2 in
        let g = join_bank s z v.name other stands.taken m in omega arith)
        stands.shows.shelf)
        stands.most stands.blank (record { members = stands.bare.members; frees = stands.bare.frees })
        (λ b hb. let x = (same (spot b 2)).2 in let y = stands.doors b hb in omega arith)
        tt (λ d q. absurd q) tt
        (λ j u m f l ne fits. fits_after z s words words (value z h) v.name (Join other) (sound z h stands.legal) u.name u.pending (λ q. ne (sym q))
        (λ q. m (stands.team.names j i u v f at l awake other (inl (sym q)) (inr second))) (λ o q. absurd q) (λ b has y lt. refl) fits)
      where
        join_room : (s : State) (d e : ℕ) → d ≢ e → bag_size s d ≤ s.allowance d → bag_size s e ≤ s.allowance e → HasRoom (joins_up d e s) d
        join_room s d e n hd he =
            let a = put_other (put s.allowance d (s.allowance d + s.allowance e)) e 0 d n in
            let b = put_same s.allowance d (s.allowance d + s.allowance e) d refl in
            let c = both_bags s.hands d e n in omega arith
          where
            both_bags : (l : List Held) (d e : ℕ) → d ≢ e
                → num (λ (x : Held). x.desk == d) (map (λ (x : Held). held (renamed e d x.desk) x.handle) l) ≡ num (λ (x : Held). x.desk == d) l + num
                (λ (x : Held). x.desk == e) l
            both_bags [] d e n = refl
            both_bags (x ∷ l) d e n =
                let ih = both_bags l d e n in
                let one : num (λ (y : Held). y.desk == d) (held (renamed e d x.desk) x.handle ∷ []) ≡ num (λ (y : Held). y.desk == d) (x ∷ []) + num
                (λ (y : Held). y.desk == e) (x ∷ []) =
                ⊎_elim
                (λ (q : x.desk ≡ e).
                let a : renamed e d x.desk ≡ d = cond-true (x.desk == e) d x.desk (eq-eqb x.desk e q) in
                let b = ap length (part_mine desk_of d (held (renamed e d x.desk) x.handle) [] a) in
                let c = ap length (part_other desk_of d x [] (λ r. n (sym r ∙ q))) in let f = ap length (part_mine desk_of e x [] q) in omega arith)
                (λ (q : x.desk ≢ e).
                let a : renamed e d x.desk ≡ x.desk = cond-false (x.desk == e) d x.desk (ne_eqb x.desk e q) in
                let b = ap (λ k. num (λ (y : Held). y.desk == d) (held k x.handle ∷ [])) a in
                let f = ap length (part_other desk_of e x [] q) in omega arith) (cases_eq x.desk e) in
                omega (
                  arith,
                  num_cons (λ (y : Held). y.desk == d) (held (renamed e d x.desk) x.handle) (map
                      (λ (y : Held). held (renamed e d y.desk) y.handle) l),
                  num_cons (λ (y : Held). y.desk == d) x l,
                  num_cons (λ (y : Held). y.desk == e) x l,
                )

module _ {V : Type 0} where
  pub joins : Joins V Stands
  joins at other mine others ready = join_step at.opening at.words at.views at.history ready.stands at.seat at.view ready.seated ready.awake other mine
      others ready.pending

  pub merges_views : MergesViews V Stands
  merges_views at j w ready there two up rests = merge_step at.opening at.words at.views at.history ready.stands at.seat j at.view w ready.seated there
      two ready.awake up ready.pending rests
