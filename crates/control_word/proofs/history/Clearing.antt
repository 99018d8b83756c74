-- A member goes out of an ending object.
use Rattle.std.proofs.Common.{◌≡◌, ℕ, zero, suc, ◌+◌, ◌<◌, false, cond, ◌≢◌, List, [], ◌∷◌, ◌++◌}
use Rattle.std.proofs.Common.{map, Some, None, Option, sym, refl, ap, ◌∙◌, subst, ⊎_elim, arith}
use Rattle.control_word.proofs.Prelude
use Prelude.{cases_eq, cases_lt, changes, clears, common, cond_both, empty, ending, gets, handle}
use Prelude.{handles, has_object, Held, held, Kind, kind_of_member, members, NumberedHandle}
use Prelude.{Object, Opening, Owner, Place, put, State, tally, unmade, upto, Weak}
use Rattle.control_word.proofs.history.Making.{empty_counts}
use Rattle.control_word.proofs.history.Moving.{fits_same, sound_moves}
use Rattle.control_word.proofs.history.Soundness.{OwnersFit, Sound}
use Rattle.control_word.proofs.lists.Tallies.{put_cases, put_other, put_same, tally_append}
use Rattle.control_word.proofs.lists.Tallies.{tally_cons, upto_change, upto_same}
use Rattle.control_word.specs.State.{count, weak}
use Rattle.control_word.specs.Limits.{most_members}

-- counting over all objects after one of them changed
tally_put : (k : Kind) (q n o : ℕ) (f : ℕ → Object) (x : Object) → o < n
    → tally k q (upto n (λ j. members (put f o x j))) + tally k q (members (f o)) ≡ tally k q (upto n (λ j. members (f j))) + tally k q (members x)
tally_put k q zero o f x lt = absurd (omega arith)
tally_put k q (suc n) o f x lt =
    ⊎_elim
    (λ (e : n ≡ o).
    let here : members (put f o x n) ≡ members x = ap members (put_same f o x n e) in
    let old = upto_same n (λ j. members (put f o x j)) (λ j. members (f j)) (λ i h. ap members (put_other f o x i (λ e2. omega arith))) in
    let a = ap (tally k q) here in let b = ap (tally k q) old in
    let c : tally k q (members (f n)) ≡ tally k q (members (f o)) = ap (λ i. tally k q (members (f i))) e in
    omega (
      arith,
      tally_append k q (members (put f o x n)) (upto n (λ j. members (put f o x j))),
      tally_append k q (members (f n)) (upto n
          (λ j. members (f j))),
    ))
    (λ ne.
    let here : members (put f o x n) ≡ members (f n) = ap members (put_other f o x n ne) in
    let a = ap (tally k q) here in
    let ih = tally_put k q n o f x (omega arith) in
    omega (
      arith,
      tally_append k q (members (put f o x n)) (upto n (λ j. members (put f o x j))),
      tally_append k q (members (f n)) (upto n
          (λ j. members (f j))),
    ))
    (cases_eq n o)

-- an object of which one member was emptied
abbrev pub emptied : ℕ → Object → ℕ → Object
emptied w x m = record x { member = put x.member m (empty (kind_of_member w m)) }

emptied_tally : (w : ℕ) (x : Object) (m : ℕ) → m < most_members → (k : Kind) (q : ℕ)
    → tally k q (members (emptied w x m)) + tally k q (x.member m ∷ []) ≡ tally k q (members x)
emptied_tally w x m lt k q =
    let h = empty (kind_of_member w m) in
    let f : ℕ → List NumberedHandle = λ j. x.member j ∷ [] in
    let g : ℕ → List NumberedHandle = λ j. put x.member m h j ∷ [] in
    let t : tally k q (upto most_members g) + tally k q (f m) ≡ tally k q (upto most_members f) + tally k q (g m) =
    upto_change k q most_members m f g lt (λ i n. ap (λ (y : NumberedHandle). y ∷ []) (put_other x.member m h i n)) in
    let u : tally k q (g m) ≡ 0 = ap (λ (y : NumberedHandle). tally k q (y ∷ [])) (put_same x.member m h m refl)
    ∙ empty_counts k (kind_of_member w m) q [] in
    let w : tally k q (upto most_members f) + tally k q (g m) ≡ tally k q (upto most_members f) = omega arith in
    t ∙ w

pub no_object : (k m : Kind) (q : ℕ) (n : Option ℕ) (p : Option Place) → has_object (handle m n p) ≡ false → tally k q (handle m n p ∷ []) ≡ 0
no_object Owner Owner q None p e = refl
no_object Owner Weak q None p e = refl
no_object Weak Owner q None p e = refl
no_object Weak Weak q None p e = refl
no_object k m q (Some n) p e = cc

pub gets_tally : (k : Kind) (q d : ℕ) (h : NumberedHandle) (l : List Held) (r : List NumberedHandle)
    → tally k q (map (λ x. x.handle) (cond (has_object h) (held d h ∷ l) l) ++ r) ≡ tally k q (h ∷ []) + tally k q (map (λ x. x.handle) l ++ r)
gets_tally k q d h l r =
    cond_both (has_object h) (held d h ∷ l) l
    (λ u. tally k q (map (λ x. x.handle) u ++ r) ≡ tally k q (h ∷ []) + tally k q (map (λ x. x.handle) l ++ r))
    (λ e. tally_cons k q h (map (λ x. x.handle) l ++ r)) (λ e. let t = no_object k h.kind q h.object h.place e in omega arith)

-- a member goes from its object to a bag, and the counts stay
clear_tally : (s : State) (d o m : ℕ) → m < most_members → o < suc s.made → (k : Kind) (q : ℕ)
    → tally k q (handles (gets d ((s.object o).member m) (changes o (emptied s.owners (s.object o) m) s))) ≡ tally k q (handles s)
clear_tally s d o m lt made k q =
    let x = s.object o in
    let f = put s.object o (emptied s.owners x m) in
    let cells = upto s.cells (λ c. s.cell c ∷ []) in
    let hands = map (λ y. y.handle) s.hands in
    let a = tally_put k q (suc s.made) o s.object (emptied s.owners x m) made in
    let b = emptied_tally s.owners x m lt k q in
    omega (
      arith,
      gets_tally k q d (x.member m) s.hands (cells ++ upto (suc s.made) (λ j. members (f j))),
      a,
      b,
      tally_append k q hands (cells ++ upto (suc s.made) (λ j. members (f j))),
      tally_append k q hands (cells ++ upto (suc s.made) (λ j. members (s.object j))),
      tally_append k q cells (upto (suc s.made) (λ j. members (f j))),
      tally_append k q cells (upto (suc s.made) (λ j. members (s.object j))),
    )

clear_count : (s : State) (d o m : ℕ) → m < most_members → o < suc s.made → (q : ℕ)
    → count (gets d ((s.object o).member m) (changes o (emptied s.owners (s.object o) m) s)) q ≡ count s q
unfolding count
clear_count s d o m lt made q = clear_tally s d o m lt made Owner q

clear_weak : (s : State) (d o m : ℕ) → m < most_members → o < suc s.made → (q : ℕ)
    → weak (gets d ((s.object o).member m) (changes o (emptied s.owners (s.object o) m) s)) q ≡ weak s q
unfolding weak
clear_weak s d o m lt made q = clear_tally s d o m lt made Weak q

pub was_made : (z : Opening) (s : State) (o : ℕ) → Sound z s → (s.object o).phase ≢ unmade → o < suc s.made
was_made z s o sound n = ⊎_elim (λ lt. absurd (n (sound.fresh o lt))) (λ le. omega arith) (cases_lt s.made o)

pub sound_clear : (z : Opening) (s : State) (d o m : ℕ) → Sound z s → (s.object o).phase ≡ ending d → m < most_members
    → Sound z (clears d o m ((s.object o).member m) s)
sound_clear z s d o m sound end lt =
    let x = emptied s.owners (s.object o) m in
    let f = put s.object o x in
    let hs = cond (has_object ((s.object o).member m)) (held d ((s.object o).member m) ∷ s.hands) s.hands in
    let made : o < suc s.made = was_made z s o sound (λ u. cc) in
    let phase : (q : ℕ) → (f q).phase ≡ (s.object q).phase = λ q. put_cases (λ j y. y.phase ≡ (s.object j).phase) s.object o x q (λ e. ap
    (λ n. (s.object n).phase) (sym e)) (λ n. refl) in
    sound_moves z s hs f s.cell sound (record {
      owners = λ q. subst (λ ph. OwnersFit ph (count (record s { hands = hs; object = f }) q)) (sym (phase q)) (fits_same _ _ _ (sound.owners q)
          (clear_count s d o m lt made q));
      weaks = λ q busy. let t = clear_weak s d o m lt made q in let u = ap common (phase q) in omega arith;
      block = λ q. put_cases (λ j y. y.block ≡ (s.object j).block) s.object o x q (λ e. ap (λ n. (s.object n).block) (sym e)) (λ n. refl);
      made = λ q. ((λ u. phase q ∙ u), λ u. sym (phase q) ∙ u);
      cleared = λ q i le. put_cases (λ j y. common y.phase ≡ 0 → y.member i ≡ empty (kind_of_member s.owners i)) s.object o x q
          (λ e u. let c : common (s.object o).phase ≡ 1 = ap common end in absurd (omega arith)) (λ n. sound.cleared q i le);
      unused = λ q i le. put_cases (λ j y. y.member i ≡ empty (kind_of_member s.owners i)) s.object o x q
          (λ e. put_cases (λ j y. y ≡ empty (kind_of_member s.owners j)) (s.object o).member m (empty (kind_of_member s.owners m)) i
          (λ e2. ap (λ n. empty (kind_of_member s.owners n)) (sym e2)) (λ n. sound.unused o i le)) (λ n. sound.unused q i le);
    })
