-- Rounds of a pile, with the slots of what ends in them.
use Rattle.std.proofs.Common.{◌≡◌, ℕ, ◌+◌, ◌<◌, ◌≤◌, ◌≢◌, ◌⊎◌, List, [], ◌∷◌, ◌++◌, length}
use Rattle.std.proofs.Common.{None, Option, sym, refl, ap, ◌∙◌, subst, inl, inr, append_assoc}
use Rattle.std.proofs.Common.{append-nil, arith}
use Rattle.scene_structures.proofs.Prelude
use Prelude.{AreOut, Block, Cleared, ClearsTop, DeskNow, Drops, empty_slots, Ended, Ending}
use Prelude.{filled_values, FinishesTop, Gone, gone_of, IsRound, Left, MakesRounds, MayStop}
use Prelude.{piled, Place, Round, Settled, Shape, Shared, TearsDown, top_value, values_ended_by}
use Prelude.{values_ended_in, with_clear}
use Rattle.shared_handle.specs.declared.endings.Left.TheVariants as left
use Rattle.shared_handle.specs.declared.pile.Gone.TheVariants.{Empty, Last, Others}
use Rattle.scene_structures.specs.Teardowns.{most_rounds, RunsDown, RoundStepsBy}
use Rattle.scene_structures.proofs.Slots.{last_of, no_last, last_same, out_all, out_more, out_same}
use Rattle.scene_structures.proofs.Slots.{out_whole, top_there}

not_none : {A : Type 0} (is : List A) → is ≢ [] → (js : List A) × (i : A) × (is ≡ js ++ i ∷ [])
not_none {A} is some = go (last_of is)
  where
    go : (is ≡ []) ⊎ ((js : List A) × (i : A) × (is ≡ js ++ i ∷ [])) → (js : List A) × (i : A) × (is ≡ js ++ i ∷ [])
    go (inl e) = absurd (some e)
    go (inr r) = r

module _ {V : Type 0} where
  top_of : (xs : List (Ending V)) (x : Ending V) → top_value (xs ++ x ∷ []) ≡ x.value ∷ []
  top_of [] x = refl
  top_of (y ∷ []) x = refl
  top_of (y ∷ (z ∷ xs)) x = top_of (z ∷ xs) x

  -- the pile is a lower part, what lies between, and the top
  parts : (ys base zs below : List (Ending V)) (x : Ending V) (ss : List (Option V)) (vs : List V) (is : List ℕ) → is ≡ empty_slots 0 ss → is ≢ []
      → ys ≡ base ++ zs → AreOut ss zs vs → ys ≡ below ++ x ∷ []
      → (ws : List (Ending V)) × (zs ≡ ws ++ x ∷ []) × (below ≡ base ++ ws)
  parts ys base zs below x ss vs is vacant some are out were =
      let one = not_none is some in
      let t = top_there ss zs vs one.0 one.1 (sym vacant ∙ one.2) out in
      let whole : (base ++ t.0) ++ t.1 ∷ [] ≡ below ++ x ∷ [] =
      append_assoc base t.0 (t.1 ∷ []) ∙ (ap (λ l. base ++ l) (sym t.2) ∙ (sym are ∙ were)) in
      let same = last_same (base ++ t.0) below t.1 x whole in
      (t.0, t.2 ∙ ap (λ (y : Ending V). t.0 ++ y ∷ []) same.1, sym same.0)

  -- a member of the top was emptied
  out_cleared : (d e : DeskNow V) (ys qs base zs : List (Ending V)) (m : ℕ) (gone : Gone) (ss : List (Option V)) (vs : List V) (is : List ℕ)
      → ClearsTop d ys m gone e qs → is ≡ empty_slots 0 ss → is ≢ [] → ys ≡ base ++ zs → AreOut ss zs vs
      → (ws : List (Ending V)) × (x : Ending V) × ((left : Left V) × (gone ≡ gone_of left) × (qs ≡ piled (base ++ (ws ++ x ∷ [])) left))
      × AreOut ss (ws ++ x ∷ []) vs
  out_cleared d e ys qs base zs m gone ss vs is c vacant some are out =
      let p = parts ys base zs c.below c.top ss vs is vacant some are out c.were in
      let x = with_clear c.top in
      let low : c.below ++ x ∷ [] ≡ base ++ (p.0 ++ x ∷ []) = ap (λ l. l ++ x ∷ []) p.2 ∙ append_assoc base p.0 (x ∷ []) in (
        p.0,
        x,
        (c.left, c.told, c.are ∙ ap (λ l. piled l c.left) low),
        out_same ss p.0 c.top x vs refl (subst (λ l. AreOut ss l vs) p.1 out),
      )

  -- and nothing ended by that
  out_stays : (d e : DeskNow V) (ys qs base zs : List (Ending V)) (m : ℕ) (gone : Gone) (ss : List (Option V)) (vs : List V) (is : List ℕ)
      → gone ≢ Last → ClearsTop d ys m gone e qs → is ≡ empty_slots 0 ss → is ≢ [] → ys ≡ base ++ zs → AreOut ss zs vs
      → (ws : List (Ending V)) × (qs ≡ base ++ ws) × AreOut ss ws (vs ++ values_ended_by gone qs)
  out_stays d e ys qs base zs m gone ss vs is not c vacant some are out =
      let t = out_cleared d e ys qs base zs m gone ss vs is c vacant some are out in
      let none : values_ended_by gone qs ≡ [] = quiet gone not in
      (t.0 ++ t.1 ∷ [], low t.2.0 t.2.1 t.2.2, subst (λ l. AreOut ss (t.0 ++ t.1 ∷ []) l) (sym (ap (λ l. vs ++ l) none ∙ append-nil vs)) t.3)
    where
      quiet : (g : Gone) → (g ≡ Last → ⊥) → values_ended_by g qs ≡ []
      quiet Empty other = refl
      quiet Others other = refl
      quiet Last other = absurd (other refl)

      low : {l : List (Ending V)} (left : Left V) → gone ≡ gone_of left → qs ≡ piled l left → qs ≡ l
      low left.Empty told is' = is'
      low left.Others told is' = is'
      low (left.Last x) told is' = absurd (not told)

  -- or something did
  out_grows : (d e : DeskNow V) (ys qs base zs : List (Ending V)) (m : ℕ) (ss ts : List (Option V)) (vs : List V) (is : List ℕ)
      → ClearsTop d ys m Last e qs → is ≡ empty_slots 0 ss → is ≢ [] → ts ≡ ss ++ None ∷ [] → ys ≡ base ++ zs → AreOut ss zs vs
      → (ws : List (Ending V)) × (qs ≡ base ++ ws) × AreOut ts ws (vs ++ top_value qs)
  out_grows d e ys qs base zs m ss ts vs is c vacant some grown are out =
      let t = out_cleared d e ys qs base zs m Last ss vs is c vacant some are out in
      go (t.0 ++ t.1 ∷ []) t.2.0 t.2.1 t.2.2 t.3
    where
      go : (l : List (Ending V)) (left : Left V) → Last ≡ gone_of left → qs ≡ piled (base ++ l) left → AreOut ss l vs
          → (ws : List (Ending V)) × (qs ≡ base ++ ws) × AreOut ts ws (vs ++ top_value qs)
      go l left.Empty told is' o = absurd (cc told)
      go l left.Others told is' o = absurd (cc told)
      go l (left.Last x) told is' o =
          let value : top_value qs ≡ x.value ∷ [] = ap top_value is' ∙ top_of (base ++ l) x in (
            l ++ x ∷ [],
            is' ∙ append_assoc base l (x ∷ []),
            subst (λ u. AreOut ts (l ++ x ∷ []) (vs ++ u)) (sym value)
                (subst (λ u. AreOut u (l ++ x ∷ []) (vs ++ x.value ∷ [])) (sym grown) (out_more ss l vs x o)),
          )

  -- the top was finished
  out_shrinks : (d e : DeskNow V) (ys qs base zs : List (Ending V)) (v : V) (ss ts : List (Option V)) (vs : List V) (is : List ℕ)
      → FinishesTop d ys v e qs → is ≡ empty_slots 0 ss → is ≢ []
      → ((ws : List (Ending V)) (x : Ending V) (us : List V) → v ≡ x.value → AreOut ss (ws ++ x ∷ []) us → AreOut ts ws us)
      → ys ≡ base ++ zs → AreOut ss zs vs → (ws : List (Ending V)) × (qs ≡ base ++ ws) × AreOut ts ws (vs ++ [])
  out_shrinks d e ys qs base zs v ss ts vs is f vacant some fills are out =
      let p = parts ys base zs qs f.top ss vs is vacant some are out f.were in
      (p.0, p.2, subst (λ l. AreOut ts p.0 l) (sym (append-nil vs)) (fills p.0 f.top vs f.finish.value (subst (λ l. AreOut ss l vs) p.1 out)))

  never_settled : (ys base zs : List (Ending V)) (ss : List (Option V)) (vs : List V) (is : List ℕ) → ys ≡ [] → is ≡ empty_slots 0 ss → is ≢ []
      → ys ≡ base ++ zs → AreOut ss zs vs → ⊥
  never_settled ys base zs ss vs is nil vacant some are out =
      let one = not_none is some in
      let t = top_there ss zs vs one.0 one.1 (sym vacant ∙ one.2) out in
      let e : [] ≡ (base ++ t.0) ++ t.1 ∷ [] = sym nil ∙ (are ∙ (ap (λ l. base ++ l) t.2 ∙ sym (append_assoc base t.0 (t.1 ∷ [])))) in
      no_last (base ++ t.0) t.1 e

  pub round_out : (d e : DeskNow V) (ys qs : List (Ending V)) (r : Round V) (ss ts : List (Option V)) (is : List ℕ)
      → IsRound d ys r e qs → RoundStepsBy r ss ts
      → is ≡ empty_slots 0 ss → is ≢ [] → (base zs : List (Ending V)) (vs : List V) → ys ≡ base ++ zs → AreOut ss zs vs
      → (ws : List (Ending V)) × (qs ≡ base ++ ws) × AreOut ts ws (vs ++ values_ended_in r qs)
  round_out d e ys qs Settled ss ts is r steps vacant some base zs vs are out = absurd (never_settled ys base zs ss vs is r.0 vacant some are out)
  round_out d e ys qs (Cleared m Last) ss ts is r steps vacant some base zs vs are out =
      out_grows d e ys qs base zs m ss ts vs is r vacant some steps are out
  round_out d e ys qs (Cleared m Empty) ss ts is r steps vacant some base zs vs are out =
      let t = out_stays d e ys qs base zs m Empty ss vs is (λ same. cc same) r vacant some are out in
      (t.0, t.1, subst (λ l. AreOut l t.0 (vs ++ [])) (sym steps) t.2)
  round_out d e ys qs (Cleared m Others) ss ts is r steps vacant some base zs vs are out =
      let t = out_stays d e ys qs base zs m Others ss vs is (λ same. cc same) r vacant some are out in
      (t.0, t.1, subst (λ l. AreOut l t.0 (vs ++ [])) (sym steps) t.2)
  round_out d e ys qs (Ended v) ss ts is r steps vacant some base zs vs are out = out_shrinks d e ys qs base zs v ss ts vs is r vacant some steps are out

  -- a slot for the root, where it was the last owner
  pub out_root : (d e : DeskNow V) (xs ys : List (Ending V)) (b : Option Block) (p : Option Place) (ss ts : List (Option V))
      → Drops d xs b p Last e ys → ss ≡ [] → ts ≡ ss ++ None ∷ [] → (zs : List (Ending V)) × (ys ≡ xs ++ zs)
      × AreOut ts zs (values_ended_by Last ys)
  out_root d e xs ys b p ss ts drops none more = go drops.left drops.told drops.are
    where
      one : ts ≡ None ∷ []
      one = more ∙ ap (λ l. l ++ None ∷ []) none

      go : (left : Left V) → Last ≡ gone_of left → ys ≡ piled xs left → (zs : List (Ending V)) × (ys ≡ xs ++ zs)
          × AreOut ts zs (values_ended_by Last ys)
      go left.Empty told are = absurd (cc told)
      go left.Others told are = absurd (cc told)
      go (left.Last x) told are =
          let value : top_value ys ≡ x.value ∷ [] = ap top_value are ∙ top_of xs x in (
            x ∷ [],
            are,
            subst (λ l. AreOut l (x ∷ []) (top_value ys)) (sym one) (x, [], [], refl, value, (refl, refl)),
          )

  -- and none where it wasn't
  pub out_rest : (d e : DeskNow V) (xs ys : List (Ending V)) (b : Option Block) (p : Option Place) (gone : Gone) (ss : List (Option V))
      → gone ≢ Last → Drops d xs b p gone e ys → ss ≡ [] → (zs : List (Ending V)) × (ys ≡ xs ++ zs) × AreOut ss zs (values_ended_by gone ys)
  out_rest d e xs ys b p gone ss not drops none =
      ([], same drops.left drops.told drops.are, subst (λ l. AreOut l [] (values_ended_by gone ys)) (sym none) (refl, quiet gone not))
    where
      quiet : (g : Gone) → (g ≡ Last → ⊥) → values_ended_by g ys ≡ []
      quiet Empty other = refl
      quiet Others other = refl
      quiet Last other = absurd (other refl)

      same : (left : Left V) → gone ≡ gone_of left → ys ≡ piled xs left → ys ≡ xs ++ []
      same left.Empty told are = are ∙ sym (append-nil xs)
      same left.Others told are = are ∙ sym (append-nil xs)
      same (left.Last x) told are = absurd (not told)

  pub tears_down : (z : Shape) (d m e : DeskNow V) (xs ps ys : List (Ending V)) (root : Shared) (gone : Gone) (ss ts : List (Option V)) (values : List V)
      → Drops d xs root.block root.place gone m ps → (zs : List (Ending V)) → ps ≡ xs ++ zs → AreOut ss zs (values_ended_by gone ps)
      → RunsDown z m ps ss e ys ts → values ≡ filled_values ts → TearsDown z d xs root values e ys
  tears_down z d m e xs ps ys root gone ss ts values drops zs are out runs is =
      let t = runs.out xs zs (values_ended_by gone ps) are out in
      record {
        gone = gone;
        released = m;
        pile = ps;
        drops = drops;
        rounds = runs.rounds;
        are = runs.are;
        rest = t.0;
        left = t.1;
        slots = ts;
        above = t.3;
        order = t.2;
        out = is;
        whole = λ none. is ∙ out_whole ts t.0 _ none t.2;
        stops = t.4;
      }

  -- one round more
  pub runs_on : (d m e : DeskNow V) (ys ps qs : List (Ending V)) (ss ts us : List (Option V)) (is : List ℕ) (n : ℕ) (r : Round V)
      → MakesRounds d ys ss n m ps ts → IsRound m ps r e qs → RoundStepsBy r ts us → is ≡ empty_slots 0 ts → is ≢ []
      → MakesRounds d ys ss (n + 1) e qs us
  runs_on d m e ys ps qs ss ts us is n r runs round steps vacant some =
      let many = runs.many in
      record {
        rounds = record { round = r; desk = m; pile = ps } ∷ runs.rounds;
        are = (runs.are, round);
        many = omega arith;
        out = λ base zs vs same out.
            let t = runs.out base zs vs same out in
            let u = round_out m e ps qs r ts us is round steps vacant some base t.0 _ t.1 t.2 in
            let one = not_none is some in
            let top = top_there ts t.0 _ one.0 one.1 (sym vacant ∙ one.2) t.2 in
            (u.0, u.1, u.2, (t.3, (top.0, top.1, t.1 ∙ ap (λ l. base ++ l) top.2)));
      }

  pub runs_none : (d : DeskNow V) (ys : List (Ending V)) (ss : List (Option V)) → MakesRounds d ys ss 0 d ys ss
  runs_none d ys ss = record { rounds = []; are = (refl, refl); many = refl; out = λ base zs vs same out. (zs, same, out, tt) }

  pub runs_over : (z : Shape) (b most : ℕ) (d e : DeskNow V) (ys qs : List (Ending V)) (ss ts : List (Option V)) (is : List ℕ) (n : ℕ) → b ≡ z.blocks
      → most ≡ most_rounds z → MakesRounds d ys ss n e qs ts → n ≤ most → is ≡ empty_slots 0 ts
      → (is ≡ []) ⊎ ((most ≤ n) ⊎ (b < length ts)) → RunsDown z d ys ss e qs ts
  runs_over z b most d e ys qs ss ts is n same are runs few vacant over =
      record {
        rounds = runs.rounds;
        are = runs.are;
        out = λ base zs vs are out. let t = runs.out base zs vs are out in (t.0, t.1, t.2, t.3, stop t.0 _ t.2 over);
      }
    where
      stop : (ws : List (Ending V)) (vs : List V) → AreOut ts ws vs → (is ≡ []) ⊎ ((most ≤ n) ⊎ (b < length ts))
          → MayStop z runs.rounds ws ts
      stop ws vs out (inl none) = inl (out_all ts ws vs (sym vacant ∙ none) out)
      stop ws vs out (inr (inl all)) = let same : n ≡ most = omega arith in inr (inl (runs.many ∙ (same ∙ are)))
      stop ws vs out (inr (inr lt)) = inr (inr (omega arith))
