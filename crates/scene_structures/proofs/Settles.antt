-- Rounds for each block's members and its end are enough, where a desk is alone.
use Rattle.std.proofs.Common.{◌≡◌, ℕ, suc, ◌+◌, ◌*◌, ◌≤◌, ◌⊎◌, List, []}
use Rattle.std.proofs.Common.{◌∷◌, ◌++◌, length, Some, None, Option, sym, refl, ap, ◌∙◌, subst}
use Rattle.std.proofs.Common.{inl, inr, arith, length-append}
use Rattle.std.proofs.Math.Nat.{mul-le-mul_left, mul-suc, suc-mul}
use Rattle.scene_structures.proofs.Prelude
use Prelude.{AllEnd, AreOut, AreRounds, Block, Carries, Cleared, DeskNow, DomainNow, Ended, Ending}
use Prelude.{Gone, gone_of, IsClearing, IsGone, IsLeft, IsLegal, IsRound, IsSole}
use Prelude.{IsUncleared, Kind, kind_of_member, Left, MayStop, opening_of, Owner, Past, Pile, piled}
use Prelude.{Place, Round, Settled, Shape, Shared, state_of, TearsDown, top_value, values_ended}
use Prelude.{values_ended_by, values_ended_in, Weak, with_clear}
use Rattle.control_block.specs.Rule.{members_of}
use Rattle.shared_handle.specs.Endings.{ClearsOf}
use Rattle.shared_handle.proofs.Few.{few_listed}
use Rattle.shared_handle.specs.declared.endings.Left.TheVariants as left
use Rattle.scene_structures.specs.Teardowns.{most_rounds}
use Rattle.scene_structures.proofs.Slots.{no_last}
use Rattle.scene_structures.proofs.Standing.{IsAlone, Loses, clearing_loses, endings_stand}
use Rattle.scene_structures.proofs.Standing.{few_stand, finish_loses, left_loses, standing}

-- how many rounds so many objects of so many members want
abbrev wanted : ℕ → ℕ → ℕ
wanted m n = m * n + n

one_less : (m a b : ℕ) → b + 1 ≡ a → wanted m b + suc m ≡ wanted m a
one_less m a b less =
    let s : suc b ≡ a = omega arith in let t : m * suc b ≡ m * a = ap (λ k. m * k) s in let n = mul-suc m b in omega arith

most_wanted : (z : Shape) → most_rounds z ≡ wanted (members_of z) z.blocks
most_wanted z =
    let s : members_of z + 1 ≡ suc (members_of z) = omega arith in ap (λ k. k * z.blocks) s ∙ suc-mul (members_of z) z.blocks

nothing : {B : Type 0} (l : List B) → length l ≡ 0 → l ≡ []
nothing [] e = refl
nothing (x ∷ l) e = absurd (omega arith)

module _ {V : Type 0} where
  -- how many members of a pile's endings are clear
  abbrev clear_of : List (Ending V) → ℕ
  clear_of [] = 0
  clear_of (x ∷ xs) = x.cleared + clear_of xs

  few_clear : (d : DeskNow V) (xs : List (Ending V)) → AllEnd d xs → clear_of xs ≤ members_of d.shape * length xs
  few_clear d [] all = omega arith
  few_clear d (x ∷ xs) (ends, apart, all) =
      let r = few_clear d xs all in let few = ends.few in let shape = ends.shape in
      let m = mul-suc (members_of d.shape) (length xs) in
      let low : x.cleared ≤ members_of d.shape = omega arith in omega arith

  rest_end : (d : DeskNow V) (xs ys : List (Ending V)) → AllEnd d (xs ++ ys) → AllEnd d ys
  rest_end d [] ys all = all
  rest_end d (x ∷ xs) ys all = rest_end d xs ys all.2

  clear_last : (xs : List (Ending V)) (x : Ending V) → clear_of (xs ++ x ∷ []) ≡ clear_of xs + x.cleared
  clear_last [] x = omega arith
  clear_last (y ∷ xs) x = let r = clear_last xs x in omega arith

  clear_both : (xs ys : List (Ending V)) → clear_of (xs ++ ys) ≡ clear_of xs + clear_of ys
  clear_both [] ys = omega arith
  clear_both (x ∷ xs) ys = let r = clear_both xs ys in omega arith

  length_last : (xs : List (Ending V)) (x : Ending V) → length (xs ++ x ∷ []) ≡ length xs + 1
  length_last [] x = refl
  length_last (y ∷ xs) x = let r = length_last xs x in omega arith

-- where an object has so many members
module _ {V : Type 0} (m : ℕ) where
  abbrev HaveMembers : List (Ending V) → Type 0
  HaveMembers [] = Unit {0}
  HaveMembers (x ∷ xs) = (x.members ≡ m) × HaveMembers xs

  all_have : (d : DeskNow V) (xs : List (Ending V)) → members_of d.shape ≡ m → AllEnd d xs → HaveMembers xs
  all_have d [] same all = tt
  all_have d (x ∷ xs) same all = (all.0.shape ∙ same, all_have d xs same all.2)

  have_append : (xs ys : List (Ending V)) → HaveMembers xs → HaveMembers ys → HaveMembers (xs ++ ys)
  have_append [] ys one two = two
  have_append (x ∷ xs) ys (first, one) two = (first, have_append xs ys one two)

  have_last : (xs : List (Ending V)) (x : Ending V) → HaveMembers (xs ++ x ∷ []) → HaveMembers xs × (x.members ≡ m)
  have_last [] x all = (tt, all.0)
  have_last (y ∷ xs) x (first, all) = let t = have_last xs x all in ((first, t.0), t.1)

  -- so many rounds were made: each cleared a member or finished an object, but for those of an empty pile; and each value is of
  -- one that was finished, or lies on the pile
  record Falls (d : DeskNow V) (ys : List (Ending V)) (vs : List V) (n : ℕ) (e : DeskNow V) (zs : List (Ending V)) (ws : List V) : Type 0 where
    alone : IsAlone e
    shape : e.shape ≡ d.shape
    have : HaveMembers zs
    rounds : (zs ≡ []) ⊎ (wanted m (standing e) + n + clear_of ys ≡ wanted m (standing d) + clear_of zs)
    ends : length ws + length ys + standing e ≡ length vs + length zs + standing d

  top_one : (zs : List (Ending V)) (x : Ending V) → length (top_value (zs ++ x ∷ [])) ≡ 1
  top_one [] x = refl
  top_one (y ∷ []) x = refl
  top_one (y ∷ (z ∷ zs)) x = top_one (z ∷ zs) x

  -- what ended when an owner left has no member that is cleared
  abbrev Fresh : Left V → Type 0
  Fresh left.Empty = Unit {0}
  Fresh left.Others = Unit {0}
  Fresh (left.Last x) = IsUncleared x × (x.members ≡ m)

  left_fresh : (d e : DeskNow V) (b : Option Block) (p : Option Place) (l : Left V) → IsLeft d b p l e → members_of e.shape ≡ m → Fresh l
  left_fresh d e b p left.Empty l same = tt
  left_fresh d e b p left.Others l same = tt
  left_fresh d e b p (left.Last x) l same = (l.3, l.2.shape ∙ same)

  gone_fresh : (b : Option Block) (l : Left V) → IsGone b l → Fresh l
  gone_fresh b left.Empty g = tt
  gone_fresh b left.Others g = tt
  gone_fresh b (left.Last x) g = absurd g

  clearing_fresh : (d e : DeskNow V) (x : Ending V) (l : Left V) → IsClearing d x l e → members_of e.shape ≡ m → Fresh l
  clearing_fresh d e x l c same = go (kind_of_member d.shape.owners x.cleared) c
    where
      go : (k : Kind) → ClearsOf k d x x.cleared l e → Fresh l
      go Owner c = left_fresh c.0.between e c.0.block c.0.place l c.0.leaves same
      go Weak c = gone_fresh c.block l c.told

  -- it lies on top
  record Tops (xs : List (Ending V)) (l : Left V) (zs : List (Ending V)) (gone : Gone) : Type 0 where
    many : ℕ
    clear : clear_of zs ≡ clear_of xs
    have : HaveMembers xs → HaveMembers zs
    long : length zs ≡ length xs + many
    told : length (values_ended_by gone zs) ≡ many

  tops : (xs : List (Ending V)) (l : Left V) (zs : List (Ending V)) (gone : Gone) → Fresh l → gone ≡ gone_of l → zs ≡ piled xs l → Tops xs l zs gone
  tops xs left.Empty zs gone fresh told is =
      record {
        many = 0;
        clear = ap clear_of is;
        have = subst HaveMembers (sym is);
        long = (let e = ap length is in omega arith);
        told = λ i. length (values_ended_by (told i) zs);
      }
  tops xs left.Others zs gone fresh told is =
      record {
        many = 0;
        clear = ap clear_of is;
        have = subst HaveMembers (sym is);
        long = (let e = ap length is in omega arith);
        told = λ i. length (values_ended_by (told i) zs);
      }
  tops xs (left.Last x) zs gone fresh told is =
      let last = clear_last xs x in let none = fresh.0 in let e = ap clear_of is in let l = ap length is in let more = length_last xs x in
      record {
        many = 1;
        clear = omega arith;
        have = λ all. subst HaveMembers (sym is) (have_append xs (x ∷ []) all (fresh.1, tt));
        long = omega arith;
        told = (λ i. length (values_ended_by (told i) (is i))) ∙ top_one xs x;
      }

  round_falls : (d e : DeskNow V) (ys zs : List (Ending V)) (r : Round V) (vs : List V) → IsRound d ys r e zs → IsAlone d
      → members_of d.shape ≡ m → HaveMembers ys → Falls d ys vs 1 e zs (vs ++ values_ended_in r zs)
  round_falls d e ys zs Settled vs (was, is, same) a of have =
      let s : standing e ≡ standing d = ap standing same in
      let n = length-append vs [] in let y = ap length was in let z = ap length is in
      record {
        alone = subst IsAlone (sym same) a;
        shape = ap (λ (k : DeskNow V). k.shape) same;
        have = subst HaveMembers (sym is) tt;
        rounds = inl is;
        ends = omega arith;
      }
  round_falls d e ys zs (Cleared j gone) vs c a of have =
      let x = with_clear c.top in
      let loses = clearing_loses d e c.top c.left c.clears a in
      let t = tops (c.below ++ x ∷ []) c.left zs gone (clearing_fresh d e c.top c.left c.clears (ap members_of loses.shape ∙ of)) c.told c.are in
      let parts = have_last c.below c.top (subst HaveMembers c.were have) in
      let were : clear_of ys ≡ clear_of c.below + c.top.cleared = ap clear_of c.were ∙ clear_last c.below c.top in
      let many : length ys ≡ length c.below + 1 = ap length c.were ∙ length_last c.below c.top in
      let low = clear_last c.below x in let long = length_last c.below x in
      let fewer = loses.fewer in let clear = t.clear in let longer = t.long in let told = t.told in
      let n = length-append vs (values_ended_by gone zs) in
      let same : standing e ≡ standing d = omega arith in let kept = ap (wanted m) same in
      record {
        alone = loses.alone;
        shape = loses.shape;
        have = t.have (have_append c.below (x ∷ []) parts.0 (parts.1, tt));
        rounds = inr (omega arith);
        ends = omega arith;
      }
  round_falls d e ys zs (Ended v) vs f a of have =
      let loses = finish_loses d e f.top v f.finish a in
      let fewer = loses.fewer in let all = f.finish.clear in
      let parts = have_last zs f.top (subst HaveMembers f.were have) in let members = parts.1 in
      let were : clear_of ys ≡ clear_of zs + f.top.cleared = ap clear_of f.were ∙ clear_last zs f.top in
      let many : length ys ≡ length zs + 1 = ap length f.were ∙ length_last zs f.top in
      let n = length-append vs [] in let less = one_less m (standing d) (standing e) fewer in
      record { alone = loses.alone; shape = loses.shape; have = parts.0; rounds = inr (omega arith); ends = omega arith }

  -- once the pile is empty, it stays so
  stays_empty : (d e : DeskNow V) (ys zs : List (Ending V)) (r : Round V) → IsRound d ys r e zs → ys ≡ [] → zs ≡ []
  stays_empty d e ys zs Settled r none = r.1
  stays_empty d e ys zs (Cleared j gone) c none = absurd (no_last c.below c.top (sym none ∙ c.were))
  stays_empty d e ys zs (Ended v) f none = absurd (no_last zs f.top (sym none ∙ f.were))

  falls_on : (d k e : DeskNow V) (ys ps zs : List (Ending V)) (r : Round V) (us vs ws : List V) (n : ℕ) → Falls d ys us n k ps vs
      → IsRound k ps r e zs → Falls k ps vs 1 e zs ws → Falls d ys us (suc n) e zs ws
  falls_on d k e ys ps zs r us vs ws n a is b =
      let x = a.ends in let y = b.ends in
      record { alone = b.alone; shape = b.shape ∙ a.shape; have = b.have; rounds = go a.rounds b.rounds; ends = omega arith }
    where
      go : (ps ≡ []) ⊎ (wanted m (standing k) + n + clear_of ys ≡ wanted m (standing d) + clear_of ps)
          → (zs ≡ []) ⊎ (wanted m (standing e) + 1 + clear_of ps ≡ wanted m (standing k) + clear_of zs)
          → (zs ≡ []) ⊎ (wanted m (standing e) + suc n + clear_of ys ≡ wanted m (standing d) + clear_of zs)
      go (inl none) y = inl (stays_empty k e ps zs r is none)
      go (inr x) (inl none) = inl none
      go (inr x) (inr y) = inr (omega arith)

  rounds_fall : (d e : DeskNow V) (ys zs : List (Ending V)) (rs : List (Past V)) (vs : List V) → AreRounds d ys rs e zs → IsAlone d
      → members_of d.shape ≡ m → HaveMembers ys → Falls d ys vs (length rs) e zs (values_ended rs zs vs)
  rounds_fall d e ys zs [] vs (same, is) a of have =
      let s : standing e ≡ standing d = ap standing same in let w = ap (wanted m) s in let c = ap clear_of is in let l = ap length is in
      record {
        alone = subst IsAlone (sym same) a;
        shape = ap (λ (k : DeskNow V). k.shape) same;
        have = subst HaveMembers (sym is) have;
        rounds = inr (omega arith);
        ends = omega arith;
      }
  rounds_fall d e ys zs (r ∷ rs) vs (before, last) a of have =
      let t = rounds_fall d r.desk ys r.pile rs vs before a of have in
      falls_on d r.desk e ys r.pile zs r.round vs (values_ended rs r.pile vs) _ (length rs) t last
      (round_falls r.desk e r.pile zs r.round (values_ended rs r.pile vs) last t.alone (ap members_of t.shape ∙ of) t.have)

module _ {V : Type 0} where
  out_length : (ss : List (Option V)) (zs : List (Ending V)) (vs : List V) → AreOut ss zs vs → length ss ≡ length vs
  out_length [] zs vs (none, nil) = ap length (sym nil)
  out_length (Some v ∷ ss) zs vs (us, same, o) = let t = out_length ss zs us o in let e = ap length same in omega arith
  out_length (None ∷ ss) zs vs (z, ws, us, a, b, o) = let t = out_length ss ws us o in let e = ap length b in omega arith

  -- a sole desk's teardown leaves nothing of what it began
  pub none_left : (domain : DomainNow) (d e : DeskNow V) (xs ys : List (Ending V)) (p : Pile V) (root : Shared) (values : List V)
      (t : TearsDown domain.shape d xs root values e ys)
      → IsLegal (opening_of d.shape) d.seen → IsSole d → AllEnd d xs → Carries domain e p → ys ≡ p.endings.items → t.rest ≡ []
  none_left domain d e xs ys p root values t legal sole were carries pile =
      go t.stops
    where
      m : ℕ
      m = members_of d.shape

      lost : Loses d 0 t.released
      lost = left_loses d t.released root.block root.place t.drops.left t.drops.leaves (record { legal = legal; sole = sole })

      top : Tops m xs t.drops.left t.pile t.gone
      top =
          tops m xs t.drops.left t.pile t.gone
          (left_fresh m d t.released root.block root.place t.drops.left t.drops.leaves (ap members_of lost.shape)) t.drops.told t.drops.are

      falls : Falls m t.released t.pile (values_ended_by t.gone t.pile) (length t.rounds) e ys (values_ended t.rounds ys (values_ended_by t.gone t.pile))
      falls =
          rounds_fall m t.released e t.pile ys t.rounds (values_ended_by t.gone t.pile) t.are lost.alone (ap members_of lost.shape)
          (top.have (all_have m d xs refl were))

      ended : e.shape ≡ d.shape
      ended = falls.shape ∙ lost.shape

      began : domain.shape ≡ d.shape
      began = sym carries.belongs.shape ∙ ended

      few : standing t.released ≤ domain.shape.blocks
      few =
          let a = few_stand t.released.shape.blocks (state_of t.released) in
          let b = ap (λ (k : Shape). k.blocks) (began ∙ sym lost.shape) in omega arith

      low : length ys ≤ standing e
      low =
          let a = endings_stand e.shape.blocks (state_of e) e.name in
          let b = few_listed e p.endings.items falls.alone.legal carries.ends in let c = ap length pile in omega arith

      parts : (length ys ≡ length xs + length t.rest) × (clear_of ys ≡ clear_of xs + clear_of t.rest)
      parts = (ap length t.left ∙ length-append xs t.rest, ap clear_of t.left ∙ clear_both xs t.rest)

      go : MayStop domain.shape t.rounds t.rest t.slots → t.rest ≡ []
      go (inl none) = none
      go (inr (inl all)) = enough falls.rounds
        where
          enough : (ys ≡ []) ⊎ (wanted m (standing e) + length t.rounds + clear_of t.pile ≡ wanted m (standing t.released) + clear_of ys)
              → t.rest ≡ []
          enough (inl none) = let a = ap length none in let b = parts.0 in nothing t.rest (omega arith)
          enough (inr same) =
              let a = parts.0 in let b = parts.1 in let c = top.clear in let w = few in let y = low in
              let f : clear_of t.rest ≤ m * length t.rest =
              subst (λ (k : Shape). clear_of t.rest ≤ members_of k * length t.rest) ended
              (few_clear e t.rest (rest_end e xs t.rest (subst (AllEnd e) (sym pile ∙ t.left) carries.ends))) in
              let i = mul-le-mul_left m few in
              let j = mul-le-mul_left {m = length t.rest} {n = standing e} m (omega arith) in
              let n : length t.rounds ≡ wanted m domain.shape.blocks =
              all ∙ (most_wanted domain.shape ∙ ap (λ (k : Shape). wanted (members_of k) domain.shape.blocks) began) in
              nothing t.rest (omega arith)
      go (inr (inr many)) =
          let a = parts.0 in let b = top.long in let c = top.told in let d = falls.ends in
          let u = out_length t.slots t.rest (values_ended t.rounds ys (values_ended_by t.gone t.pile)) t.order in
          let w = few in let y = low in
          absurd (omega arith)
