-- A desk's bag, by blocks: what it was before a call tells what it is after.
use Rattle.std.proofs.Common.{◌≡◌, ℕ, Bool, true, ◌&&◌, ◌≢◌, List, [], ◌∷◌, ◌++◌, map, ◌==◌, Some}
use Rattle.std.proofs.Common.{None, Option, sym, refl, ap, ◌∙◌, subst, inl, inr, ⊎_elim, eq-eqb}
use Rattle.std.proofs.Common.{ne_eqb}
use Rattle.control_block.proofs.Prelude
use Prelude.{bag, block_kept, blocks_of, by_block, cases_eq, cond-false, cond-true, cond_both}
use Prelude.{Entry, handle, handle_self, Has, Held, held, held_made, IsLegal, Kind, leads}
use Prelude.{names_an_object, NumberedHandle, Opening, part_has, Place, same_handle, same_held}
use Prelude.{same_kind, same_number, same_place, sound, State, without}
use Rattle.control_block.specs.Desks.{in_block}

-- what a bag is seen as
abbrev pub seen_as : State → Held → NumberedHandle
seen_as s x = by_block (blocks_of s) x.handle

abbrev pub shown : State → ℕ → List NumberedHandle
shown s n = map (seen_as s) (bag s n)

has_map : {A B : Type 0} (f : A → B) (y : B) (l : List A) → Has y (map f l) → (x : A) × Has x l × (f x ≡ y)
has_map f y [] h = absurd h
has_map f y (x ∷ l) h = ⊎_elim (λ e. (x, inl refl, sym e)) (λ t. let r = has_map f y l t in (r.0, inr r.1, r.2)) h

map_alike : {A B : Type 0} (f g : A → B) (l : List A) → ((x : A) → Has x l → f x ≡ g x) → map f l ≡ map g l
map_alike f g [] e = refl
map_alike f g (x ∷ l) e = λ i. e x (inl refl) i ∷ map_alike f g l (λ y h. e y (inr h)) i

-- taking one out, where what is shown tells one from another
pub map_without : {A B : Type 0} (f : A → B) (same : A → A → Bool) (like : B → B → Bool) (x : A) (l : List A)
    → ((y : A) → Has y l → same x y ≡ like (f x) (f y)) → map f (without same x l) ≡ without like (f x) (map f l)
map_without f same like x [] e = refl
map_without f same like x (y ∷ l) e =
    let t = map_without f same like x l (λ z h. e z (inr h)) in
    cond_both (same x y) l (y ∷ without same x l) (λ r. map f r ≡ without like (f x) (f y ∷ map f l))
    (λ s. sym (cond-true (like (f x) (f y)) (map f l) (f y ∷ without like (f x) (map f l)) (sym (e y (inl refl)) ∙ s)))
    (λ s. ap (λ r. f y ∷ r) t ∙ sym (cond-false (like (f x) (f y)) (map f l) (f y ∷ without like (f x) (map f l)) (sym (e y (inl refl)) ∙ s)))

some_of : (block : ℕ → ℕ) (x : Option ℕ) (b : ℕ) → in_block block x ≡ Some b → (o : ℕ) × (x ≡ Some o) × (block o ≡ b)
some_of block None b e = absurd cc
some_of block (Some o) b e = (o, refl, cc)

module _ {V : Type 0} where
  -- what a bag shows is held, on the object last made in its block
  pub shown_held : (z : Opening) (h : List (Entry V)) (n : ℕ) (k : Kind) (p : Option Place) (b : ℕ) → IsLegal z h
      → Has (handle k (Some b) p) (shown (leads z h) n)
      → let s = leads z h in Has (held n (handle k (Some (s.latest b)) p)) s.hands × ((s.object (s.latest b)).block ≡ b)
  shown_held z h n k p b legal has =
      let s = leads z h in
      let t = has_map (seen_as s) (handle k (Some b) p) (bag s n) has in let x = t.0 in
      let mine = part_has (λ (y : Held). y.desk) n x s.hands t.1 in
      let o = some_of (blocks_of s) x.handle.object b (ap (λ (y : NumberedHandle). y.object) t.2) in
      let is : x ≡ held n (handle k (Some o.0) p) = λ i. record {
        desk = mine.1 i;
        handle = record { kind = ap (λ (y : NumberedHandle). y.kind) t.2 i; object = o.1 i; place = ap (λ (y : NumberedHandle). y.place) t.2 i };
      } in
      let there : Has (held n (handle k (Some o.0) p)) s.hands = subst (λ y. Has y s.hands) is mine.0 in
      let last : s.latest b ≡ o.0 = ap s.latest (sym o.2) ∙ (names_an_object z h legal n k (handle k (Some o.0) p) (there, refl, refl)).2 in (
        subst (λ y. Has (held n (handle k (Some y) p)) s.hands) (sym last) there,
        ap (λ y. (s.object y).block) last ∙ o.2,
      )

  -- an object keeps its block, so what is held is shown alike later
  pub shown_later : (z : Opening) (later seen : List (Entry V)) (n : ℕ) → IsLegal z seen
      → (l : List Held) → ((x : Held) → Has x l → Has x (bag (leads z seen) n))
      → map (seen_as (leads z (later ++ seen))) l ≡ map (seen_as (leads z seen)) l
  shown_later z later seen n legal l sub =
      let s = leads z seen in let t = leads z (later ++ seen) in
      map_alike (seen_as t) (seen_as s) l (λ x has. go x ((part_has (λ (y : Held). y.desk) n x s.hands (sub x has)).0) x.handle.object refl)
    where
      go : (x : Held) → Has x (leads z seen).hands → (o : Option ℕ) → x.handle.object ≡ o
          → seen_as (leads z (later ++ seen)) x ≡ seen_as (leads z seen) x
      go x has None e = λ i. record {
        kind = x.handle.kind;
        object = (ap (in_block (blocks_of (leads z (later ++ seen)))) e ∙ ap (in_block (blocks_of (leads z seen))) (sym e)) i;
        place = x.handle.place;
      }
      go x has (Some o) e =
          let there : Has (held x.desk (handle x.handle.kind (Some o) x.handle.place)) (leads z seen).hands =
          subst (λ y. Has (held x.desk (handle x.handle.kind y x.handle.place)) (leads z seen).hands) e has in
          let kept = (block_kept z later seen o (held_made z (leads z seen) x.desk o x.handle.kind x.handle.place (sound z seen legal) there)).0 in
          λ i. record {
            kind = x.handle.kind;
            object = (ap (in_block (blocks_of (leads z (later ++ seen)))) e ∙ (ap Some kept ∙ ap (in_block (blocks_of (leads z seen))) (sym e))) i;
            place = x.handle.place;
          }

  -- in a bag a handle is told from the others by its block
  pub alone_there : (z : Opening) (h : List (Entry V)) (n : ℕ) (k : Kind) (o : ℕ) (p : Option Place) → IsLegal z h
      → Has (held n (handle k (Some o) p)) (leads z h).hands → (y : Held) → Has y (bag (leads z h) n)
      → same_held (held n (handle k (Some o) p)) y ≡ same_handle (seen_as (leads z h) (held n (handle k (Some o) p))) (seen_as (leads z h) y)
  alone_there z h n k o p legal mine y has = go y.handle.object refl
    where
      there : Has y (leads z h).hands × (y.desk ≡ n)
      there = part_has (λ (x : Held). x.desk) n y (leads z h).hands has

      first : (n == y.desk) ≡ true
      first = eq-eqb n y.desk (sym there.1)

      go : (q : Option ℕ) → y.handle.object ≡ q
          → same_held (held n (handle k (Some o) p)) y ≡ same_handle (seen_as (leads z h) (held n (handle k (Some o) p))) (seen_as (leads z h) y)
      go None e =
          let s = leads z h in
          (λ i. first i && (same_kind k y.handle.kind && (same_number (Some o) (e i) && same_place p y.handle.place)))
          ∙ (λ i. same_kind k y.handle.kind
          && (same_number (Some (s.object o).block) (in_block (blocks_of s) (sym e i)) && same_place p y.handle.place))
      go (Some q) e =
          let s = leads z h in
          let other : Has (held n (handle y.handle.kind (Some q) y.handle.place)) s.hands =
          subst (λ (x : Held). Has x s.hands) (λ i. held (there.1 i) (handle y.handle.kind (e i) y.handle.place)) there.0 in
          let a : s.latest (s.object o).block ≡ o = (names_an_object z h legal n k (handle k (Some o) p) (mine, refl, refl)).2 in
          let b : s.latest (s.object q).block ≡ q =
          (names_an_object z h legal n y.handle.kind (handle y.handle.kind (Some q) y.handle.place) (other, refl, refl)).2 in
          let same : (o == q) ≡ ((s.object o).block == (s.object q).block) =
          ⊎_elim (λ (t : o ≡ q). eq-eqb o q t ∙ sym (eq-eqb (s.object o).block (s.object q).block (ap (λ c. (s.object c).block) t)))
          (λ (t : o ≢ q). ne_eqb o q t ∙ sym (ne_eqb (s.object o).block (s.object q).block (λ c. t (sym a ∙ (ap s.latest c ∙ b))))) (cases_eq o q) in
          (λ i. first i && (same_kind k y.handle.kind && (same_number (Some o) (e i) && same_place p y.handle.place)))
          ∙ ((λ i. same_kind k y.handle.kind && (same i && same_place p y.handle.place))
          ∙ (λ i. same_kind k y.handle.kind
          && (same_number (Some (s.object o).block) (in_block (blocks_of s) (sym e i)) && same_place p y.handle.place)))

-- the first handle is taken out
pub taken_out : (h : NumberedHandle) (l : List NumberedHandle) → without same_handle h (h ∷ l) ≡ l
taken_out h l = cond-true (same_handle h h) l (h ∷ without same_handle h l) (handle_self h)
