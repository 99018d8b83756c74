-- What compares of a desk that is held say.
use Rattle.std.proofs.Common.{◌≡◌, ℕ, suc, ◌+◌, ◌-◌, ◌<◌, ◌≤◌, min, ◌∙◌, Bool, true, false, ◌⊎◌, inl, inr, Option, None}
use Rattle.std.proofs.Common.{Some, Result, Ok, Err, IfOk, IfSome, refl, sym, ap, subst, arith}
use Rattle.control_word.specs.declared.model.event.Cell.{Cell}
use Rattle.control_word.specs.declared.model.event.Event.{Event}
use Rattle.control_word.specs.declared.model.handle.Kind.TheVariants.{Owner}
use Rattle.control_word.specs.declared.place.Block.{Block}
use Rattle.control_word.specs.declared.place.Place.{Place}
use Rattle.control_block.specs.CellCalls.{handle_in}
use Rattle.control_block.specs.Desks.{AddsEvent, DeskNow, allowance_of, endings_of, held_of}
use Rattle.control_block.specs.Standing.{Standing}
use Rattle.control_block.specs.declared.handles.Held.{Held}
use Rattle.atomic_cells.specs.Compares.{Compares}
use Rattle.shared_handle.specs.Calls.{counting}
use Rattle.shared_handle.specs.Endings.{EndsInHand, IsLeft}
use Rattle.shared_handle.specs.declared.endings.Ending.{Ending}
use Rattle.shared_handle.specs.declared.endings.Left.{Left}
use Rattle.shared_handle.specs.declared.endings.Left.TheVariants.{Empty, Last, Others}
use Rattle.pointers.proofs.CellCalls.{block_arrived, came_to, place_arrived}
use Rattle.pointers.proofs.Compares.{by_handles, told_by}
use Rattle.pointers.proofs.HandCalls.{but_count, but_left, came_count, none_some}
use Rattle.pointers.specs.Beside.{Arrives, IsEmptyHandle, IsHandleOf, seen_by}
use Rattle.pointers.specs.Cells.{block_by, place_by}
use Rattle.pointers.specs.HandCalls.{DiffersNow, FindsNow, IsButCount, LacksRoom, LeavesNow, SwapsNow}
use Rattle.pointers.specs.Known.{IsAtAllowance, block_of, owned, place_of, pointed}
use Rattle.pointers.specs.declared.known.Known.{Known}

is_true : (b weak : Bool) → (true ≡ b) ⊎ ((weak ≡ true) × (true ≡ false)) → b ≡ true
is_true b weak (inl e) = sym e
is_true b weak (inr e) = absurd (cc e.1)

is_false : (b weak : Bool) → (false ≡ b) ⊎ ((weak ≡ true) × (false ≡ false)) → (b ≡ false) ⊎ (weak ≡ true)
is_false b weak (inl e) = inl (sym e)
is_false b weak (inr e) = inr e.0

module _ {V : Type 0} where
  -- the pointer went in, and what the cell held left
  pub swaps_now : (c d m e : DeskNow V) (x y : Cell) (h n f : Held) (hoped new : Option (Known V)) (weak : Bool) (out : Left V) → y ≡ x
      → IsHandleOf hoped h → IsHandleOf new n
      → Compares d y Owner (block_of h) (place_of h) (block_of n) (place_of n) true (block_of f) (place_of f) weak m
      → IsLeft m (block_of f) (place_of f) out e → d ≡ c → FindsNow c x weak hoped new None e
  swaps_now c d m e x y h n f hoped new weak out same is at compares leaves now =
      let by = by_handles d m x y Owner h n hoped new true weak (block_of f) (place_of f) same is at compares in
      subst (λ (z : DeskNow V). FindsNow z x weak hoped new None e) now (
        out,
        record {
          block = block_of f;
          place = place_of f;
          between = m;
          compares = by;
          alike = is_true _ weak
              (told_by d m x (handle_in d Owner (block_by hoped) (place_by hoped)) (handle_in d Owner (block_by new) (place_by new))
              (handle_in m Owner (block_of f) (place_of f)) true weak by);
          leaves = leaves;
        },
      )

  adds_counts : (d e : DeskNow V) (n m : ℕ) (x : Event V) → AddsEvent d x e → AddsEvent (record d { held = n }) x (record e { held = m })
  adds_counts d e n m x a = record { same = a.same; between = a.between; seen = a.seen; quiet = a.quiet; legal = a.legal }

  -- the count of handles is another, before or after
  differs_counts : (d e : DeskNow V) (n m : ℕ) (x : Cell) (weak : Bool) (hb : Option Block) (hp : Option Place) (b : Option Block) (p : Option Place)
      (got : Option (Known V)) → DiffersNow d x weak hb hp b p got e
      → DiffersNow (record d { held = n }) x weak hb hp b p got (record e { held = m })
  differs_counts d e n m x weak hb hp b p got is =
      record { compares = adds_counts d e n m _ is.compares; unlike = is.unlike; came = came_count got e m is.came }

  -- the cell held something else, or the weak form failed
  pub differs_now : (c d e f : DeskNow V) (x y : Cell) (h n g : Held) (hoped new got : Option (Known V)) (weak : Bool) → y ≡ x
      → IsHandleOf hoped h → IsHandleOf new n
      → Compares d y Owner (block_of h) (place_of h) (block_of n) (place_of n) false (block_of g) (place_of g) weak e
      → Arrives g e got → IsButCount e f → d ≡ c → FindsNow c x weak hoped new (Some got) f
  differs_now c d e f x y h n g hoped new got weak same is at compares came count now =
      let by = subst (λ (z : Option Block). Compares d x Owner (block_by hoped) (place_by hoped) (block_by new) (place_by new) false z (place_by got) weak e)
      (block_arrived g e got came)
      (subst (λ (z : Option Place). Compares d x Owner (block_by hoped) (place_by hoped) (block_by new) (place_by new) false (block_of g) z weak e)
      (place_arrived g e got came)
      (by_handles d e x y Owner h n hoped new false weak (block_of g) (place_of g) same is at compares)) in
      let differs : DiffersNow d x weak (block_by hoped) (place_by hoped) (block_by new) (place_by new) got e = record {
        compares = by;
        unlike = is_false _ weak
            (told_by d e x (handle_in d Owner (block_by hoped) (place_by hoped)) (handle_in d Owner (block_by new) (place_by new))
            (handle_in e Owner (block_by got) (place_by got)) false weak by);
        came = came_to g e got came;
      } in
      subst (λ (z : DeskNow V). FindsNow z x weak hoped new (Some got) f) now
      (subst (λ (z : DeskNow V). FindsNow d x weak hoped new (Some got) z) (sym count)
      (differs_counts d e d.held f.held x weak _ _ _ _ got differs))

  left_count : (d e : DeskNow V) (n : ℕ) (b : Option Block) (p : Option Place) (out : Left V) → IsLeft d b p out e
      → IsLeft (record d { held = suc n }) b p out (record e { held = n })
  left_count d e n b p Empty is =
      let few : n ≡ suc n - 1 = omega arith in
      (is.0, ap (λ (z : DeskNow V). record z { held = n }) is.1 ∙ ap (λ (k : ℕ). counting k d) few)
  left_count d e n b p Others is = (is.0, is.1, adds_counts d e (suc n) n _ is.2)
  left_count d e n b p (Last x) is = (is.0, adds_counts d e (suc n) n _ is.1, ends x is.2, is.3)
    where
      ends : (x : Ending V) → EndsInHand e x → EndsInHand (record e { held = n }) x
      ends x is = record {
        ends = record { phase = is.ends.phase; kept = is.ends.kept };
        shape = is.shape;
        few = is.few;
        cleared = is.cleared;
      }

  finds_counts : (d e : DeskNow V) (n m : ℕ) (x : Cell) (weak : Bool) (hoped new : Option (Known V)) (found : Option (Option (Known V)))
      → FindsNow d x weak hoped new found e → FindsNow (record d { held = n }) x weak hoped new found (record e { held = m })
  finds_counts d e n m x weak hoped new None is = (
    is.0,
    record {
      block = is.1.block;
      place = is.1.place;
      between = record is.1.between { held = suc m };
      compares = adds_counts d is.1.between n (suc m) _ is.1.compares;
      alike = is.1.alike;
      leaves = left_count is.1.between e m is.1.block is.1.place is.0 is.1.leaves;
    },
  )
  finds_counts d e n m x weak hoped new (Some got) is = differs_counts d e n m x weak _ _ _ _ got is

  finds_between : (c d e f : DeskNow V) (x : Cell) (weak : Bool) (hoped new : Option (Known V)) (found : Option (Option (Known V)))
      → IsButCount c d → IsButCount e f → FindsNow d x weak hoped new found e → FindsNow c x weak hoped new found f
  finds_between c d e f x weak hoped new found before after is =
      subst (λ (z : DeskNow V). FindsNow c x weak hoped new found z) (sym after)
      (finds_counts (record c { held = d.held }) e c.held f.held x weak hoped new found
      (subst (λ (z : DeskNow V). FindsNow z x weak hoped new found e) before is))

  -- an empty pointer that was made for the compare, and left
  pub desired_none : (c d e f : DeskNow V) (x : Cell) (weak : Bool) (hoped : Option (Known V)) (n : Known V) (found : Option (Option (Known V)))
      → IsEmptyHandle n.handle → IsButCount c d → IsButCount e f → FindsNow d x weak hoped (Some n) found e → FindsNow c x weak hoped None found f
  desired_none c d e f x weak hoped n found none before after is = finds_between c d e f x weak hoped None found before after (go found is)
    where
      go : (found : Option (Option (Known V))) → FindsNow d x weak hoped (Some n) found e → FindsNow d x weak hoped None found e
      go None is = (
        is.0,
        subst (λ (b : Option Block). SwapsNow d x weak (block_by hoped) (place_by hoped) b None is.0 e) none.0
            (subst (λ (p : Option Place). SwapsNow d x weak (block_by hoped) (place_by hoped) (owned n) p is.0 e) none.1 is.1),
      )
      go (Some got) is =
          subst (λ (b : Option Block). DiffersNow d x weak (block_by hoped) (place_by hoped) b None got e) none.0
          (subst (λ (p : Option Place). DiffersNow d x weak (block_by hoped) (place_by hoped) (owned n) p got e) none.1 is)

  pub expected_none : (c d e f : DeskNow V) (x : Cell) (weak : Bool) (n : Known V) (new : Option (Known V)) (found : Option (Option (Known V)))
      → IsEmptyHandle n.handle → IsButCount c d → IsButCount e f → FindsNow d x weak (Some n) new found e → FindsNow c x weak None new found f
  expected_none c d e f x weak n new found none before after is = finds_between c d e f x weak None new found before after (go found is)
    where
      go : (found : Option (Option (Known V))) → FindsNow d x weak (Some n) new found e → FindsNow d x weak None new found e
      go None is = (
        is.0,
        subst (λ (b : Option Block). SwapsNow d x weak b None (block_by new) (place_by new) is.0 e) none.0
            (subst (λ (p : Option Place). SwapsNow d x weak (owned n) p (block_by new) (place_by new) is.0 e) none.1 is.1),
      )
      go (Some got) is =
          subst (λ (b : Option Block). DiffersNow d x weak b None (block_by new) (place_by new) got e) none.0
          (subst (λ (p : Option Place). DiffersNow d x weak (owned n) p (block_by new) (place_by new) got e) none.1 is)

  pub left_none : (d e : DeskNow V) (n : Known V) → IsEmptyHandle n.handle → LeavesNow d n e → IsButCount d e
  left_none d e n none is = but_left d e (owned n) (pointed n) is.0 none.0 is.1

  -- an empty pointer came and left
  pub left_again : (c d e : DeskNow V) (n : Known V) → IsEmptyHandle n.handle → d ≡ counting (c.held + 1) c → LeavesNow d n e → e ≡ c
  left_again c d e n none came is = go is.0 is.1
    where
      go : (out : Left V) → IsLeft d (owned n) (pointed n) out e → e ≡ c
      go Empty is =
          let back : c.held + 1 - 1 ≡ c.held = omega arith in
          is.1 ∙ (ap (λ (z : DeskNow V). counting (z.held - 1) z) came ∙ ap (λ (k : ℕ). counting k c) back)
      go Others is = absurd (none_some is.0 (sym none.0 ∙ is.1))
      go (Last x) is = absurd (none_some x.block (sym none.0 ∙ is.0))

  more_held : (c d : DeskNow V) → d ≡ counting (c.held + 1) c → held_of d ≡ held_of c + 1
  more_held c d is =
      let one : (c.held + 1) + min 1 (endings_of c) ≡ (c.held + min 1 (endings_of c)) + 1 = omega arith in ap (λ (z : DeskNow V). held_of z) is ∙ one

  -- an empty pointer that came has room
  pub room_left : (c d : DeskNow V) → Standing c → (IsAtAllowance c → ⊥) → d ≡ counting (c.held + 1) c → held_of d ≤ allowance_of d
  room_left c d stands some is =
      let most : held_of c ≤ allowance_of c = stands.held in let more = more_held c d is in
      let all : allowance_of d ≡ allowance_of c = ap (λ (z : DeskNow V). allowance_of z) is in
      let free : held_of c ≡ allowance_of c → ⊥ = some in let so : held_of d ≤ allowance_of d = omega (arith, most, more, all, free) in so

  -- an empty pointer that is desired takes the last room
  pub lacks_two : (c d : DeskNow V) (h : Known V) → held_of d ≤ allowance_of d → d ≡ counting (c.held + 1) c → LacksRoom c (Some h) None
      → IsAtAllowance d
  lacks_two c d h most is few =
      let more = more_held c d is in let all : allowance_of d ≡ allowance_of c = ap (λ (z : DeskNow V). allowance_of z) is in
      let less : allowance_of c < held_of c + 2 = few in let so : held_of d ≡ allowance_of d = omega (arith, most, more, all, less) in so

  -- an empty pointer that was desired went in
  pub swaps_none : {A : Type 0} (c d e : DeskNow V) (x : Cell) (weak : Bool) (hoped : Option (Known V)) (n : Known V) (y : Option A)
      (F : A → Option (Known V)) → y ≡ None → IsEmptyHandle n.handle → d ≡ counting (c.held + 1) c
      → FindsNow d x weak hoped (Some n) (seen_by F y) e → FindsNow c x weak hoped None None e
  swaps_none c d e x weak hoped n y F none empty came is =
      desired_none c d e e x weak hoped n None empty (but_count c d (c.held + 1) came) refl
      (subst (λ (z : Option _). FindsNow d x weak hoped (Some n) (seen_by F z) e) none is)

  -- one that didn't left
  pub differs_none : {A : Type 0} (c d e f : DeskNow V) (x : Cell) (weak : Bool) (hoped : Option (Known V)) (n : Known V) (y : Option A)
      (F : A → Option (Known V)) (G : A → Known V) (a : A) → y ≡ Some a → IsEmptyHandle n.handle → d ≡ counting (c.held + 1) c
      → FindsNow d x weak hoped (Some n) (seen_by F y) e → IfSome y (λ z. G z ≡ n) → LeavesNow e (G a) f
      → FindsNow c x weak hoped None (Some (F a)) f
  differs_none c d e f x weak hoped n y F G a some empty came is stays left =
      let same : G a ≡ n = subst (λ (z : Option _). IfSome z (λ b. G b ≡ n)) some stays in
      let bare : IsEmptyHandle (G a).handle = subst (λ (z : Known V). IsEmptyHandle z.handle) (sym same) empty in
      desired_none c d e f x weak hoped n (Some (F a)) empty (but_count c d (c.held + 1) came) (left_none e f (G a) bare left)
      (subst (λ (z : Option _). FindsNow d x weak hoped (Some n) (seen_by F z) e) some is)

  -- an empty pointer that was expected left
  pub found_none : {A B : Type 0} (c d e f : DeskNow V) (x : Cell) (weak : Bool) (n : Known V) (new : Option (Known V)) (r : Result A B)
      (F : A → Option (Option (Known V))) → IsEmptyHandle n.handle → d ≡ counting (c.held + 1) c → LeavesNow e n f
      → IfOk r (λ a. FindsNow d x weak (Some n) new (F a) e) → IfOk r (λ a. FindsNow c x weak None new (F a) f)
  found_none c d e f x weak n new (Ok a) F empty came left is =
      expected_none c d e f x weak n new (F a) empty (but_count c d (c.held + 1) came) (left_none e f n empty left) is
  found_none c d e f x weak n new (Err why) F empty came left is = tt
