-- Handles that come to a desk and leave it, by what is known of them.
use Rattle.std.proofs.Common.{◌≡◌, ℕ, ◌+◌, ◌⊎◌, List, [], ◌∷◌, ◌++◌, IsErrAnd, IfErr, slice_get}
use Rattle.std.proofs.Common.{slice_set, Some, None, Ok, Err, Option, Result, sym, refl, ap, ◌∙◌}
use Rattle.std.proofs.Common.{subst, inl, inr}
use Rattle.pointers.proofs.Prelude
use Prelude.{AreOfOne, BadWeak, bag_of, Bears, bears_after, bears_kept, Belongs, Block, block_of}
use Prelude.{Carries, desk_at, DeskNow, domain_of, DomainNow, fields_in, GoesOn, Held, HoldsHandle}
use Prelude.{IsClaimed, IsHeldByDesk, IsUpgrade, IsWhole, Keeps, KeepsElsewhere, KeepsObject, Kind}
use Prelude.{Known, known_now, Later, latest_of, Limit, NumberedHandle, owned, Owner, Pile, Place}
use Prelude.{place_of, pointed, Refusal, Shape, Shared, Since, Standing, Weak, with_handle}
use Prelude.{with_held, without_held}
use Rattle.control_block.specs.CellCalls.{object_by}
use Rattle.control_block.specs.declared.handles.Held.TheVariants as held
use Rattle.control_block.specs.declared.handles.Weak.{Weak as WeakHandle}
use Rattle.pointers.proofs.Fields.{fields_kept}
use Rattle.pointers.proofs.Later.{goes_then, legal_on, lives_on}
use Rattle.pointers.proofs.Wholes.{has, whole_less, whole_more, whole_still}
use Rattle.shared_handle.specs.Endings.{WhyNotThis}
use Rattle.pointers.proofs.Calls.{found_limit, found_none, why_no_owner}
use Rattle.pointers.specs.Faults.{Was, WhyNoOwner, WhyNoThis}
use Rattle.pointers.specs.Known.{object}

-- the bag with a handle that has these parts
pub bag_by : (k : Kind) (a b : Option Block) (p q : Option Place) (l bag : List NumberedHandle) → a ≡ b → p ≡ q → bag ≡ with_handle k b q l
    → bag ≡ with_handle k a p l
bag_by k a b p q l bag e f is = is ∙ (λ i. with_handle k (sym e i) (sym f i) l)

-- what is so of an error is so of a result that passes it on
pub passed_on : {A E : Type 0} (P : E → Type 0) (r : Result A E) (x : E) → IsErrAnd r (λ y. y ≡ x) → P x → IfErr r P
passed_on P (Ok a) x is p = _
passed_on P (Err y) x is p = subst P (sym is) p

-- what follows of an error follows of a result
pub errs_map : {A E : Type 0} (P Q : E → Type 0) (r : Result A E) → ((x : E) → P x → Q x) → IfErr r P → IfErr r Q
errs_map P Q (Ok a) then is = _
errs_map P Q (Err x) then is = then x is

module _ {V : Type 0} where
  pub belongs : (o : DeskNow V) (y : DomainNow) (d : DeskNow V) (p : Pile V) (cs : List (Option (Known V))) → IsWhole o d p cs → Belongs o y → Belongs d y
  belongs o y d p cs w here = record { table = w.opened.same.0 ∙ here.table; shape = w.opened.same.1 ∙ here.shape }

  pub owner_held : (o : DeskNow V) (d : DeskNow V) (p : Pile V) (cs : List (Option (Known V))) (i : ℕ) (c : Known V) (h : Shared) → IsWhole o d p cs
      → slice_get cs i ≡ Some (Some c) → c.handle ≡ held.Owner h → HoldsHandle d Owner h.block h.place
  owner_held o d p cs i c h w at is = subst (IsHeldByDesk d) is (has o d p cs i c w at)

  pub weak_held : (o : DeskNow V) (d : DeskNow V) (p : Pile V) (cs : List (Option (Known V))) (i : ℕ) (c : Known V) (h : WeakHandle) → IsWhole o d p cs
      → slice_get cs i ≡ Some (Some c) → c.handle ≡ held.Weak h → HoldsHandle d Weak h.block h.place
  weak_held o d p cs i c h w at is = subst (IsHeldByDesk d) is (has o d p cs i c w at)

  more_now : (o : DeskNow V) (d e : DeskNow V) (p q : Pile V) (cs : List (Option (Known V))) (h : Held) → IsWhole o d p cs → Standing d → Later d e
      → Bears (domain_of o) e q → bag_of e ≡ with_held h (bag_of d) → e.held ≡ d.held + 1 → IsWhole o e q (cs ++ Some (known_now h e) ∷ [])
  more_now o d e p q cs h w stands later bears bag held = whole_more o d e p q cs (known_now h e) w stands later bears bag held refl

  -- a handle came
  pub more : (o : DeskNow V) (d e : DeskNow V) (p q : Pile V) (cs ds es : List (Option (Known V))) (h : Held) (c : Known V) → IsWhole o d p cs
      → Standing d → Later d e → Bears (domain_of o) e q → bag_of e ≡ with_held h (bag_of d) → e.held ≡ d.held + 1
      → ds ≡ cs → es ≡ ds ++ Some c ∷ [] → c ≡ known_now h e → IsWhole o e q es
  more o d e p q cs ds es h c w stands later bears bag held same added is =
      subst (IsWhole o e q) (sym (added ∙ (λ i. same i ++ Some (is i) ∷ []))) (more_now o d e p q cs h w stands later bears bag held)

  -- one left
  pub less : (o : DeskNow V) (d e : DeskNow V) (p q : Pile V) (cs ds : List (Option (Known V))) (i : ℕ) (c : Known V) (h : Held) → IsWhole o d p cs
      → slice_get cs i ≡ Some (Some c) → c.handle ≡ h → Later d e → Bears (domain_of o) e q → bag_of e ≡ without_held h (bag_of d) → e.held + 1 ≡ d.held
      → ds ≡ slice_set cs i None → IsWhole o e q ds
  less o d e p q cs ds i c h w at is later bears bag held gone =
      subst (IsWhole o e q) (sym gone)
      (whole_less o d e p q cs i c w at later bears (subst (λ (x : Held). bag_of e ≡ without_held x (bag_of d)) (sym is) bag) held)

  -- none came or left
  pub alike : (o : DeskNow V) (d e : DeskNow V) (p q : Pile V) (cs ds : List (Option (Known V))) → IsWhole o d p cs → Later d e → Bears (domain_of o) e q
      → bag_of e ≡ bag_of d → e.held ≡ d.held → ds ≡ cs → IsWhole o e q ds
  alike o d e p q cs ds w later bears bag held same = subst (IsWhole o e q) (sym same) (whole_still o d e p q cs w later bears bag held)

  pub bears_by : (o : DeskNow V) (d e : DeskNow V) (p : Pile V) (cs : List (Option (Known V))) → IsWhole o d p cs → Keeps d e → Bears (domain_of o) e p
  bears_by o d e p cs w keeps = bears_kept (domain_of o) d e p w.bears keeps.domain keeps.shape keeps.endings keeps.count

  -- the same after a call of the pile
  pub bears_pile : (o : DeskNow V) (y : DomainNow) (d e : DeskNow V) (p q : Pile V) (cs : List (Option (Known V))) → IsWhole o d p cs → Belongs o y
      → Carries y e q
      → KeepsElsewhere d p.endings.items e q.endings.items → Bears (domain_of o) e q
  bears_pile o y d e p q cs w same carries elsewhere =
      bears_after (domain_of o) d e p q w.bears (subst (λ (x : DomainNow). Carries x e q) (λ i. record {
        id = sym same.table i;
        shape = sym same.shape i;
      }) carries) elsewhere

  object_alike : (d e : DeskNow V) (b : Option Block) → KeepsObject b d e → object_by (latest_of e) b ≡ object_by (latest_of d) b
  object_alike d e None kept = refl
  object_alike d e (Some b) kept = ap Some kept

  object_now : (o e : DeskNow V) (h : Held) → GoesOn o e → object o (known_now h e) ≡ object_by (latest_of e) (block_of h)
  object_now o e h goes = ap (λ (k : Shape). object_by (latest_of (record e { shape = k })) (block_of h)) (sym goes.same.1)

  -- where what came points
  pub points : (x : Known V) (h : Held) (e : DeskNow V) (q : Option Place) → x ≡ known_now h e → place_of h ≡ q → pointed x ≡ q
  points x h e q is at = ap pointed is ∙ at

  -- what came is of the object that a handle was of, where its block is that
  pub of_one : (o : DeskNow V) (d e : DeskNow V) (p q : Pile V) (cs : List (Option (Known V))) (i : ℕ) (c x : Known V) (h : Held) → IsWhole o d p cs
      → slice_get cs i ≡ Some (Some c) → Later d e → x ≡ known_now h e → block_of h ≡ owned c → AreOfOne o c x
  of_one o d e p q cs i c x h w at later is same =
      let lives = lives_on o c d e (w.lives i c at) later (has o d p cs i c w at) in
      subst (AreOfOne o c) (sym is) (record {
        block = same;
        object = object_now o e h (goes_then o d e w.opened later.goes) ∙
            (ap (object_by (latest_of e)) same ∙ object_alike (desk_at o c) e (owned c) lives.object);
        fields = ap (fields_in (record o { seen = e.seen })) same ∙ fields_kept o e c lives (legal_on o d e w.opened w.legal later);
      })

  -- a handle that came by a call that ends nothing
  pub more_kept : (o d e : DeskNow V) (p : Pile V) (cs ds es : List (Option (Known V))) (h : Held) (x : Known V) → IsWhole o d p cs → Standing d
      → Later d e → Keeps d e → bag_of e ≡ with_held h (bag_of d) → e.held ≡ d.held + 1 → ds ≡ cs → es ≡ ds ++ Some x ∷ []
      → x ≡ known_now h e → IsWhole o e p es
  more_kept o d e p cs ds es h x w stands later keeps bag held same added is =
      more o d e p p cs ds es h x w stands later (bears_by o d e p cs w keeps) bag held same added is

  -- since a handle came the desk did what it does now
  pub since : {Does : DeskNow V → DeskNow V → Type 0} (o d e : DeskNow V) (p : Pile V) (cs : List (Option (Known V))) (i : ℕ) (c : Known V)
      → IsWhole o d p cs → slice_get cs i ≡ Some (Some c) → Does d e → Since o c Does
  since o d e p cs i c w at does =
      record {
        before = d;
        after = e;
        lives = w.lives i c at;
        holds = has o d p cs i c w at;
        allowance = w.allowance;
        does = does;
      }

  -- since it came the desk was as it is now
  pub was : {Is : DeskNow V → Type 0} (o d : DeskNow V) (p : Pile V) (cs : List (Option (Known V))) (i : ℕ) (c : Known V) → IsWhole o d p cs
      → slice_get cs i ≡ Some (Some c) → Is d → Was o (Some c) Is
  was o d p cs i c w at is = record { desk = d; stays = w.lives i c at; allowance = w.allowance; is = is }

  -- so it was since the owner of a place came, if there is one
  pub was_at : {Is : DeskNow V → Type 0} (o d : DeskNow V) (p : Pile V) (cs : List (Option (Known V))) (of : Option (Known V)) → IsWhole o d p cs
      → IsClaimed cs of → Is d → Was o of Is
  was_at o d p cs None w has is = record { desk = d; stays = w.opened; allowance = w.allowance; is = is }
  was_at o d p cs (Some c) w has is = was o d p cs has.0 c w has.1 is

  -- why a weak handle gave no owner
  pub no_owner : (o d e : DeskNow V) (p : Pile V) (cs : List (Option (Known V))) (i : ℕ) (c : Known V) (h : Held) (why : Refusal) → IsWhole o d p cs
      → slice_get cs i ≡ Some (Some c) → c.handle ≡ h → IsUpgrade d (block_of h) (place_of h) (Err why) e → WhyNoOwner o c why
  no_owner o d e p cs i c h why w at is says = go (why_no_owner d (owned c) (pointed c) why e up)
    where
      up : IsUpgrade d (owned c) (pointed c) (Err why) e
      up = subst (λ (x : Held). IsUpgrade d (block_of x) (place_of x) (Err why) e) (sym is) says

      go : (why ≡ Limit) ⊎ (why ≡ BadWeak) → WhyNoOwner o c why
      go (inl limit) = subst (WhyNoOwner o c) (sym limit) (was o d p cs i c w at (found_limit d (owned c) (pointed c) why e up limit))
      go (inr bad) = subst (WhyNoOwner o c) (sym bad) (since o d e p cs i c w at (found_none d (owned c) (pointed c) why e up bad))

  -- why an owner gave no pointer to its object
  pub no_this : (o d : DeskNow V) (p : Pile V) (cs : List (Option (Known V))) (i : ℕ) (c : Known V) (h : Held) (why : Refusal) → IsWhole o d p cs
      → slice_get cs i ≡ Some (Some c) → c.handle ≡ h → WhyNotThis d (block_of h) (place_of h) why → WhyNoThis o c why
  no_this o d p cs i c h why w at is says =
      was o d p cs i c w at (subst (λ (x : Held). WhyNotThis d (block_of x) (place_of x) why) (sym is) says)
