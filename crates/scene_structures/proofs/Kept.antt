-- What a call that ends nothing leaves as it is, members of what is held, and calls that aren't refused.
use Rattle.std.proofs.Common.{◌≡◌, ◌+◌, ◌<◌, ◌↔◌, List, IsErr, Ok, Err, Option, Result, sym, refl}
use Rattle.std.proofs.Common.{ap, ◌∙◌, subst, arith}
use Rattle.scene_structures.proofs.Prelude.{allowance_of, Belongs, Block, Carries, carries_kept}
use Rattle.scene_structures.proofs.Prelude.{Cut, DeskNow, DomainNow, End, HeldSought, HoldsHandle}
use Rattle.scene_structures.proofs.Prelude.{IsMember, IsOpenBy, IsOpenSite, IsSameDesk, Keeps}
use Rattle.scene_structures.proofs.Prelude.{KeepsEndings, Lists, NumberedHandle, Other, Owner}
use Rattle.scene_structures.proofs.Prelude.{Pile, Shape, Shared, SharedAt, Sought, WeakAt}
use Rattle.control_block.specs.Desks.{held_of}
use Rattle.atomic_cells.specs.Sites.{IsOpenWeakly}
use Rattle.atomic_cells.specs.declared.sites.SharedMember.{SharedMember}
use Rattle.atomic_cells.specs.declared.sites.SharedSite.TheVariants as shared
use Rattle.atomic_cells.specs.declared.sites.WeakSite.TheVariants as weak

-- a member of what the bag lists
pub open_listed : (base : List NumberedHandle) (h : Shared) (at : SharedAt) (m : SharedMember) (z : Shape)
    → IsMember (λ k (x : SharedAt). x.site ≡ shared.Of k m) h.block h.place (Ok at) → Lists h.block h.place base → IsOpenBy base z at.site
open_listed base h at m z is lists = subst (IsOpenBy base z) (sym is.3) (h.place, subst (λ (b : Option Block). Lists b h.place base) is.2 lists)

module _ {V : Type 0} where
  pub same_call : {d e : DeskNow V} → Keeps d e → IsSameDesk d e
  same_call k = record { domain = k.domain; shape = k.shape; name = k.name; allowance = k.allowance }

  pub same_then : {d e f : DeskNow V} → IsSameDesk d e → IsSameDesk e f → IsSameDesk d f
  same_then a b =
      record { domain = b.domain ∙ a.domain; shape = b.shape ∙ a.shape; name = b.name ∙ a.name; allowance = b.allowance ∙ a.allowance }

  pub belongs_over : {domain : DomainNow} {d e : DeskNow V} → Belongs d domain → IsSameDesk d e → Belongs e domain
  belongs_over b s = record { table = s.domain ∙ b.table; shape = s.shape ∙ b.shape }

  pub carries_call : {domain : DomainNow} {d e : DeskNow V} {p : Pile V} → Carries domain d p → Keeps d e → Carries domain e p
  carries_call {domain} {d} {e} {p} w k = carries_kept domain d e p w k.domain k.shape k.endings

  pub carries_over : {domain : DomainNow} {d e : DeskNow V} {p : Pile V} → Carries domain d p → IsSameDesk d e → KeepsEndings d e
      → Carries domain e p
  carries_over {domain} {d} {e} {p} w s k = carries_kept domain d e p w s.domain s.shape k

  -- a member of what is held
  pub open_held : (d : DeskNow V) (h : Shared) (at : SharedAt) (m : SharedMember)
      → IsMember (λ k (x : SharedAt). x.site ≡ shared.Of k m) h.block h.place (Ok at) → HoldsHandle d Owner h.block h.place → IsOpenSite d at.site
  open_held d h at m is holds = subst (IsOpenSite d) (sym is.3) (h.place, subst (λ (b : Option Block). HoldsHandle d Owner b h.place) is.2 holds)

  pub open_up : (d : DeskNow V) (h : Shared) (at : WeakAt) → IsMember (λ k (x : WeakAt). x.site ≡ weak.Up k) h.block h.place (Ok at)
      → HoldsHandle d Owner h.block h.place → IsOpenWeakly d at.site
  open_up d h at is holds = subst (IsOpenWeakly d) (sym is.3) (h.place, subst (λ (b : Option Block). HoldsHandle d Owner b h.place) is.2 holds)

  pub held_from : (d l t : DeskNow V) (s : Sought) → l.held ≡ d.held → HeldSought l s t → HeldSought d s t
  held_from d l t (Other h) same held = held ∙ ap (λ n. n + 1) same
  held_from d l t End same held = held ∙ same
  held_from d l t Cut same held = held ∙ same

  -- where there is room, what is refused just at the allowance isn't refused
  pub granted : {A E : Type 0} (d : DeskNow V) (r : Result A E) → (IsErr r ↔ (held_of d ≡ allowance_of d)) → d.held + 1 < allowance_of d
      → ((x : A) → r ≡ Ok x → ⊥) → ⊥
  granted d (Ok x) limit room not = not x refl
  granted d (Err e) limit room not = let full = limit.0 refl in omega arith

  pub unrefused : {A E : Type 0} (d : DeskNow V) (r : Result A E) (e : E) → (IsErr r ↔ (held_of d ≡ allowance_of d)) → d.held + 1 < allowance_of d
      → r ≡ Err e → ⊥
  unrefused d r e limit room is = granted d r limit room (λ x same. let both : Err e ≡ Ok x = sym is ∙ same in absurd (cc))
