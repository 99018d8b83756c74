-- What is true between calls is so within a call of cells, beside what is in hand.
use Rattle.std.proofs.Common.{◌≡◌, ℕ, ◌+◌, ◌≤◌, ◌⊎◌, List, [], ◌∷◌, ◌++◌, length, slice_get, slice_set}
use Rattle.std.proofs.Common.{Some, None, Option, vec_capacity, sym, refl, ap, ◌∙◌, subst, inl, inr}
use Rattle.pointers.proofs.Prelude
use Prelude.{AllLive, bag_of, Bears, bears_after, bears_kept, Belongs, Block, block_of, Carries}
use Prelude.{allowance_of, counting, DeskNow, domain_of, DomainNow, endings_of, Event, Goes, Has, Held, holds_each}
use Prelude.{holds_in_order, holds_less, holds_more, IsHeldByDesk, IsWhole, IsWholeBeside, Keeps}
use Prelude.{KeepsElsewhere, Known, known_now, Later, Lives, living, NumberedHandle, Owner, Pile}
use Prelude.{IsLegal, opening_of, Shape, Standing, Weak, with_handle, with_held, without_held}
use Rattle.control_block.specs.declared.handles.Held.TheVariants as held
use Rattle.control_block.specs.Desks.{IsSameDesk, KeepsEndings}
use Rattle.control_block.specs.Own.{KeepsHeld}
use Rattle.pointers.proofs.Later.{by_count, goes_by, goes_then, legal_on, lives_on, lives_still}
use Rattle.pointers.proofs.Living.{held_of, lived, one_less, one_more, same_some, stands_behind}
use Rattle.pointers.proofs.Swaps.{holds_swapped}
use Rattle.pointers.proofs.Wholes.{came}
use Rattle.shared_handle.proofs.Piles.{fits}
use Rattle.shared_handle.specs.Piles.{AllEnd}

has_behind : (x : Held) (hs ks : List Held) → Has x ks → Has x (hs ++ ks)
has_behind x [] ks has = has
has_behind x (h ∷ hs) ks has = inr (has_behind x hs ks has)

-- an empty handle stands in no bag
empty_bag : (h : Held) (l : List NumberedHandle) → block_of h ≡ None → with_held h l ≡ l
empty_bag (held.Owner h) l none = ap (λ (b : Option Block). with_handle Owner b h.place l) none
empty_bag (held.Weak w) l none = ap (λ (b : Option Block). with_handle Weak b w.place l) none

module _ {V : Type 0} where
  -- a handle in hand is the desk's
  pub in_hand : (o d : DeskNow V) (p : Pile V) (h : Held) (hs : List Held) (cs : List (Option (Known V))) → IsWholeBeside o d p (h ∷ hs) cs
      → IsHeldByDesk d h
  in_hand o d p h hs cs w = holds_each d h (h ∷ hs ++ living cs) w.holds (inl refl)

  -- so is that of a claim that lives
  pub has_beside : (o d : DeskNow V) (p : Pile V) (hs : List Held) (cs : List (Option (Known V))) (i : ℕ) (c : Known V) → IsWholeBeside o d p hs cs
      → slice_get cs i ≡ Some (Some c) → IsHeldByDesk d c.handle
  has_beside o d p hs cs i c w at = holds_each d c.handle (hs ++ living cs) w.holds (has_behind c.handle hs (living cs) (held_of cs i c at))

  live_on : (o d e : DeskNow V) (p : Pile V) (hs : List Held) (cs : List (Option (Known V))) → IsWholeBeside o d p hs cs → Later d e → AllLive o cs e
  live_on o d e p hs cs w later i c at = lives_on o c d e (w.lives i c at) later (has_beside o d p hs cs i c w at)

  pub nothing_beside : (o d : DeskNow V) (p : Pile V) (cs : List (Option (Known V))) → IsWhole o d p cs → IsWholeBeside o d p [] cs
  nothing_beside o d p cs w = record { opened = w.opened; legal = w.legal; allowance = w.allowance; bears = w.bears; holds = w.holds; lives = w.lives }

  pub whole_again : (o d : DeskNow V) (p : Pile V) (cs : List (Option (Known V))) → IsWholeBeside o d p [] cs → IsWhole o d p cs
  whole_again o d p cs w = record { opened = w.opened; legal = w.legal; allowance = w.allowance; bears = w.bears; holds = w.holds; lives = w.lives }

  -- a claim ends, and its handle is in hand
  pub claim_ends : (o d : DeskNow V) (p : Pile V) (cs ds : List (Option (Known V))) (i : ℕ) (c : Known V) → IsWhole o d p cs
      → slice_get cs i ≡ Some (Some c) → ds ≡ slice_set cs i None → IsWholeBeside o d p (c.handle ∷ []) ds
  claim_ends o d p cs ds i c w at gone =
      subst (IsWholeBeside o d p (c.handle ∷ [])) (sym gone) (record {
        opened = w.opened;
        legal = w.legal;
        allowance = w.allowance;
        bears = w.bears;
        holds = holds_in_order d (living cs) (c.handle ∷ living (slice_set cs i None)) (one_less cs i c at) w.holds;
        lives = λ j k got. w.lives j k (lived cs i j k got);
      })

  -- the handle in hand is claimed
  pub claim_begins : (o d : DeskNow V) (p : Pile V) (cs es : List (Option (Known V))) (h : Held) (x : Known V) → IsWholeBeside o d p (h ∷ []) cs
      → es ≡ cs ++ Some x ∷ [] → x ≡ known_now h d → IsWhole o d p es
  claim_begins o d p cs es h x w are is = subst (IsWhole o d p) (sym (are ∙ (λ i. cs ++ Some (is i) ∷ []))) now
    where
      k : Known V
      k = known_now h d

      go : (i : ℕ) (y : Known V) → (slice_get cs i ≡ Some (Some y)) ⊎ (Some k ≡ Some y) → Lives o y d
      go i y (inl was) = w.lives i y was
      go i y (inr new) = subst (λ (z : Known V). Lives o z d) (same_some k y new) (came o d h w.opened)

      now : IsWhole o d p (cs ++ Some k ∷ [])
      now = record {
        opened = w.opened;
        legal = w.legal;
        allowance = w.allowance;
        bears = w.bears;
        holds = holds_in_order d (h ∷ living cs) (living (cs ++ Some k ∷ [])) (one_more cs k) w.holds;
        lives = λ i y got. go i y (stands_behind cs (Some k) i (Some y) got);
      }

  -- a handle comes into the hand
  pub comes : (o d e : DeskNow V) (p q : Pile V) (h : Held) (hs : List Held) (cs : List (Option (Known V))) → IsWholeBeside o d p hs cs
      → Standing d → Later d e → Bears (domain_of o) e q → bag_of e ≡ with_held h (bag_of d) → e.held ≡ d.held + 1 → IsWholeBeside o e q (h ∷ hs) cs
  comes o d e p q h hs cs w stands later bears bag held =
      record {
        opened = goes_then o d e w.opened later.goes;
        legal = legal_on o d e w.opened w.legal later;
        allowance = later.allowance ∙ w.allowance;
        bears = bears;
        holds = holds_more d e h (hs ++ living cs) stands w.holds bag held;
        lives = live_on o d e p hs cs w later;
      }

  -- one goes, and another comes for it
  pub swaps : (o d e : DeskNow V) (p q : Pile V) (x y : Held) (hs : List Held) (cs : List (Option (Known V))) → IsWholeBeside o d p (x ∷ hs) cs
      → Standing d → Later d e → Bears (domain_of o) e q → bag_of e ≡ with_held y (without_held x (bag_of d)) → e.held ≡ d.held
      → IsWholeBeside o e q (y ∷ hs) cs
  swaps o d e p q x y hs cs w stands later bears bag held =
      record {
        opened = goes_then o d e w.opened later.goes;
        legal = legal_on o d e w.opened w.legal later;
        allowance = later.allowance ∙ w.allowance;
        bears = bears;
        holds = holds_swapped d e x y (hs ++ living cs) stands w.holds bag held;
        lives = live_on o d e p (x ∷ hs) cs w later;
      }

  -- one leaves the hand
  pub leaves : (o d e : DeskNow V) (p q : Pile V) (h : Held) (hs : List Held) (cs : List (Option (Known V))) → IsWholeBeside o d p (h ∷ hs) cs
      → Later d e → Bears (domain_of o) e q → bag_of e ≡ without_held h (bag_of d) → e.held + 1 ≡ d.held → IsWholeBeside o e q hs cs
  leaves o d e p q h hs cs w later bears bag held =
      record {
        opened = goes_then o d e w.opened later.goes;
        legal = legal_on o d e w.opened w.legal later;
        allowance = later.allowance ∙ w.allowance;
        bears = bears;
        holds = holds_less d e h (hs ++ living cs) w.holds bag held;
        lives = live_on o d e p (h ∷ hs) cs w later;
      }

  -- one leaves the hand by two calls, and what else is held is of the object that it was of
  pub leaves_then : (o d m e : DeskNow V) (p q : Pile V) (h : Held) (hs : List Held) (cs : List (Option (Known V))) → IsWholeBeside o d p (h ∷ hs) cs
      → Later d m → Later m e → KeepsHeld d e → Bears (domain_of o) e q → bag_of e ≡ without_held h (bag_of d) → e.held + 1 ≡ d.held
      → IsWholeBeside o e q hs cs
  leaves_then o d m e p q h hs cs w one two still bears bag held =
      let goes = goes_then d m e one.goes two.goes in let holds = holds_less d e h (hs ++ living cs) w.holds bag held in
      record {
        opened = goes_then o d e w.opened goes;
        legal = legal_on o m e (goes_then o d m w.opened one.goes) (legal_on o d m w.opened w.legal one) two;
        allowance = two.allowance ∙ (one.allowance ∙ w.allowance);
        bears = bears;
        holds = holds;
        lives = λ i c at.
            lives_still o c d e (w.lives i c at) goes still
            (holds_each e c.handle (hs ++ living cs) holds (has_behind c.handle hs (living cs) (held_of cs i c at)));
      }

  -- the same by its own events
  pub leaves_by : {own : List (Event V)} (o d e : DeskNow V) (p q : Pile V) (h : Held) (hs : List Held) (cs : List (Option (Known V)))
      → IsWholeBeside o d p (h ∷ hs) cs → Goes d own e → allowance_of e ≡ allowance_of d → KeepsHeld d e → Bears (domain_of o) e q
      → bag_of e ≡ without_held h (bag_of d) → e.held + 1 ≡ d.held → IsWholeBeside o e q hs cs
  leaves_by {own} o d e p q h hs cs w goes allowance still bears bag held =
      let on = goes_by d own e goes in let holds = holds_less d e h (hs ++ living cs) w.holds bag held in
      record {
        opened = goes_then o d e w.opened on;
        legal = subst (λ (k : Shape). IsLegal (opening_of k) e.seen) w.opened.same.1
            (goes.legal (subst (λ (k : Shape). IsLegal (opening_of k) d.seen) (sym w.opened.same.1) w.legal));
        allowance = allowance ∙ w.allowance;
        bears = bears;
        holds = holds;
        lives = λ i c at.
            lives_still o c d e (w.lives i c at) on still
            (holds_each e c.handle (hs ++ living cs) holds (has_behind c.handle hs (living cs) (held_of cs i c at)));
      }

  -- what ends is on the pile
  pub bears_on : (o d e : DeskNow V) (p : Pile V) (hs : List Held) (cs : List (Option (Known V))) → IsWholeBeside o d p hs cs → Keeps d e
      → Bears (domain_of o) e p
  bears_on o d e p hs cs w keeps = bears_kept (domain_of o) d e p w.bears keeps.domain keeps.shape keeps.endings keeps.count

  pub bears_more : (o : DeskNow V) (y : DomainNow) (d e : DeskNow V) (p q : Pile V) (hs : List Held) (cs : List (Option (Known V)))
      → IsWholeBeside o d p hs cs → Belongs o y → Carries y e q → KeepsElsewhere d p.endings.items e q.endings.items → Bears (domain_of o) e q
  bears_more o y d e p q hs cs w same carries elsewhere =
      bears_after (domain_of o) d e p q w.bears (subst (λ (x : DomainNow). Carries x e q) (λ i. record {
        id = sym same.table i;
        shape = sym same.shape i;
      }) carries) elsewhere

  -- an empty handle comes into the hand
  pub comes_empty : (o d e : DeskNow V) (p : Pile V) (h : Held) (hs : List Held) (cs : List (Option (Known V))) → IsWholeBeside o d p hs cs
      → Standing d → e ≡ counting (d.held + 1) d → block_of h ≡ None → IsWholeBeside o e p (h ∷ hs) cs
  comes_empty o d e p h hs cs w stands is none =
      let c = counting (d.held + 1) d in
      subst (λ (x : DeskNow V). IsWholeBeside o x p (h ∷ hs) cs) (sym is)
      (comes o d c p p h hs cs w stands (by_count d (d.held + 1))
      (bears_kept (domain_of o) d c p w.bears refl refl (λ b x ends. record {
        ends = record { phase = ends.phase; kept = ends.kept };
        shape = refl;
        members = λ m. refl;
      }) refl)
      (sym (empty_bag h (bag_of d) none)) refl)

  -- and the pile is of the domain
  pub carries_here : (o : DeskNow V) (y : DomainNow) (d : DeskNow V) (p : Pile V) (hs : List Held) (cs : List (Option (Known V)))
      → IsWholeBeside o d p hs cs → Belongs o y → Carries y d p
  carries_here o y d p hs cs w same =
      subst (λ (x : DomainNow). Carries x d p) (λ i. record { id = same.table i; shape = same.shape i }) w.bears.carries

  pub bears_same : (o d e : DeskNow V) (p : Pile V) (hs : List Held) (cs : List (Option (Known V))) → IsWholeBeside o d p hs cs
      → IsSameDesk d e → KeepsEndings d e → endings_of e ≡ endings_of d → Bears (domain_of o) e p
  bears_same o d e p hs cs w same keeps count = bears_kept (domain_of o) d e p w.bears same.domain same.shape keeps count

  -- a pile that is as it was
  pub bears_pile : (y : DomainNow) (d : DeskNow V) (p q : Pile V) → Bears y d p → q.endings.items ≡ p.endings.items
      → vec_capacity q.endings ≡ vec_capacity p.endings → Bears y d q
  bears_pile y d p q bears are room =
      record {
        carries = record {
          belongs = bears.carries.belongs;
          ends = subst (AllEnd d) (sym are) bears.carries.ends;
          room = subst (λ k. y.shape.blocks ≤ k) (sym room) bears.carries.room;
        };
        many = ap length are ∙ bears.many;
      }

  -- it has room for all that is on it
  pub room_there : (o d : DeskNow V) (p : Pile V) (hs : List Held) (cs : List (Option (Known V))) → IsWholeBeside o d p hs cs → Standing d
      → length p.endings.items ≤ vec_capacity p.endings
  room_there o d p hs cs w stands =
      let carries = w.bears.carries in
      fits (domain_of o) d p.endings.items (vec_capacity p.endings) stands carries.belongs.shape carries.room carries.ends
