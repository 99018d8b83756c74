-- What is true between calls stays so, as handles come and leave.
use Rattle.std.proofs.Common.{◌≡◌, ℕ, ◌+◌, ◌⊎◌, List, [], ◌∷◌, ◌++◌, length, slice_get, slice_set}
use Rattle.std.proofs.Common.{Some, None, Option, sym, refl, ap, ◌∙◌, subst, inl, inr, arith}
use Rattle.pointers.proofs.Prelude.{AllLive, AreIn, bag_of, Bears, Block, block_of, DeskNow}
use Rattle.pointers.proofs.Prelude.{domain_of, GoesOn, Held, holds_each, holds_in_order}
use Rattle.pointers.proofs.Prelude.{holds_less, holds_more, HoldsAll, IsHeldByDesk, IsWhole}
use Rattle.pointers.proofs.Prelude.{KeepsObject, Known, known_now, Later, latest_of, listed, Lives}
use Rattle.pointers.proofs.Prelude.{living, Pile, Shape, Standing, with_held, without_held}
use Rattle.pointers.proofs.Later.{goes_then, legal_on, lives_on}
use Rattle.pointers.proofs.Living.{held_of, lived, one_less, one_more, same_some, stands_behind}

module _ {V : Type 0} where
  -- the handle of a claim that lives is the desk's
  pub has : (o : DeskNow V) (d : DeskNow V) (p : Pile V) (cs : List (Option (Known V))) (i : ℕ) (c : Known V) → IsWhole o d p cs
      → slice_get cs i ≡ Some (Some c) → IsHeldByDesk d c.handle
  has o d p cs i c w e = holds_each d c.handle (living cs) w.holds (held_of cs i c e)

  held_alike : (d e : DeskNow V) (hs : List Held) → HoldsAll d hs → bag_of e ≡ bag_of d → e.held ≡ d.held → HoldsAll e hs
  held_alike d e hs holds bag held =
      record {
        objects = subst (AreIn (listed hs)) (sym bag) holds.objects;
        empty = let a = holds.empty in let b = ap length bag in omega arith;
      }

  all_on : (o : DeskNow V) (d e : DeskNow V) (cs : List (Option (Known V))) → AllLive o cs d → HoldsAll d (living cs) → Later d e → AllLive o cs e
  all_on o d e cs live holds later i c at = lives_on o c d e (live i c at) later (holds_each d c.handle (living cs) holds (held_of cs i c at))

  alike_object : (o d : DeskNow V) (b : Option Block) → d.shape ≡ o.shape → KeepsObject b (record o { seen = d.seen }) d
  alike_object o d None same = tt
  alike_object o d (Some b) same = ap (λ (k : Shape). latest_of (record d { shape = k }) b.0) same

  -- a handle that has just come lives
  pub came : (o d : DeskNow V) (h : Held) → GoesOn o d → Lives o (known_now h d) d
  came o d h goes =
      record {
        goes = record { same = goes.same; later = []; seen = refl };
        object = alike_object o d (block_of h) goes.same.1;
      }

  -- no handle came or left
  pub whole_still : (o : DeskNow V) (d e : DeskNow V) (p q : Pile V) (cs : List (Option (Known V))) → IsWhole o d p cs → Later d e → Bears (domain_of o) e q
      → bag_of e ≡ bag_of d → e.held ≡ d.held → IsWhole o e q cs
  whole_still o d e p q cs w later bears bag held =
      record {
        opened = goes_then o d e w.opened later.goes;
        legal = legal_on o d e w.opened w.legal later;
        allowance = later.allowance ∙ w.allowance;
        bears = bears;
        holds = held_alike d e (living cs) w.holds bag held;
        lives = all_on o d e cs w.lives w.holds later;
      }

  -- one came
  pub whole_more : (o : DeskNow V) (d e : DeskNow V) (p q : Pile V) (cs : List (Option (Known V))) (c : Known V) → IsWhole o d p cs → Standing d → Later d e
      → Bears (domain_of o) e q → bag_of e ≡ with_held c.handle (bag_of d) → e.held ≡ d.held + 1 → c ≡ known_now c.handle e → IsWhole o e q (cs ++ Some c ∷ [])
  whole_more o d e p q cs c w stands later bears bag held at =
      record {
        opened = goes_then o d e w.opened later.goes;
        legal = legal_on o d e w.opened w.legal later;
        allowance = later.allowance ∙ w.allowance;
        bears = bears;
        holds = holds_in_order e (c.handle ∷ living cs) (living (cs ++ Some c ∷ [])) (one_more cs c)
            (holds_more d e c.handle (living cs) stands w.holds bag held);
        lives = λ i k got. go i k (stands_behind cs (Some c) i (Some k) got);
      }
    where
      go : (i : ℕ) (k : Known V) → (slice_get cs i ≡ Some (Some k)) ⊎ (Some c ≡ Some k) → Lives o k e
      go i k (inl was) = all_on o d e cs w.lives w.holds later i k was
      go i k (inr new) = subst (λ (x : Known V). Lives o x e) (sym at ∙ same_some c k new) (came o e c.handle (goes_then o d e w.opened later.goes))

  -- one left
  pub whole_less : (o : DeskNow V) (d e : DeskNow V) (p q : Pile V) (cs : List (Option (Known V))) (i : ℕ) (c : Known V) → IsWhole o d p cs
      → slice_get cs i ≡ Some (Some c)
      → Later d e → Bears (domain_of o) e q → bag_of e ≡ without_held c.handle (bag_of d) → e.held + 1 ≡ d.held → IsWhole o e q (slice_set cs i None)
  whole_less o d e p q cs i c w at later bears bag held =
      record {
        opened = goes_then o d e w.opened later.goes;
        legal = legal_on o d e w.opened w.legal later;
        allowance = later.allowance ∙ w.allowance;
        bears = bears;
        holds = holds_less d e c.handle (living (slice_set cs i None))
            (holds_in_order d (living cs) (c.handle ∷ living (slice_set cs i None)) (one_less cs i c at) w.holds) bag held;
        lives = λ j k got. all_on o d e cs w.lives w.holds later j k (lived cs i j k got);
      }
