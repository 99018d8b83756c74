-- Vacant blocks of a desk, and what is left to end with it.
use Rattle.std.proofs.Common.{◌≡◌, ℕ, ◌-◌, ◌≤◌, min, ◌⊎◌, List, [], length, IfNone, Some, None}
use Rattle.std.proofs.Common.{Option, sym, ap, ◌∙◌, subst, inl, inr, arith}
use Rattle.pointers.proofs.Prelude.{Bears, Belongs, DeskNow, domain_of, DomainNow, Fills}
use Rattle.pointers.proofs.Prelude.{IsWhole, Known, Later, Pile, ShelvesAll, stock_of}
use Rattle.control_block.specs.Shelf.{Shelved, Unshelved}
use Rattle.pointers.specs.Blocks.{Settles, SinceOpened}

module _ {V : Type 0} where
  -- since the desk was opened it did what it does now
  pub since_opened : {Does : DeskNow V → DeskNow V → Type 0} (o d e : DeskNow V) (p : Pile V) (cs : List (Option (Known V))) → IsWhole o d p cs
      → Does d e → SinceOpened o Does
  since_opened o d e p cs w does = record { before = d; after = e; goes = w.opened; does = does }

  pub shelves_all : (n k : ℕ) (d e : DeskNow V) → Shelved n d e → n ≡ min k (length (stock_of d)) → k ≡ length (stock_of d) → ShelvesAll n d e
  shelves_all n k d e s is all = let left = s.stock in record { shelves = s; none = omega (arith, left, is, all) }

  pub fills : (n k : ℕ) (d e : DeskNow V) → k ≡ 2 - length (stock_of d) → n ≤ k → Unshelved n d e → Fills n d e
  fills n k d e is most s = record { takes = s; few = subst (λ (m : ℕ). n ≤ m) is most }

  -- where nothing is on the pile nothing is left to end with the desk
  pub none_left : (o d e : DeskNow V) (p q : Pile V) (cs : List (Option (Known V))) (v : Option V) (rounds : ℕ) → IsWhole o d p cs → Later d e
      → Bears (domain_of o) e q → IfNone v ((rounds ≡ 0) ⊎ (q.endings.items ≡ [])) → IfNone v ((rounds ≡ 0) ⊎ SinceOpened o Settles)
  none_left o d e p q cs (Some v) rounds w later bears none = tt
  none_left o d e p q cs None rounds w later bears (inl over) = inl over
  none_left o d e p q cs None rounds w later bears (inr empty) =
      inr (since_opened {Does = Settles} o d e p cs w (record { goes = later.goes; none = sym bears.many ∙ ap length empty }))

  -- of the domain by its own name
  pub bears_here : (o d : DeskNow V) (y : DomainNow) (p : Pile V) → Belongs o y → Bears (domain_of o) d p → Bears y d p
  bears_here o d y p here bears = subst (λ (x : DomainNow). Bears x d p) (λ i. record { id = here.table i; shape = here.shape i }) bears
