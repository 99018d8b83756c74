use Rattle.std.proofs.Common.{◌≡◌, ℕ, List, IfOk, IfErr, slice_get, Some, None, Ok, Err, Option}
use Rattle.std.proofs.Common.{Result, sym, refl, subst}
use Rattle.pointers.proofs.Prelude.{Block, block_of, DeskNow, Held, IsVisit, IsWhole, Known, Null}
use Rattle.pointers.proofs.Prelude.{Pile, Place, place_of, Refused, Since}
use Rattle.pointers.proofs.Calls.{by_visit}
use Rattle.pointers.proofs.Handles.{alike, bears_by, owner_held, since}
use Rattle.pointers.proofs.context.Context.visit.Goals as goal

pub visit-requires-clause-holds : goal.visit-requires-clause-holds
visit-requires-clause-holds g c =
    owner_held g.D.Domain.opened c.self.inside.desk c.self.inside.pile c.self.inside.claims.entries c.args.of.now.at c.args.of.now.known c.look-of.result.now
    c.self.invariant c.look-of.ensures.has c.look-of.ensures.handle

pub invariant_of-self : goal.invariant_of-self
invariant_of-self g c =
    let o = g.D.Domain.opened in let d = c.self.inside.desk in let e = c.visit.new.desk in let p = c.self.inside.pile in
    let cs = c.self.inside.claims.entries in
    let of = c.look-of.result.now in let says = c.visit.ensures in
    alike o d e p p cs c.look-of.new.claims.entries c.self.invariant (by_visit _ c.args.f d of.block of.place _ e says.visit)
    (bears_by o d e p cs c.self.invariant says.keeps)
    says.bag says.held c.look-of.ensures.claims

module _ {V R F : Type 0} (changes : V → R → V → Type 0) (f : F) (d : DeskNow V) (r : Result R (Refused F)) (e : DeskNow V) where
  -- the same visit, of the same handle
  same_visit : (h k : Held) → h ≡ k → IsVisit changes f d (block_of h) (place_of h) r e → IsVisit changes f d (block_of k) (place_of k) r e
  same_visit h k is = subst (λ (x : Held). IsVisit changes f d (block_of x) (place_of x) r e) is

  -- a visit is refused where there is no object
  not_visited : (b : Option Block) (p : Option Place) → IsVisit changes f d b p r e → IfErr r (λ (x : Refused F). (x.why ≡ Null) × (b ≡ None))
  not_visited b p is = go r b is
    where
      go : (s : Result R (Refused F)) (b : Option Block) → IsVisit changes f d b p s e → IfErr s (λ (x : Refused F). (x.why ≡ Null) × (b ≡ None))
      go (Ok a) b is = _
      go (Err x) None is = (is.0, refl)
      go (Err x) (Some b) is = elim is [ ]

  -- a visit that was done, was done since
  done_since : (o : DeskNow V) (q : Pile V) (cs : List (Option (Known V))) (i : ℕ) (c : Known V) (b : Option Block) (p : Option Place) → IsWhole o d q cs
      → slice_get cs i ≡ Some (Some c) → IsVisit changes f d b p r e → IfOk r (λ (a : R). Since o c (λ d e. IsVisit changes f d b p (Ok a) e))
  done_since o q cs i c b p w at is = go r is
    where
      go : (s : Result R (Refused F)) → IsVisit changes f d b p s e → IfOk s (λ (a : R). Since o c (λ d e. IsVisit changes f d b p (Ok a) e))
      go (Ok a) is = since o d e q cs i c w at is
      go (Err x) is = _

pub returns-clause-visit : goal.returns-clause-visit
returns-clause-visit g c =
    let d = c.self.inside.desk in let e = c.visit.new.desk in let known = c.args.of.now.known in
    done_since _ _ d c.visit.result e _ _ _ _ known _ _ c.self.invariant c.look-of.ensures.has
    (same_visit _ _ d c.visit.result e _ _ (sym c.look-of.ensures.handle) c.visit.ensures.visit)

pub returns-clause-refused : goal.returns-clause-refused
returns-clause-refused g c =
    let d = c.self.inside.desk in let e = c.visit.new.desk in
    not_visited _ _ d c.visit.result e _ _ (same_visit _ _ d c.visit.result e _ _ (sym c.look-of.ensures.handle) c.visit.ensures.visit)
