-- A walk goes on by one index.
use Rattle.std.proofs.Common.{◌≡◌, ◌+◌, ◌≤◌, ℕ, add-one, arith, inl, inr, subst, sym}
use Rattle.std.proofs.Common.{Option, None, Some, Result, Ok, Err, Bor}
use Rattle.std.specs.Fn.{CalledAt, Mut}
use Rattle.pointers.specs.declared.fault.Fault.{Fault}
use Rattle.pointers.specs.declared.known.Known.{Known}
use Rattle.shared_vec.specs.Refusals.{WhyNotFound}
use Rattle.shared_vec.specs.Walks.{Shows, ShowsAll, Tells, WhyEnded}

module _ {V E F A : Type 0} (Finds : ℕ → Option (Known V) → Type 0) (Is : Known V → E → Type 0)
    (g : Mut F (Bor E × Unit {0}) (Result A Fault)) where
  pub tells : (n : ℕ) (m h : F) (got : Option (Known V)) (pointer : Known V) (e : E) (answer : Result A Fault)
      → Finds n got → got ≡ Some pointer → Is pointer e → CalledAt g m e answer h → Tells Finds Is g n m answer h
  tells n m h got pointer e answer found some is called = record {
    pointer = pointer;
    found = subst (Finds n) some found;
    element = e;
    is = is;
    called = called;
  }

module _ {V E F : Type 0} (Finds : ℕ → Option (Known V) → Type 0) (Is : Known V → E → Type 0)
    (g : Mut F (Bor E × Unit {0}) (Result (Unit {0}) Fault)) where
  pub shows_on : (n : ℕ) (f m h : F) → Shows Finds Is g n f m → Tells Finds Is g n m (Ok tt) h
      → Shows Finds Is g (n + 1) f h
  shows_on n f m h shows told = subst (λ (k : ℕ). Shows Finds Is g k f h) (sym (add-one n)) (m, shows, told)

  pub shows_none : (n : ℕ) (f m : F) (got : Option (Known V)) → Shows Finds Is g n f m → Finds n got → got ≡ None
      → ShowsAll Finds Is g f
  shows_none n f m got shows found none = (n, m, shows, inl (subst (Finds n) none found))

  pub shows_last : (n : ℕ) (f m : F) → Shows Finds Is g n f m → n ≤ 18446744073709551615
      → 18446744073709551615 ≤ n → ShowsAll Finds Is g f
  shows_last n f m shows most over = (n, m, shows, inr (omega (arith, most, over)))

  pub not_found : (n : ℕ) (f m : F) (why : Fault) → Shows Finds Is g n f m → WhyNotFound why
      → WhyEnded Finds Is g f why
  not_found n f m why shows not = (n, m, shows, inl not)

  pub stopped : (n : ℕ) (f m h : F) (why : Fault) → Shows Finds Is g n f m → Tells Finds Is g n m (Err why) h
      → WhyEnded Finds Is g f why
  stopped n f m h why shows told = (n, m, shows, inr (h, told))
