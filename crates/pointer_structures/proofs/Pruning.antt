-- A `prune` is a `retain` that asks whether subjects have owners.
use Rattle.std.proofs.Common.{◌≡◌, ap, inl, inr, IfErr, IfOk}
use Rattle.std.specs.Prelude.{Bool, false, Result, Ok, Err, List, [], ◌∷◌, ℕ, Option, None, Some}
use Rattle.std.specs.Fn.{CalledAt, Mut}
use denote.Ref.{Bor}
use Rattle.control_block.specs.Desks.{DeskNow}
use Rattle.pointers.specs.ListRemovals.{Judges, Retains, Sifted, Sifts, WhyNotRetained, next_if}
use Rattle.pointers.specs.Lists.{IsMemberRefused}
use Rattle.pointers.specs.Sites.{Site}
use Rattle.pointers.specs.declared.fault.Fault.{Fault}
use Rattle.pointers.specs.declared.fault.Fault.TheVariants.{Busy}
use Rattle.pointers.specs.declared.fault.call.Call.TheVariants.{Expired}
use Rattle.pointers.specs.declared.known.Known.{Known}
use Rattle.pointer_structures.specs.Prunes.{Asks, IsAlive, IsKept, Prunes, Watched, WhyNotPruned}

abbrev answer_of : Result Bool Fault → Bool
answer_of (Ok b) = b
answer_of (Err why) = false

module _ {V F : Type 0} (o : DeskNow V) (g : Mut F (Bor (Known V) × Unit {0}) (Result Bool Fault)) where
  -- what each call says
  abbrev pub Says : Type 0
  Says = (f : F) (w : Known V) (alive : Bool) (h : F) → CalledAt g f w (Ok alive) h → IsAlive o w alive

  abbrev pub Tells : Type 0
  Tells = (f : F) (w : Known V) (why : Fault) (h : F) → CalledAt g f w (Err why) h → why ≡ Busy Expired

  kept_by : Says → (f h : F) (c : Known V) (x : Option (Known V)) (kept : Bool) → Judges (Watched o) g f c x (Ok kept) h
      → Watched o c x × IsKept o x kept
  kept_by says f h c None kept judges = (judges.0, ap answer_of judges.1)
  kept_by says f h c (Some w) kept judges = (judges.0, says f w kept h judges.1)

  asks : Says → (l s t : Site V) (f h : F) (xs : List (Sifted (Known V)))
      → Sifts o (Watched o) (IsMemberRefused o) g l s f xs t h → Asks o l s xs t
  asks says l s t f h [] sifts = sifts.0
  asks says l s t f h (x ∷ xs) (c, m, leads, judges, out, rest) =
      let kept = kept_by says f m c x.element x.kept judges in
      (c, leads, kept.0, kept.1, out, asks says l (next_if x.kept c s) t m h xs rest)

  pub prunes : Says → (s : Site V) (f : F) (r : Result ℕ Fault)
      → IfOk r (Retains o (Watched o) (IsMemberRefused o) g s f) → IfOk r (Prunes o s)
  prunes says s f (Err why) is = tt
  prunes says s f (Ok n) retains = record {
    observers = retains.elements;
    at = retains.at;
    asks = asks says s s retains.at f retains.last retains.elements retains.sifts;
    ends = retains.ends;
    many = retains.many;
  }

  fails_by : Tells → (f h : F) (c : Known V) (x : Option (Known V)) (why : Fault) → Judges (Watched o) g f c x (Err why) h
      → why ≡ Busy Expired
  fails_by tells f h c None why judges = absurd (cc judges.1)
  fails_by tells f h c (Some w) why judges = tells f w why h judges.1

  pub not_pruned : Tells → (s : Site V) (f : F) (r : Result ℕ Fault)
      → IfErr r (WhyNotRetained o (Watched o) (IsMemberRefused o) g s f) → IfErr r (WhyNotPruned o s)
  not_pruned tells s f (Ok n) is = tt
  not_pruned tells s f (Err why) (inl fails) =
      inl (fails_by tells fails.before fails.after fails.node fails.element why fails.judged)
  not_pruned tells s f (Err why) (inr not) = inr not
