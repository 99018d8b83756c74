-- A line that was written, or a beginning of it.
use Rattle.std.proofs.Common.{◌≡◌, ℕ, Bool, true, List, Option, Result, Ok, Err, sym, subst, ◌∙◌}
use Rattle.std.specs.Prelude.{is_err}
use Rattle.script_stepper.specs.Sinks.{IsWritten}
use Rattle.sptr.specs.Serving.{IsReported, IsTaken, report}

is_taken : {A E : Type 0} (r : Result A E) (text : List ℕ) (old new : Option (List ℕ))
    (has_failed : Bool) → has_failed ≡ is_err r
    → IsWritten text r old new → IsTaken has_failed text old new
is_taken (Ok x) text old new has_failed e h = subst (λ (b : Bool). IsTaken b text old new) (sym e) h
is_taken (Err x) text old new has_failed e h =
    subst (λ (b : Bool). IsTaken b text old new) (sym e) h

pub is_reported : {A E : Type 0} (r : Result A E) (line : List ℕ) (old : Option (List ℕ))
    (had_failed : Bool) (new : Option (List ℕ))
    (has_failed : Bool) → IsWritten line r old new → has_failed ≡ is_err r
    → (had_failed ≡ true → (new ≡ old) × (has_failed ≡ true))
    → IsReported line (report old had_failed new has_failed)
is_reported r line old had_failed new has_failed h e kept = record {
  takes = is_taken r line old new has_failed e h;
  nothing = λ was. let k = kept was in (k.0, k.1 ∙ sym was);
}
