-- What is said of jobs that all run or none, each in a thread of its own.
use Rattle.std.specs.Prelude.{◌≡◌, ℕ, Bool, IfErr, IfOk, Result, true, false}
use Rattle.std.specs.declared.thread.PromisedHandle.{PromisedHandle}
use Rattle.thread_jobs.specs.declared.jobs.Back.{Back}
use Rattle.thread_jobs.specs.declared.jobs.Before.{Before}

-- a job ran where all did, and is what it was where none did
abbrev pub Keeps : {J : Type 0} → (J → J → Type 0) → Bool → J → J → Type 0
Keeps does all j k = (all ≡ true → does j k) × (all ≡ false → k ≡ j)

-- a job has a thread that waits for the signal of this number, or is back since it has none
abbrev pub IsStarted : {J R : Type 0} → (J → J → Type 0) → ℕ → J
    → Result (PromisedHandle (Back J) (Before J R)) (Back J) → Type 0
IsStarted does n j s = IfOk s (λ h. (h.promise.signal.now.id ≡ n) × (h.promise.job.value ≡ j))
    × IfErr s (λ b. (b.all.of ≡ n) × Keeps does b.all.value j b.job.value)
