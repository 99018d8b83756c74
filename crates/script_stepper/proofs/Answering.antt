-- One script and one list have one answer.
use Rattle.std.proofs.Common.{◌≡◌, ℕ, List, length, IfOk, IfErr, Ok, Err, string_bytes, Option}
use Rattle.std.proofs.Common.{Result, String, sym, refl, ap, ◌∙◌, subst, inl, inr}
use Rattle.script_stepper.proofs.Prelude.{BadTurn, Fault, Input, Output, ScriptView, Syntax}
use Rattle.script_text.specs.declared.fault.Cause.{Cause}
use Rattle.script_text.specs.declared.fault.Fault.TheVariants.{Memory}
use Rattle.script_text.specs.Grammar.{Faulty, IsUnlessMemory, ReadsAs}
use Rattle.script_text.proofs.OneReading.{faulty_answer, reads_answer}
use Rattle.script_stepper.specs.Runs.{Delivers, IsScriptRun, TellsRun, WritesOne, text_in}
use Rattle.script_stepper.specs.TurnLists.{list_at}

same_script : (bytes : List ℕ) (s t : ScriptView) → ReadsAs bytes s → ReadsAs bytes t → s ≡ t
same_script bytes s t h k = elim (reads_answer (Ok s) bytes t h k) [ inl e ↦ cc | inr e ↦ absurd cc ]

pub not_both : (bytes : List ℕ) (s : ScriptView) (line : ℕ) (cause : Cause) → ReadsAs bytes s → Faulty bytes line cause → ⊥
not_both bytes s line cause h f = elim (faulty_answer (Ok s) bytes line cause h f) [ inl e ↦ cc | inr e ↦ cc ]

pub same_fault : (bytes : List ℕ) (l line : ℕ) (c cause : Cause) → Faulty bytes l c → Faulty bytes line cause → Syntax l c ≡ Syntax line cause
same_fault bytes l line c cause h f = elim (faulty_answer (Err (Syntax l c)) bytes line cause h f) [ inl e ↦ cc | inr e ↦ absurd cc ]

read_list : (bytes list : List ℕ) (s t : ScriptView) (x y : Result (List ℕ) ℕ) → ReadsAs bytes s → ReadsAs bytes t
    → list_at (length s.threads) list ≡ x
    → list_at (length t.threads) list ≡ y → x ≡ y
read_list bytes list s t x y h k p q = sym p ∙ ap (λ (u : ScriptView). list_at (length u.threads) list) (same_script bytes s t h k) ∙ q

-- which texts a run of a script with some turns may have
module _ (IsText : ScriptView → List ℕ → List ℕ → Type 0) where
  pub steps_syntax : {A : Type 0} (bytes list : List ℕ) (r : Result A Fault) (old new : Option (List ℕ)) (line : ℕ) (cause : Cause)
      → Delivers (TellsRun IsText bytes list) r old new
      → Faulty bytes line cause → IsUnlessMemory r (Err (Syntax line cause))
  steps_syntax bytes list (Ok x) old new line cause h f = absurd (not_both bytes h.1.script line cause h.1.reads f)
  steps_syntax bytes list (Err Memory) old new line cause h f = inr refl
  steps_syntax {A} bytes list (Err (Syntax l c)) old new line cause h f =
      let wrap : Fault → Result A Fault = λ e. Err e in inl (ap wrap (same_fault bytes l line c cause h.0 f))
  steps_syntax bytes list (Err (BadTurn p)) old new line cause h f = absurd (not_both bytes h.0.script line cause h.0.reads f)
  steps_syntax bytes list (Err Output) old new line cause h f = absurd (not_both bytes h.1.script line cause h.1.reads f)
  steps_syntax bytes list (Err Input) old new line cause h f = absurd h.0

  run_or_fault : (bytes list text : List ℕ) (t : ScriptView) (position : ℕ) → IsScriptRun IsText bytes list text → ReadsAs bytes t
      → list_at (length t.threads) list ≡ Err position → ⊥
  run_or_fault bytes list text t position run k e =
      let both = read_list bytes list run.script t (Ok run.turns) (Err position) run.reads k run.listed e in cc

  pub steps_turns : {A : Type 0} (bytes list : List ℕ) (r : Result A Fault) (old new : Option (List ℕ)) (t : ScriptView) (position : ℕ)
      → Delivers (TellsRun IsText bytes list) r old new
      → ReadsAs bytes t → list_at (length t.threads) list ≡ Err position → IsUnlessMemory r (Err (BadTurn position))
  steps_turns bytes list (Ok x) old new t position h k e = absurd (run_or_fault bytes list h.0 t position h.1 k e)
  steps_turns bytes list (Err Memory) old new t position h k e = inr refl
  steps_turns bytes list (Err (Syntax l c)) old new t position h k e = absurd (not_both bytes t l c k h.0)
  steps_turns {A} bytes list (Err (BadTurn p)) old new t position h k e =
      let both = read_list bytes list h.0.script t (Err p) (Err position) h.0.reads k h.0.faulty e in
      let same : p ≡ position = cc in
      let wrap : ℕ → Result A Fault = λ n. Err (BadTurn n) in
      inl (ap wrap same)
  steps_turns bytes list (Err Output) old new t position h k e = absurd (run_or_fault bytes list h.0 t position h.1 k e)
  steps_turns bytes list (Err Input) old new t position h k e = absurd h.0

  -- the run that was told is one of the script and the turns that are read
  same_run : (bytes list text : List ℕ) (t : ScriptView) (turns : List ℕ) → IsScriptRun IsText bytes list text → ReadsAs bytes t
      → list_at (length t.threads) list ≡ Ok turns → IsText t turns text
  same_run bytes list text t turns run k e =
      let both = read_list bytes list run.script t (Ok run.turns) (Ok turns) run.reads k run.listed e in
      let same : run.turns ≡ turns = cc in
      subst (λ (s : ScriptView). IsText s turns text) (same_script bytes run.script t run.reads k)
      (subst (λ (us : List ℕ). IsText run.script us text) same run.says)

  pub steps_runs : {A : Type 0} (bytes list : List ℕ) (r : Result A Fault) (old new : Option (List ℕ)) (t : ScriptView) (turns : List ℕ)
      → Delivers (TellsRun IsText bytes list) r old new
      → ReadsAs bytes t → list_at (length t.threads) list ≡ Ok turns → WritesOne (IsText t turns) r old new
  steps_runs bytes list (Ok x) old new t turns h k e = (h.0, same_run bytes list h.0 t turns h.1 k e, h.2)
  steps_runs bytes list (Err Memory) old new t turns h k e = h
  steps_runs bytes list (Err (Syntax l c)) old new t turns h k e = not_both bytes t l c k h.0
  steps_runs bytes list (Err (BadTurn p)) old new t turns h k e =
      let both = read_list bytes list h.0.script t (Err p) (Ok turns) h.0.reads k h.0.faulty e in cc
  steps_runs bytes list (Err Output) old new t turns h k e = (h.0, same_run bytes list h.0 t turns h.1 k e, h.2)
  steps_runs bytes list (Err Input) old new t turns h k e = h.0

  -- the text of a run, as far as there is memory
  pub tells_run : {A : Type 0} (bytes list : List ℕ) (s : ScriptView) (turns given : List ℕ) (threads : ℕ) (r : Result (String A) Fault)
      → ReadsAs bytes s → threads ≡ length s.threads
      → given ≡ turns → list_at threads list ≡ Ok turns → IfOk r (λ text. IsText s given (string_bytes text)) → IfErr r
      (λ fault. fault ≡ Memory) → TellsRun IsText bytes list (text_in r)
  tells_run bytes list s turns given threads (Ok text) h n g e ok err =
      record {
        script = s;
        turns = turns;
        reads = h;
        listed = ap (λ (k : ℕ). list_at k list) (sym n) ∙ e;
        says = subst (λ (us : List ℕ). IsText s us (string_bytes text)) g ok;
      }
  tells_run bytes list s turns given threads (Err f) h n g e ok err = subst (λ (x : Fault). TellsRun IsText bytes list (Err x)) (sym err) tt
