-- Forks of an order, where several threads have an act left, and what leads to one.
use Rattle.std.proofs.Common.{◌≡◌, ℕ, zero, suc, ◌+◌, ◌<◌, ◌≤◌, ◌==◌, true, false, List, [], ◌∷◌, ◌++◌, length, All}
use Rattle.std.proofs.Common.{ap, ap₂, append_assoc, arith, get_or, ne_eqb, refl, subst, sym, take, ◌∙◌}
use Rattle.std.proofs.Math.Seq.{take-append_seam}
use Rattle.std.proofs.lemmas.List.{take_all}
use Rattle.std.proofs.lemmas.List.Elements.{All-from_get_or, All-more, All-nil}
use Rattle.script_text.specs.Drafts.{ScriptView}
use Rattle.script_text.specs.Grammar.{ReadsAs}
use Rattle.step_core.specs.Worlds.{WorldState, abstraction}
use Rattle.script_orders.specs.Coverage.{Covers, IsAfter, WasFound, acting_in}
use Rattle.script_orders.specs.Outcomes.{Outcome}
use Rattle.script_orders.proofs.Covering.{CoversBy, covers, covers_each, covers_one, found_text}

-- so does what began with fewer turns
pub covers_back : (script : ScriptView) (old turns now acting : List ℕ) (t d : ℕ) (u : WorldState)
    → ((outcomes : List Outcome) → Covers script outcomes turns → Covers script outcomes old) → IsAfter script turns u
    → acting ≡ acting_in (abstraction u) (length script.threads) → length acting ≡ 1 → t ≡ get_or acting 0 d
    → now ≡ turns ++ t ∷ [] → (outcomes : List Outcome) → Covers script outcomes now → Covers script outcomes old
covers_back script old turns now acting t d u back here is one same more outcomes h =
    back outcomes
    (covers_one script outcomes turns acting t d u here is one same
    (subst (λ (l : List ℕ). Covers script outcomes l) more h))

pub longer_back : (old turns now : List ℕ) (t : ℕ) → (more : List ℕ) × (turns ≡ old ++ more) → now ≡ turns ++ t ∷ []
    → (more : List ℕ) × (now ≡ old ++ more)
longer_back old turns now t h is =
    (h.0 ++ t ∷ [], is ∙ ap (λ (l : List ℕ). l ++ t ∷ []) h.1 ∙ append_assoc old h.0 (t ∷ []))

pub longer_both : (old turns now : List ℕ) → (more : List ℕ) × (turns ≡ old ++ more) → (more : List ℕ) × (now ≡ turns ++ more)
    → (more : List ℕ) × (now ≡ old ++ more)
longer_both old turns now h k =
    (h.0 ++ k.0, k.1 ∙ ap (λ (l : List ℕ). l ++ k.0) h.1 ∙ append_assoc old h.0 k.0)

-- none has
pub covers_end : (bytes : List ℕ) (script : ScriptView) (outcomes : List Outcome) (turns acting : List ℕ) (u : WorldState)
    → ReadsAs bytes script → IsAfter script turns u → acting ≡ acting_in (abstraction u) (length script.threads)
    → length acting ≡ 0 → WasFound bytes (length script.threads) outcomes turns → Covers script outcomes turns
covers_end bytes script outcomes turns acting u reads here is none found =
    covers script outcomes turns u here
    (subst (All (CoversBy script outcomes turns)) is
    (All-from_get_or (CoversBy script outcomes turns) acting 0 (λ i lt. absurd (omega (arith, none, lt)))))
    (λ e items last takes over.
    found_text bytes script outcomes turns (length script.threads) items last reads refl found takes over)

pub some_there : (n : ℕ) → false ≡ (n == 0) → 0 < n
some_there zero e = absurd cc
some_there (suc n) e = omega arith

pub none_there : (n : ℕ) → true ≡ (n == 0) → n ≡ 0
none_there zero e = refl
none_there (suc n) e = let clash : true ≡ false = e ∙ ne_eqb (suc n) 0 (λ q. omega (arith, q)) in absurd cc

-- ---- a fork: of the threads that have an act left the first few were tried

pub record Forks (script : ScriptView) (outcomes : List Outcome) (old turns acting : List ℕ) (count : ℕ) : Type 0 where
  pub world : WorldState
  pub after : IsAfter script turns world
  pub acting_is : acting ≡ acting_in (abstraction world) (length script.threads)
  pub back : Covers script outcomes turns → Covers script outcomes old
  pub longer : (more : List ℕ) × (turns ≡ old ++ more)
  pub tried : All (CoversBy script outcomes turns) (take count acting)

pub forks_none : (script : ScriptView) (outcomes : List Outcome) (old turns acting : List ℕ) (u : WorldState)
    → IsAfter script turns u → acting ≡ acting_in (abstraction u) (length script.threads)
    → (Covers script outcomes turns → Covers script outcomes old) → (more : List ℕ) × (turns ≡ old ++ more)
    → Forks script outcomes old turns acting 0
forks_none script outcomes old turns acting u after is back longer = record {
  world = u;
  after = after;
  acting_is = is;
  back = back;
  longer = longer;
  tried = All-nil (CoversBy script outcomes turns);
}

-- what was put behind the turns goes again
pub restored : (turns now then' : List ℕ) (t n : ℕ) → n ≡ length turns → now ≡ turns ++ t ∷ []
    → (more : List ℕ) × (then' ≡ now ++ more) → take n then' ≡ turns
restored turns now then' t n size is h =
    ap₂ (λ (k : ℕ) (l : List ℕ). take k l) size
    (h.1 ∙ ap (λ (l : List ℕ). l ++ h.0) is ∙ append_assoc turns (t ∷ []) h.0)
    ∙ take-append_seam turns (t ∷ h.0)

pub forks_next : (script : ScriptView) (outcomes : List Outcome) (old turns acting now last : List ℕ) (i : ℕ)
    → Forks script outcomes old turns acting i → i < length acting → now ≡ turns ++ get_or acting i 0 ∷ []
    → Covers script outcomes now → last ≡ turns → Forks script outcomes old last acting (i + 1)
forks_next script outcomes old turns acting now last i f lt is covered same =
    let P : List ℕ → Type 0 = λ l. Forks script outcomes old l acting (i + 1) in
    subst P (sym same)
    (record {
      world = f.world;
      after = f.after;
      acting_is = f.acting_is;
      back = f.back;
      longer = f.longer;
      tried =
          All-more (CoversBy script outcomes turns) acting i 0 lt f.tried
          (subst (λ (l : List ℕ). Covers script outcomes l) is covered);
    })

pub forks_all : (script : ScriptView) (outcomes : List Outcome) (old turns acting : List ℕ) (i : ℕ)
    → Forks script outcomes old turns acting i → length acting ≤ i → 0 < length acting → Covers script outcomes old
forks_all script outcomes old turns acting i f all some =
    f.back
    (covers_each script outcomes turns acting f.world f.after f.acting_is some
    (subst (All (CoversBy script outcomes turns)) (take_all i acting all) f.tried))
