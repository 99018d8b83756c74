-- What is drawn of what was recorded.
use Rattle.std.proofs.Common.{◌≡◌, ℕ, ◌+◌, ◌<◌, ◌&&◌, Bool, true, false, List, [], length, inl, inr}
use Rattle.std.proofs.Common.{refl, sym, subst, ap, arith, ◌∙◌}
use Rattle.std.specs.Prelude.{◌≤◌, Result, Ok, Err, IfErr, IfOk, min, nat_le, nat_lt}
use Rattle.std.proofs.lemmas.Bool.{cases_lt, le-leb, leb-true, lt-ltb, ltb-true}
use Rattle.run_picture.specs.declared.picture.Picture.{Picture}
use Rattle.run_picture.specs.declared.picture.Row.{Row}
use Rattle.script_text.specs.declared.fault.Fault.{Fault}
use Rattle.script_text.specs.declared.fault.Fault.TheVariants.{Memory}
use Rattle.script_text.specs.Drafts.{ScriptView}
use Rattle.script_text.specs.Grammar.{ReadsAs}
use Rattle.script_stepper.specs.Ends.{IsRefused}
use Rattle.script_stepper.specs.Runs.{IsScriptRun}
use Rattle.script_stepper.specs.TurnLists.{list_at}
use Rattle.script_picture.specs.declared.part.Part.{Part}
use Rattle.script_picture.specs.Parts.{shown_part}
use Rattle.script_picture.specs.Acts.{AreRows, Seen, acts_in}
use Rattle.script_picture.specs.Pictures.{Draws, IsBehind, IsPictureText, IsRunRecorded}
use Rattle.script_picture.specs.Pictures.{ShowsAs}
use Rattle.script_picture.specs.Recording.{IsRecorded}

both : (a b : Bool) → (a && b) ≡ true → (a ≡ true) × (b ≡ true)
both true b e = (refl, e)
both false b e = absurd cc

-- too many acts came
pub draws_more : (is_page : Bool) (asked shown : Part) (acts : ℕ) (list : List Row) (items : List Seen)
    (text : List ℕ) → shown ≡ shown_part asked
    → (nat_lt shown.last asked.last && nat_lt shown.last acts) ≡ true → text ≡ []
    → IsRecorded (shown_part asked) acts list items → Draws is_page true asked items text
draws_more is_page asked shown acts list items text is more none h =
    let last : shown.last ≡ min asked.last (asked.first + 1999) = ap (λ (p : Part). p.last) is in
    let t = both (nat_lt shown.last asked.last) (nat_lt shown.last acts) more in
    let part = ltb-true shown.last asked.last t.0 in
    let run = ltb-true shown.last acts t.1 in
    let most = h.most in
    (inl (omega (arith, last, part), omega (arith, last, part, run, most)), none)

-- the run ends before the part begins
behind_parts : (asked : Part) (acts : ℕ)
    → (nat_lt 1 asked.first && nat_lt acts asked.first && nat_le acts asked.last) ≡ true
    → (1 < asked.first) × (acts < asked.first) × (acts ≤ asked.last)
behind_parts asked acts e =
    let outer = both (nat_lt 1 asked.first && nat_lt acts asked.first) (nat_le acts asked.last) e in
    let inner = both (nat_lt 1 asked.first) (nat_lt acts asked.first) outer.0 in
    (ltb-true 1 asked.first inner.0, ltb-true acts asked.first inner.1, leb-true acts asked.last outer.1)

pub draws_behind : (is_page : Bool) (asked shown : Part) (acts : ℕ) (list : List Row) (items : List Seen)
    (text : List ℕ) → shown ≡ shown_part asked
    → (nat_lt 1 asked.first && nat_lt acts asked.first && nat_le acts asked.last) ≡ true → text ≡ []
    → IsRecorded (shown_part asked) acts list items → Draws is_page true asked items text
draws_behind is_page asked shown acts list items text is behind none h =
    let p = behind_parts asked acts behind in
    let first = p.0 in
    let before = p.1 in
    let within = p.2 in
    let came : acts ≡ length items = h.all (omega (arith, before, within)) in
    (inr (first, omega (arith, came, before), omega (arith, came, within)), none)

not_behind : (asked : Part) (acts : ℕ) (items : List Seen)
    → (nat_lt 1 asked.first && nat_lt acts asked.first && nat_le acts asked.last) ≡ false
    → acts ≤ length items → IsBehind asked items → ⊥
not_behind asked acts items e most b =
    let first = b.0 in
    let before = b.1 in
    let within = b.2 in
    not_three (nat_lt 1 asked.first) (nat_lt acts asked.first) (nat_le acts asked.last) e
    (lt-ltb 1 asked.first first) (lt-ltb acts asked.first (omega (arith, most, before)))
    (le-leb acts asked.last (omega (arith, most, within)))
  where
    not_three : (a b c : Bool) → (a && b && c) ≡ false → a ≡ true → b ≡ true → c ≡ true → ⊥
    not_three true true true e p q r = cc
    not_three true true false e p q r = cc
    not_three true false c e p q r = cc
    not_three false b c e p q r = cc

not_both : (a b : Bool) → (a && b) ≡ false → a ≡ true → b ≡ true → ⊥
not_both true true e p q = cc
not_both true false e p q = cc
not_both false b e p q = cc

-- no more than a picture shows
pub draws_all : (is_page : Bool) (asked shown : Part) (acts : ℕ) (list : List Row) (items : List Seen)
    (text : List ℕ) → shown ≡ shown_part asked
    → (nat_lt shown.last asked.last && nat_lt shown.last acts) ≡ false
    → (nat_lt 1 asked.first && nat_lt acts asked.first && nat_le acts asked.last) ≡ false
    → (picture : Picture) × (picture.rows.items ≡ list) × ShowsAs is_page picture text
    → IsRecorded (shown_part asked) acts list items → Draws is_page false asked items text
draws_all is_page asked shown acts list items text is few begun shows h =
    let last : shown.last ≡ min asked.last (asked.first + 1999) = ap (λ (p : Part). p.last) is in
    let all = h.all in (
      λ more.
          let part = more.0 in
          let run = more.1 in
          let past : shown.last < asked.last = omega (arith, last, part) in
          let came : shown.last < acts = elim (cases_lt shown.last acts) [
            | inl lt ↦ lt
            | inr le ↦
                absurd (let a = all (omega (arith, le, last)) in omega (arith, a, le, run, last))
          ] in
          not_both (nat_lt shown.last asked.last) (nat_lt shown.last acts) few
          (lt-ltb shown.last asked.last past) (lt-ltb shown.last acts came),
      not_behind asked acts items begun h.most,
      record {
        picture = shows.0;
        are = subst (AreRows (acts_in (shown_part asked) 1 items)) (sym shows.1) h.rows;
        shows = shows.2;
      },
    )

-- the text of a run that was recorded
pub picture_told : (fine is_page none : Bool) (asked : Part) (script : ScriptView) (turns : List ℕ)
    (acts : ℕ) (list : List Row) (text : List ℕ)
    → IsRunRecorded fine script turns (shown_part asked) acts list
    → ((items : List Seen) → IsRecorded (shown_part asked) acts list items
    → Draws is_page none asked items text)
    → IsPictureText fine is_page asked (Ok none) script turns text
picture_told fine is_page none asked script turns acts list text h draws =
    record {
      seen = h.seen;
      says = h.says;
      none = none;
      draws = draws h.seen h.recorded;
      answers = refl;
    }

-- a run that was drawn is that of the script and the turns that were read
pub told_of : {A : Type 0} (r : Result A Fault) (IsText : A → ScriptView → List ℕ → List ℕ → Type 0)
    (text : A → List ℕ) (bytes list : List ℕ)
    (s : ScriptView) (turns given : List ℕ) (threads : ℕ) → ReadsAs bytes s
    → threads ≡ length s.threads → given ≡ turns
    → list_at threads list ≡ Ok turns → IfOk r (λ d. IsText d s given (text d))
    → IfOk r (λ d. IsScriptRun (IsText d) bytes list (text d))
told_of (Ok d) IsText text bytes list s turns given threads h n g e ok =
    record {
      script = s;
      turns = turns;
      reads = h;
      listed = ap (λ (k : ℕ). list_at k list) (sym n) ∙ e;
      says = subst (λ (us : List ℕ). IsText d s us (text d)) g ok;
    }
told_of (Err f) IsText text bytes list s turns given threads h n g e ok = tt

pub only_memory : {A : Type 0} (r : Result A Fault) (bytes list : List ℕ)
    → IfErr r (λ fault. fault ≡ Memory)
    → IfErr r (λ fault. IsRefused bytes list fault)
only_memory (Ok d) bytes list h = tt
only_memory (Err f) bytes list h = subst (λ (x : Fault). IsRefused bytes list x) (sym h) tt

-- what was answered may be forgotten
pub forgotten : (fine is_page none : Bool) (part : Part) (fault : Fault) (bytes list text : List ℕ)
    → IsScriptRun (IsPictureText fine is_page part (Ok none)) bytes list text
    → IsScriptRun (IsPictureText fine is_page part (Err fault)) bytes list text
forgotten fine is_page none part fault bytes list text h = record {
  script = h.script;
  turns = h.turns;
  reads = h.reads;
  listed = h.listed;
  says = record {
    seen = h.says.seen;
    says = h.says.says;
    none = h.says.none;
    draws = h.says.draws;
    answers = tt;
  };
}
