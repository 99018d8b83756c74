-- No line of a text asks for a shelve or an unshelve.
use Rattle.std.proofs.Common.{◌≡◌, ℕ, Bool, true, false, List, [], ◌∷◌, Ok, Err, codes, All}
use Rattle.std.proofs.Common.{Result, sym, refl, ap, ◌∙◌, subst}
use Rattle.script_runner.proofs.Prelude.{IsNoShelf, IsUnshelved, part_in, program_in, ReadsAs}
use Rattle.script_runner.proofs.Prelude.{ScriptView}
use Rattle.std.proofs.lemmas.List.Elements.{All-map, All-nil, All-push}
use Rattle.script_text.proofs.Changes.{Change, IsAdded, added, began, headed, line_change, skipped}
use Rattle.script_text.specs.Canonical.{call_words}
use Rattle.script_text.specs.Drafts.{Draft, Section, new_draft}
use Rattle.script_text.specs.Grammar.{Leads}
use Rattle.script_text.specs.Keywords.{keyword_at}
use Rattle.step_threads.specs.declared.programs.call.Call.TheVariants as call
use Rattle.step_threads.specs.declared.programs.call.Call.{Call}

abbrev gives : {A B : Type 0} → Result A B → Bool
gives (Ok x) = true
gives (Err why) = false

abbrev first_of_words : List (List ℕ) → List ℕ
first_of_words [] = []
first_of_words (w ∷ ws) = w

module _ (d e : Draft) (a : IsAdded d e) where
  -- a call that was read from a line has a statement's first word
  spelled : (c : Call) (word : List ℕ) (words : List (List ℕ)) → a.call ≡ c → call_words a.names c ≡ word ∷ words
      → gives (keyword_at word) ≡ true
  spelled c word words is spells =
      let same = a.word.word ∙ ap first_of_words (sym a.rewrites.first ∙ ap (call_words a.names) is ∙ spells) in
      subst (λ (w : List ℕ). gives (keyword_at w) ≡ true) same (ap gives a.word.reads)

  -- so it is no shelve
  call_unshelved : (c : Call) → a.call ≡ c → IsNoShelf c
  unfolding keyword_at
  call_unshelved (call.Shelve n) is = let no : false ≡ true = spelled (call.Shelve n) (codes "shelve") _ is refl in absurd cc
  call_unshelved (call.Unshelve block) is =
      let no : false ≡ true = spelled (call.Unshelve block) (codes "unshelve") _ is refl in absurd cc
  call_unshelved _ is = tt

-- no call of a thread so far shelves
abbrev HasNoShelf : Section → Type 0
HasNoShelf s = All IsNoShelf s.calls

-- nor one of a draft
record IsUnshelvedDraft (d : Draft) : Type 0 where
  done : All HasNoShelf d.done
  current : HasNoShelf d.current

change_unshelved : (d e : Draft) → Change d e → IsUnshelvedDraft d → IsUnshelvedDraft e
change_unshelved d e (skipped same) u = subst IsUnshelvedDraft same u
change_unshelved d e (headed h) u = subst IsUnshelvedDraft h.now (record { done = All-nil HasNoShelf; current = All-nil IsNoShelf })
change_unshelved d e (began room same) u =
    subst IsUnshelvedDraft same (record { done = All-push HasNoShelf d.done d.current u.done u.current; current = All-nil IsNoShelf })
change_unshelved d e (added a) u =
    subst IsUnshelvedDraft a.now (record {
      done = u.done;
      current = All-push IsNoShelf d.current.calls a.call u.current (call_unshelved d e a a.call refl);
    })

lines_unshelved : (lines : List (List ℕ)) (d e : Draft) → Leads d lines e → IsUnshelvedDraft d → IsUnshelvedDraft e
lines_unshelved [] d e h u = subst IsUnshelvedDraft h u
lines_unshelved (line ∷ lines) d e h u =
    lines_unshelved lines h.0 e h.2 (change_unshelved d h.0 (line_change d h.0 line h.1) u)

-- no call of a script that a text spells shelves
pub no_shelf : (bytes : List ℕ) (script : ScriptView) → ReadsAs bytes script → All (λ (s : Section). All IsNoShelf s.calls) script.threads
no_shelf bytes script reads =
    let u =
    lines_unshelved reads.begins.lines new_draft reads.draft reads.begins.leads
    (record { done = All-nil HasNoShelf; current = All-nil IsNoShelf }) in
    subst (λ (s : ScriptView). All HasNoShelf s.threads) (sym reads.says)
    (All-push HasNoShelf reads.draft.done reads.draft.current u.done u.current)

pub program_unshelved : (bytes : List ℕ) (script : ScriptView) → ReadsAs bytes script → All IsUnshelved (program_in script.threads)
program_unshelved bytes script reads = All-map IsUnshelved part_in script.threads (no_shelf bytes script reads)
