-- The canonical text of a script that was read is read as the same script.
use Rattle.std.proofs.Common.{◌≡◌, ℕ, ◌+◌, ◌<◌, ◌≤◌, true, ltb, List, [], ◌∷◌, ◌++◌, map, length}
use Rattle.std.proofs.Common.{Ok, codes, sym, refl, ap, ◌∙◌, subst, append_assoc, append-nil}
use Rattle.std.proofs.Common.{arith, lit<, lt-ltb}
use Rattle.script_text.proofs.Prelude
use Prelude.{after_line, AllByRecursion, BeginsWithDraft, begun_lines, Call, call_line, call_words}
use Prelude.{converted, Draft, draft_in, ended, flat_map, HasNoFeed, header_words, Keyword, Leads}
use Prelude.{most_threads, NameList, new_draft, next_call, no_section, One, ReadsAs, script_of}
use Prelude.{ScriptView, Section, section_lines, sections, spaced, takes_words, thread_lines, Two}
use Prelude.{Version, with_call}
use Rattle.std.proofs.lemmas.List.Concat.{flat_map-cons, flat_map-append}
use Rattle.script_text.specs.Calls.{call_at}
use Rattle.script_text.specs.Canonical.{header_lines, script_lines, canonical}
use Rattle.script_text.proofs.TidyWords.{IsTidy, after_tidy_line, no_feed_in}
use Rattle.text_lines.proofs.GrammarLemmas.{clean-last, Leads-last}
use Rattle.script_text.proofs.Rewrites.{IsSettled, Rewrites}
use Rattle.script_text.specs.Versions.{as_two}
use Rattle.script_text.proofs.Headers.{IsHeader, header_again, header_tidy}
use Rattle.script_text.proofs.Changes.{IsFirstWord, with_thread, Change, skipped, headed, began}
use Rattle.script_text.proofs.Changes.{added, line_change, other_words}

-- ---- the lines of a script

-- the lines before those of the last thread
lines_before : List Section → List (List ℕ)
lines_before [] = []
lines_before (s ∷ ss) = thread_lines (s ∷ ss) ++ codes "thread" ∷ []

begun-last : (ss : List Section) (c : Section)
    → flat_map begun_lines (ss ++ c ∷ []) ≡ flat_map begun_lines ss ++ begun_lines c
begun-last ss c =
    flat_map-append begun_lines ss (c ∷ [])
    ∙ ap (λ (t : List (List ℕ)). flat_map begun_lines ss ++ t)
    (flat_map-cons begun_lines c [] ∙ append-nil (begun_lines c))

lines-last : (ss : List Section) (c : Section)
    → thread_lines (ss ++ c ∷ []) ≡ lines_before ss ++ section_lines c
unfolding lines_before
lines-last [] c = append-nil (section_lines c)
lines-last (s ∷ ss) c =
    ap (λ (t : List (List ℕ)). section_lines s ++ t) (begun-last ss c)
    ∙ sym (append_assoc (section_lines s) (flat_map begun_lines ss) (begun_lines c))
    ∙ sym (append_assoc (thread_lines (s ∷ ss)) (codes "thread" ∷ []) (section_lines c))

before-last : (ss : List Section) (c : Section)
    → lines_before (ss ++ c ∷ []) ≡ thread_lines (ss ++ c ∷ []) ++ codes "thread" ∷ []
unfolding lines_before
before-last [] c = refl
before-last (s ∷ ss) c = refl

-- ---- what stays true from line to line

-- the lines of the script so far lead to it, and no later name changes one of them
record IsCanonical (d : Draft) : Type 0 where
  clean : AllByRecursion HasNoFeed (script_lines (script_of d))
  leads : Leads new_draft (script_lines (script_of d)) d
  settled : AllByRecursion (IsSettled d.current.names) d.current.calls

one_more : (d e : Draft) (line : List ℕ) → IsCanonical d → after_line d line ≡ Ok e → HasNoFeed line
    → e.version ≡ d.version → thread_lines (sections e) ≡ thread_lines (sections d) ++ line ∷ []
    → AllByRecursion (IsSettled e.current.names) e.current.calls → IsCanonical e
one_more d e line c reads clean version more settled =
    let all : script_lines (script_of e) ≡ script_lines (script_of d) ++ line ∷ [] =
    ap (λ (v : Version). header_lines v ++ thread_lines (sections e)) version
    ∙ ap (λ (ls : List (List ℕ)). header_lines d.version ++ ls) more
    ∙ sym (append_assoc (header_lines d.version) (thread_lines (sections d)) (line ∷ [])) in
    record {
      clean = rw all (clean-last (script_lines (script_of d)) line c.clean clean);
      leads = rw all (Leads-last after_line (script_lines (script_of d)) line new_draft d e c.leads
          reads);
      settled = settled;
    }

-- ---- a thread begins

thread_word : IsTidy (codes "thread")
thread_word = (lit< tt, refl)

begun_kept : (d : Draft) → length d.done + 1 < most_threads d.version → IsCanonical d
    → IsCanonical (with_thread d)
begun_kept d room c =
    let e : Draft = with_thread d in
    let free : ltb (length d.done + 1) (most_threads d.version) ≡ true =
    lt-ltb (length d.done + 1) (most_threads d.version) room in
    let reads : after_line d (codes "thread") ≡ Ok e =
    after_tidy_line d (codes "thread" ∷ []) (thread_word, tt)
    ∙ other_words d (codes "thread") [] refl refl ∙ rw free refl in
    let lines : thread_lines (sections e) ≡ thread_lines (sections d) ++ codes "thread" ∷ [] =
    lines-last (d.done ++ d.current ∷ []) no_section
    ∙ append-nil (lines_before (d.done ++ d.current ∷ []))
    ∙ before-last d.done d.current in
    one_more d e (codes "thread") c reads (no_feed_in (codes "thread" ∷ []) (thread_word, tt)) refl
    lines tt

-- ---- a statement is added

settled_more : (names more : NameList) (calls : List Call) → AllByRecursion (IsSettled names) calls
    → AllByRecursion (IsSettled (names ++ more)) calls
settled_more names more [] h = tt
settled_more names more (c ∷ calls) h =
    let first : IsSettled (names ++ more) c =
    λ later. ap (λ (ns : NameList). call_words ns c) (append_assoc names more later)
    ∙ h.0 (more ++ later)
    ∙ sym (h.0 more) in
    (first, settled_more names more calls h.1)

lines_more : (names more : NameList) (calls : List Call) → AllByRecursion (IsSettled names) calls
    → map (call_line (names ++ more)) calls ≡ map (call_line names) calls
lines_more names more [] h = refl
lines_more names more (c ∷ calls) h =
    ap (λ (ws : List (List ℕ)). spaced ws ∷ map (call_line (names ++ more)) calls) (h.0 more)
    ∙ ap (λ (ls : List (List ℕ)). call_line names c ∷ ls) (lines_more names more calls h.1)

map-last : (f : Call → List ℕ) (calls : List Call) (c : Call)
    → map f (calls ++ c ∷ []) ≡ map f calls ++ f c ∷ []
map-last f [] c = refl
map-last f (x ∷ calls) c = ap (λ (ls : List (List ℕ)). f x ∷ ls) (map-last f calls c)

settled-last : (names : NameList) (calls : List Call) (c : Call)
    → AllByRecursion (IsSettled names) calls
    → IsSettled names c → AllByRecursion (IsSettled names) (calls ++ c ∷ [])
settled-last names [] c h k = (k, tt)
settled-last names (x ∷ calls) c h k = (h.0, settled-last names calls c h.1 k)

-- a line of a first word and tidy words adds what the words say
said : (d e : Draft) (first : List ℕ) (k : Keyword) (words : List (List ℕ)) → IsFirstWord first k
    → AllByRecursion IsTidy words → takes_words k (length words) ≡ true
    → next_call d k words ≡ Ok e → after_line d (spaced (first ∷ words)) ≡ Ok e
said d e first k words w tidy takes says =
    after_tidy_line d (first ∷ words) (w.tidy, tidy) ∙ other_words d first words w.comment w.version
    ∙ rw (w.thread, w.reads, takes) says

called : (d : Draft) (k : Keyword) (words : List (List ℕ)) (c : Call) (new : NameList)
    → d.count < 65536
    → call_at d.current.names k words ≡ Ok (c, new)
    → next_call d k words ≡ Ok (with_call d (c, new))
called d k words c new room again =
    let free : ltb d.count 65536 ≡ true = lt-ltb d.count 65536 room in rw (free, again) refl

added_kept : (d : Draft) (first : List ℕ) (k : Keyword) (c : Call) (new : NameList)
    → IsFirstWord first k
    → d.count < 65536 → Rewrites d.current.names k c new → IsCanonical d
    → IsCanonical (with_call d (c, new))
added_kept d first k c new w room r canon =
    let e : Draft = with_call d (c, new) in
    let old : NameList = d.current.names in
    let calls : List Call = d.current.calls in
    let line_is : spaced (first ∷ r.words) ≡ call_line new c =
    ap spaced (ap (λ (u : List ℕ). u ∷ r.words) w.word ∙ sym r.first) in
    let reads = said d e first k r.words w r.tidy r.takes (called d k r.words c new room r.again) in
    let kept : AllByRecursion (IsSettled new) calls =
    rw r.grows.grown (settled_more old r.grows.more calls canon.settled) in
    let same : map (call_line new) calls ≡ section_lines d.current =
    rw r.grows.grown (lines_more old r.grows.more calls canon.settled) in
    let now : section_lines e.current ≡ section_lines d.current ++ call_line new c ∷ [] =
    map-last (call_line new) calls c
    ∙ ap (λ (ls : List (List ℕ)). ls ++ call_line new c ∷ []) same in
    let lines : thread_lines (sections e) ≡ thread_lines (sections d) ++ call_line new c ∷ [] =
    lines-last d.done e.current ∙ ap (λ (ls : List (List ℕ)). lines_before d.done ++ ls) now
    ∙ sym (append_assoc (lines_before d.done) (section_lines d.current) (call_line new c ∷ []))
    ∙ ap (λ (ls : List (List ℕ)). ls ++ call_line new c ∷ []) (sym (lines-last d.done d.current)) in
    one_more d e (call_line new c) canon
    (subst (λ (l : List ℕ). after_line d l ≡ Ok e) line_is reads)
    (subst HasNoFeed line_is (no_feed_in (first ∷ r.words) (w.tidy, r.tidy))) refl lines
    (settled-last new calls c kept r.settled)

-- ---- a header

headed_kept : (blocks : ℕ) → 64 ≤ blocks → blocks ≤ 65535 → IsCanonical (draft_in (Two blocks))
headed_kept blocks least most = record {
  clean = (no_feed_in (header_words blocks) (header_tidy blocks most), tt);
  leads = (draft_in (Two blocks), header_again blocks least most, refl);
  settled = tt;
}

-- ---- any line

-- the same draft in version 2
in_two : Draft → Draft
in_two d =
    record { version = as_two d.version; done = d.done; current = d.current; count = d.count }

-- what stays true, of the draft and of the same in version 2
record IsKept (d : Draft) : Type 0 where
  same : IsCanonical d
  two : IsCanonical (in_two d)

room_in_two : (version : Version) (n : ℕ) → n < most_threads version
    → n < most_threads (as_two version)
room_in_two One n h = omega (arith, h)
room_in_two (Two blocks) n h = h

in_header : (version : Version) → IsHeader version → IsKept (draft_in version)
unfolding in_two
in_header version h =
    let is = headed_kept h.blocks h.least h.most in
    subst (λ (v : Version). IsKept (draft_in v)) h.is (record { same = is; two = is })

change_kept : (d e : Draft) → Change d e → IsKept d → IsKept e
unfolding in_two
change_kept d e (skipped same) c = subst IsKept same c
change_kept d e (headed h) c = subst IsKept h.now (in_header h.version h.header)
change_kept d e (began room same) c =
    subst IsKept same (record {
      same = begun_kept d room c.same;
      two = begun_kept (in_two d) (room_in_two d.version (length d.done + 1) room) c.two;
    })
change_kept d e (added a) c =
    subst IsKept a.now (record {
      same = added_kept d a.first a.keyword a.call a.names a.word a.room a.rewrites c.same;
      two = added_kept (in_two d) a.first a.keyword a.call a.names a.word a.room a.rewrites c.two;
    })

lines_kept : (lines : List (List ℕ)) (d e : Draft) → Leads d lines e → IsKept d → IsKept e
lines_kept [] d e h c = subst IsKept h c
lines_kept (line ∷ lines) d e h c =
    lines_kept lines h.0 e h.2 (change_kept d h.0 (line_change d h.0 line h.1) c)

start : IsKept new_draft
unfolding in_two
start = record {
  same = record { clean = tt; leads = refl; settled = tt };
  two = headed_kept 4095 (omega arith) (omega arith);
}

canonical_reads : (d : Draft) → IsCanonical d → ReadsAs (canonical (script_of d)) (script_of d)
canonical_reads d c =
    let lines : List (List ℕ) = script_lines (script_of d) in
    record {
      draft = d;
      number = 1 + length lines;
      begins =
          record {
            lines = lines;
            text = sym (append-nil (ended lines));
            clean = c.clean;
            leads = c.leads;
            next = refl;
          };
      says = refl;
    }

-- a script's canonical text reads as it, and so does that of the same script in version 2
pub record IsReadAgain (script : ScriptView) : Type 0 where
  pub same : ReadsAs (canonical script) script
  pub two : ReadsAs (canonical (converted script)) (converted script)

pub round_trip : (bytes : List ℕ) (d : Draft) (number : ℕ) → BeginsWithDraft bytes d number []
    → IsReadAgain (script_of d)
unfolding in_two
round_trip bytes d number b =
    let kept = lines_kept b.lines new_draft d b.leads start in
    record { same = canonical_reads d kept.same; two = canonical_reads (in_two d) kept.two }
