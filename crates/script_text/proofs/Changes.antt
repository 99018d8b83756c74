-- What a good line changes: nothing, or the version by a header, or a thread begins, or a statement
-- is added.
use Rattle.std.proofs.Common.{◌≡◌, ℕ, ◌+◌, ◌<◌, Bool, true, false, cond, ◌&&◌, eqb, ltb, List, []}
use Rattle.std.proofs.Common.{◌∷◌, ◌++◌, length, nat_eq, Some, None, Ok, Err, codes, Option, find}
use Rattle.std.proofs.Common.{refl, subst, ltb-true}
use Rattle.script_text.proofs.Prelude
use Prelude.{after_line, after_words, AllByRecursion, bytes_eq, bytes_eq-Decides, Call, Draft}
use Prelude.{header_line, is_clean_byte, Keyword, line_content, list_all, most_threads, NameList}
use Prelude.{next_call, no_section, spelling_of, takes_words, with_call, words_of, ◌>>=◌}
use Rattle.std.specs.List.{starts_with}
use Rattle.script_text.specs.declared.fault.Cause.TheVariants.{BadByte, UnknownStatement}
use Rattle.script_text.specs.declared.fault.Cause.TheVariants.{WrongNumberOfWords, TooManyThreads}
use Rattle.script_text.specs.declared.fault.Cause.TheVariants.{TooManyStatements}
use Rattle.script_text.specs.Keywords.{keywords, find_keyword, known_keyword, keyword_at}
use Rattle.script_text.specs.Calls.{call_at}
use Rattle.script_text.specs.Drafts.{next_thread, is_new, thread_line, statement_line, other_line}
use Rattle.script_text.proofs.TidyWords.{IsTidy, words_tidy}
use Rattle.script_text.proofs.ReadNames.{both_give, given, same_given, if_given}
use Rattle.script_text.proofs.Rewrites.{Rewrites, rewrites}
use Rattle.script_text.proofs.Headers.{IsHeaded, guarded, line_headed}

-- a first word that begins this statement
pub record IsFirstWord (first : List ℕ) (k : Keyword) : Type 0 where
  pub tidy : IsTidy first
  pub comment : starts_with nat_eq first (codes "#") ≡ false
  pub version : bytes_eq first (codes "version") ≡ false
  pub thread : bytes_eq first (codes "thread") ≡ false
  pub reads : keyword_at first ≡ Ok k
  pub word : first ≡ (spelling_of k).word

-- the draft in which the next thread has begun
abbrev pub with_thread : Draft → Draft
with_thread d = record {
  version = d.version;
  done = d.done ++ d.current ∷ [];
  current = no_section;
  count = d.count;
}

-- a statement that was added
pub record IsAdded (d e : Draft) : Type 0 where
  pub keyword : Keyword
  pub first : List ℕ
  pub call : Call
  pub names : NameList
  pub word : IsFirstWord first keyword
  pub room : d.count < 65536
  pub rewrites : Rewrites d.current.names keyword call names
  pub now : with_call d (call, names) ≡ e

-- what became of a draft by one good line
pub data Change (d e : Draft) : Type 0 where
  skipped : d ≡ e → Change d e
  headed : IsHeaded e → Change d e
  began : length d.done + 1 < most_threads d.version → with_thread d ≡ e → Change d e
  added : IsAdded d e → Change d e

-- ---- the first word

found_by : (b : Bool) (k j : Keyword) (rest : Option Keyword) (word : List ℕ)
    → bytes_eq word (spelling_of j).word ≡ b → (rest ≡ Some k → word ≡ (spelling_of k).word)
    → cond b (Some j) rest ≡ Some k → word ≡ (spelling_of k).word
found_by true k j rest word is later h =
    let same : j ≡ k = cc in subst (λ i. word ≡ (spelling_of i).word) same
    ((bytes_eq-Decides word (spelling_of j).word).0 is)
found_by false k j rest word is later h = later h

found_word : (word : List ℕ) (ks : List Keyword) (k : Keyword)
    → find (λ j. bytes_eq word (spelling_of j).word) ks ≡ Some k → word ≡ (spelling_of k).word
found_word word [] k h = absurd cc
found_word word (j ∷ ks) k h =
    found_by (bytes_eq word (spelling_of j).word) k j
    (find (λ i. bytes_eq word (spelling_of i).word) ks)
    word refl (found_word word ks k) h

known_is : (r : Option Keyword) (k : Keyword) → known_keyword r ≡ Ok k → r ≡ Some k
known_is None k h = absurd cc
known_is (Some j) k h = let same : j ≡ k = cc in rw same refl

word_is : (word : List ℕ) (k : Keyword) → keyword_at word ≡ Ok k → word ≡ (spelling_of k).word
unfolding keyword_at
word_is word k h = found_word word keywords k (known_is (find_keyword word) k h)

-- `version` begins no statement
version_by : (b : Bool) (first : List ℕ) (k : Keyword) → bytes_eq first (codes "version") ≡ b
    → keyword_at first ≡ Ok k → b ≡ false
unfolding keyword_at
version_by true first k is reads =
    let bad : Err UnknownStatement ≡ Ok k =
    subst (λ (w : List ℕ). keyword_at w ≡ Ok k) ((bytes_eq-Decides first (codes "version")).0 is)
    reads in
    absurd cc
version_by false first k is reads = refl

and_false : (a b : Bool) → b ≡ false → (a && b) ≡ false
and_false true b h = h
and_false false b h = refl

-- a line that is no comment and no header
pub other_words : (d : Draft) (first : List ℕ) (words : List (List ℕ))
    → starts_with nat_eq first (codes "#") ≡ false
    → bytes_eq first (codes "version") ≡ false
    → after_words d (first ∷ words) ≡ other_line d first words
other_words d first words comment version =
    let none : (is_new d && bytes_eq first (codes "version")) ≡ false =
    and_false (is_new d) (bytes_eq first (codes "version")) version in
    rw (comment, none) refl

-- ---- any line

thread_change : (d e : Draft) (words : List (List ℕ)) → thread_line d words ≡ Ok e → Change d e
thread_change d e words h =
    let alone = guarded (eqb (length words) 0) (next_thread d) e WrongNumberOfWords h in
    let room = if_given (ltb (length d.done + 1) (most_threads d.version)) TooManyThreads
    (with_thread d) e alone.1 in
    began (ltb-true _ _ room.0) room.1

statement_change : (d e : Draft) (first : List ℕ) (words : List (List ℕ)) → IsTidy first
    → starts_with nat_eq first (codes "#") ≡ false → bytes_eq first (codes "thread") ≡ false
    → statement_line d first words ≡ Ok e → Change d e
statement_change d e first words tidy comment thread h =
    let k =
    both_give (keyword_at first)
    (λ keyword.
    cond (takes_words keyword (length words)) (next_call d keyword words) (Err WrongNumberOfWords))
    e h in
    let right =
    guarded (takes_words k.value (length words)) (next_call d k.value words) e WrongNumberOfWords
    k.second in
    let room =
    guarded (ltb d.count 65536) (call_at d.current.names k.value words >>= λ r. Ok (with_call d r))
    e
    TooManyStatements right.1 in
    let c = both_give (call_at d.current.names k.value words) (λ r. given (with_call d r)) e
    room.1 in
    added (record {
      keyword = k.value;
      first = first;
      call = c.value.0;
      names = c.value.1;
      word =
          record {
            tidy = tidy;
            comment = comment;
            version = version_by (bytes_eq first (codes "version")) first k.value refl k.first;
            thread = thread;
            reads = k.first;
            word = word_is first k.value k.first;
          };
      room = ltb-true _ _ room.0;
      rewrites = rewrites k.value d.current.names c.value.1 words c.value.0 c.first;
      now = same_given (with_call d c.value) e c.second;
    })

thread_or : (b : Bool) (d e : Draft) (first : List ℕ) (words : List (List ℕ)) → IsTidy first
    → starts_with nat_eq first (codes "#") ≡ false → bytes_eq first (codes "thread") ≡ b
    → cond b (thread_line d words) (statement_line d first words) ≡ Ok e → Change d e
thread_or true d e first words tidy comment is h = thread_change d e words h
thread_or false d e first words tidy comment is h =
    statement_change d e first words tidy comment is h

header_or : (b : Bool) (d e : Draft) (first : List ℕ) (words : List (List ℕ)) → IsTidy first
    → starts_with nat_eq first (codes "#") ≡ false
    → cond b (header_line words) (other_line d first words) ≡ Ok e → Change d e
header_or true d e first words tidy comment h = headed (line_headed words e h)
header_or false d e first words tidy comment h =
    thread_or (bytes_eq first (codes "thread")) d e first words tidy comment refl h

comment_or : (b : Bool) (d e : Draft) (first : List ℕ) (words : List (List ℕ)) → IsTidy first
    → starts_with nat_eq first (codes "#") ≡ b
    → cond b (Ok d)
    (cond (is_new d && bytes_eq first (codes "version")) (header_line words)
    (other_line d first words)) ≡ Ok e
    → Change d e
comment_or true d e first words tidy is h = skipped (same_given d e h)
comment_or false d e first words tidy is h =
    header_or (is_new d && bytes_eq first (codes "version")) d e first words tidy is h

words_change : (d e : Draft) (words : List (List ℕ)) → AllByRecursion IsTidy words
    → after_words d words ≡ Ok e → Change d e
words_change d e [] tidy h = skipped (same_given d e h)
words_change d e (first ∷ words) tidy h =
    comment_or (starts_with nat_eq first (codes "#")) d e first words tidy.0 refl h

pub line_change : (d e : Draft) (line : List ℕ) → after_line d line ≡ Ok e → Change d e
line_change d e line h =
    let clean =
    guarded (list_all is_clean_byte (line_content line))
    (after_words d (words_of (line_content line))) e
    BadByte h in
    words_change d e (words_of (line_content line)) (words_tidy (line_content line) clean.0) clean.1
