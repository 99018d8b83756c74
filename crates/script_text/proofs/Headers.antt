-- What was read of a header is read again from its canonical words.
use Rattle.std.proofs.Common.{◌≡◌, ℕ, ◌^◌, ◌<◌, ◌≤◌, Bool, true, false, cond, ltb, List, [], ◌∷◌}
use Rattle.std.proofs.Common.{Ok, Err, codes, decimal, Result, refl, ap, ◌∙◌, arith, lit<}
use Rattle.std.proofs.Common.{ltb-false, le-ltb}
use Rattle.script_text.proofs.Prelude.{after_line, AllByRecursion, BadNumber, bytes_eq, Cause}
use Rattle.script_text.proofs.Prelude.{Draft, draft_in, header_line, header_words, most_threads}
use Rattle.script_text.proofs.Prelude.{new_draft, number_at, One, spaced, Two, Version, ◌>>=◌}
use Rattle.script_text.specs.declared.fault.Cause.TheVariants.{BadVersion}
use Rattle.script_text.specs.Versions.{header_number, blocks_at, version_named, version_at}
use Rattle.script_text.proofs.TidyWords.{IsTidy, after_tidy_line}
use Rattle.script_text.proofs.ReadNames.{both_give, given, same_given}
use Rattle.script_text.proofs.ReadNumbers.{decimal_reads, decimal_tidy}

-- a version that a header names
pub record IsHeader (version : Version) : Type 0 where
  pub blocks : ℕ
  pub least : 64 ≤ blocks
  pub most : blocks ≤ 65535
  pub is : Two blocks ≡ version

-- ---- a header that was read

pub guarded : {A : Type 0} (b : Bool) (r : Result A Cause) (x : A) (cause : Cause)
    → cond b r (Err cause) ≡ Ok x
    → (b ≡ true) × (r ≡ Ok x)
guarded true r x cause h = (refl, h)
guarded false r x cause h = absurd cc

let_through : {A : Type 0} (b : Bool) (r : Result A Cause) (x : A) (cause : Cause)
    → cond b (Err cause) r ≡ Ok x
    → (b ≡ false) × (r ≡ Ok x)
let_through true r x cause h = absurd cc
let_through false r x cause h = (refl, h)

-- a number that a header may have
record IsInHeader (m n : ℕ) : Type 0 where
  least : 64 ≤ n
  most : n ≤ 65535
  same : m ≡ n

in_header : (m n : ℕ) → header_number m ≡ Ok n → IsInHeader m n
in_header m n h =
    let low = let_through (ltb m 64) (cond (ltb 65535 m) (Err BadNumber) (Ok m)) n BadNumber h in
    let high = let_through (ltb 65535 m) (Ok m) n BadNumber low.1 in
    let same : m ≡ n = same_given m n high.1 in
    record {
      least = rw (← same) (ltb-false _ _ low.0);
      most = rw (← same) (ltb-false _ _ high.0);
      same = same;
    }

blocks_header : (word : List ℕ) (version : Version)
    → (blocks_at word >>= λ n. Ok (Two n)) ≡ Ok version → IsHeader version
unfolding blocks_at
blocks_header word version h =
    let n = both_give (blocks_at word) (λ n. given (Two n)) version h in
    let m = both_give (number_at word) header_number n.value n.first in
    let is = in_header m.value n.value m.second in
    record {
      blocks = n.value;
      least = is.least;
      most = is.most;
      is = same_given (Two n.value) version n.second;
    }

named_header : (number unit blocks : List ℕ) (version : Version)
    → version_named number unit blocks ≡ Ok version → IsHeader version
unfolding version_named
named_header number unit blocks version h =
    let counted : Result Version Cause = blocks_at blocks >>= λ n. Ok (Two n) in
    let one = guarded (bytes_eq number (codes "2"))
    (cond (bytes_eq unit (codes "blocks")) counted (Err BadVersion)) version BadVersion h in
    let two = guarded (bytes_eq unit (codes "blocks")) counted version BadVersion one.1 in
    blocks_header blocks version two.1

version_header : (words : List (List ℕ)) (version : Version) → version_at words ≡ Ok version
    → IsHeader version
version_header [] version h = absurd cc
version_header (a ∷ []) version h = absurd cc
version_header (a ∷ b ∷ []) version h = absurd cc
version_header (a ∷ b ∷ c ∷ []) version h = named_header a b c version h
version_header (a ∷ b ∷ c ∷ d ∷ words) version h = absurd cc

-- the draft after a header
pub record IsHeaded (e : Draft) : Type 0 where
  pub version : Version
  pub header : IsHeader version
  pub now : draft_in version ≡ e

pub line_headed : (words : List (List ℕ)) (e : Draft) → header_line words ≡ Ok e → IsHeaded e
line_headed words e h =
    let v = both_give (version_at words) (λ version. given (draft_in version)) e h in
    record {
      version = v.value;
      header = version_header words v.value v.first;
      now = same_given (draft_in v.value) e v.second;
    }

-- ---- the canonical header

small : (n : ℕ) → n ≤ 65535 → n < 2 ^ 64
small n most = omega (arith, most)

number_again : (n : ℕ) → 64 ≤ n → n ≤ 65535 → header_number n ≡ Ok n
number_again n least most = rw (le-ltb n 64 least, le-ltb 65535 n most) refl

blocks_again : (n : ℕ) → 64 ≤ n → n ≤ 65535 → blocks_at (decimal n) ≡ Ok n
unfolding blocks_at
blocks_again n least most =
    ap (λ (r : Result ℕ Cause). r >>= header_number) (decimal_reads n (small n most))
    ∙ number_again n least most

named_again : (n : ℕ) → 64 ≤ n → n ≤ 65535
    → version_named (codes "2") (codes "blocks") (decimal n) ≡ Ok (Two n)
unfolding version_named
named_again n least most =
    ap (λ (r : Result ℕ Cause). r >>= λ m. Ok (Two m)) (blocks_again n least most)

pub header_tidy : (n : ℕ) → n ≤ 65535 → AllByRecursion IsTidy (header_words n)
header_tidy n most =
    ((lit< tt, refl), ((lit< tt, refl), ((lit< tt, refl), (decimal_tidy n (small n most), tt))))

pub header_again : (n : ℕ) → 64 ≤ n → n ≤ 65535
    → after_line new_draft (spaced (header_words n)) ≡ Ok (draft_in (Two n))
header_again n least most =
    after_tidy_line new_draft (header_words n) (header_tidy n most)
    ∙ ap (λ (r : Result Version Cause). r >>= λ version. Ok (draft_in version))
    (named_again n least most)

pub most_allow : (version : Version) → most_threads version ≤ 64
most_allow One = omega arith
most_allow (Two blocks) = omega arith
