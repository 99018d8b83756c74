-- At the start all words are 0, and one desk has the whole allowance.
use Rattle.std.proofs.Common.{◌≡◌, ℕ, zero, suc, ◌+◌, ◌%◌, ◌<◌, ◌≤◌, false, [], length, get_or}
use Rattle.std.proofs.Common.{replicate, sym, refl, ap, ◌∙◌, subst, inr, ⊎_elim, arith}
use Rattle.control_word.proofs.Prelude
use Prelude.{added, adds, bit_at, block_words, blocks_of, cell_spot, get_elem?, Idle, IsOpening}
use Prelude.{empty, kind_of_free, kind_of_member, nobody, Opening, owed, owes, paid, pays, Pending, Seated}
use Prelude.{shelf_spot, some, some-injective, some-ne-none, spot, Stands, StandsFor}
use Prelude.{start, total, View}
use Rattle.std.proofs.lemmas.Nat.Bits.{bit_at-zero}
use Rattle.control_word.proofs.history.Legal.{sound_start}
use Rattle.control_word.proofs.words.Banks.{bank_none}
use Rattle.control_word.proofs.words.Listed.{listed_zero}
use Rattle.control_word.proofs.words.Members.{packed_empty}
use Rattle.control_word.specs.Views.{fresh}
use Rattle.control_word.specs.Words.{bank, object_words, packed}
use Rattle.control_word.specs.Limits.{most_members}
use Rattle.control_word.specs.Layout.{all_words}

zero_read : (n i : ℕ) → get_or {A = ℕ} (replicate n 0) i 0 ≡ 0
zero_read zero i = refl
zero_read (suc n) zero = refl
zero_read (suc n) (suc i) = zero_read n i

zero_length : (n : ℕ) → length {A = ℕ} (replicate n 0) ≡ n
zero_length zero = refl
zero_length (suc n) = ap suc (zero_length n)

nobody_words : (w : ℕ) (f : ℕ → ℕ) (j : ℕ) → get_or (object_words f (nobody w)) j 0 ≡ 0
unfolding object_words
nobody_words w f zero = refl
nobody_words w f (suc zero) = refl
nobody_words w f (suc (suc zero)) = refl
nobody_words w f (suc (suc (suc zero))) = refl
nobody_words w f (suc (suc (suc (suc zero)))) = refl
nobody_words w f (suc (suc (suc (suc (suc j))))) =
    listed_zero most_members (λ m. packed f (empty (kind_of_member w m))) j (λ m. packed_empty f (kind_of_member w m))

start_words : (z : Opening) → z.members ≤ most_members → (b j : ℕ) → get_or (block_words (start z) b) j 0 ≡ 0
start_words z few b zero = (sound_start z few).owners 0
start_words z few b (suc zero) = (sound_start z few).unmade_free 0 refl
start_words z few b (suc (suc j)) = nobody_words z.owners (blocks_of (start z)) j

pub bank_start : (z : Opening) → z.members ≤ most_members → (i : ℕ) → bank z (start z) (λ j. 0) i ≡ 0
bank_start z few i =
    bank_none z (start z) (sound_start z few) (λ j. 0) i
    (λ m o busy e. let t = (sound_start z few).unmade_free o refl in omega arith)

module _ {V : Type 0} where
  -- what a view of a desk that was there from the start is
  fresh_at : (d n i : ℕ) (v : View V) → get_elem? (fresh d n) i ≡ some v
      → (i < n) × (v ≡ record { name = d + i; spent = false; pending = Idle; seen = [] })
  fresh_at d zero i v e = absurd (some-ne-none v (sym e))
  fresh_at d (suc n) zero v e = (
    omega arith,
    sym (some-injective _ v e)
        ∙ (let f : d ≡ d + 0 = omega arith in λ i. record { name = f i; spent = false; pending = Idle; seen = [] }),
  )
  fresh_at d (suc n) (suc i) v e =
      let t = fresh_at (suc d) n i v e in (
        let l = t.0 in omega arith,
        t.1 ∙ (let f : suc d + i ≡ d + suc i = omega arith in λ j. record { name = f j; spent = false; pending = Idle; seen = [] }),
      )

  fresh_none : (f : Pending V → ℕ) → f Idle ≡ 0 → (d n : ℕ) → total (λ (v : View V). f v.pending) (fresh d n) ≡ 0
  fresh_none f idle d zero = refl
  fresh_none f idle d (suc n) = let t = fresh_none f idle (suc d) n in omega arith

  fresh_first : (n : ℕ) → 0 < n → get_elem? (fresh {V = V} 0 n) 0 ≡ some record { name = 0; spent = false; pending = Idle; seen = [] }
  fresh_first zero l = absurd (omega arith)
  fresh_first (suc n) l = refl

  -- at the start all words are 0, and each desk has what the opening gives it
  pub opens : (z : Opening) → IsOpening z → Stands z (replicate (all_words z.blocks z.cells) 0) (fresh {V = V} 0 z.desks) []
  opens z proper =
      let views = fresh {V = V} 0 z.desks in
      let o : (i : ℕ) → owed views i ≡ 0 = λ i. fresh_none (λ p. owes p i) refl 0 z.desks in
      let a : (i : ℕ) → added views i ≡ 0 = λ i. fresh_none (λ p. adds p i) refl 0 z.desks in
      let m : (i : ℕ) → paid views i ≡ 0 = λ i. fresh_none (λ p. pays p i) refl 0 z.desks in
      let some' : 0 < z.desks = let t = proper.holders 0 in omega arith in
      record {
        taken = λ j. 0;
        legal = proper;
        most = λ j. omega arith;
        blank = λ b k hb lt. refl;
        bare = record { members = λ b m hb lt e. refl; frees = λ c hc e. refl };
        doors = λ b hb. let t = a (spot b 2) in omega arith;
        shows = record {
          sized = zero_length (all_words z.blocks z.cells);
          blocks = λ b k hb hk. inr (let t = zero_read (all_words z.blocks z.cells) (spot b k) in let c = start_words z proper.members.1 b k in
              let d = bank_start z proper.members.1 (spot b k) in
              let o' = o (spot b k) in let a' = a (spot b k) in let m' = m (spot b k) in omega arith);
          free = λ c hc. let t = zero_read (all_words z.blocks z.cells) (cell_spot z c) in let d = bank_start z proper.members.1 (cell_spot z c) in
              let e = packed_empty (blocks_of (start z)) (kind_of_free z.shared_cells c) in let a' = a (cell_spot z c) in
              let m' = m (cell_spot z c) in omega arith;
          shelf = λ b low. ap (λ n. bit_at n (b % 64)) (zero_read (all_words z.blocks z.cells) (shelf_spot z b)) ∙ bit_at-zero (b % 64);
        };
        team = record {
          seated = λ i v e l. let t = fresh_at 0 z.desks i v e in
              subst (λ (u : View V). Seated (replicate (all_words z.blocks z.cells) 0) z [] u) (sym t.1) (record {
                knows = λ d s. ([], refl, tt);
                acts = λ d s. ⊎_elim (λ q. let lt = t.0 in let e : 0 + i ≡ d = q in (omega arith, refl, proper.positive d (omega arith)))
                    (λ q. absurd q) s;
                apart = λ d s q. s;
                both = tt;
                fits = tt;
              });
          rests = λ i v e l. ap (λ (u : View V). u.pending) (fresh_at 0 z.desks i v e).1;
          names = λ i j v w e f l m d s t.
              let x = fresh_at 0 z.desks i v e in let y = fresh_at 0 z.desks j w f in
              let a1 : 0 + i ≡ d = ⊎_elim (λ q. q) (λ q. absurd q) (subst (λ (u : View V). StandsFor u d) x.1 s) in
              let b1 : 0 + j ≡ d = ⊎_elim (λ q. q) (λ q. absurd q) (subst (λ (u : View V). StandsFor u d) y.1 t) in omega arith;
          whole = (0, record { name = 0; spent = false; pending = Idle; seen = [] }, fresh_first z.desks some', refl, refl);
        };
      }
