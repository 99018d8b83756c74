-- Where a desk has such a share for each of its workers, only memory is refused.
use Rattle.std.proofs.Common.{◌≡◌, ℕ, zero, suc, ◌+◌, ◌-◌, ◌*◌, ◌<◌, ◌≤◌, min, max, ◌⊎◌, List, []}
use Rattle.std.proofs.Common.{◌∷◌, length, ◌==◌, sym, refl, ap, ◌∙◌, subst, inl, inr, arith}
use Rattle.script_runner.proofs.TablePrelude.{allowance_of, DeskNow, DomainNow, HasShares, held_of}
use Rattle.script_runner.proofs.TablePrelude.{IsFirstDesk, IsPartedInto, IsTooMuch, leads, Limit, Memory}
use Rattle.script_runner.proofs.TablePrelude.{opening_of, Refusal, Share, stock_of, Stored, TableNow}
use Rattle.script_runner.proofs.TablePrelude.{WhyFewer}
use Rattle.std.proofs.lemmas.Nat.{mul-le}
use Rattle.std.specs.List.{filter}
use Rattle.control_word.specs.State.{all_stored, stock}
use Rattle.control_word.specs.declared.refusal.Refusal.TheVariants.{Full}
use Rattle.control_block.specs.Parting.{free_of}
use Rattle.script_runner.proofs.Wholes.{no_endings}
use Rattle.script_runner.specs.Staffs.{CanShare}

-- m parts went to others, and there are n: there is one more
one_more : (a m n whole rest kept : ℕ) → rest + m * a ≡ whole → m < n → n * a ≤ whole - kept → a ≤ rest - kept
one_more a m n whole rest kept is less fits =
    let most : suc m * a ≤ n * a = mul-le (suc m) a n a less (omega arith) in omega (arith, is, most, fits)

-- the first desk has all blocks
all_many : (n : ℕ) → length (filter (λ (x : Stored). x.desk == 0) (all_stored (λ _. 0) n)) ≡ n
all_many zero = refl
all_many (suc n) = ap suc (all_many n)

module _ {V : Type 0} where
  -- what such parts leave of the allowance and of the blocks; the handles stay
  parts_leave : (d e : DeskNow V) (a k : ℕ) (ts : List (TableNow V)) → IsPartedInto d a k ts e
      → (allowance_of e + length ts * a ≡ allowance_of d) × (length (stock_of e) + length ts * k ≡ length (stock_of d))
      × (held_of e ≡ held_of d)
  parts_leave d e a k [] is =
      let x = ap (λ (y : DeskNow V). allowance_of y) is in let z = ap (λ (y : DeskNow V). length (stock_of y)) is in
      (omega (arith, x), omega (arith, z), ap (λ (y : DeskNow V). held_of y) is)
  parts_leave d e a k (t ∷ ts) is =
      let m = is.0 in let s = is.1 in let rest = parts_leave m e a k ts is.2 in
      let x = s.allowance.1 in let y = rest.0 in let z = s.stock.1 in let w = rest.1 in
      let same : m.held ≡ d.held = let h = s.held.1 in omega (arith, h) in
      (omega (arith, x, y), omega (arith, z, w), rest.2 ∙ λ i. same i + min 1 (s.count.0 i))

  -- the desk has a part for the next, and blocks
  next_fits : (d e : DeskNow V) (share : Share) (n : ℕ) (ts : List (TableNow V)) → IsPartedInto d share.allowance share.blocks ts e
      → length ts < n → CanShare d share n → (share.allowance ≤ free_of e 0) × (share.blocks ≤ length (stock_of e))
  next_fits d e share n ts parts less can =
      let left = parts_leave d e share.allowance share.blocks ts parts in
      let most = can.2 in
      let blocks = one_more share.blocks (length ts) n (length (stock_of d)) (length (stock_of e)) 0 left.1 less (omega (arith, most)) in (
        one_more share.allowance (length ts) n (allowance_of d) (allowance_of e) (max 1 (held_of e - 0)) left.0 less
            (subst (λ k. n * share.allowance ≤ allowance_of d - max 1 (k - 0)) (sym left.2) can.1),
        omega (arith, blocks),
      )

  pub only_memory : (d e : DeskNow V) (share : Share) (n : ℕ) (ts : List (TableNow V)) (why : Refusal)
      → IsPartedInto d share.allowance share.blocks ts e → length ts < n → WhyFewer e share.allowance share.blocks why
      → CanShare d share n → why ≡ Memory
  only_memory d e share n ts why parts less (inl is) can = is
  only_memory d e share n ts why parts less (inr part) can = go part.named
    where
      enough : IsTooMuch e share.allowance 0 → ⊥
      enough (inl none) = let some = can.0 in omega (arith, none, some)
      enough (inr (inl few)) = omega (arith, few)
      enough (inr (inr more)) = let most = (next_fits d e share n ts parts less can).0 in omega (arith, more, most)

      go : (why ≡ Limit) ⊎ ((why ≡ Full) ⊎ (why ≡ Memory)) → why ≡ Memory
      go (inl is) = absurd (enough (part.limit.0 is))
      go (inr (inl is)) =
          let few = (part.full.0 is).1 in let most = (next_fits d e share n ts parts less can).1 in absurd (omega (arith, few, most))
      go (inr (inr is)) = is

  -- the first desk has all of its domain
  pub first_whole : (domain : DomainNow) (d : DeskNow V) → IsFirstDesk domain d → allowance_of d ≡ domain.shape.allowance
  first_whole domain d b = λ i. (leads (opening_of (b.shape i)) (b.seen i)).allowance (b.name i)

  pub first_shares : (domain : DomainNow) (d : DeskNow V) (share : Share) (n : ℕ) → IsFirstDesk domain d
      → HasShares domain.shape share n → CanShare d share n
  first_shares domain d share n b has =
      let whole = first_whole domain d b in
      let blocks : length (stock_of d) ≡ domain.shape.blocks =
      (λ i. length (stock (leads (opening_of (b.shape i)) (b.seen i)) (b.name i))) ∙ all_many domain.shape.blocks in
      let none : held_of d ≡ 0 = λ i. b.held i + min 1 (no_endings d b.seen i) in
      let less = has.1 in let most = has.2 in
      (has.0, omega (arith, whole, none, less), omega (arith, blocks, most))
