use Rattle.std.proofs.Common.{◌≡◌, ◌+◌, ◌*◌, ◌/◌, ◌%◌, sym, refl, ap, ◌∙◌, subst, arith}
use Rattle.control_block.proofs.Prelude.{Belongs, bit_at, Block, DeskNow, IsSole, on_shelf}
use Rattle.control_block.proofs.Prelude.{state_of, Unshelved, w64}
use Rattle.std.proofs.lemmas.Nat.Bits.{bit_at-trailing_zeros}
use Rattle.std.specs.Int.{trailing_zeros}
use Rattle.control_block.proofs.desks.OwnCounts.{byte_few, one_if}
use Rattle.control_block.proofs.Shelving.{belongs_on, bits_on, blocks_left, fewer_bits, not_one, unshelved_none}
use Rattle.control_block.proofs.Shelving.{unshelved_on}
use Rattle.control_block.proofs.desk.Desk.unshelve_from.Goals as goal

pub loop-bits-init : goal.loop-bits-init
loop-bits-init g c =
    let l = c.look_on_shelf-bits.ensures in
    record {
      belongs = subst (λ (z : DeskNow g.row.V.Denot). Belongs z c.args.domain.now) (sym l.same) c.requires.domain;
      few = omega arith;
      passed = unshelved_none _;
      same = λ z. refl;
      inside = l.inside;
      rest = λ sole b at zero.
          let was = l.told (subst (λ (z : DeskNow g.row.V.Denot). IsSole z) l.same sole) b at in
          subst (λ (z : DeskNow g.row.V.Denot). on_shelf (state_of z) b ≡ 0) (sym l.same) (sym was ∙ zero);
    }

-- the block of the lowest bit is one of the domain's
pub numbered-block-requires : goal.numbered-block-requires
numbered-block-requires g c =
    let n = c.loop-bits.bits in let k = trailing_zeros w64 n in let b = 64 * c.args.word + k in
    let t = bit_at-trailing_zeros w64 n (omega (arith, c.loop-bits-test.true)) (omega (arith, c.loop-bits.auto.bits-fits)) in
    let low = t.0 in
    let div : b / 64 ≡ c.args.word = omega (arith, low) in
    let left : b % 64 ≡ k = omega (arith, low) in
    let has = c.loop-bits.invariant.inside b div (ap (bit_at n) left ∙ t.1) in
    let most = c.look_on_shelf-bits.ensures.few in let h0 = has.0 in let h1 = has.1 in (h0, omega (arith, h1, most))

pub overflow_mul-word : goal.overflow_mul-word
overflow_mul-word g c = let most = c.look_on_shelf-bits.ensures.few in let low = c.requires.word in omega (arith, most, low)

pub overflow_add-word : goal.overflow_add-word
overflow_add-word g c =
    let most = c.look_on_shelf-bits.ensures.few in let low = c.requires.word in
    let t = (bit_at-trailing_zeros w64 c.loop-bits.bits (omega (arith, c.loop-bits-test.true)) (omega (arith, c.loop-bits.auto.bits-fits))).0 in
    omega (arith, most, low, t)

pub unshelve_block-requires-clause-block : goal.unshelve_block-requires-clause-block
unshelve_block-requires-clause-block g c =
    let n = c.loop-bits.bits in let k = trailing_zeros w64 n in let b = c.numbered-block.result.0 in
    let is = c.numbered-block.ensures in
    let t = bit_at-trailing_zeros w64 n (omega (arith, c.loop-bits-test.true)) (omega (arith, c.loop-bits.auto.bits-fits)) in
    let low = t.0 in
    let div : b / 64 ≡ c.args.word = omega (arith, low, is) in
    let left : b % 64 ≡ k = omega (arith, low, is) in
    (c.loop-bits.invariant.inside b div (ap (bit_at n) left ∙ t.1)).1

pub loop-bits-smaller : goal.loop-bits-smaller
loop-bits-smaller g c =
    let n = c.loop-bits.bits in let k = trailing_zeros w64 n in
    let t = bit_at-trailing_zeros w64 n (omega (arith, c.loop-bits-test.true)) (omega (arith, c.loop-bits.auto.bits-fits)) in
    let low = t.0 in
    let is = c.numbered-block.ensures in
    let left : c.numbered-block.result.0 % 64 ≡ k = omega (arith, low, is) in
    fewer_bits n (c.numbered-block.result.0 % 64) c.shelf_bit.result (omega arith) c.shelf_bit.ensures (ap (bit_at n) left ∙ t.1)

pub loop-bits-preserved : goal.loop-bits-preserved
loop-bits-preserved g c =
    let i = c.loop-bits.invariant in let e = c.unshelve_block.ensures in
    let n = c.loop-bits.bits in let k = trailing_zeros w64 n in
    let t = bit_at-trailing_zeros w64 n (omega (arith, c.loop-bits-test.true)) (omega (arith, c.loop-bits.auto.bits-fits)) in
    let low = t.0 in
    let b : Block = c.numbered-block.result in
    let told = c.numbered-block.ensures in
    let div : b.0 / 64 ≡ c.args.word = omega (arith, low, told) in
    let one = sym (c.from-taken.ensures ∙ one_if c.unshelve_block.result) in
    let most = byte_few c.unshelve_block.result in let is = c.from-taken.ensures in let few = i.few in let ne = c.if-taken-count.false in
    record {
      belongs = belongs_on _ _ _ e.unshelved.passes.same i.belongs;
      few = omega (arith, most, is, few, ne);
      passed = subst (λ q. Unshelved (c.loop-bits.taken + q) c.look_on_shelf-bits.new.self c.unshelve_block.new.self) one
          (unshelved_on _ _ _ _ _ i.passed e.unshelved);
      inside = blocks_left _ _ n c.shelf_bit.result i.inside;
      same = λ z. e.same (not_one c.unshelve_block.result (let f = c.from-taken.ensures in omega (arith, z, f))) ∙ i.same (omega (arith, z));
      rest = λ sole.
          let whole = (i.passed.clears sole).sole in
          bits_on c.loop-bits.self c.unshelve_block.new.self c.args.word n c.shelf_bit.result _ b c.shelf_bit.ensures div e.unshelved whole
          (e.off whole) (i.rest sole);
    }

pub returns-clause-same : goal.returns-clause-same
returns-clause-same g c = λ z. c.loop-bits.invariant.same z ∙ c.look_on_shelf-bits.ensures.same
