use Rattle.std.proofs.Common.{sym, refl, ap, ◌∙◌}
use Rattle.control_block.proofs.Prelude.{IsSole, Shape}
use Rattle.control_block.proofs.closings.ShelvedStore.{block_told, cells_told, ends_before, holders_told}
use Rattle.control_block.proofs.parting.close.close.Goals as goal

pub returns-clause-census : goal.returns-clause-census
returns-clause-census g c =
    let d = c.args.desk in let f = c.shelve.new.self in let t = c.shelve.ensures.shelved in let legal = c.assert_invariant.ensures.legal in
    let sole : IsSole d = c.if-not-is_sole.ensures.0 refl ∙ ap (λ (y : Shape). y.allowance) (sym c.requires.domain.shape) in
    let told = c.take_census.ensures.census in
    record {
      sized = told.sized;
      tells = λ b lo hi still. block_told _ d f t legal sole b _ (told.tells b lo hi (ends_before _ d f t legal sole b still));
    }

pub returns-clause-cells : goal.returns-clause-cells
returns-clause-cells g c =
    let d = c.args.desk in
    let sole : IsSole d = c.if-not-is_sole.ensures.0 refl ∙ ap (λ (y : Shape). y.allowance) (sym c.requires.domain.shape) in
    cells_told _ d c.shelve.new.self c.shelve.ensures.shelved c.assert_invariant.ensures.legal sole _ c.take_census.ensures.cells

pub returns-clause-holders : goal.returns-clause-holders
returns-clause-holders g c = λ b has.
    let d = c.args.desk in
    let sole : IsSole d = c.if-not-is_sole.ensures.0 refl ∙ ap (λ (y : Shape). y.allowance) (sym c.requires.domain.shape) in
    holders_told _ d c.shelve.new.self c.shelve.ensures.shelved c.assert_invariant.ensures.legal sole b _ (c.take_census.ensures.holders b has)

pub returns-clause-whole : goal.returns-clause-whole
returns-clause-whole g c = λ none b lo hi.
    let d = c.args.desk in let t = c.shelve.ensures.shelved in
    let sole : IsSole d = c.if-not-is_sole.ensures.0 refl ∙ ap (λ (y : Shape). y.allowance) (sym c.requires.domain.shape) in
    block_told _ d c.shelve.new.self t c.assert_invariant.ensures.legal sole b _ (c.take_census.ensures.whole (t.passes.count ∙ none) b lo hi)
