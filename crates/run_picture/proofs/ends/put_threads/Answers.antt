use Rattle.std.proofs.Common.{ℕ, ◌+◌, ◌++◌, ◌∷◌, [], codes, decimal, subst}
use Rattle.std.specs.Prelude.{string_bytes}
use Rattle.run_picture.specs.Elements.{Shows}
use Rattle.run_picture.proofs.Showing.{shows_none, titles_more}
use Rattle.run_picture.proofs.ends.put_threads.Goals as goal

pub loop-index-init : goal.loop-index-init
loop-index-init c = shows_none (string_bytes c.args.text.now)

pub loop-index-preserved : goal.loop-index-preserved
loop-index-preserved c =
    titles_more c.loop-index.index (string_bytes c.args.text.now) (string_bytes c.loop-index.text)
    (string_bytes c.put_title.new.text) c.loop-index.invariant
    (subst (λ (k : ℕ). Shows (string_bytes c.loop-index.text) (string_bytes c.put_title.new.text)
    ((codes "thread " ++ decimal (k + 1)) ∷ [])) c.from-in-loop-index.ensures c.in_ok-put_title.ensures)
