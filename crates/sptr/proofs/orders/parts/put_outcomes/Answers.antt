use Rattle.std.proofs.Common.{◌<◌, ◌+◌, ℕ, ◌≡◌, List, [], sym, subst, take, length, map, true≢false, ◌∙◌, arith, String}
use Rattle.std.specs.Global.{Global}
use Rattle.std.specs.Prelude.{string_bytes}
use Rattle.script_orders.specs.Found.{outcomes_in}
use Rattle.script_orders.specs.Orders.{Outcome}
use Rattle.sptr.specs.OutcomePages.{ShowsAll}
use Rattle.sptr.proofs.ShownOutcomes.{adds_as, all_shown, outcome_as, outcome_at, shows_next, shows_none}
use Rattle.sptr.proofs.orders.parts.put_outcomes.Goals as goal
use Rattle.sptr.proofs.orders.parts.put_outcomes.Goals.{in-Some+in_ok-put_outcome, in_default}

pub put_outcome-requires : goal.put_outcome-requires
put_outcome-requires c =
    let text = c.in-Some.text.now in
    let list = c.in-Some.list.now in
    outcome_as c.args.script.now c.as_slice.result.now c.as_slice-in-Some.result.now text.items list.items
    c.as_slice.ensures.value c.as_slice-in-Some.ensures.value
    (outcome_at c.args.script.now c.args.outcomes.now.found.entries c.loop-index.index (text, list) c.requires
    (sym c.in-Some.ensures.entry))

pub loop-index-init : goal.loop-index-init
loop-index-init c = shows_none c.args.script.now (string_bytes c.args.page.now)

pub loop-index-preserved : goal.loop-index-preserved
loop-index-preserved c =
    elim c.match-get_index.branch [
      | in-Some+in_ok-put_outcome w ↦
          let text = w.in-Some.text.now in
          let list = w.in-Some.list.now in
          let next = w.put_outcome.new.page in
          subst (λ (page : String Global). ShowsAll c.args.script.now
          (take (c.loop-index.index + 1) (outcomes_in c.args.outcomes.now.found.entries))
          (string_bytes c.args.page.now) (string_bytes page)) (sym w.page-is)
          (shows_next c.args.script.now c.args.outcomes.now.found.entries c.loop-index.index
          (text, list) (string_bytes c.args.page.now)
          (string_bytes c.loop-index.page) (string_bytes next)
          (sym w.in-Some.ensures.entry) c.loop-index.invariant
          (adds_as c.args.script.now (c.loop-index.index + 1) w.as_slice.result.now w.as_slice-in-Some.result.now
          text.items list.items (string_bytes c.loop-index.page) (string_bytes next)
          w.as_slice.ensures.value w.as_slice-in-Some.ensures.value w.in_ok-put_outcome.ensures.adds))
      | in_default w ↦
          absurd (true≢false (sym (w.in_default.ensures.found.1 (subst (λ (n : ℕ). c.loop-index.index < n)
          c.len-index-end.ensures.len c.loop-index-test.true))))
    ]
