use Rattle.std.proofs.Common.{ℕ, ◌+◌, List, [], None, refl, ◌∙◌, subst, rules}
use Rattle.pointers.proofs.Prelude.{Failed, Fits, led_by, Shape}
use Rattle.pointers.proofs.Leading.{few_handles}
use Rattle.pointers.proofs.Runs.{opened_none}
use Rattle.pointers.specs.Leading.{LedAt}
use Rattle.pointers.specs.Programs.{IsClosed}
use Rattle.pointers.proofs.program.leader.run_leader.Goals as goal

pub close_whole-census-requires-clause-none : goal.close_whole-census-requires-clause-none
close_whole-census-requires-clause-none g c =
    let o = c.in-Some-open_domain.opened in
    c.led_at-led.ensures.stay.endings ∙ opened_none c.args.shape o.0 o.1 c.in-Some-open_domain.ensures

pub returns-in-Some-led-clause-runs : goal.returns-in-Some-led-clause-runs
returns-in-Some-led-clause-runs g c =
    let o = c.in-Some-open_domain.opened in let t = c.led_at-led.new.self in let q = c.led_at-led.new.leader in
    let fits : Fits c.args.shape (record { workers = 1; pointers = c.args.pointers }) = search rules in (
      led_by q t,
      c.in-Some-led.fault,
      record {
        domain = o.0;
        first = o.1;
        opened = c.in-Some-open_domain.ensures;
        led = subst (λ (l : List Failed). LedAt g.P.Leader.leads g.P.Program.answers (c.args.pointers + 2)
            (record { leader = c.args.leader.now; before = None; kept = []; desk = o.1; workers = 0; fewer = None; failed = l })
            (led_by q t) c.in-Some-led.fault)
            c.in-Ok.ensures.items
            (subst (λ (h : ℕ). LedAt g.P.Leader.leads g.P.Program.answers h
            (record { leader = c.args.leader.now; before = None; kept = []; desk = o.1; workers = 0; fewer = None; failed = c.in-Ok.failed.items }) (led_by q t)
            c.in-Some-led.fault)
            (c.each.ensures.is (few_handles c.args.shape c.args.pointers fits)) c.in-Some-led.ensures.led);
        closed = subst (λ (s : Shape). IsClosed t.desk s c.close_whole-census.result) c.in-Some-open_domain.ensures.of c.close_whole-census.ensures;
      },
      refl,
      refl,
      refl,
      c.with_leader.ensures,
    )
