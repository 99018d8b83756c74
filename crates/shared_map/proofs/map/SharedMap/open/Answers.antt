use Rattle.std.proofs.Common.{◌≡◌, ◌+◌, length, refl, false, arith}
use Rattle.pointers.specs.Sites.{free_site}
use Rattle.shared_map.proofs.Openings.{has_many, many_on, opens, reaches_on}
use Rattle.shared_map.proofs.map.SharedMap.open.Goals as goal

pub loop-number-preserved : goal.loop-number-preserved
loop-number-preserved g c =
    let o = g.D.Domain.opened in let i = c.loop-number.invariant in let now = c.loop-number.node in
    let bs = c.loop-number.buckets.items in let cs = c.push.new.self.items in let next = c.in_ok-next.next in
    let more : length cs ≡ c.loop-number.number + 1 = (let n = i.count in let k = c.in_ok-push.ensures.len in
    let a = c.loop-number.buckets.ok.0 in let b = c.push.new.self.ok.0 in omega arith) in
    record {
      reaches = reaches_on o (λ b. b.node) (λ b. b.is_entry) (free_site c.args.cell.0) c.first.result bs cs
          (record { node = now; is_entry = false }) now next i.reaches refl refl c.in_ok-push.ensures.items
          c.first.ensures c.in_ok-next.ensures.loaded;
      many = many_on o (λ b. b.node) c.in_ok-others.others bs cs (record { node = now; is_entry = false }) now next
          i.many refl c.in_ok-push.ensures.items;
      count = more;
    }

pub returns-clause-opened : goal.returns-clause-opened
returns-clause-opened g c =
    opens g.D.Domain.opened (λ b. b.node) (λ b. b.is_entry) (free_site c.args.cell.0) c.loop-number.buckets.items
    (record { node = c.loop-number.node; is_entry = false }) c.loop-number.node c.loop-number.invariant.reaches refl refl

pub returns-clause-many : goal.returns-clause-many
returns-clause-many g c =
    let all : length c.loop-number.buckets.items ≡ c.in_ok-others.others = (let n = c.loop-number.invariant.count in
    let most = c.loop-number.auto.number-end in let over = c.loop-number-test.false in omega arith) in
    has_many g.D.Domain.opened (λ b. b.node) c.in_ok-others.others c.loop-number.buckets.items
    (record { node = c.loop-number.node; is_entry = false }) c.loop-number.node c.loop-number.invariant.many refl all
