use Rattle.control_word.proofs.history.Orders as orders
use Rattle.control_word.proofs.laws.history_laws.orders.Goals as goal

pub returns : goal.returns
returns g c = record {
  orders_by_owner = orders.orders_by_owner;
  strict_weak_order = orders.strict_weak_order;
  equivalence = orders.equivalence;
}
