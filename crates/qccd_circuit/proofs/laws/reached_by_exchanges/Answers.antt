use Rattle.qccd_circuit.proofs.Exchanging.{reached_from_same_order, same_order_from_reached}
use Rattle.qccd_circuit.proofs.laws.reached_by_exchanges.Goals as goal

pub returns : goal.returns
returns c = λ items v. (reached_from_same_order items v, same_order_from_reached items v)
