use Rattle.std.proofs.Common.{subst, arith, List, length}
use Rattle.std.specs.Prelude.{IfNone}
use Rattle.std.specs.List.{AllByRecursion}
use Rattle.std.proofs.lemmas.List.Elements.{All-from_recursion}
use Rattle.qccd_circuit.specs.Item.{ItemData}
use Rattle.op_table.specs.Run.{items_in}
use Rattle.meaning_check.specs.Least.{HasRows}
use Rattle.meaning_check.specs.Verdict.{IsOfCircuit, HasEach}
use Rattle.meaning_check.proofs.Going.{rows_all}
use Rattle.meaning_check.proofs.Verdicts.{same_where}
use Rattle.meaning_check.proofs.comparing.compare.Goals as goal

pub first_to_overtake-requires : goal.first_to_overtake-requires
first_to_overtake-requires c =
    let circuit = c.args.circuit.now in
    let ops = c.ops-ops.result.now in
    let all = subst (λ (items : List ItemData). AllByRecursion (IsOfCircuit items) ops) c.items-items.ensures.value c.in_default.ensures.none in
    record { within = All-from_recursion HasRows ops (rows_all circuit ops c.items-items.ensures.is_circuit all) }

pub returns-in-None : goal.returns-in-None
returns-in-None c =
    let items = c.items-items.result.now in
    let ops = c.ops-ops.result.now in
    same_where c.args.circuit.now c.args.program.now items ops c.items-items.ensures.value c.ops-ops.ensures.value
    (omega (arith, c.qubits.ensures, c.qubits-2.ensures, c.if-qubits.false), omega (arith, c.bits.ensures, c.bits-else-qubits.ensures, c.if-bits.false)) c.in_default.ensures.none
    (subst (λ o. IfNone o (HasEach (length items) (items_in ops))) c.in_default-2.is c.in_ok-item.ensures.none) c.in-None.ensures.none
