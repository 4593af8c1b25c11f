use Rattle.std.proofs.Common.{◌≡◌, ◌++◌, List, OnOk, arith, subst, sym}
use Rattle.qccd_circuit.specs.Item.{ItemData}
use Rattle.gate_defs.proofs.Fitting.{ccx_fit, ccx_is}
use Rattle.gate_defs.proofs.items.add_ccx.Goals as goal

pub add_steps-requires : goal.add_steps-requires
add_steps-requires c = ccx_fit c.args.qubits.now c.args.cond (omega (arith, c.in-len3.len_at_least, c.in-len3.len_below)) c.requires.distinct c.requires.condition

pub returns-in-len3 : goal.returns-in-len3
returns-in-len3 c =
    subst (λ (l : List ItemData). OnOk c.add_steps.result (c.add_steps.new.items.items ≡ c.args.items.now.items ++ l))
    (sym (ccx_is c.args.qubits.now c.args.cond (omega (arith, c.in-len3.len_at_least, c.in-len3.len_below)))) c.add_steps.ensures
