-- The count of the number 2 is wrong, or that of 1.
use Rattle.qccd_circuit.proofs.worked.each_gate_comes_once.Goals as goal

pub returns-clause-left_out : goal.returns-clause-left_out
returns-clause-left_out c = λ order. let count = order.once 2 in cc

pub returns-clause-twice : goal.returns-clause-twice
returns-clause-twice c = λ order. let count = order.once 2 in cc

pub returns-clause-instead : goal.returns-clause-instead
returns-clause-instead c = λ order. let count = order.once 1 in cc
