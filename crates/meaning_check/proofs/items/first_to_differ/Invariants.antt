-- The items so far are the circuit's.
use Rattle.std.proofs.Common.{take}
use Rattle.std.specs.List.{AllByRecursion}
use Rattle.meaning_check.specs.Verdict.{IsOfCircuit}
use Rattle.meaning_check.proofs.items.first_to_differ.Given as goal

abbrev pub invariant-loop-number : goal.invariant-loop-number
invariant-loop-number l = AllByRecursion (IsOfCircuit l.items) (take l.number l.ops)
