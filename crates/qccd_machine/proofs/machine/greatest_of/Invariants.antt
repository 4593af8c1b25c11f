use Rattle.std.proofs.Common.{◌≡◌, max, drop}
use Rattle.qccd_base.specs.Greatest.{greatest}
use Rattle.qccd_machine.proofs.machine.greatest_of.Given as goal

-- the greatest so far and that of what is left are the greatest of all
abbrev pub invariant-loop-number : goal.invariant-loop-number
invariant-loop-number l = max l.most (greatest (drop l.number-index l.numbers)) ≡ greatest l.numbers
