-- What a function that may meet an angle past the limit promises.
use Rattle.std.specs.Prelude.{◌≡◌, Bool, true, false, Result, Ok, Err}
use Rattle.gate_defs.specs.declared.faults.ExpandFault.{ExpandFault}
use Rattle.gate_defs.specs.declared.faults.ExpandFault.TheVariants.{AngleTooLong, NoMemory}
use Rattle.gate_defs.specs.declared.kinds.Arg.{Arg}
use Rattle.gate_defs.specs.Angles.{is_long}

-- memory may run out, and else something is too long
abbrev pub Tells : Bool → ExpandFault → Type 0
Tells long AngleTooLong = long ≡ true
Tells long NoMemory = Unit {0}

abbrev pub TellsLong : {X : Type 0} → Result X ExpandFault → Bool → Type 0
TellsLong (Ok x) long = Unit {0}
TellsLong (Err e) long = Tells long e

-- this argument, which is not too long, or that it is
abbrev pub GivesShort : Result Arg ExpandFault → Arg → Type 0
GivesShort (Ok x) a = (x ≡ a) × (is_long a ≡ false)
GivesShort (Err e) a = Tells (is_long a) e
