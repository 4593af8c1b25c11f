-- Faults that are handed on.
use Rattle.std.proofs.Common.{◌≡◌, Bool, true, List, Option, Result, Ok, Err, subst, sym}
use Rattle.std.specs.Result.{IsErrAnd}
use Rattle.qccd_circuit.specs.declared.kinds.Cond.{Cond}
use Rattle.qccd_circuit.specs.Item.{ItemData}
use Rattle.gate_defs.specs.declared.expanding.Frame.{Frame}
use Rattle.gate_defs.specs.declared.faults.ExpandFault.{ExpandFault}
use Rattle.gate_defs.specs.declared.kinds.Def.{Def}
use Rattle.gate_defs.specs.Frames.{Takes, left}
use Rattle.gate_defs.specs.Meaning.{any_long}
use Rattle.gate_defs.specs.declared.faults.ExpandFault.TheVariants.{AngleTooLong, NoMemory}
use Rattle.gate_defs.specs.Outcome.{Tells, TellsLong}

-- what is too long here makes the whole too long
pub tells_more : (here whole : Bool) (e : ExpandFault) → (here ≡ true → whole ≡ true) → Tells here e → Tells whole e
tells_more here whole AngleTooLong more told = more told
tells_more here whole NoMemory more told = tt

pub handed_on :
    {X : Type 0} (r : Result X ExpandFault) (here whole : Bool) (e : ExpandFault) → (here ≡ true → whole ≡ true) → Tells here e → IsErrAnd r (λ x. x ≡ e)
    → TellsLong r whole
handed_on (Ok x) here whole e more told is = tt
handed_on (Err x) here whole e more told is = subst (Tells whole) (sym is) (tells_more here whole e more told)

pub refused :
    {X : Type 0} (defs : List Def) (cond : Option Cond) (old new : List Frame) (made further : List ItemData) (r : Result X ExpandFault) (e : ExpandFault)
    → Tells (any_long (left defs old)) e → IsErrAnd r (λ x. x ≡ e) → Takes defs cond old made r new further
refused defs cond old new made further (Ok x) e told is = absurd is
refused defs cond old new made further (Err x) e told is = subst (Tells (any_long (left defs old))) (sym is) told
