-- What a call leads to, put together of what its calls lead to.
use Rattle.std.proofs.Common.{◌≡◌, Result, Ok, Err, IfErr, IsErrAnd, sym, subst, ◌∙◌}
use Rattle.qasm_reader.specs.declared.fault.QasmFault.{QasmFault}
use Rattle.qasm_reader.specs.declared.fault.QasmFault.TheVariants.{Refused, NoMemory}
use Rattle.qasm_reader.specs.Reading.{Answer}
use Rattle.qasm_reader.specs.Code.{Leads, Tells}

-- an answer that is known to be another's
pub tells_before : (whole later : Answer) (e : QasmFault) → whole ≡ later → Tells later e → Tells whole e
tells_before whole later (Refused at kind) same tells = same ∙ tells
tells_before whole later NoMemory same tells = tt

pub leads_before : {X : Type 0} (whole later : Answer) (next : X → Answer) (r : Result X QasmFault) → whole ≡ later → Leads later next r → Leads whole next r
leads_before whole later next (Ok x) same leads = same ∙ leads
leads_before whole later next (Err e) same leads = tells_before whole later e same leads

-- the exit of a `?`
pub leads_exit : {X : Type 0} (whole : Answer) (next : X → Answer) (r : Result X QasmFault) (e : QasmFault) → IsErrAnd r (λ y. y ≡ e) → Tells whole e → Leads whole next r
leads_exit whole next (Ok y) e is tells = absurd is
leads_exit whole next (Err y) e is tells = subst (Tells whole) (sym is) tells

-- the same behind a call that led on
pub leads_exit_later :
    {X : Type 0} (whole later : Answer) (next : X → Answer) (r : Result X QasmFault) (e : QasmFault) → IsErrAnd r (λ y. y ≡ e) → whole ≡ later
    → Tells later e → Leads whole next r
leads_exit_later whole later next r e is same tells = leads_exit whole next r e is (tells_before whole later e same tells)

-- the exit of a `?` where only the fault is told
pub tells_exit : {X : Type 0} (whole : Answer) (r : Result X QasmFault) (e : QasmFault) → IsErrAnd r (λ y. y ≡ e) → Tells whole e → IfErr r (Tells whole)
tells_exit whole (Ok y) e is tells = tt
tells_exit whole (Err y) e is tells = subst (Tells whole) (sym is) tells

pub ruleset leads = (leads_exit, leads_exit_later)
