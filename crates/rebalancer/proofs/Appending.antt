-- Lists of operations appended to a plan, part by part.
use Rattle.std.proofs.Common.{◌≡◌, ◌+◌, List, ◌++◌, length, sym, ◌∙◌, ap, subst, append_assoc, length-append}
use Rattle.std.specs.Prelude.{Err, Ok, OnErr, Result}
use Rattle.qccd_machine.specs.Machine.{MachineData}
use Rattle.op_table.specs.declared.kinds.OpKind.{OpKind}
use Rattle.op_table.specs.Run.{IsRun}
use Rattle.op_table.specs.State.{State}
use Rattle.op_plan.specs.Plan.{PlanData, Agrees, Continues, state_of, wired, with_ops}
use Rattle.op_plan.proofs.Runs.{run_append, run_back, run_front, state_more}

-- what is left of a run after its first part
pub run_on : (p new : PlanData) (a b : List OpKind) → new ≡ with_ops p a → IsRun (wired p) (state_of p) (a ++ b) → IsRun (wired new) (state_of new) b
run_on p new a b is run =
    subst (λ (x : PlanData). IsRun (wired x) (state_of x) b) (sym is) (subst (λ (s : State). IsRun (wired p) s b) (sym (state_more p a)) (run_back (wired p) (state_of p) a b run))

-- two parts, one after the other
pub both_parts : (p mid new : PlanData) (a b : List OpKind) → mid ≡ with_ops p a → new ≡ with_ops mid b → new ≡ with_ops p (a ++ b)
both_parts p mid new a b first second = second ∙ ap (λ (x : PlanData). with_ops x b) first ∙ ap (λ (ops : List OpKind). record p { ops = ops }) (append_assoc p.ops a b)

-- the first part alone continues the plan
pub first_part : (p new : PlanData) (a b : List OpKind) → new ≡ with_ops p a → IsRun (wired p) (state_of p) (a ++ b) → Continues p new
first_part p new a b is run = record { more = a; run = run_front (wired p) (state_of p) a b run; is = is }

pub continues_on : (old mid new : PlanData) → Continues old mid → Continues mid new → Continues old new
continues_on old mid new first second = record {
  more = first.more ++ second.more;
  run = run_append (wired old) (state_of old) first.more second.more first.run (subst (λ (s : State). IsRun (wired old) s second.more) (state_more old first.more) (subst (λ (x : PlanData). IsRun (wired x) (state_of x) second.more) first.is second.run));
  is = both_parts old mid new first.more second.more first.is second.is;
}

pub agrees_on : (m : MachineData) (p new : PlanData) (a : List OpKind) → Agrees m p → new ≡ with_ops p a → Agrees m new
agrees_on m p new a agrees is = subst (Agrees m) (sym is) (record { capacities = agrees.capacities; junctions = agrees.junctions; segments = agrees.segments })

pub longer : (p new : PlanData) (a : List OpKind) → new ≡ with_ops p a → length new.ops ≡ length p.ops + length a
longer p new a is = ap (λ (x : PlanData). length x.ops) is ∙ length-append p.ops a

pub on_err : {T E P : Type 0} (r : Result T E) → P → OnErr r P
on_err (Ok x) p = tt
on_err (Err e) p = p
