-- What holds where hot traps are cooled before gates.
use Rattle.std.proofs.Common.{arith, ◌≡◌, ℕ, ◌<◌, ◌≤◌, ◌+◌, Bool, true, false, nat_lt, if◌then◌else◌, List, [], ◌∷◌, ◌++◌, map, set, length, refl, sym, ◌∙◌, ap, subst, Option, Some, None, get_or}
use Rattle.std.specs.List.{AllByRecursion, enumerate_from}
use Rattle.std.proofs.lemmas.Bool.{cases_lt, false≢true}
use Rattle.std.proofs.lemmas.Option.{same_Some}
use Rattle.qccd_base.specs.declared.names.TrapId.{TrapId}
use Rattle.qccd_machine.specs.Machine.{MachineData}
use Rattle.op_table.specs.declared.kinds.OpKind.{OpKind}
use Rattle.op_table.specs.Op.{IsOp}
use Rattle.op_table.specs.Run.{IsRun, after}
use Rattle.op_table.specs.State.{State, IsSafe, heat_of}
use Rattle.op_table.specs.Step.{why, effect}
use Rattle.op_table.proofs.Every.{safe-effect}
use Rattle.op_plan.specs.Cold.{cold}
use Rattle.op_table.proofs.Openings.{opening-safe}
use Rattle.qccd_program.specs.Legal.{IsLegalProgram}
use Rattle.qccd_program.specs.Program.{ProgramData, opening_of, end_of}
use Rattle.passes.specs.Cool.{BeginCool, Does, cool_before, operations_in, tasks, gate_trap, if_hot, hot_trap, rested, ready, cooled_after, cooled_end}
use Rattle.passes.specs.Kept.{SameStands}
use Rattle.passes.proofs.Stands.{stands_legal, stands_step}

set_read : (hs : List ℕ) (t h : ℕ) → get_or (set hs t 0) t 0 ≤ 0
set_read [] t h = omega arith
set_read (x ∷ hs) Rattle.std.proofs.Common.zero h = omega arith
set_read (x ∷ hs) (Rattle.std.proofs.Common.suc t) h = set_read hs t h

-- a trap of a gate, when the hot one was cooled
gate_cool : (ceiling : ℕ) (s : State) (o : Option TrapId) (t : TrapId) → o ≡ Some t → heat_of (rested (if_hot ceiling s o) s) t.0 ≤ ceiling
gate_cool ceiling s None t is = cc
gate_cool ceiling s (Some u) t is = subst (λ (x : TrapId). heat_of (rested (if_hot ceiling s (Some u)) s) x.0 ≤ ceiling) (same_Some u t is) (by_test (nat_lt ceiling (heat_of s u.0)) refl)
  where
    by_test : (b : Bool) → nat_lt ceiling (heat_of s u.0) ≡ b → heat_of (rested (if b then Some u else None) s) u.0 ≤ ceiling
    by_test true h = omega (arith, set_read s.heats u.0 0)
    by_test false h = Rattle.std.proofs.lemmas.Bool.ltb-false ceiling (heat_of s u.0) h

hot_above : (ceiling : ℕ) (s : State) (o : Option TrapId) (t : TrapId) → if_hot ceiling s o ≡ Some t → ceiling < heat_of s t.0
hot_above ceiling s None t is = cc
hot_above ceiling s (Some u) t is = by_test (nat_lt ceiling (heat_of s u.0)) refl is
  where
    by_test : (b : Bool) → nat_lt ceiling (heat_of s u.0) ≡ b → (if b then Some u else None) ≡ Some t → ceiling < heat_of s t.0
    by_test true h e = subst (λ (x : TrapId). ceiling < heat_of s x.0) (same_Some u t e) (Rattle.std.proofs.lemmas.Bool.ltb-true ceiling (heat_of s u.0) h)
    by_test false h e = cc

pub begin_cool : (m : MachineData) (ceiling : ℕ) (s : State) (ops : List OpKind) → BeginCool m ceiling s ops
begin_cool m ceiling s [] = tt
begin_cool m ceiling s (op ∷ ops) =
    (λ t is. gate_cool ceiling s (gate_trap op) t is, λ t is. hot_above ceiling s (gate_trap op) t is, begin_cool m ceiling (effect m (ready ceiling s op) op) ops)

-- ---- places and bindings

cold_set : (hs : List ℕ) (t h : ℕ) → Rattle.std.proofs.Common.map {B = ℕ} (λ (h : ℕ). 0) (set hs t h) ≡ Rattle.std.proofs.Common.map (λ (h : ℕ). 0) hs
cold_set [] t h = refl
cold_set (x ∷ hs) Rattle.std.proofs.Common.zero h = refl
cold_set (x ∷ hs) (Rattle.std.proofs.Common.suc t) h = ap (λ (l : List ℕ). 0 ∷ l) (cold_set hs t h)

pub rested_stands : (o : Option TrapId) (s : State) → SameStands (rested o s) s
rested_stands None s = refl
rested_stands (Some t) s = ap (λ (l : List ℕ). record (cold s) { heats = l }) (cold_set s.heats t.0 0)

pub rested_safe : (m : MachineData) (o : Option TrapId) (s : State) → IsSafe m s → IsSafe m (rested o s)
rested_safe m None s safe = safe
rested_safe m (Some t) s safe = record {
  heats = Rattle.std.proofs.Common.length-set s.heats t.0 0 ∙ safe.heats;
  capacities = safe.capacities;
  indexes = safe.indexes;
  segments = safe.segments;
  junctions = safe.junctions;
  qubits = safe.qubits;
}

-- the cooled run does the same operations, and leaves the same places and bindings
pub cooled_stands : (m : MachineData) (ceiling : ℕ) (s z : State) (ops : List OpKind) → IsSafe m s → IsSafe m z → AllByRecursion IsOp ops → IsRun m z ops → SameStands s z → SameStands (cooled_after m ceiling s ops) (after m z ops)
cooled_stands m ceiling s z [] safe safe' kept run same = same
cooled_stands m ceiling s z (op ∷ ops) safe safe' kept run same =
    let r : State = ready ceiling s op in
    let safe_r : IsSafe m r = rested_safe m (hot_trap ceiling s op) s safe in
    let alike : SameStands r z = rested_stands (hot_trap ceiling s op) s ∙ same in
    let legal : why m r op ≡ None = stands_legal m z r op safe' safe_r kept.0 (sym alike) ∙ run.0 in
    cooled_stands m ceiling (effect m r op) (effect m z op) ops (safe-effect m r op safe_r kept.0 legal) (safe-effect m z op safe' kept.0 run.0) kept.1 run.1 (stands_step m r z op safe_r safe' kept.0 legal alike)

pub cooled_ends : (p : ProgramData) (ceiling : ℕ) → IsLegalProgram p → SameStands (cooled_end p ceiling) (end_of p)
cooled_ends p ceiling legal =
    let safe : IsSafe p.machine (opening_of p) = opening-safe p.machine p.qubits p.bits p.start legal.start in
    cooled_stands p.machine ceiling (opening_of p) (opening_of p) p.ops safe safe legal.ops legal.run refl

-- the operations of the cooled run are those of the program
pub operations_stay : (m : MachineData) (ceiling k : ℕ) (s : State) (ops : List OpKind) → operations_in (tasks m ceiling k s ops) ≡ enumerate_from k ops
operations_stay m ceiling k s [] = refl
operations_stay m ceiling k s (op ∷ ops) = by_hot (hot_trap ceiling s op) (operations_stay m ceiling (k + 1) (effect m (ready ceiling s op) op) ops)
  where
    by_hot : (o : Option TrapId) → operations_in (tasks m ceiling (k + 1) (effect m (ready ceiling s op) op) ops) ≡ enumerate_from (k + 1) ops
        → operations_in (map (λ task. (k, task)) (cool_before o ++ Does op ∷ []) ++ tasks m ceiling (k + 1) (effect m (ready ceiling s op) op) ops) ≡ (k, op) ∷ enumerate_from (k + 1) ops
    by_hot None rest = ap (λ (l : List (ℕ × OpKind)). (k, op) ∷ l) rest
    by_hot (Some t) rest = ap (λ (l : List (ℕ × OpKind)). (k, op) ∷ l) rest
