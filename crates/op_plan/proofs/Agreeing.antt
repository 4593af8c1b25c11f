-- Machines that agree with a plan do the same: no state, cause or place depends on the times.
use Rattle.std.proofs.Common.{◌≡◌, ℕ, List, refl, sym, subst, ◌∙◌, ap, slice_get}
use Rattle.qccd_base.specs.declared.names.Res.{Res}
use Rattle.qccd_base.specs.declared.names.Res.TheVariants as res
use Rattle.qccd_base.specs.declared.times.Times.{Times}
use Rattle.qccd_machine.specs.declared.place.Place.{Place}
use Rattle.qccd_machine.specs.Machine.{MachineData}
use Rattle.op_table.specs.declared.kinds.OpKind.{OpKind}
use Rattle.op_table.specs.declared.kinds.OpKind.TheVariants.{Split, Move, Enter, Leave, Merge, Rot, GSwap, Item, Fence}
use Rattle.op_table.specs.State.{State, IsSafe}
use Rattle.op_table.specs.Step.{why, effect}
use Rattle.op_cells.specs.declared.cells.Cell.{Cell}
use Rattle.op_cells.specs.Numbering.{index_of, IsThere}
use Rattle.op_cells.specs.Shows.{Shows}
use Rattle.op_plan.specs.Plan.{PlanData, Agrees, wired}

abbrev pub retimed : Times → MachineData → MachineData
retimed x m = record m { times = x }

agreed : (m : MachineData) (p : PlanData) → Agrees m p → m ≡ retimed m.times (wired p)
agreed m p a =
    ap (λ (c : List ℕ). record { capacities = c; junctions = m.junctions; segments = m.segments; times = m.times }) a.capacities
    ∙ ap (λ (j : ℕ). record { capacities = p.capacities; junctions = j; segments = m.segments; times = m.times }) a.junctions
    ∙ ap (λ (g : List (Place × Place)). record { capacities = p.capacities; junctions = p.junctions; segments = g; times = m.times }) a.segments

effect_retimed : (m : MachineData) (x : Times) (s : State) (op : OpKind) → effect (retimed x m) s op ≡ effect m s op
effect_retimed m x s (Split t e g) = refl
effect_retimed m x s (Move g) = refl
effect_retimed m x s (Enter g j) = refl
effect_retimed m x s (Leave j g) = refl
effect_retimed m x s (Merge g t e) = refl
effect_retimed m x s (Rot t p) = refl
effect_retimed m x s (GSwap t low high) = refl
effect_retimed m x s (Item number t item at) = refl
effect_retimed m x s (Fence number item traps) = refl

why_retimed : (m : MachineData) (x : Times) (s : State) (op : OpKind) → why (retimed x m) s op ≡ why m s op
why_retimed m x s (Split t e g) = refl
why_retimed m x s (Move g) = refl
why_retimed m x s (Enter g j) = refl
why_retimed m x s (Leave j g) = refl
why_retimed m x s (Merge g t e) = refl
why_retimed m x s (Rot t p) = refl
why_retimed m x s (GSwap t low high) = refl
why_retimed m x s (Item number t item at) = refl
why_retimed m x s (Fence number item traps) = refl

safe_retimed : (m : MachineData) (x : Times) (s : State) → IsSafe m s → IsSafe (retimed x m) s
safe_retimed m x s safe = record {
  heats = safe.heats;
  capacities = safe.capacities;
  indexes = safe.indexes;
  segments = safe.segments;
  junctions = safe.junctions;
  qubits = safe.qubits;
}

index_retimed : (m : MachineData) (x : Times) (r : Res) → index_of (retimed x m) r ≡ index_of m r
index_retimed m x (res.Trap t) = refl
index_retimed m x (res.Seg g) = refl
index_retimed m x (res.Junc j) = refl
index_retimed m x (res.Bit b) = refl

there_from : (m : MachineData) (x : Times) (n : ℕ) (r : Res) → IsThere (retimed x m) n r → IsThere m n r
there_from m x n (res.Trap t) h = h
there_from m x n (res.Seg g) h = h
there_from m x n (res.Junc j) h = h
there_from m x n (res.Bit b) h = h

there_to : (m : MachineData) (x : Times) (n : ℕ) (r : Res) → IsThere m n r → IsThere (retimed x m) n r
there_to m x n (res.Trap t) h = h
there_to m x n (res.Seg g) h = h
there_to m x n (res.Junc j) h = h
there_to m x n (res.Bit b) h = h

shows_retimed : (m : MachineData) (x : Times) (s : State) (cells : List Cell) → Shows m s cells → Shows (retimed x m) s cells
shows_retimed m x s cells shows = record {
  long = shows.long;
  each = λ r there. let here = shows.each r (there_from m x s.bits r there) in (here.0, ap (slice_get cells) (index_retimed m x r) ∙ here.1, here.2);
}

shows_wired : (m : MachineData) (x : Times) (s : State) (cells : List Cell) → Shows (retimed x m) s cells → Shows m s cells
shows_wired m x s cells shows = record {
  long = shows.long;
  each = λ r there. let here = shows.each r (there_to m x s.bits r there) in (here.0, ap (slice_get cells) (sym (index_retimed m x r)) ∙ here.1, here.2);
}

pub effect_agrees : (m : MachineData) (p : PlanData) (s : State) (op : OpKind) → Agrees m p → effect m s op ≡ effect (wired p) s op
effect_agrees m p s op a = ap (λ (n : MachineData). effect n s op) (agreed m p a) ∙ effect_retimed (wired p) m.times s op

pub why_agrees : (m : MachineData) (p : PlanData) (s : State) (op : OpKind) → Agrees m p → why m s op ≡ why (wired p) s op
why_agrees m p s op a = ap (λ (n : MachineData). why n s op) (agreed m p a) ∙ why_retimed (wired p) m.times s op

pub safe_agrees : (m : MachineData) (p : PlanData) (s : State) → Agrees m p → IsSafe (wired p) s → IsSafe m s
safe_agrees m p s a safe = subst (λ (n : MachineData). IsSafe n s) (sym (agreed m p a)) (safe_retimed (wired p) m.times s safe)

pub shows_agrees : (m : MachineData) (p : PlanData) (s : State) (cells : List Cell) → Agrees m p → Shows (wired p) s cells → Shows m s cells
shows_agrees m p s cells a shows = subst (λ (n : MachineData). Shows n s cells) (sym (agreed m p a)) (shows_retimed (wired p) m.times s cells shows)

pub shown_agrees : (m : MachineData) (p : PlanData) (s : State) (cells : List Cell) → Agrees m p → Shows m s cells → Shows (wired p) s cells
shown_agrees m p s cells a shows = shows_wired (wired p) m.times s cells (subst (λ (n : MachineData). Shows n s cells) (agreed m p a) shows)
