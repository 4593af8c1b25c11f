-- A raw program is refused or legal.
use Rattle.std.proofs.Common.{◌≡◌, ℕ, ◌≤◌, Bool, true, false, ◌==◌, List, [], length, refl, sym, ◌∙◌, ap, ap₂, subst, Option, Some, None, option_map, inl, inr, if◌then◌else◌, Result, Ok, Err}
use Rattle.std.specs.Prelude.{OnOk}
use Rattle.std.specs.List.{AllByRecursion}
use Rattle.std.specs.Option.{option_or}
use Rattle.std.proofs.lemmas.Bool.{eqb-true}
use Rattle.std.proofs.lemmas.Bool.Decides.{eqb_tells}
use Rattle.qccd_base.specs.declared.names.Ion.{Ion}
use Rattle.qccd_base.specs.declared.names.TrapId.{TrapId}
use Rattle.qccd_machine.specs.Machine.{MachineData}
use Rattle.op_table.specs.Op.{IsOp, KeepsItemRule}
use Rattle.op_table.specs.Start.{IsStart}
use Rattle.op_table.specs.State.{opening}
use Rattle.qccd_program.specs.Legal.{IsLegalProgram}
use Rattle.transport_asm.specs.Texts.{RawData}
use Rattle.loader.specs.declared.faults.LoadFault.{LoadFault}
use Rattle.loader.specs.declared.faults.LoadFault.TheVariants.{TrapCount, BadStart, StartOverfull}
use Rattle.loader.specs.Refusal.{on_machine, ions_of, bad_ion, overfull_trap, start_refusal, first_fault, load_refusal, Answers}
use Rattle.loader.proofs.Firsts.{some_none}
use Rattle.loader.proofs.Chains.{counted, none_bad, fits_all, none_overfull}
use Rattle.loader.proofs.NoFaults.{or_parts, nothing_wrong, all_well}

unmapped : {X Y : Type 0} (f : X → Y) (o : Option X) → option_map f o ≡ None → o ≡ None
unmapped f None e = refl
unmapped f (Some x) e = absurd (some_none e)

pub start_is : (m : MachineData) (qubits : ℕ) (chains : List (List Ion)) → start_refusal m qubits chains ≡ None → IsStart m qubits chains
start_is m qubits chains none = by_count (length chains == length m.capacities) refl
  where
    by_count : (b : Bool) → (length chains == length m.capacities) ≡ b → IsStart m qubits chains
    by_count true same =
        let both = or_parts (option_map BadStart (bad_ion qubits (ions_of chains))) (option_map StartOverfull (overfull_trap m chains)) (rw same at none) in
        record {
          chains = eqb-true (length chains) (length m.capacities) same;
          capacities = fits_all m chains (unmapped StartOverfull (overfull_trap m chains) both.1);
          once = counted qubits (ions_of chains) (unmapped BadStart (bad_ion qubits (ions_of chains)) both.0);
        }
    by_count false other = absurd (some_none (rw other at none))

start_none : (m : MachineData) (qubits : ℕ) (chains : List (List Ion)) → IsStart m qubits chains → start_refusal m qubits chains ≡ None
start_none m qubits chains start =
    let same : (length chains == length m.capacities) ≡ true = elim (eqb_tells (length chains) (length m.capacities)) [ inl is ↦ is.0 | inr other ↦ absurd (other.1 start.chains) ] in
    ap (λ (b : Bool). if b then option_or (option_map BadStart (bad_ion qubits (ions_of chains))) (option_map StartOverfull (overfull_trap m chains)) else Some (TrapCount (length chains) (length m.capacities))) same
    ∙ ap₂ (λ (i : Option Ion) (t : Option TrapId). option_or (option_map BadStart i) (option_map StartOverfull t)) (none_bad qubits (ions_of chains) start.once) (none_overfull m chains start.capacities)

pub legal_if_none : (m : MachineData) (raw : RawData) → raw.qubits ≤ 256 → raw.bits ≤ 256 → length raw.ops ≤ 4194304 → AllByRecursion IsOp raw.ops → AllByRecursion KeepsItemRule raw.ops
    → IsStart m raw.qubits raw.chains → first_fault m raw.mode (opening raw.qubits raw.bits raw.chains) [] 0 raw.ops ≡ None → IsLegalProgram (on_machine m raw)
legal_if_none m raw qubits bits few kinds items start none =
    let well = nothing_wrong m raw.mode (opening raw.qubits raw.bits raw.chains) [] 0 raw.ops none in
    record { qubits = qubits; bits = bits; few = few; start = start; ops = kinds; items_fit = items; run = well.0; once = well.1; of_mode = well.2 }

pub none_if_legal : (m : MachineData) (raw : RawData) → IsLegalProgram (on_machine m raw) → load_refusal m raw ≡ None
none_if_legal m raw legal =
    ap₂ option_or (start_none m raw.qubits raw.chains legal.start) (all_well m raw.mode (opening raw.qubits raw.bits raw.chains) [] 0 raw.ops legal.run legal.once legal.of_mode)

pub none_parts : (m : MachineData) (raw : RawData) → load_refusal m raw ≡ None → (start_refusal m raw.qubits raw.chains ≡ None) × (first_fault m raw.mode (opening raw.qubits raw.bits raw.chains) [] 0 raw.ops ≡ None)
none_parts m raw none = or_parts (start_refusal m raw.qubits raw.chains) (first_fault m raw.mode (opening raw.qubits raw.bits raw.chains) [] 0 raw.ops) none

-- what is told behind chains that are a start is told of all
pub answers_behind : {T : Type 0} (r : Result T LoadFault) (a b : Option LoadFault) → a ≡ None → Answers r b → Answers r (option_or a b)
answers_behind r a b none told = subst (Answers r) (sym (ap (λ o. option_or o b) none)) told

pub legal_when : {T : Type 0} (r : Result T LoadFault) (m : MachineData) (raw : RawData) → raw.qubits ≤ 256 → raw.bits ≤ 256 → length raw.ops ≤ 4194304 → IsStart m raw.qubits raw.chains
    → Answers r (first_fault m raw.mode (opening raw.qubits raw.bits raw.chains) [] 0 raw.ops) → OnOk r (AllByRecursion IsOp raw.ops) → OnOk r (AllByRecursion KeepsItemRule raw.ops) → OnOk r (IsLegalProgram (on_machine m raw))
legal_when (Ok x) m raw qubits bits few start told kinds items = legal_if_none m raw qubits bits few kinds items start told
legal_when (Err e) m raw qubits bits few start told kinds items = tt
