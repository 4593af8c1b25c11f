-- Why a raw program is no program of a machine: the first refusal, or none.
use Rattle.std.specs.Prelude.{◌≡◌, ℕ, ◌+◌, Bool, false, not, ◌||◌, ◌==◌, nat_lt, if◌then◌else◌, List, [], ◌∷◌, ◌++◌, length, get_or, flat_map, find, Option, Some, None, option_map, Result, Ok, Err}
use Rattle.std.specs.List.{list_any, range_with_len}
use Rattle.std.specs.Option.{option_or}
use Rattle.qccd_base.specs.Names.{ion, trap}
use Rattle.qccd_base.specs.declared.names.Ion.{Ion}
use Rattle.qccd_base.specs.declared.names.Mode.{Mode}
use Rattle.qccd_base.specs.declared.names.TrapId.{TrapId}
use Rattle.qccd_circuit.specs.Item.{ItemData}
use Rattle.qccd_machine.specs.Machine.{MachineData}
use Rattle.op_table.specs.declared.kinds.OpKind.{OpKind}
use Rattle.op_table.specs.Run.{item_in, items_in}
use Rattle.op_table.specs.State.{State, opening}
use Rattle.op_table.specs.Step.{why, effect}
use Rattle.qccd_program.specs.Mode.{is_of_mode}
use Rattle.qccd_program.specs.Program.{ProgramData}
use Rattle.transport_asm.specs.Texts.{RawData}
use Rattle.loader.specs.declared.faults.LoadFault.{LoadFault}
use Rattle.loader.specs.declared.faults.LoadFault.TheVariants.{TrapCount, BadStart, StartOverfull, Illegal, ItemTwice, WrongMode, NoMemory}

-- the raw program on a machine
abbrev pub on_machine : MachineData → RawData → ProgramData
on_machine m raw = record { machine = m; qubits = raw.qubits; bits = raw.bits; mode = raw.mode; start = raw.chains; ops = raw.ops }

-- the first number below n that passes, or none
abbrev pub first_below : (ℕ → Bool) → ℕ → Option ℕ
first_below passes n = find passes (range_with_len 0 n)

-- ---- the start chains

-- the ions in reading order
abbrev pub ions_of : List (List Ion) → List Ion
ions_of chains = flat_map (λ chain. chain) chains

-- whether the ion stands in the list
abbrev pub has_ion : List Ion → ℕ → Bool
has_ion ions i = list_any (λ x. x.0 == i) ions

-- whether an ion behind others is not below the number of qubits, or stands a second time
abbrev pub is_stray : ℕ → List Ion → Ion → Bool
is_stray qubits earlier x = not (nat_lt x.0 qubits) || has_ion earlier x.0

-- the first of these ions that is astray behind others
abbrev pub stray_behind : ℕ → List Ion → List Ion → Option Ion
stray_behind qubits earlier [] = None
stray_behind qubits earlier (x ∷ ions) = if is_stray qubits earlier x then Some x else stray_behind qubits (earlier ++ x ∷ []) ions

-- the least ion that is missing
abbrev pub missing_ion : ℕ → List Ion → Option Ion
missing_ion qubits ions = option_map ion (first_below (λ i. not (has_ion ions i)) qubits)

-- the first that is astray, or else the least that is missing
abbrev pub bad_ion : ℕ → List Ion → Option Ion
bad_ion qubits ions = option_or (stray_behind qubits [] ions) (missing_ion qubits ions)

-- the first chain above its trap's capacity
abbrev pub overfull_trap : MachineData → List (List Ion) → Option TrapId
overfull_trap m chains = option_map trap (first_below (λ t. nat_lt (get_or m.capacities t 0) (length (get_or chains t []))) (length chains))

-- ---- the operations

-- whether one of these operations does the item with that number
abbrev pub does_item : List OpKind → ℕ → Bool
does_item ops number = list_any (λ e. e.0 == number) (items_in ops)

-- whether an operation behind others does an item of theirs once more
abbrev pub does_again : List OpKind → Option (ℕ × ItemData) → Bool
does_again earlier None = false
does_again earlier (Some e) = does_item earlier e.0

-- the program may not have it, for it names the other mode
abbrev pub mode_fault : Option Mode → ℕ → OpKind → Option LoadFault
mode_fault mode k op = if is_of_mode mode op then None else Some (WrongMode k)

-- what is wrong with operation k behind others, in a state: it repeats an item, or else it has no step, or else the
-- program names the other mode
abbrev pub fault_behind : MachineData → Option Mode → State → List OpKind → ℕ → OpKind → Option LoadFault
fault_behind m mode s earlier k op =
    if does_again earlier (item_in op) then Some (ItemTwice k) else option_or (option_map (Illegal k) (why m s op)) (mode_fault mode k op)

-- the first of these operations with which something is wrong, numbered from k
abbrev pub first_fault : MachineData → Option Mode → State → List OpKind → ℕ → List OpKind → Option LoadFault
first_fault m mode s earlier k [] = None
first_fault m mode s earlier k (op ∷ ops) = option_or (fault_behind m mode s earlier k op) (first_fault m mode (effect m s op) (earlier ++ op ∷ []) (k + 1) ops)

-- ---- all in order

abbrev pub start_refusal : MachineData → ℕ → List (List Ion) → Option LoadFault
start_refusal m qubits chains =
    if length chains == length m.capacities
    then option_or (option_map BadStart (bad_ion qubits (ions_of chains))) (option_map StartOverfull (overfull_trap m chains))
    else Some (TrapCount (length chains) (length m.capacities))

abbrev pub load_refusal : MachineData → RawData → Option LoadFault
load_refusal m raw = option_or (start_refusal m raw.qubits raw.chains) (first_fault m raw.mode (opening raw.qubits raw.bits raw.chains) [] 0 raw.ops)

-- a fault is the refusal; of memory nothing is said
abbrev pub IsTold : LoadFault → Option LoadFault → Type 0
IsTold (TrapCount given traps) refusal = refusal ≡ Some (TrapCount given traps)
IsTold (BadStart i) refusal = refusal ≡ Some (BadStart i)
IsTold (StartOverfull t) refusal = refusal ≡ Some (StartOverfull t)
IsTold (Illegal op cause) refusal = refusal ≡ Some (Illegal op cause)
IsTold (ItemTwice op) refusal = refusal ≡ Some (ItemTwice op)
IsTold (WrongMode op) refusal = refusal ≡ Some (WrongMode op)
IsTold NoMemory refusal = Unit {0}

-- the answer is the refusal where there is one
abbrev pub Answers : {T : Type 0} → Result T LoadFault → Option LoadFault → Type 0
Answers (Ok value) refusal = refusal ≡ None
Answers (Err fault) refusal = IsTold fault refusal
