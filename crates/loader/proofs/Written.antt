-- A text is loaded as a program exactly where it is the text of it, and the program is legal and plain.
use Rattle.std.proofs.Common.{◌≡◌, ℕ, zero, suc, ◌<◌, ◌≤◌, List, [], ◌∷◌, length, get_or, refl, sym, ◌∙◌, ap, subst, arith, Option, Some, None, slice_get, All}
use Rattle.std.specs.Prelude.{IfSome}
use Rattle.std.specs.List.{AllByRecursion, cons_option}
use Rattle.std.proofs.lemmas.List.Elements.{recursion_from_All, All-from_get_or}
use Rattle.std.proofs.lemmas.Option.{none-some, same_Some}
use Rattle.qccd_base.specs.declared.names.Ion.{Ion}
use Rattle.qccd_circuit.specs.Circuit.{CircuitData, IsCircuit}
use Rattle.qccd_circuit.specs.declared.kinds.Cond.{Cond}
use Rattle.qccd_circuit.specs.declared.kinds.ItemKind.{ItemKind}
use Rattle.qccd_circuit.specs.declared.kinds.ItemKind.TheVariants.{Barrier}
use Rattle.qccd_circuit.specs.Item.{ItemData, FitsKind}
use Rattle.qccd_machine.specs.Machine.{MachineData, IsValid}
use Rattle.op_table.specs.declared.kinds.OpKind.{OpKind}
use Rattle.op_table.specs.declared.kinds.OpKind.TheVariants.{Split, Move, Enter, Leave, Merge, Rot, GSwap, Item, Fence}
use Rattle.op_table.specs.Op.{IsOp, KeepsItemRule}
use Rattle.op_table.specs.Run.{item_in, items_in}
use Rattle.op_table.specs.Start.{IsStart}
use Rattle.op_table.proofs.Openings.{ion_below}
use Rattle.qccd_program.specs.Implements.{Implements}
use Rattle.qccd_program.specs.Legal.{IsLegalProgram}
use Rattle.qccd_program.specs.Program.{ProgramData}
use Rattle.transport_asm.specs.ProgramText.{program_text, spelled}
use Rattle.op_text.specs.Slots.{greatest}
use Rattle.transport_asm.specs.Texts.{RawData}
use Rattle.transport_asm.specs.Writable.{KeepsCondLimits, KeepsLimits, IsWritable, IsWritableChain, IsWritableRaw}
use Rattle.transport_asm.proofs.Answered.{one_raw}
use Rattle.transport_asm.proofs.Rule.{raw_fitting, raw_writable}
use Rattle.transport_asm.proofs.TextLaws.{text_again, text_takes}
use Rattle.loader.specs.Refusal.{on_machine, load_refusal}
use Rattle.loader.specs.Written.{IsLoadedAs, IsPlain, TellsValue}
use Rattle.loader.proofs.LegalLoads.{start_is, legal_if_none, none_if_legal, none_parts}
use Rattle.loader.proofs.Limits.{run_limits}

-- ---- chains

capacity_small : (cs : List ℕ) (t : ℕ) → AllByRecursion (λ c. (2 ≤ c) × (c ≤ 32)) cs → get_or cs t 0 ≤ 32
capacity_small [] t all = omega arith
capacity_small (c ∷ cs) zero all = all.0.1
capacity_small (c ∷ cs) (suc t) all = capacity_small cs t all.1

ions_small : (n : ℕ) (xs : List Ion) → n ≤ 256 → ((k : ℕ) (x : Ion) → slice_get xs k ≡ Some x → x.0 < n) → AllByRecursion (λ i. i.0 ≤ 65535) xs
ions_small n [] small below = tt
ions_small n (x ∷ xs) small below = (omega (arith, below 0 x refl, small), ions_small n xs small (λ k. below (suc k)))

chains_writable : (m : MachineData) (qubits : ℕ) (chains : List (List Ion)) → IsValid m → qubits ≤ 256 → IsStart m qubits chains → AllByRecursion IsWritableChain chains
chains_writable m qubits chains valid few start = recursion_from_All IsWritableChain chains (All-from_get_or IsWritableChain chains [] (λ t within. one t))
  where
    one : (t : ℕ) → IsWritableChain (get_or chains t [])
    one t = (
      omega (arith, start.capacities t, capacity_small m.capacities t (recursion_from_All (λ c. (2 ≤ c) × (c ≤ 32)) m.capacities valid.capacities)),
      ions_small qubits (get_or chains t []) few (λ k x is. ion_below m qubits chains start t k x is),
    )

-- ---- operations

tells_value : (c : Option Cond) → KeepsCondLimits c → TellsValue c
tells_value None limits = tt
tells_value (Some c) limits = limits.1

all_writable : (ops : List OpKind) → AllByRecursion IsOp ops → AllByRecursion KeepsItemRule ops → AllByRecursion KeepsLimits ops → AllByRecursion IsWritable ops
all_writable [] kept fit limits = tt
all_writable (op ∷ ops) kept fit limits = (
  record { is_op = kept.0; fits = fit.0; limits = limits.0 },
  all_writable ops kept.1 fit.1 limits.1,
)

plain_op : (op : OpKind) → IsWritable op → IsPlain op
plain_op (Split t e g) w = tt
plain_op (Move g) w = tt
plain_op (Enter g j) w = tt
plain_op (Leave j g) w = tt
plain_op (Merge g t e) w = tt
plain_op (Rot t p) w = tt
plain_op (GSwap t low high) w = tt
plain_op (Item number t item at) w = (w.limits.0, tells_value item.cond w.limits.5)
plain_op (Fence number item traps) w = (w.limits.0, barrier_tells item.kind item w.is_op.0 w.fits.kind)
  where
    -- a barrier has no condition
    barrier_tells : (kind : ItemKind) (d : ItemData) → kind ≡ Barrier → FitsKind kind d → TellsValue d.cond
    barrier_tells kind d is fits = subst TellsValue (sym (subst (λ (k : ItemKind). FitsKind k d) is fits).4) tt

-- what each operation of the list keeps to
all_ops : (P : OpKind → Type 0) → ((op : OpKind) → IsWritable op → P op) → (ops : List OpKind) → AllByRecursion IsWritable ops → AllByRecursion P ops
all_ops P one [] all = tt
all_ops P one (op ∷ ops) all = (one op all.0, all_ops P one ops all.1)

-- ---- programs

writable : (p : ProgramData) → IsValid p.machine → IsLegalProgram p → AllByRecursion IsPlain p.ops → IsWritableRaw (spelled p)
writable p valid legal plain = record {
  qubits = legal.qubits;
  bits = legal.bits;
  traps = omega (arith, legal.start.chains, valid.few_traps);
  chains = chains_writable p.machine p.qubits p.start valid legal.qubits legal.start;
  few_ops = legal.few;
  ops = all_writable p.ops legal.ops legal.items_fit (run_limits p.machine p.qubits p.bits p.start p.ops valid legal.qubits legal.bits legal.run legal.ops plain);
}

pub comes_back : (p : ProgramData) → IsValid p.machine → IsLegalProgram p → AllByRecursion IsPlain p.ops → IsLoadedAs p.machine (program_text p) p
unfolding program_text
comes_back p valid legal plain = record {
  raw = spelled p;
  spells = text_again (spelled p) (raw_fitting (spelled p) (writable p valid legal plain));
  not_refused = none_if_legal p.machine (spelled p) legal;
  program = refl;
}

legal_raw : (m : MachineData) (raw : RawData) → IsWritableRaw raw → load_refusal m raw ≡ None → IsLegalProgram (on_machine m raw)
legal_raw m raw w none =
    let parts = none_parts m raw none in
    legal_if_none m raw w.qubits w.bits w.few_ops (all_ops IsOp (λ op o. o.is_op) raw.ops w.ops) (all_ops KeepsItemRule (λ op o. o.fits) raw.ops w.ops) (start_is m raw.qubits raw.chains parts.0) parts.1

pub loaded_so : (m : MachineData) (text : List ℕ) (p : ProgramData) → IsLoadedAs m text p → (p.machine ≡ m) × IsLegalProgram p × AllByRecursion IsPlain p.ops × (text ≡ program_text p)
unfolding program_text
loaded_so m text p loaded =
    let takes = text_takes text loaded.raw loaded.spells in
    let w = raw_writable loaded.raw takes.1 in
    subst (λ (q : ProgramData). (q.machine ≡ m) × IsLegalProgram q × AllByRecursion IsPlain q.ops × (text ≡ program_text q)) (sym loaded.program)
    (refl, legal_raw m loaded.raw w loaded.not_refused, all_ops IsPlain plain_op loaded.raw.ops w.ops, takes.0)

pub one_program : (m : MachineData) (text : List ℕ) (p q : ProgramData) → IsLoadedAs m text p → IsLoadedAs m text q → p ≡ q
one_program m text p q first second = first.program ∙ ap (on_machine m) (one_raw text first.raw second.raw first.spells second.spells) ∙ sym second.program

-- ---- circuits

plain_item : (items : List ItemData) (number : ℕ) (item : ItemData) → length items ≤ 65536 → AllByRecursion (λ d. TellsValue d.cond) items → slice_get items number ≡ Some item → (number ≤ greatest) × TellsValue item.cond
plain_item items number item few plain is = (omega (arith, below items number is, few), found items number plain is)
  where
    below : (items : List ItemData) (n : ℕ) → slice_get items n ≡ Some item → n < length items
    below [] n is = absurd (none-some item is)
    below (d ∷ items) zero is = omega arith
    below (d ∷ items) (suc n) is = omega (arith, below items n is)

    found : (items : List ItemData) (n : ℕ) → AllByRecursion (λ d. TellsValue d.cond) items → slice_get items n ≡ Some item → TellsValue item.cond
    found [] n plain is = absurd (none-some item is)
    found (d ∷ items) zero plain is = subst (λ (x : ItemData). TellsValue x.cond) (same_Some d item is) plain.0
    found (d ∷ items) (suc n) plain is = found items n plain.1 is

plain_all : (P : ℕ × ItemData → Type 0) → ((e : ℕ × ItemData) → P e → (e.0 ≤ greatest) × TellsValue e.1.cond) → (ops : List OpKind) → AllByRecursion P (items_in ops) → AllByRecursion IsPlain ops
plain_all P plain [] all = tt
plain_all P plain (op ∷ ops) all = by_item (item_in op) (plain_all P plain ops) all
  where
    by_item : (o : Option (ℕ × ItemData)) → (AllByRecursion P (items_in ops) → AllByRecursion IsPlain ops) → AllByRecursion P (cons_option o (items_in ops))
        → IfSome o (λ e. (e.0 ≤ greatest) × TellsValue e.1.cond) × AllByRecursion IsPlain ops
    by_item None later all = (tt, later all)
    by_item (Some e) later all = (plain e all.0, later all.1)

pub plain_program : (p : ProgramData) (c : CircuitData) (m : MachineData) → IsCircuit c → All (λ d. TellsValue d.cond) c.items → Implements p c m → AllByRecursion IsPlain p.ops
plain_program p c m circuit plain implements =
    plain_all (λ e. slice_get c.items e.0 ≡ Some e.1) (λ e is. plain_item c.items e.0 e.1 circuit.few_items (recursion_from_All (λ d. TellsValue d.cond) c.items plain) is) p.ops
    (recursion_from_All (λ e. slice_get c.items e.0 ≡ Some e.1) (items_in p.ops) implements.items)
