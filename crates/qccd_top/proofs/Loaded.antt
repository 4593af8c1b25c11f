-- What is loaded is a legal program whose text is the file's.
use Rattle.std.proofs.Common.{◌≡◌, ℕ, List, [], ◌∷◌, Option, None, Result, Ok, Err, IsErrAnd, refl, sym, subst}
use Rattle.std.specs.List.{AllByRecursion}
use Rattle.qccd_io.specs.Fetch.{HoldsFile}
use Rattle.qccd_io.specs.Shelf.{Holding}
use Rattle.qccd_machine.specs.Machine.{MachineData, IsValid}
use Rattle.op_table.specs.declared.kinds.OpKind.{OpKind}
use Rattle.op_table.specs.Op.{IsOp, KeepsItemRule}
use Rattle.op_table.specs.Run.{IsRun}
use Rattle.qccd_program.specs.Legal.{IsLegalProgram}
use Rattle.qccd_program.specs.Program.{ProgramData, opening_of}
use Rattle.qccd_program.proofs.Meets.{run-meets}
use Rattle.qccd_program.proofs.Runs.{bounds-kept}
use Rattle.transport_asm.specs.ProgramText.{program_text}
use Rattle.transport_asm.specs.Texts.{RawData, Spells}
use Rattle.transport_asm.specs.Writable.{IsWritable, IsWritableRaw}
use Rattle.transport_asm.proofs.Rule.{raw_writable}
use Rattle.transport_asm.proofs.TextLaws.{text_takes}
use Rattle.loader.specs.Refusal.{on_machine, load_refusal}
use Rattle.loader.proofs.LegalLoads.{start_is, legal_if_none, none_parts}
use Rattle.tracer.specs.TimeOrder.{listed_ops}
use Rattle.tracer.proofs.Listed.{program-listed, program-bounds}
use Rattle.qccd_messages.specs.declared.refusal.Refusal.{Refusal}
use Rattle.qccd_top.specs.Stage.{Gives, ◌>>=◌, viewed}
use Rattle.qccd_top.specs.Stages.{ProgramIn}
use Rattle.qccd_top.specs.Headline.{RunsWell, HoldsText}

-- a refusal is seen as it is
pub viewed_err : {A B : Type 0} (view : A → B) (r : Result A Refusal) (e : Refusal) → IsErrAnd r (λ y. y ≡ e) → IsErrAnd (viewed view r) (λ y. y ≡ e)
viewed_err view (Ok a) e is = is
viewed_err view (Err y) e is = is

-- what a text spells is within the limits of texts
pub spelled_within : (text : List ℕ) (raw : RawData) → Spells text raw → IsWritableRaw raw
spelled_within text raw spells = raw_writable raw (text_takes text raw spells).1

each_op : (ops : List OpKind) → AllByRecursion IsWritable ops → AllByRecursion IsOp ops
each_op [] all = tt
each_op (op ∷ ops) all = (all.0.is_op, each_op ops all.1)

each_fits : (ops : List OpKind) → AllByRecursion IsWritable ops → AllByRecursion KeepsItemRule ops
each_fits [] all = tt
each_fits (op ∷ ops) all = (all.0.fits, each_fits ops all.1)

legal_loaded : (m : MachineData) (raw : RawData) → IsWritableRaw raw → load_refusal m raw ≡ None → IsLegalProgram (on_machine m raw)
legal_loaded m raw within none =
    let parts = none_parts m raw none in
    legal_if_none m raw within.qubits within.bits within.few_ops (each_op raw.ops within.ops) (each_fits raw.ops within.ops) (start_is m raw.qubits raw.chains parts.0) parts.1

held_text : (told : Option Holding) (name text : List ℕ) (m : MachineData) (raw : RawData) → HoldsFile told name text → Spells text raw → HoldsText told name m (on_machine m raw)
unfolding program_text
held_text told name text m raw held spells = record { held = subst (HoldsFile told name) (text_takes text raw spells).0 held; on = refl }

pub loaded_means : (told : Option Holding) (name : List ℕ) (m : MachineData) (p : ProgramData) → ProgramIn told m name (Gives p) → HoldsText told name m p × IsLegalProgram p
unfolding ◌>>=◌
loaded_means told name m p (raw, (text, (held, few), spells), (none, is)) =
    subst (λ (q : ProgramData). HoldsText told name m q × IsLegalProgram q) (sym is)
    (held_text told name text m raw held spells, legal_loaded m raw (spelled_within text raw spells) none)

-- a legal program runs well
pub runs_well : (m : MachineData) (p : ProgramData) → IsValid m → p.machine ≡ m → IsLegalProgram p → RunsWell m p
runs_well m p valid is legal = record {
  valid = valid;
  on = is;
  legal = legal;
  bounds = bounds-kept p legal;
  listed_run = subst (λ (n : MachineData). IsRun n (opening_of p) (listed_ops p)) is (program-listed p legal).run;
  listed_bounds = program-bounds p legal;
  operands = run-meets p legal.run;
}
