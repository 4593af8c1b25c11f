use Rattle.std.proofs.Common.{◌≡◌, List, ◌++◌, All, ap, ap₂, subst, sym}
use Rattle.std.proofs.lemmas.List.Elements.{All-take}
use Rattle.qccd_circuit.specs.Item.{ItemData}
use Rattle.gate_defs.specs.Frames.{IsOpen, left}
use Rattle.gate_defs.specs.Meaning.{Application, any_long, applications, items_of}
use Rattle.gate_defs.proofs.Opening.{first_is, first_left, first_open}
use Rattle.gate_defs.proofs.expanding.expanded.Goals as goal

pub loop-frame-init : goal.loop-frame-init
loop-frame-init c =
    let defs = c.args.defs.now in
    let args = c.args.args.now in
    let qubits = c.args.qubits.now in
    let f = c.in_ok-first_frame.field-0 in
    let first = c.in_ok-first_frame.ensures in
    let is = first_is c.new-frames.result.items c.push.new.self.items f c.in_ok-push.ensures.items c.new-frames.ensures.items in
    let all : left defs c.push.new.self.items ≡ applications defs c.args.id args qubits =
    first_left c.requires.are_defs c.args.id args qubits c.push.new.self.items f c.requires.can_apply.there is first.steps first.args first.qubits in
    record {
      items =
          sym (ap₂ (λ (l : List ItemData) (apps : List Application). l ++ items_of defs c.args.cond apps) c.new-items.ensures.items all);
      long = sym (ap any_long all);
      all_open =
          first_open c.requires.are_defs c.args.id args qubits c.push.new.self.items f c.requires.can_apply is first.steps first.args first.qubits;
    }

pub take_step-requires-clause-others : goal.take_step-requires-clause-others
take_step-requires-clause-others c =
    subst (All (IsOpen c.args.defs.now)) (sym c.pop.ensures.rest) (All-take (IsOpen c.args.defs.now) _ c.loop-frame.frames.items c.loop-frame.invariant.all_open)
