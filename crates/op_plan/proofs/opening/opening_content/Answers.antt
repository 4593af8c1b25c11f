use Rattle.std.proofs.Common.{arith, ap, sym, ◌∙◌, List, Some}
use Rattle.std.proofs.lemmas.Option.{slice_get-get_or}
use Rattle.qccd_base.specs.declared.names.Ion.{Ion}
use Rattle.op_plan.proofs.Begun.{bit_opening, chain_fits, junc_opening, seg_opening, trap_opening}
use Rattle.op_plan.proofs.opening.opening_content.Goals as goal

-- the chain that is read, within its bounds
pub bounds-chains-number : goal.bounds-chains-number
bounds-chains-number c = let long = c.requires.1.chains in omega (arith, long, c.if-number-traps.true, c.from-traps.ensures, c.traps.ensures.count)

pub start_chain-requires : goal.start_chain-requires
start_chain-requires c =
    chain_fits c.args.machine.now c.args.chains.now c.args.number c.as_slice.result.now c.traps.ensures.valid c.requires
    (slice_get-get_or c.args.chains.now c.args.number _ (let long = c.requires.1.chains in omega (arith, long, c.if-number-traps.true, c.from-traps.ensures, c.traps.ensures.count)) ∙ ap (λ (xs : List Ion). Some xs) (sym (c.as_slice.ensures ∙ c.index-chains-number.is)))

pub returns-then-number-traps : goal.returns-then-number-traps
returns-then-number-traps c qubits bits start =
    trap_opening c.args.machine.now qubits bits c.args.chains.now c.args.number c.start_chain.result.items c.as_slice.result.now start
    (omega (arith, c.if-number-traps.true, c.from-traps.ensures, c.traps.ensures.count)) c.start_chain.ensures (slice_get-get_or c.args.chains.now c.args.number _ (let long = c.requires.1.chains in omega (arith, long, c.if-number-traps.true, c.from-traps.ensures, c.traps.ensures.count)) ∙ ap (λ (xs : List Ion). Some xs) (sym (c.as_slice.ensures ∙ c.index-chains-number.is)))

pub returns-then-number-traps-2 : goal.returns-then-number-traps-2
returns-then-number-traps-2 c qubits bits start =
    seg_opening c.args.machine.now qubits bits c.args.chains.now c.args.number (omega (arith, c.if-number-traps.false, c.from-traps.ensures, c.traps.ensures.count))
    (omega (arith, c.if-number-traps-2.true, c.from-traps.ensures, c.traps.ensures.count, c.from-segments.ensures, c.segments.ensures))

pub returns-then-number-count_of : goal.returns-then-number-count_of
returns-then-number-count_of c qubits bits start =
    junc_opening c.args.machine.now qubits bits c.args.chains.now c.args.number
    (omega (arith, c.if-number-traps-2.false, c.from-traps.ensures, c.traps.ensures.count, c.from-segments.ensures, c.segments.ensures))
    (omega (arith, c.if-number-count_of.true, c.count_of.ensures.count))

pub returns-else-number-count_of : goal.returns-else-number-count_of
returns-else-number-count_of c qubits bits start =
    bit_opening c.args.machine.now qubits bits c.args.chains.now c.args.number (omega (arith, c.if-number-count_of.false, c.count_of.ensures.count))
