use Rattle.std.proofs.Common.{◌≡◌, ◌++◌, List, [], take, get_or, sym, ◌∙◌, ap, subst}
use Rattle.qccd_base.specs.declared.names.Ion.{Ion}
use Rattle.loader.specs.Refusal.{ions_of, stray_behind}
use Rattle.loader.specs.Marked.{AreSeen}
use Rattle.loader.proofs.Starts.{chain_stray, chain_clear, seen_next, when_none}
use Rattle.loader.proofs.start.stray_of.Goals as goal

pub returns-then-is_some-clause-stray : goal.returns-then-is_some-clause-stray
returns-then-is_some-clause-stray c =
    let chains = c.args.chains.now in
    let i = c.loop-chain.chain-index in
    let d = c.chain-item.result in
    let own : c.as_slice.result.now ≡ get_or chains i d = c.as_slice.ensures ∙ c.chain-item.is in
    chain_stray c.args.qubits chains i d c.stray_in-stray.result (stray_behind c.args.qubits [] (ions_of chains)) c.loop-chain-test.true
    (c.stray_in-stray.ensures.stray (ions_of (take i chains)) c.loop-chain.invariant.seen ∙ ap (stray_behind c.args.qubits (ions_of (take i chains))) own) (sym c.is_some.ensures ∙ c.if-is_some.true) c.loop-chain.invariant.stray

pub loop-chain-preserved : goal.loop-chain-preserved
loop-chain-preserved c =
    let chains = c.args.chains.now in
    let i = c.loop-chain.chain-index in
    let d = c.chain-item.result in
    let own : c.as_slice.result.now ≡ get_or chains i d = c.as_slice.ensures ∙ c.chain-item.is in
    let none = sym c.is_some.ensures ∙ c.if-is_some.false in
    record {
      stray = chain_clear c.args.qubits chains i d c.stray_in-stray.result (stray_behind c.args.qubits [] (ions_of chains)) c.loop-chain-test.true
          (c.stray_in-stray.ensures.stray (ions_of (take i chains)) c.loop-chain.invariant.seen ∙ ap (stray_behind c.args.qubits (ions_of (take i chains))) own) none c.loop-chain.invariant.stray;
      seen = seen_next chains i d c.stray_in-stray.new.seen c.loop-chain-test.true
          (subst (λ (xs : List Ion). AreSeen (ions_of (take i chains) ++ xs) c.stray_in-stray.new.seen) own (when_none c.stray_in-stray.result none c.stray_in-stray.ensures.seen (ions_of (take i chains)) c.loop-chain.invariant.seen));
    }
