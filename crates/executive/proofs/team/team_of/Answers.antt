use Rattle.std.proofs.Common.{◌++◌, ◌∙◌, ◌==◌, ℕ, List, map, sym, ap}
use Rattle.std.proofs.lemmas.List.{append-nil}
use Rattle.claim_board.specs.declared.pass.Pass.{Pass}
use Rattle.workers.specs.Worker.{pass_of}
use Rattle.executive.proofs.Teams.{dealt-empty, none-left, team-dealt}
use Rattle.executive.proofs.team.team_of.Goals as goal

pub of-requires : goal.of-requires
of-requires c =
    dealt-empty c.args.deck.now c.args.program.now (map pass_of c.loop-passes.team.items) c.loop-passes.passes.items c.args.passes.items c.remove-pass.result
    c.requires.passes.1 c.loop-passes.invariant.made (sym (c.is_empty.ensures ∙ ap (λ (n : ℕ). n == 0) c.loop-passes.passes.ok.0) ∙ c.loop-passes-test.true) c.remove-pass.ensures.value

pub returns-clause-team : goal.returns-clause-team
returns-clause-team c =
    team-dealt c.args.deck.now c.args.program.now c.loop-passes.team.items c.args.passes.items
    (sym (append-nil (map pass_of c.loop-passes.team.items)) ∙ ap (λ (qs : List Pass). map pass_of c.loop-passes.team.items ++ qs) (sym (none-left c.loop-passes.passes.items (sym (c.is_empty.ensures ∙ ap (λ (n : ℕ). n == 0) c.loop-passes.passes.ok.0) ∙ c.loop-passes-test.false))) ∙ c.loop-passes.invariant.made)
    c.requires.deck c.requires.passes.0 c.requires.passes.1
