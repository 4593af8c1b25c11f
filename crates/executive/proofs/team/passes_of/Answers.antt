use Rattle.std.proofs.Common.{◌++◌, ◌∙◌, ◌==◌, ℕ, List, map, sym, ap}
use Rattle.std.proofs.lemmas.List.{append-nil}
use Rattle.workers.specs.declared.worker.Worker.{Worker}
use Rattle.workers.specs.Worker.{pass_of}
use Rattle.executive.proofs.Teams.{none-left, team-all}
use Rattle.executive.proofs.team.passes_of.Goals as goal

pub returns : goal.returns
returns c =
    team-all c.args.deck.now c.args.program.now c.args.team.items c.loop-team.back.items
    (sym (append-nil c.loop-team.back.items) ∙ ap (λ (ws : List Worker). c.loop-team.back.items ++ map pass_of ws) (sym (none-left c.loop-team.team.items (sym (c.is_empty.ensures ∙ ap (λ (n : ℕ). n == 0) c.loop-team.team.ok.0) ∙ c.loop-team-test.false))) ∙ c.loop-team.invariant.made)
    c.requires.team
