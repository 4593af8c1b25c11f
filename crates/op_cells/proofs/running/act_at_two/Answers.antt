use Rattle.std.proofs.Common.{◌<◌, ◌^◌, [], ◌∷◌, ap₂, sym, ◌∙◌, subst}
use Rattle.op_table.specs.declared.contents.Content.{Content}
use Rattle.op_table.specs.Act.{why_on}
use Rattle.op_table.specs.Contents.{heat_held}
use Rattle.op_cells.proofs.Adjusting.{back_content, front_content, two-adjusted}
use Rattle.op_cells.proofs.running.act_at_two.Goals as goal

pub change_two-requires-clause-legal : goal.change_two-requires-clause-legal
change_two-requires-clause-legal c =
    let front = front_content c.args.cells.now c.split_at_mut-front.result.0.now c.args.low c.args.high c.index-front-low.result c.split_at_mut-front.ensures.front c.requires.order c.requires.within in
    let back = back_content c.args.cells.now c.split_at_mut-front.result.1.now c.args.high c.index-back-0.result c.split_at_mut-front.ensures.back c.requires.within in
    let legal = c.requires.legal in
    (legal.0, ap₂ (λ (a b : Content). why_on c.args.machine.now legal.0 c.args.op.now (a ∷ b ∷ [])) (sym front) (sym back) ∙ legal.1)

pub change_two-requires-clause-first_heat : goal.change_two-requires-clause-first_heat
change_two-requires-clause-first_heat c =
    subst (λ (x : Content). heat_held x < 2 ^ 62) (front_content c.args.cells.now c.split_at_mut-front.result.0.now c.args.low c.args.high c.index-front-low.result c.split_at_mut-front.ensures.front c.requires.order c.requires.within) c.requires.low_heat

pub change_two-requires-clause-second_heat : goal.change_two-requires-clause-second_heat
change_two-requires-clause-second_heat c =
    subst (λ (x : Content). heat_held x < 2 ^ 62) (back_content c.args.cells.now c.split_at_mut-front.result.1.now c.args.high c.index-back-0.result c.split_at_mut-front.ensures.back c.requires.within) c.requires.high_heat

pub returns : goal.returns
returns c =
    two-adjusted c.args.machine.now c.args.op.now c.args.cells.now c.split_at_mut-front.result.0.now c.split_at_mut-front.result.1.now c.args.low c.args.high c.index-front-low.result c.index-back-0.result c.change_two.new.first c.change_two.new.second
    c.split_at_mut-front.ensures.front c.split_at_mut-front.ensures.back c.requires.order c.requires.within c.change_two.ensures
