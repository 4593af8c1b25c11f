use Rattle.std.proofs.Common.{arith, Some, None, sym, ◌∙◌}
use Rattle.std.proofs.lemmas.Option.{none-some, same_Some}
use Rattle.op_plan.proofs.Told.{home_read, no_trap, once_there, place_told, told_by, trap_there}
use Rattle.op_plan.proofs.reading.place_at.Goals as goal

pub chain_at-requires : goal.chain_at-requires
chain_at-requires c =
    let r = c.requires in
    let home = home_read r.0 c.args.cells.now c.args.homes.now c.args.qubit c.from.result (Some c.in-Some.trap) None r.1 r.2 c.from.ensures c.in-Some.is in
    (r.0, c.args.homes.now, r.1, trap_there r.0 c.args.qubit c.in-Some.trap r.1.plan r.2 home)

pub position_in-requires : goal.position_in-requires
position_in-requires c =
    let r = c.requires in
    let home = home_read r.0 c.args.cells.now c.args.homes.now c.args.qubit c.from.result (Some c.in-Some.trap) None r.1 r.2 c.from.ensures c.in-Some.is in
    let there = trap_there r.0 c.args.qubit c.in-Some.trap r.1.plan r.2 home in
    record { once = once_there r.0 c.args.cells.now c.args.homes.now c.args.qubit c.in-Some.trap c.chain_at.result.now r.1 r.2 home (c.chain_at.ensures r.0 c.args.homes.now r.1 there) }

pub overflow_cast-result : goal.overflow_cast-result
overflow_cast-result c =
    let r = c.requires in
    let home = home_read r.0 c.args.cells.now c.args.homes.now c.args.qubit c.from.result (Some c.in-Some.trap) None r.1 r.2 c.from.ensures c.in-Some.is in
    let there = trap_there r.0 c.args.qubit c.in-Some.trap r.1.plan r.2 home in
    let told = told_by r.0 c.args.cells.now c.args.homes.now c.args.qubit c.in-Some.trap c.chain_at.result.now c.position_in.result r.1 r.2 home (c.chain_at.ensures r.0 c.args.homes.now r.1 there) c.position_in.ensures in
    let same = same_Some told.index c.in-Some-position_in.at (sym told.is ∙ c.in-Some-position_in.is) in
    let small = told.small in
    omega (arith, small, same)

pub returns-in-None : goal.returns-in-None
returns-in-None c p keeps below = no_trap p c.args.qubit (home_read p c.args.cells.now c.args.homes.now c.args.qubit c.from.result None None keeps below c.from.ensures c.in-None.is)

pub returns-in-None-position_in : goal.returns-in-None-position_in
returns-in-None-position_in c p keeps below =
    let home = home_read p c.args.cells.now c.args.homes.now c.args.qubit c.from.result (Some c.in-Some.trap) None keeps below c.from.ensures c.in-Some.is in
    let there = trap_there p c.args.qubit c.in-Some.trap keeps.plan below home in
    let told = told_by p c.args.cells.now c.args.homes.now c.args.qubit c.in-Some.trap c.chain_at.result.now c.position_in.result keeps below home (c.chain_at.ensures p c.args.homes.now keeps there) c.position_in.ensures in
    absurd (none-some told.index (sym c.in-None-position_in.is ∙ told.is))

pub returns-in-Some-position_in : goal.returns-in-Some-position_in
returns-in-Some-position_in c p keeps below =
    let home = home_read p c.args.cells.now c.args.homes.now c.args.qubit c.from.result (Some c.in-Some.trap) None keeps below c.from.ensures c.in-Some.is in
    let there = trap_there p c.args.qubit c.in-Some.trap keeps.plan below home in
    let told = told_by p c.args.cells.now c.args.homes.now c.args.qubit c.in-Some.trap c.chain_at.result.now c.position_in.result keeps below home (c.chain_at.ensures p c.args.homes.now keeps there) c.position_in.ensures in
    sym (place_told p c.args.qubit c.in-Some.trap c.position_in.result c.in-Some-position_in.at told c.in-Some-position_in.is)
