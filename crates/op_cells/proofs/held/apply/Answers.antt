use Rattle.std.proofs.Common.{◌+◌, arith}
use Rattle.op_table.specs.Act.{acted}
use Rattle.op_cells.specs.Settled.{contents_of}
use Rattle.op_cells.proofs.Wholes.{greatest-small, held-some, room-left, whole-cells, whole-names, whole-rooms}
use Rattle.op_cells.proofs.held.apply.Goals as goal

pub overflow_add-finish : goal.overflow_add-finish
overflow_add-finish c = omega (arith, greatest-small c.args.held.now c.requires.clocks, c.start_of-start.ensures, c.time_of.ensures.small)

pub settle-requires-clause-some : goal.settle-requires-clause-some
settle-requires-clause-some c = held-some c.args.op.now (acted c.args.machine.now c.args.op.now (contents_of c.args.held.now)) c.args.held.now c.act.new.held c.kind-kind.ensures.is_op c.requires.names c.act.ensures

pub settle-requires-clause-room : goal.settle-requires-clause-room
settle-requires-clause-room c = room-left (acted c.args.machine.now c.args.op.now (contents_of c.args.held.now)) c.args.held.now c.act.new.held c.act.ensures c.requires.room

pub returns-clause-cells : goal.returns-clause-cells
returns-clause-cells c =
    whole-cells c.args.machine.now c.args.k c.args.op.now c.args.held.now c.act.new.held c.settle.new.held c.start_of-start.result c.time_of.result c.requires.names c.start_of-start.ensures c.time_of.ensures.value c.act.ensures c.settle.ensures

pub returns-clause-names : goal.returns-clause-names
returns-clause-names c =
    whole-names (c.start_of-start.result + c.time_of.result) (record { op = c.args.k; start = c.start_of-start.result; finish = c.start_of-start.result + c.time_of.result })
    (acted c.args.machine.now c.args.op.now (contents_of c.args.held.now)) c.args.held.now c.act.new.held c.settle.new.held c.act.ensures c.settle.ensures

pub returns-clause-room : goal.returns-clause-room
returns-clause-room c =
    whole-rooms (c.start_of-start.result + c.time_of.result) (record { op = c.args.k; start = c.start_of-start.result; finish = c.start_of-start.result + c.time_of.result })
    (acted c.args.machine.now c.args.op.now (contents_of c.args.held.now)) c.args.held.now c.act.new.held c.settle.new.held c.requires.room c.act.ensures c.settle.ensures
