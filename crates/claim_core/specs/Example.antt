-- A gate in the first trap, a barrier over two traps and a gate in the second, and the boards of two workers.
use Rattle.std.specs.Prelude.{List, [], ◌∷◌, None}
use Rattle.qccd_base.specs.Names.{ion, qubit, trap}
use Rattle.qccd_base.specs.declared.names.Res.{Res}
use Rattle.qccd_base.specs.declared.names.Res.TheVariants as res
use Rattle.qccd_circuit.specs.Item.{ItemData}
use Rattle.qccd_circuit.specs.Example.{barrier_over, h_on}
use Rattle.qccd_machine.specs.Preset.{preset_of}
use Rattle.qccd_machine.specs.declared.place.Preset.TheVariants.{L6}
use Rattle.op_table.specs.declared.kinds.OpKind.TheVariants.{Item, Fence}
use Rattle.qccd_program.specs.Program.{ProgramData}
use Rattle.claim_core.specs.declared.event.Event.{Event}
use Rattle.claim_core.specs.declared.event.Event.TheVariants.{Begin, Reach, Give}
use Rattle.claim_core.specs.Board.{BoardData}
use Rattle.claim_core.specs.History.{board_of}

abbrev pub both : ItemData
both = barrier_over (qubit 0 ∷ qubit 1 ∷ [])

abbrev pub fenced : ProgramData
fenced = record {
  machine = preset_of L6 3;
  qubits = 2;
  bits = 0;
  mode = None;
  start = (ion 0 ∷ []) ∷ (ion 1 ∷ []) ∷ [] ∷ [] ∷ [] ∷ [] ∷ [];
  ops = Item 0 (trap 0) (h_on 0) (0 ∷ []) ∷ Fence 1 both (trap 0 ∷ trap 1 ∷ []) ∷ Item 2 (trap 1) (h_on 1) (0 ∷ []) ∷ [];
}

abbrev pub first_trap : Res
first_trap = res.Trap (trap 0)

abbrev pub second_trap : Res
second_trap = res.Trap (trap 1)

-- worker 0 does operation 0, worker 1 the barrier, and worker 0 operation 2
abbrev pub first_events : List Event
first_events = Begin 0 0 ∷ Give 0 0 first_trap ∷ Begin 1 1 ∷ []

abbrev pub all_events : List Event
all_events =
    Begin 0 0 ∷ Give 0 0 first_trap ∷ Begin 1 1 ∷ Reach 1 1 second_trap ∷ Give 1 1 second_trap ∷ Begin 0 2 ∷ Give 0 2 second_trap
    ∷ Give 1 1 first_trap ∷ []

-- the board with two workers before any event, after the first, after two, and after three
abbrev pub opened : BoardData
opened = board_of fenced 2 []

abbrev pub taken : BoardData
taken = board_of fenced 2 (Begin 0 0 ∷ [])

abbrev pub freed : BoardData
freed = board_of fenced 2 (Begin 0 0 ∷ Give 0 0 first_trap ∷ [])

abbrev pub fence_begun : BoardData
fence_begun = board_of fenced 2 first_events
