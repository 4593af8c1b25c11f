use Rattle.claim_board.specs.Deck.{cells_of, view_of}
use Rattle.claim_board.proofs.Applying.{holds-applied, may-apply-read}
use Rattle.rows_deck.proofs.passes.try_one.Goals as goal

pub apply-requires : goal.apply-requires
apply-requires c =
    let may =
    may-apply-read c.args.program.now (view_of c.args.pass.now).program c.machine.result.now c.ops.result.now c.args.k c.index-ops-k.result (cells_of c.claim-answer.new.pass) c.cells.result.now c.requires.ready.0.program
    c.machine.ensures.value c.ops.ensures.value c.cells.ensures.value c.machine.ensures.valid c.ops.ensures.legal c.index-ops-k.is c.requires.there c.in-Got.ensures.answer.cells in
    record {
      names = may.names;
      legal = may.legal;
      clocks = may.clocks;
      heats = may.heats;
      room = may.room;
    }

pub hand_back-requires-clause-holds : goal.hand_back-requires-clause-holds
hand_back-requires-clause-holds c =
    holds-applied c.args.program.now (view_of c.args.pass.now).program c.machine.result.now c.ops.result.now c.args.k c.index-ops-k.result c.claim-answer.new.pass c.cells.result.now c.apply.new.held c.requires.ready.0.program
    c.machine.ensures.value c.ops.ensures.value c.cells.ensures.value c.machine.ensures.valid c.ops.ensures.legal c.index-ops-k.is c.requires.there c.in-Got.ensures.answer.cells c.in-Got.ensures.answer.hand
    (record { cells = c.apply.ensures.cells; names = c.apply.ensures.names; room = c.apply.ensures.room })
