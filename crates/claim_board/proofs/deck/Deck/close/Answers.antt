use Rattle.std.specs.Slots.{slots_items}
use Rattle.claim_board.specs.Deck.{program_of}
use Rattle.claim_board.proofs.TakenApart.{cells-at, closed-of, rests-at, seen-below, slots-full, words-small}
use Rattle.claim_board.proofs.deck.Deck.close.Goals as goal

pub take_out_all-requires-clause-there : goal.take_out_all-requires-clause-there
take_out_all-requires-clause-there c =
    let deck = c.args.self in
    let v = c.join_all-place.result.me.0 in
    let words = slots_items c.close_with-closed.result.words in
    let slots = slots_items c.close_with-closed.result.slots in
    slots-full (program_of deck) words slots v (closed-of deck c.join_all-place.result.id v c.args.passes.items words slots c.requires.passes c.join_all-place.ensures.joined c.close_with-closed.ensures.values.2)

pub take_out_all-requires-clause-small : goal.take_out_all-requires-clause-small
take_out_all-requires-clause-small c =
    let deck = c.args.self in
    let v = c.join_all-place.result.me.0 in
    let words = slots_items c.close_with-closed.result.words in
    let slots = slots_items c.close_with-closed.result.slots in
    words-small (program_of deck) words slots v (closed-of deck c.join_all-place.result.id v c.args.passes.items words slots c.requires.passes c.join_all-place.ensures.joined c.close_with-closed.ensures.values.2)

pub returns-clause-cells : goal.returns-clause-cells
returns-clause-cells c =
    let deck = c.args.self in
    let v = c.join_all-place.result.me.0 in
    let words = slots_items c.close_with-closed.result.words in
    let slots = slots_items c.close_with-closed.result.slots in
    let closed = closed-of deck c.join_all-place.result.id v c.args.passes.items words slots c.requires.passes c.join_all-place.ensures.joined c.close_with-closed.ensures.values.2 in
    cells-at (program_of deck) words c.take_out_all.result.turns.items slots c.take_out_all.result.cells v closed c.take_out_all.ensures.cells c.take_out_all.ensures.turns

pub returns-clause-seen : goal.returns-clause-seen
returns-clause-seen c i q r at there =
    let deck = c.args.self in
    let v = c.join_all-place.result.me.0 in
    let words = slots_items c.close_with-closed.result.words in
    let slots = slots_items c.close_with-closed.result.slots in
    let closed = closed-of deck c.join_all-place.result.id v c.args.passes.items words slots c.requires.passes c.join_all-place.ensures.joined c.close_with-closed.ensures.values.2 in
    seen-below (program_of deck) words c.take_out_all.result.turns.items slots v c.args.passes.items i q r closed c.join_all-place.ensures.joined c.take_out_all.ensures.turns at there

pub returns-clause-rest : goal.returns-clause-rest
returns-clause-rest c =
    let deck = c.args.self in
    let v = c.join_all-place.result.me.0 in
    let words = slots_items c.close_with-closed.result.words in
    let slots = slots_items c.close_with-closed.result.slots in
    let closed = closed-of deck c.join_all-place.result.id v c.args.passes.items words slots c.requires.passes c.join_all-place.ensures.joined c.close_with-closed.ensures.values.2 in
    rests-at (program_of deck) words c.take_out_all.result.turns.items slots v c.args.passes.items closed c.join_all-place.ensures.joined c.take_out_all.ensures.turns
