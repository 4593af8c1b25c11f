use Rattle.std.proofs.Common.{ℕ, ◌∷◌, List, Option, Some, sym, subst, ◌∙◌, ap}
use mathlib.Core.Option.{none}
use Rattle.op_cells.specs.declared.cells.Cell.{Cell}
use Rattle.atomic_table.specs.Table.{Allows, step, rest}
use Rattle.claim_board.specs.Plays.{gave}
use Rattle.claim_board.specs.Rule.{Ruled}
use Rattle.claim_board.proofs.Gives.{give-allows}
use Rattle.claim_board.proofs.steps.give.Goals as goal

pub store-requires : goal.store-requires
store-requires c =
    let me = c.args.place.now.me in
    let asks = c.requires.asks in
    let key = c.args.top.now.key in
    let slots = c.args.top.now.table_id.slots in
    let id = c.args.place.now.id in (
      c.requires.table.0,
      c.requires.table.1,
      subst (λ (z : ℕ × ℕ × List (ℕ × Option Cell)). Allows (Ruled key) slots id (me.0, z.2) z.0 (λ _. z.1) (λ _. gave (step slots z.0 z.1 0 none) (me.0, z.2) z.1))
          (λ i. (asks.4 i, sym asks.5 i, ((ap (λ (n : ℕ). (n, Some asks.2) ∷ rest me.1) asks.4) ∙ sym asks.6) i)) (give-allows key slots id me.0 (rest me.1) asks.0 asks.1 asks.2 asks.3 asks.7),
    )

pub returns-clause-given : goal.returns-clause-given
returns-clause-given c k r may at = c.store.ensures.2 k r may.busy (record { touches = may.touches; word = at })
