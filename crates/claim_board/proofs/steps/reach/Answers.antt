use Rattle.std.proofs.Common.{ℕ, ◌+◌, eqb, sym, subst, ◌∙◌, ap}
use mathlib.Core.Option.{none}
use prog.Atomic.{either}
use Rattle.atomic_table.specs.Table.{Allows, step}
use Rattle.claim_board.specs.Plays.{reached}
use Rattle.claim_board.specs.Rule.{Ruled}
use Rattle.claim_board.proofs.Begins.{reach-allows}
use Rattle.claim_board.proofs.steps.reach.Goals as goal

pub compare_exchange-requires : goal.compare_exchange-requires
compare_exchange-requires c =
    let me = c.args.place.now.me in
    let asks = c.requires.asks in
    let key = c.args.top.now.key in
    let slots = c.args.top.now.table_id.slots in (
      c.requires.table.0,
      c.requires.table.1,
      subst (λ (z : ℕ × ℕ × ℕ). Allows (Ruled key) slots c.args.place.now.id me z.0 (λ n. either (eqb n z.1) z.2 n) (reached (step slots z.0 z.1 z.2 none) me))
          (λ i. (asks.3 i, sym asks.4 i, sym (asks.5 ∙ ap (λ (n : ℕ). n + (me.0.number + 1)) asks.4) i)) (reach-allows key slots c.args.place.now.id me asks.0 asks.1 asks.2),
    )

pub returns-clause-taken : goal.returns-clause-taken
returns-clause-taken c k r may at = c.compare_exchange.ensures.2 k r may.busy (record { touches = may.touches; word = at })
