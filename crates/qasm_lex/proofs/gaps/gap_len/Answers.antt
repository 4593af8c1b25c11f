use Rattle.std.proofs.Common.{sym, ◌∙◌}
use Rattle.qasm_lex.proofs.GapLemmas.{solid_gap, white_gap}
use Rattle.qasm_lex.proofs.gaps.gap_len.Goals as goal

pub returns-then-begins_solid : goal.returns-then-begins_solid
returns-then-begins_solid c = solid_gap c.args.text.now (sym c.begins_solid.ensures ∙ c.if-begins_solid.true)

pub returns-then-one_white : goal.returns-then-one_white
returns-then-one_white c = white_gap c.args.text.now (sym c.one_white.ensures ∙ c.if-one_white.true)
