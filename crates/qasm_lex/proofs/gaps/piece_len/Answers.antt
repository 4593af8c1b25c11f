-- A comment is two slashes and the run behind them; white space is one byte.
use Rattle.std.proofs.Common.{true, arith, sym, ◌∙◌}
use Rattle.std.specs.Char.{is_ascii_whitespace}
use Rattle.std.proofs.lemmas.Grind.{common_steps}
use Rattle.std.proofs.lemmas.List.Sums.{prefix_len-le-length}
use Rattle.qasm_lex.proofs.RunLemmas.{first_begins}
use Rattle.qasm_lex.proofs.GapLemmas.{begins_white, comment_piece}
use Rattle.qasm_lex.proofs.gaps.piece_len.Goals as goal

pub overflow_add-result : goal.overflow_add-result
overflow_add-result c = grind (arith, common_steps, prefix_len-le-length)

pub returns-then-begins_pair-clause-found : goal.returns-then-begins_pair-clause-found
returns-then-begins_pair-clause-found c =
    comment_piece c.args.text.now c.line_len.result (sym c.begins_pair.ensures ∙ c.if-begins_pair.true) c.line_len.ensures

pub returns-then-is_ascii_whitespace-clause-found : goal.returns-then-is_ascii_whitespace-clause-found
returns-then-is_ascii_whitespace-clause-found c =
    begins_white c.args.text.now
    (first_begins is_ascii_whitespace c.args.text.now c.in_ok-first.first.now true c.in_ok-first.ensures.value
    (sym c.is_ascii_whitespace.ensures.value ∙ c.if-is_ascii_whitespace.true))
