-- A sign of two bytes, or of one.
use Rattle.std.proofs.Common.{get_or, refl, sym, ◌∙◌}
use Rattle.qasm_lex.specs.declared.tokens.TokenKind.TheVariants.{Arrow, Equal}
use Rattle.qasm_lex.proofs.TokenLemmas.{longest_arrow, longest_equal}
use Rattle.qasm_lex.proofs.FrontLemmas.{pair_at_front, short_at_front}
use Rattle.qasm_lex.proofs.longest.sign_at.Goals as goal

pub returns-then-begins_pair-clause-found : goal.returns-then-begins_pair-clause-found
returns-then-begins_pair-clause-found c =
    pair_at_front c.args.text.now Arrow 45 62 longest_arrow (sym c.begins_pair.ensures ∙ c.if-begins_pair.true)

pub returns-then-begins_pair-2-clause-found : goal.returns-then-begins_pair-2-clause-found
returns-then-begins_pair-2-clause-found c =
    pair_at_front c.args.text.now Equal 61 61 longest_equal (sym c.begins_pair-2.ensures ∙ c.if-begins_pair-2.true)

pub returns-clause-found : goal.returns-clause-found
returns-clause-found c =
    short_at_front c.args.text.now c.in_ok-kind.kind (get_or c.args.text.now 0 0) c.requires refl c.in_ok-kind.ensures.found
    (sym c.begins_pair.ensures ∙ c.if-begins_pair.false) (sym c.begins_pair-2.ensures ∙ c.if-begins_pair-2.false)
