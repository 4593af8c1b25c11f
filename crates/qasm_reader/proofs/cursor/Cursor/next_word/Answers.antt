use Rattle.std.proofs.Common.{◌≡◌, ◌∷◌, ap, length, refl, arith}
use Rattle.qasm_lex.specs.declared.tokens.TokenKind.TheVariants as token
use Rattle.qasm_reader.specs.Lexeme.{lexeme}
use Rattle.qasm_reader.specs.Code.{lexemes_left}
use Rattle.qasm_reader.proofs.Lexed.{lexed_next}
use Rattle.qasm_reader.proofs.Signs.{other_first}
use Rattle.qasm_reader.proofs.cursor.Cursor.next_word.Goals as goal

pub returns-in-Some-clause-some : goal.returns-in-Some-clause-some
returns-in-Some-clause-some c = lexed_next c.args.self.now.text.now c.args.self.now.place c.in-Some.token c.in-Some.ensures.found

pub returns-in-Some-clause-shorter : goal.returns-in-Some-clause-shorter
returns-in-Some-clause-shorter c =
    let text = c.args.self.now.text.now in
    let t = c.in-Some.token in
    let some : lexemes_left text c.args.self.now.place ≡ lexeme text t ∷ lexemes_left text t.end = lexed_next text c.args.self.now.place t c.in-Some.ensures.found in
    omega (arith, ap length some)

pub returns-in-None-clause-none : goal.returns-in-None-clause-none
returns-in-None-clause-none c = other_first c.args.self.now.text.now c.args.self.now.place token.Word refl c.in-None.ensures.none
