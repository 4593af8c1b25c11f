-- What is read from here on is the next token and what is read behind it.
use Rattle.std.proofs.Common.{◌≡◌, ◌∷◌, ap, length, arith}
use Rattle.qasm_reader.specs.Lexeme.{lexeme}
use Rattle.qasm_reader.specs.Code.{lexemes_left}
use Rattle.qasm_reader.proofs.Lexed.{lexed_end, lexed_last, lexed_next, quote}
use Rattle.qasm_reader.proofs.TokenBytes.{angle_bytes}
use Rattle.qasm_reader.proofs.cursor.Cursor.next.Goals as goal

pub returns-in-Ok-None-clause-none : goal.returns-in-Ok-None-clause-none
returns-in-Ok-None-clause-none c = lexed_end c.args.self.now.text.now c.args.self.now.place (rw c.in-Ok-None.field-0-is at c.in-Ok-None.ensures.end)

pub returns-in-Ok-Some-clause-some : goal.returns-in-Ok-Some-clause-some
returns-in-Ok-Some-clause-some c = lexed_next c.args.self.now.text.now c.args.self.now.place c.in-Ok-Some.token (rw c.in-Ok-Some.field-0-is at c.in-Ok-Some.ensures.found)

pub returns-in-Ok-Some-clause-shorter : goal.returns-in-Ok-Some-clause-shorter
returns-in-Ok-Some-clause-shorter c =
    let text = c.args.self.now.text.now in
    let t = c.in-Ok-Some.token in
    let some : lexemes_left text c.args.self.now.place ≡ lexeme text t ∷ lexemes_left text t.end =
    lexed_next text c.args.self.now.place t (rw c.in-Ok-Some.field-0-is at c.in-Ok-Some.ensures.found) in
    omega (arith, ap length some)

pub returns-in-Ok-Some-clause-angle_bytes : goal.returns-in-Ok-Some-clause-angle_bytes
returns-in-Ok-Some-clause-angle_bytes c =
    let each = rw c.in-Ok-Some.field-0-is at c.in-Ok-Some.ensures.each in angle_bytes c.in-Ok-Some.token.kind c.in-Ok-Some.token.start _ each.token

pub returns-in-Err-clause-some : goal.returns-in-Err-clause-some
returns-in-Err-clause-some c = lexed_last c.args.self.now.text.now c.args.self.now.place c.in-Err.field-0 c.in-Err.ensures.fault

pub returns-in-Err-clause-shorter : goal.returns-in-Err-clause-shorter
returns-in-Err-clause-shorter c =
    let text = c.args.self.now.text.now in
    let some : lexemes_left text c.args.self.now.place ≡ quote ∷ lexemes_left text (length text) =
    lexed_last text c.args.self.now.place c.in-Err.field-0 c.in-Err.ensures.fault in
    omega (arith, ap length some)
