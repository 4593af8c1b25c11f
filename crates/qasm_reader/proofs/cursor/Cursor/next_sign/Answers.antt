-- The sign is the next token, or no token of its kind is.
use Rattle.std.proofs.Common.{ap, length, arith}
use Rattle.qasm_reader.proofs.Signs.{lexed_sign, other_sign}
use Rattle.qasm_reader.proofs.cursor.Cursor.next_sign.Goals as goal

pub returns-in-Some-clause-some : goal.returns-in-Some-clause-some
returns-in-Some-clause-some c =
    lexed_sign c.args.self.now.text.now c.args.self.now.place c.args.kind c.args.byte c.in-Some.token c.requires.alone c.requires.sign c.in-Some.ensures.found
    c.in-Some.ensures.each c.in-Some.ensures.kind

pub returns-in-Some-clause-shorter : goal.returns-in-Some-clause-shorter
returns-in-Some-clause-shorter c =
    let text = c.args.self.now.text.now in
    let t = c.in-Some.token in
    let some =
    lexed_sign text c.args.self.now.place c.args.kind c.args.byte t c.requires.alone c.requires.sign c.in-Some.ensures.found c.in-Some.ensures.each
    c.in-Some.ensures.kind in
    omega (arith, ap length some)

pub returns-in-None-clause-none : goal.returns-in-None-clause-none
returns-in-None-clause-none c =
    other_sign c.args.self.now.text.now c.args.self.now.place c.args.kind c.args.byte c.requires.alone c.requires.sign c.in-None.ensures.none
