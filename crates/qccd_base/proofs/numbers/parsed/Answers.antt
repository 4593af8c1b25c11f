-- The bytes of a decimal text are UTF-8, and `parse` reads the number from them.
use Rattle.std.proofs.Common.{◌∙◌, ap}
use Rattle.std.specs.Result.{result_ok}
use Rattle.std.proofs.lemmas.Fmt.{parse-decimal}
use Rattle.qccd_base.proofs.Decimal.{IsUtf8-decimal}
use Rattle.qccd_base.proofs.Led.{all_written}
use Rattle.qccd_base.proofs.numbers.parsed.Goals as goal

pub returns-in_default-clause-known : goal.returns-in_default-clause-known
returns-in_default-clause-known c = λ n small text. absurd (c.in_default.ensures.cases.0 (rw text (IsUtf8-decimal n small)))

pub returns-clause-known : goal.returns-clause-known
returns-clause-known c = λ n small text.
    let same = c.in-Ok.ensures.cases.0 ∙ text in
    c.ok.ensures.value ∙ ap result_ok (parse-decimal 64 n _ c.parse.result small small same c.parse.ensures.value.0)

pub returns-clause-written : goal.returns-clause-written
returns-clause-written c =
    let parses = rw c.in-Ok.ensures.cases.0 at c.parse.ensures.value.0 in rw c.ok.ensures.value (all_written c.args.bytes.now c.parse.result parses)
