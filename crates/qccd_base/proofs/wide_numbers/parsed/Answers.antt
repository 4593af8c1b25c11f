-- The bytes of a decimal text are UTF-8, and `parse` reads the number from them.
use Rattle.std.proofs.Common.{◌∙◌, ap}
use Rattle.std.specs.Result.{result_ok}
use Rattle.std.proofs.lemmas.Fmt.{parse-decimal_wide}
use Rattle.qccd_base.proofs.WideDecimal.{IsUtf8-decimal_wide, within}
use Rattle.qccd_base.proofs.wide_numbers.parsed.Goals as goal

pub returns-in_default : goal.returns-in_default
returns-in_default c = record { known = λ n small text. absurd (c.in_default.ensures.cases.0 (rw text (IsUtf8-decimal_wide n small))) }

pub returns : goal.returns
returns c = record {
  known = λ n small text.
      let same = c.in-Ok.ensures.cases.0 ∙ text in
      c.ok.ensures.value ∙ ap result_ok (parse-decimal_wide 128 n _ c.parse.result small (within n small) same c.parse.ensures.value.0);
}
