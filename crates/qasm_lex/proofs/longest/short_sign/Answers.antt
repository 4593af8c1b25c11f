-- A byte of no arm is no sign alone.
use Rattle.std.proofs.Common.{arith}
use Rattle.qasm_lex.proofs.TokenLemmas.{no_short}
use Rattle.qasm_lex.proofs.longest.short_sign.Goals as goal

pub returns-in_default-clause-none : goal.returns-in_default-clause-none
returns-in_default-clause-none c = λ kind is.
    no_short kind c.args.byte c.requires (
      λ e. omega arith,
      (
        λ e. omega arith,
        (
          λ e. omega arith,
          (
            λ e. omega arith,
            (
              λ e. omega arith,
              (
                λ e. omega arith,
                (
                  λ e. omega arith,
                  (λ e. omega arith, (λ e. omega arith, (λ e. omega arith, (λ e. omega arith, (λ e. omega arith, (λ e. omega arith, tt)))))),
                ),
              ),
            ),
          ),
        ),
      ),
    ) is
