-- An option that is given, and what stands behind it.
use Rattle.std.proofs.Common.{rules, ap, sym, ◌∙◌}
use Rattle.qccd_words.specs.Words.{mode_named, number_named}
use Rattle.qccd_words.proofs.Options.{workers_given, mode_given}
use Rattle.qccd_words.proofs.words.+option_words.Goals as goal

pub returns-in_ok-workers-in-text-clause-options : goal.returns-in_ok-workers-in-text-clause-options
returns-in_ok-workers-in-text-clause-options t c =
    c.option_words.ensures.options
    ∙ sym (workers_given c.args.words.now c.name-item.result c.value-item.result c.args.workers c.args.mode c.in_ok-workers-in-text.workers
    c.in-len2-up.len_at_least c.name-item.is c.value-item.is
    (sym c.as_str.ensures.value ∙ c.in-text.is) (search rules)
    (c.in_ok-workers-in-text.ensures.named ∙ ap (number_named 1 16) c.as_str-in-text.ensures.value))

pub returns-in_ok-mode-in-text-2-clause-options : goal.returns-in_ok-mode-in-text-2-clause-options
returns-in_ok-mode-in-text-2-clause-options t c =
    c.option_words-in-text-2.ensures.options
    ∙ sym (mode_given c.args.words.now c.name-item.result c.value-item.result c.args.workers c.args.mode c.in_ok-mode-in-text-2.mode
    c.in-len2-up.len_at_least c.name-item.is c.value-item.is
    (sym c.as_str.ensures.value ∙ c.in-text-2.is) (search rules)
    (c.in_ok-mode-in-text-2.ensures ∙ ap mode_named c.as_str-in-text-2.ensures.value))
