-- By what stands after the name.
use Rattle.std.proofs.Common.{Some, None, codes}
use Rattle.std.proofs.lemmas.Bool.Decides.{Decides-eqb}
use Rattle.std.proofs.lemmas.Slice.Eq.{strip_prefix_is}
use Rattle.qccd_words.proofs.Capacities.{some_bytes, capacity-other_name, capacity-no_colon, capacity-given}
use Rattle.qccd_words.proofs.words.capacity_word.Goals as goal

pub returns-in_err-rest-clause-capacity : goal.returns-in_err-rest-clause-capacity
returns-in_err-rest-clause-capacity c =
    let name = c.args.name.now in
    let word = c.args.word.now in
    rw c.from_residual.ensures
    (capacity-other_name name word (strip_prefix_is Decides-eqb word name None c.in_err-rest.ensures.cases))

pub returns-in_err-strip_prefix-clause-capacity : goal.returns-in_err-strip_prefix-clause-capacity
returns-in_err-strip_prefix-clause-capacity c =
    let name = c.args.name.now in
    let word = c.args.word.now in
    let rest = c.in_ok-rest.rest in
    rw c.from_residual-in_err-strip_prefix.ensures
    (capacity-no_colon name word rest.now (strip_prefix_is Decides-eqb word name (Some rest) c.in_ok-rest.ensures.cases)
    (some_bytes rest.now c.if-is_empty.ensures)
    (strip_prefix_is Decides-eqb rest.now (codes ":") None c.in_err-strip_prefix.ensures.cases))

pub returns-clause-capacity : goal.returns-clause-capacity
returns-clause-capacity c =
    let name = c.args.name.now in
    let word = c.args.word.now in
    let rest = c.in_ok-rest.rest in
    let digits = c.in_ok-strip_prefix.field-0 in
    capacity-given name word rest.now digits.now c.capacity.result
    (strip_prefix_is Decides-eqb word name (Some rest) c.in_ok-rest.ensures.cases)
    (strip_prefix_is Decides-eqb rest.now (codes ":") (Some digits) c.in_ok-strip_prefix.ensures.cases)
    c.capacity.ensures.exact c.capacity.ensures.some
