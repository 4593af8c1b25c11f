-- Each further angle is one more of too many.
use Rattle.std.proofs.Common.{◌∙◌, ◌∷◌, [], arith}
use Rattle.std.proofs.lemmas.Bool.{ne_eqb}
use Rattle.std.proofs.lemmas.List.{length-append}
use Rattle.qasm_reader.specs.Expected.{with_angle}
use Rattle.qasm_reader.proofs.Leading.{tells_before}
use Rattle.qasm_reader.proofs.angle_lists.surplus.Goals as goal

pub returns-in-Err : goal.returns-in-Err
returns-in-Err c = λ k call few.
    let d = c.loop-behind.invariant k call few in tells_before _ _ c.in-Err.fault d.2 (c.in-Err.ensures.leads k d.0)

pub loop-behind-preserved : goal.loop-behind-preserved
loop-behind-preserved c = λ k call few.
    let d = c.loop-behind.invariant k call few in
    let text = c.in-Ok.field-0-0.items in
    (with_angle d.0 text, omega (arith, d.1, length-append d.0.angles (text ∷ [])), d.2 ∙ c.in-Ok.ensures.leads k d.0 ∙ c.in-Some.ensures.found k d.0 text)

pub returns-in-None : goal.returns-in-None
returns-in-None c = λ k call few.
    let d = c.loop-behind.invariant k call few in
    tells_before _ _ c.wrong_count.result (d.2 ∙ c.in-Ok.ensures.leads k d.0)
    (c.wrong_count.ensures k d.0 c.in-Ok.field-0-0.items (ne_eqb _ _ (λ same. omega (arith, same, d.1))))
