use Rattle.std.proofs.Common.{ℕ, List, ap, arith, length, ◌∙◌, ◌++◌, ◌∷◌, []}
use Rattle.gate_defs.specs.declared.kinds.Def.{Def}
use Rattle.gate_defs.specs.declared.measures.Measures.{Measures}
use Rattle.gate_defs.specs.Kept.{counts_in, depths_in, number_of, weights_in, with_number}
use Rattle.gate_defs.specs.Measures.{count_over, depth_over, weight_over}
use Rattle.gate_defs.proofs.Keeping.{kept_more, kept_same}
use Rattle.gate_defs.proofs.Measuring.{as_many, next_at_most, steps_there}
use Rattle.gate_defs.proofs.defs.put.Goals as goal

pub of_def-own-requires-clause-there : goal.of_def-own-requires-clause-there
of_def-own-requires-clause-there c =
    steps_there c.args.defs.now.items (length c.deref.result.now) c.args.def c.args.def.body c.requires.next.body
    (ap length c.deref.ensures.value ∙ as_many c.args.defs.now.items c.args.measures.now.items c.requires.are_kept.are_measures)

pub of_def-own-requires-clause-many : goal.of_def-own-requires-clause-many
of_def-own-requires-clause-many c =
    let same = ap (λ (l : List Measures). count_over (counts_in l) c.args.def) c.deref.ensures.value
    ∙ ap (λ (ns : List ℕ). count_over ns c.args.def) c.requires.are_kept.are_measures.counts in
    omega (arith, same, next_at_most c.args.defs.now.items c.args.def, c.requires.next.heavy)

pub returns-in_err-add-clause-kept : goal.returns-in_err-add-clause-kept
returns-in_err-add-clause-kept c =
    kept_same c.args.defs.now.items c.reserve.new.self.items c.args.measures.now.items c.reserve-2.new.self.items c.args.numbers.now c.add.new.self
    c.requires.are_kept c.reserve.ensures.items c.reserve-2.ensures.items c.in_err-add.ensures.err

pub returns-clause-kept : goal.returns-clause-kept
returns-clause-kept c =
    let defs = c.args.defs.now.items in
    let all = c.args.measures.now.items in
    let d = c.args.def in
    let known = c.deref.ensures.value in
    let own = c.of_def-own.ensures in
    kept_more defs c.push.new.self.items all c.push-2.new.self.items c.args.numbers.now c.add.new.self d c.of_def-own.result c.requires.are_kept c.requires.next
    (c.in_ok-push.ensures.items ∙ ap (λ (l : List Def). l ++ d ∷ []) c.reserve.ensures.items)
    (c.in_ok-push-2.ensures.items ∙ ap (λ (l : List Measures). l ++ c.of_def-own.result ∷ []) c.reserve-2.ensures.items)
    (own.depth ∙ ap (λ (l : List Measures). depth_over (depths_in l) d) known)
    (own.weight ∙ ap (λ (l : List Measures). weight_over (weights_in l) d) known)
    (own.items ∙ ap (λ (l : List Measures). count_over (counts_in l) d) known)
    (c.in_ok-add.ensures.ok
    ∙ ap (λ (name : List ℕ). with_number name c.len-id.result (number_of c.args.numbers.now)) (c.in_ok-name.ensures.items ∙ c.as_slice.ensures)
    ∙ ap (λ (n : ℕ). with_number d.name n (number_of c.args.numbers.now)) (c.len-id.ensures ∙ c.args.defs.now.ok.0))
