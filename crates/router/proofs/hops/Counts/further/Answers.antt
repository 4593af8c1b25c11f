use Rattle.std.proofs.Common.{◌≡◌, ◌+◌, ◌<◌, ◌∙◌, ap, sym, arith, ℕ, inl, inr, subst, Option, Some}
use Rattle.std.specs.Prelude.{is_some, if◌then◌else◌}
use Rattle.std.specs.Option.{option_or}
use Rattle.std.proofs.lemmas.Bool.{cases_eq}
use Rattle.router.specs.Counts.{count_at, least_hops}
use Rattle.router.proofs.Hopping.{count_more}
use Rattle.router.proofs.hops.Counts.further.Goals as goal

below : (a k : ℕ) → (a ≡ k → ⊥) → a < k + 1 → a < k
below a k apart less = grind arith

pub loop-number-preserved : goal.loop-number-preserved
loop-number-preserved c =
    let there : c.loop-number.number < c.args.wiring.now.traps = omega (arith, c.loop-number-test.true, c.traps-number-end.ensures.count) in
    record {
      done = λ a less. elim (cases_eq a c.loop-number.number) [
        | inl same ↦ subst (λ (k : ℕ). count_at c.reach.new.self k ≡ least_hops c.args.wiring.now c.args.to.0 (c.args.count + 1) k) (sym same)
            (count_more c.args.wiring.now c.args.to.0 c.args.count c.loop-number.number c.args.self.now c.is_some-near.result (count_at c.reach.new.self c.loop-number.number) c.requires.some c.requires.counts
            (c.is_some-near.ensures ∙ ap is_some c.near.ensures)
            (c.reach.ensures.own ∙ ap (λ (o : Option ℕ). if c.is_some-near.result then option_or o (Some c.args.count) else o) (c.loop-number.invariant.left c.loop-number.number (omega arith) there)))
        | inr apart ↦ c.reach.ensures.others a apart ∙ c.loop-number.invariant.done a (below a c.loop-number.number apart less)
      ];
      left = λ a past less. c.reach.ensures.others a (λ same. absurd (omega (arith, same, past))) ∙ c.loop-number.invariant.left a (omega (arith, past)) less;
    }
