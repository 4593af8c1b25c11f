use Rattle.std.proofs.Common.{◌≡◌, ◌∙◌, ap, refl, sym, true, false, map, Some}
use Rattle.std.specs.Prelude.{is_none}
use Rattle.qccd_io.specs.Stock.{entry_of, file_named, fails}
use Rattle.qccd_io.proofs.Planning.{neither_planned_nor_missing}
use Rattle.qccd_io.proofs.Taking.{TakesNamed-holds}
use Rattle.qccd_io.proofs.mem_shelf.MemShelfShelf.lend.Goals as goal

pub invariant_of-self-in-Some-take_named : goal.invariant_of-self-in-Some-take_named
invariant_of-self-in-Some-take_named c =
    let holds = TakesNamed-holds c.self.inside.files.items c.take_named.new.files.items c.args.name.now
    (c.in-Some-take_named.name, c.in-Some-take_named.bytes) c.self.invariant.0 c.in-Some-take_named.ensures.taken in
    (holds.3, λ _. c.in-Some-take_named.ensures.room)

pub returns-in-Some-take_named-clause-lends : goal.returns-in-Some-take_named-clause-lends
returns-in-Some-take_named-clause-lends c =
    let holds = TakesNamed-holds c.self.inside.files.items c.take_named.new.files.items c.args.name.now
    (c.in-Some-take_named.name, c.in-Some-take_named.bytes) c.self.invariant.0 c.in-Some-take_named.ensures.taken in
    let same : map entry_of c.self.inside.files.items ≡ c.args.self.now.files = ap (λ v. v.files) c.self.view_is in
    let out : is_none c.take.new.self ≡ true = rw c.take.ensures.after refl in
    (rw (← same) holds.0, c.in-Some-take_named.ensures.taken.4, refl, (holds.1, (λ q other. rw (← same) (holds.2 q other)), out))

pub returns-in-Some-take_named-clause-planned : goal.returns-in-Some-take_named-clause-planned
returns-in-Some-take_named-clause-planned c =
    let holds = TakesNamed-holds c.self.inside.files.items c.take_named.new.files.items c.args.name.now
    (c.in-Some-take_named.name, c.in-Some-take_named.bytes) c.self.invariant.0 c.in-Some-take_named.ensures.taken in
    let same : map entry_of c.self.inside.files.items ≡ c.args.self.now.files = ap (λ v. v.files) c.self.view_is in
    let plan : c.args.self.now.plan ≡ Some c.in-Some.schedule =
    sym (ap (λ v. v.plan) c.self.view_is) ∙ sym c.take.ensures.value ∙ c.in-Some.is in
    let passes : fails c.in-Some.schedule ≡ false = sym c.if-next_fails.ensures.answer in
    let held : file_named c.args.self.now.files c.args.name.now ≡ Some c.in-Some-take_named.bytes.items = rw (← same) holds.0 in
    neither_planned_nor_missing _ c.in-Some.schedule c.args.self.now.files c.args.name.now _ plan passes held
