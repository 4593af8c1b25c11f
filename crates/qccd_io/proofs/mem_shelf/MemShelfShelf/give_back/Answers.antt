use Rattle.std.proofs.Common.{◌≡◌, ◌∙◌, ap, refl, map, None, Some}
use Rattle.std.specs.Prelude.{string_bytes}
use Rattle.qccd_io.specs.Stock.{entry_of, file_named}
use Rattle.qccd_io.proofs.Taking.{file_named-put_back}
use Rattle.qccd_io.proofs.mem_shelf.MemShelfShelf.give_back.Goals as goal

pub invariant_of-self : goal.invariant_of-self
invariant_of-self c =
    let named : string_bytes c.src.inside.name ≡ c.args.src.telling.name = ap (λ v. v.telling.name) c.src.view_is in
    let same : map entry_of c.self.inside.files.items ≡ c.args.self.now.files = ap (λ v. v.files) c.self.view_is in
    let free : file_named (map entry_of c.self.inside.files.items) c.args.src.telling.name ≡ None = rw same c.requires.1 in
    let holds = file_named-put_back c.self.inside.files.items c.push.new.self.items c.args.src.telling.name
    (c.src.inside.name, c.src.inside.bytes) c.self.invariant.0 free named c.in-Ok.ensures.items in
    (holds.2, λ no. absurd (cc no))

pub returns-clause-puts_back : goal.returns-clause-puts_back
returns-clause-puts_back c =
    let named : string_bytes c.src.inside.name ≡ c.args.src.telling.name = ap (λ v. v.telling.name) c.src.view_is in
    let same : map entry_of c.self.inside.files.items ≡ c.args.self.now.files = ap (λ v. v.files) c.self.view_is in
    let free : file_named (map entry_of c.self.inside.files.items) c.args.src.telling.name ≡ None = rw same c.requires.1 in
    let holds = file_named-put_back c.self.inside.files.items c.push.new.self.items c.args.src.telling.name
    (c.src.inside.name, c.src.inside.bytes) c.self.invariant.0 free named c.in-Ok.ensures.items in
    (holds.0 ∙ ap (λ v. Some v.telling.whole) c.src.view_is, (λ q other. rw (← same) (holds.1 q other)), refl)
