use Rattle.std.proofs.Common.{◌≡◌, ◌+◌, ◌-◌, ◌≤◌, length, take, drop, sym, ◌∙◌, ap, arith}
use Rattle.std.proofs.lemmas.List.{length-take}
use Rattle.qccd_io.proofs.Pieces.{drop-from_copied}
use Rattle.qccd_io.proofs.mem_shelf.MemSourceSource.read.Goals as goal

pub returns-clause-reads : goal.returns-clause-reads
returns-clause-reads c =
    let copied : c.copy_from_slice.new.self
    ≡ take c.min-count.result (take (length c.self.inside.bytes.items - c.self.inside.read) (drop c.self.inside.read c.self.inside.bytes.items)) =
    rw c.deref.ensures.value at c.copy_from_slice.ensures.after in
    let fits : c.self.inside.read + c.min-count.result ≤ length c.self.inside.bytes.items =
    omega (
      arith,
      c.min-count.ensures,
      c.self.invariant,
      ap length c.deref.ensures.value,
      length-take (length c.deref.result.now - c.self.inside.read) (drop c.self.inside.read c.deref.result.now),
    ) in (
      ap (λ v. v.telling.left) (sym c.self.view_is)
          ∙ drop-from_copied c.self.inside.bytes.items (drop c.min-count.result c.args.buf.now) c.copy_from_slice.new.self c.self.inside.read c.min-count.result copied fits,
      ap (λ v. v.telling.name) c.self.view_is,
      ap (λ v. v.telling.whole) c.self.view_is,
    )
