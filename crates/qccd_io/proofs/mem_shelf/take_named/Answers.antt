use Rattle.std.proofs.Common.{◌≡◌, Some, None, refl, sym}
use Rattle.std.specs.Prelude.{position}
use Rattle.qccd_io.proofs.Taking.{is_named, TakesNamed-from_position, file_named-nowhere}
use Rattle.qccd_io.proofs.mem_shelf.take_named.Goals as goal

pub returns-in-Some-clause-taken : goal.returns-in-Some-clause-taken
returns-in-Some-clause-taken c =
    let found : position (is_named c.args.name.now) c.args.files.now.items ≡ Some c.in-Some.index =
    rw c.deref.ensures.value at (sym c.in-Some.ensures) in
    rw c.remove.ensures.items (TakesNamed-from_position _ _ _ _ found c.remove.ensures.value)

pub returns-in-None-clause-missing : goal.returns-in-None-clause-missing
returns-in-None-clause-missing c =
    let nowhere : position (is_named c.args.name.now) c.args.files.now.items ≡ None =
    rw c.deref.ensures.value at (sym c.in-None.ensures) in
    (file_named-nowhere c.args.files.now.items c.args.name.now nowhere, refl)
