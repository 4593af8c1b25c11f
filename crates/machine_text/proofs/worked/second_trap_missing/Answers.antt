use Rattle.std.proofs.Common.{◌≡◌, ℕ, zero, suc, inl, inr, Some, codes, refl, arith}
use Rattle.std.specs.Prelude.{slice_get}
use Rattle.std.specs.Fmt.{digits}
use Rattle.toml.proofs.OnLiterals.{toml_on_literals}
use Rattle.qccd_base.specs.declared.names.Res.TheVariants as res
use Rattle.qccd_machine.specs.Line.{link, stray}
use Rattle.qccd_machine.specs.Fault.{Applies, IsEarlier, turn, turn_of}
use Rattle.qccd_machine.specs.declared.fault.PartKind.TheVariants.{Traps, Segments, Junctions}
use Rattle.qccd_machine.specs.declared.fault.MachineFault.{MachineFault}
use Rattle.qccd_machine.specs.declared.fault.MachineFault.TheVariants.{NoTrap, TooMany, Capacity, EndTaken, BadEnd, SelfJoined, JunctionDegree, NotConnected, TableRange, NoMemory}
use Rattle.machine_text.specs.Place.{places}
use Rattle.machine_text.proofs.Computed.{describing}
use Rattle.machine_text.proofs.worked.second_trap_missing.Goals as goal

-- the one trap holds three ions
three : (t c : ℕ) → slice_get stray.capacities t ≡ Some c → c ≡ 3
three zero c is = cc
three (suc t) c is = cc

none_earlier : (other : MachineFault) → IsEarlier (turn_of other) (turn 5 0 0) → Applies stray other → ⊥
none_earlier NoTrap earlier h = omega arith
none_earlier (TooMany Traps) earlier h = omega arith
none_earlier (TooMany Segments) earlier h = omega arith
none_earlier (TooMany Junctions) earlier h = omega arith
none_earlier (Capacity t) earlier (c, is, wrong) =
    let held = three t.0 c is in
    elim wrong [ inl few ↦ omega (arith, held) | inr many ↦ omega (arith, held) ]
none_earlier (BadEnd s) earlier h = grind arith
none_earlier (SelfJoined s) earlier h = grind arith
none_earlier (EndTaken s) earlier h = grind arith
none_earlier (JunctionDegree j) earlier h = grind arith
none_earlier (NotConnected (res.Trap t)) earlier h = grind arith
none_earlier (NotConnected (res.Seg s)) earlier h = h
none_earlier (NotConnected (res.Junc j)) earlier h = grind arith
none_earlier (NotConnected (res.Bit b)) earlier h = h
none_earlier (TableRange field) earlier h = grind arith
none_earlier NoMemory earlier h = h

pub returns : goal.returns
unfolding toml_on_literals places digits
returns c = record {
  parts = stray;
  description = describing (codes "[[trap]]\ncapacity = 3\n[[segment]]\na = \"T0.right\"\nb = \"T1.left\"\n") stray refl refl
      (refl, record { capacities = refl; junctions = refl; segments = refl; times = refl });
  first = record { applies = (link 0, refl, inr (λ there. omega arith)); none_earlier = none_earlier };
}
