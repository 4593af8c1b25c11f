use Rattle.std.proofs.Common.{Option, Some, None, inl, arith}
use Rattle.std.specs.Prelude.{IfNone}
use Rattle.qccd_machine.specs.declared.fault.MachineFault.{MachineFault}
use Rattle.qccd_machine.specs.declared.fault.MachineFault.TheVariants.{BadEnd}
use Rattle.qccd_machine.specs.Fault.{data_of}
use Rattle.qccd_machine.specs.Search.{at_capacities, at_counts, at_degrees, at_end, at_far_junctions, at_far_traps, at_segments, at_times, NoneWithin}
use Rattle.qccd_machine.proofs.Turns.{first_after, none_joined}
use Rattle.qccd_machine.proofs.Valid.{there_from_none, valid_from_none}
use Rattle.qccd_machine.proofs.parts.Parts.fault.Goals as goal

if_none_then : (o : Option MachineFault) (P Q : Type 0) → (P → Q) → IfNone o P → IfNone o Q
if_none_then None P Q step h = step h
if_none_then (Some fault) P Q step h = tt

pub reached-marks-requires-clause-there : goal.reached-marks-requires-clause-there
reached-marks-requires-clause-there c =
    there_from_none (data_of c.args.self.now) (λ s. c.in_default-wrong_segment.ensures.none (BadEnd (record { 0 = s })) ((λ e. omega arith), inl (omega arith)))

pub returns-in-Some-wrong_segment-clause-some : goal.returns-in-Some-wrong_segment-clause-some
returns-in-Some-wrong_segment-clause-some c =
    let m = data_of c.args.self.now in
    let to_segments : NoneWithin m at_counts at_segments = none_joined m at_counts at_capacities at_segments c.in_default.ensures.none c.in_default-wrong_capacity.ensures.none in
    first_after m at_segments at_degrees c.in-Some-wrong_segment.fault to_segments c.in-Some-wrong_segment.ensures.some

pub returns-in-Some-wrong_degree-clause-some : goal.returns-in-Some-wrong_degree-clause-some
returns-in-Some-wrong_degree-clause-some c =
    let m = data_of c.args.self.now in
    let to_segments : NoneWithin m at_counts at_segments = none_joined m at_counts at_capacities at_segments c.in_default.ensures.none c.in_default-wrong_capacity.ensures.none in
    let to_degrees : NoneWithin m at_counts at_degrees = none_joined m at_counts at_segments at_degrees to_segments c.in_default-wrong_segment.ensures.none in
    first_after m at_degrees at_far_traps c.in-Some-wrong_degree.fault to_degrees c.in-Some-wrong_degree.ensures.some

pub returns-in-Some-far_trap-clause-some : goal.returns-in-Some-far_trap-clause-some
returns-in-Some-far_trap-clause-some c =
    let m = data_of c.args.self.now in
    let to_segments : NoneWithin m at_counts at_segments = none_joined m at_counts at_capacities at_segments c.in_default.ensures.none c.in_default-wrong_capacity.ensures.none in
    let to_degrees : NoneWithin m at_counts at_degrees = none_joined m at_counts at_segments at_degrees to_segments c.in_default-wrong_segment.ensures.none in
    let to_far_traps : NoneWithin m at_counts at_far_traps = none_joined m at_counts at_degrees at_far_traps to_degrees c.in_default-wrong_degree.ensures.none in
    first_after m at_far_traps at_far_junctions c.in-Some-far_trap.fault to_far_traps c.in-Some-far_trap.ensures.some

pub returns-in-Some-far_junction-clause-some : goal.returns-in-Some-far_junction-clause-some
returns-in-Some-far_junction-clause-some c =
    let m = data_of c.args.self.now in
    let to_segments : NoneWithin m at_counts at_segments = none_joined m at_counts at_capacities at_segments c.in_default.ensures.none c.in_default-wrong_capacity.ensures.none in
    let to_degrees : NoneWithin m at_counts at_degrees = none_joined m at_counts at_segments at_degrees to_segments c.in_default-wrong_segment.ensures.none in
    let to_far_traps : NoneWithin m at_counts at_far_traps = none_joined m at_counts at_degrees at_far_traps to_degrees c.in_default-wrong_degree.ensures.none in
    let to_far_junctions : NoneWithin m at_counts at_far_junctions = none_joined m at_counts at_far_traps at_far_junctions to_far_traps c.in_default-far_trap.ensures.none in
    first_after m at_far_junctions at_times c.in-Some-far_junction.fault to_far_junctions c.in-Some-far_junction.ensures.some

pub returns-clause-none : goal.returns-clause-none
returns-clause-none c =
    let m = data_of c.args.self.now in
    let to_segments : NoneWithin m at_counts at_segments = none_joined m at_counts at_capacities at_segments c.in_default.ensures.none c.in_default-wrong_capacity.ensures.none in
    let to_degrees : NoneWithin m at_counts at_degrees = none_joined m at_counts at_segments at_degrees to_segments c.in_default-wrong_segment.ensures.none in
    let to_far_traps : NoneWithin m at_counts at_far_traps = none_joined m at_counts at_degrees at_far_traps to_degrees c.in_default-wrong_degree.ensures.none in
    let to_far_junctions : NoneWithin m at_counts at_far_junctions = none_joined m at_counts at_far_traps at_far_junctions to_far_traps c.in_default-far_trap.ensures.none in
    let to_times : NoneWithin m at_counts at_times = none_joined m at_counts at_far_junctions at_times to_far_junctions c.in_default-far_junction.ensures.none in
    if_none_then c.wrong_time.result (NoneWithin m at_times at_end) _
    (λ last. valid_from_none m (none_joined m at_counts at_times at_end to_times last))
    c.wrong_time.ensures.none
