use Rattle.std.proofs.Common.{refl, arith}
use Rattle.std.proofs.lemmas.List.{length-take}
use Rattle.qccd_io.proofs.Faulting.{MatchFault-from_later}
use Rattle.qccd_io.proofs.Telling.{Reads-none, SameFile-refl, SameFile-trans, SameFile-from_Reads, HasLeft-from_Reads, HasMoreLeft-from_Reads}
use Rattle.qccd_io.proofs.fetch.read_all.Goals as goal

pub returns-in_default-clause-same : goal.returns-in_default-clause-same
returns-in_default-clause-same g c = SameFile-refl _

pub returns-in_default-clause-counts : goal.returns-in_default-clause-counts
returns-in_default-clause-counts g c = omega arith

pub loop-bytes-init : goal.loop-bytes-init
loop-bytes-init g c = record {
  reads = rw c.new-bytes.ensures.items (Reads-none _);
  counts = omega arith;
  piece_len = c.in-Ok.ensures.len;
}

pub overflow_add-most : goal.overflow_add-most
overflow_add-most g c = omega (arith, c.ranges.limit)

pub overflow_sub-most : goal.overflow_sub-most
overflow_sub-most g c = omega (arith, c.len.ensures, c.len-in-loop-bytes.ensures, c.loop-bytes-test.true)

pub slice_bounds-append_piece-end : goal.slice_bounds-append_piece-end
slice_bounds-append_piece-end g c =
    omega (arith, length-take c.min-room.result c.deref_mut.result.now, c.deref_mut.ensures.len, c.min-room.ensures, c.loop-bytes.invariant.piece_len)

pub returns-in-Ok-eq0-clause-ok : goal.returns-in-Ok-eq0-clause-ok
returns-in-Ok-eq0-clause-ok g c =
    HasLeft-from_Reads _ _ _ (c.in-Ok-eq0.ensures.reads _ c.loop-bytes.invariant.reads) (c.in-Ok-eq0.ensures.ends c.in-Ok-eq0.field-0-test (omega (arith, length-take c.min-room.result c.deref_mut.result.now, c.deref_mut.ensures.len, c.min-room.ensures, c.loop-bytes.invariant.piece_len, c.len.ensures, c.len-in-loop-bytes.ensures, c.loop-bytes-test.true)))

pub returns-in-Ok-eq0-clause-fits : goal.returns-in-Ok-eq0-clause-fits
returns-in-Ok-eq0-clause-fits g c =
    omega (arith, c.in-Ok-eq0.ensures.grows, c.len.ensures, c.loop-bytes-test.true, c.in-Ok-eq0.field-0-is)

pub returns-in-Ok-eq0-clause-same : goal.returns-in-Ok-eq0-clause-same
returns-in-Ok-eq0-clause-same g c =
    SameFile-trans _ _ _ (SameFile-from_Reads _ _ _ c.loop-bytes.invariant.reads) c.in-Ok-eq0.ensures.same

pub returns-in-Ok-eq0-clause-counts : goal.returns-in-Ok-eq0-clause-counts
returns-in-Ok-eq0-clause-counts g c = omega (arith, c.loop-bytes.invariant.counts, c.in-Ok-eq0.ensures.counts)

pub loop-bytes-smaller : goal.loop-bytes-smaller
loop-bytes-smaller g c = omega (arith, c.in-Ok-append_piece.ensures.grows, c.in-Ok-append_piece.field-0-test, c.len.ensures, c.loop-bytes-test.true)

pub loop-bytes-preserved : goal.loop-bytes-preserved
loop-bytes-preserved g c = record {
  reads = c.in-Ok-append_piece.ensures.reads _ c.loop-bytes.invariant.reads;
  counts = omega (arith, c.loop-bytes.invariant.counts, c.in-Ok-append_piece.ensures.counts);
  piece_len = c.loop-bytes.invariant.piece_len;
}

pub returns-in-Err-clause-fault : goal.returns-in-Err-clause-fault
returns-in-Err-clause-fault g c =
    MatchFault-from_later _ _ _ _ _ c.loop-bytes.invariant.counts c.append_piece.ensures.counts c.in-Err.ensures.fault

pub returns-in-Err-clause-same : goal.returns-in-Err-clause-same
returns-in-Err-clause-same g c =
    SameFile-trans _ _ _ (SameFile-from_Reads _ _ _ c.loop-bytes.invariant.reads) c.append_piece.ensures.same

pub returns-in-Err-clause-counts : goal.returns-in-Err-clause-counts
returns-in-Err-clause-counts g c = omega (arith, c.loop-bytes.invariant.counts, c.append_piece.ensures.counts)

pub returns-clause-fault : goal.returns-clause-fault
returns-clause-fault g c =
    (refl, HasMoreLeft-from_Reads _ _ _ _ c.loop-bytes.invariant.reads (omega (arith, c.len.ensures, c.loop-bytes-test.false)))

pub returns-clause-same : goal.returns-clause-same
returns-clause-same g c = SameFile-from_Reads _ _ _ c.loop-bytes.invariant.reads

pub returns-clause-counts : goal.returns-clause-counts
returns-clause-counts g c = c.loop-bytes.invariant.counts
