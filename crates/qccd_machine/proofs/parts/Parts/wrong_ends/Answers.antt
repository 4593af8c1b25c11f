use Rattle.std.proofs.Common.{◌≡◌, length, refl, Some}
use Rattle.std.specs.Prelude.{slice_get}
use Rattle.std.proofs.lemmas.Bool.{false≢true}
use Rattle.std.proofs.lemmas.Option.{slice_get_read}
use Rattle.qccd_machine.specs.Fault.{data_of}
use Rattle.qccd_machine.proofs.SegmentEnds.{taken_from_any, any_from_taken, bad_end, self_joined, end_taken, ends_passed}
use Rattle.qccd_machine.proofs.parts.Parts.wrong_ends.Goals as goal

pub returns-then-not-has_both-clause-some : goal.returns-then-not-has_both-clause-some
returns-then-not-has_both-clause-some c =
    let is : slice_get c.args.self.now.segments.items c.args.segment ≡ Some c.index-ends.result.now = slice_get_read c.args.self.now.segments.items (length c.args.self.now.segments.items) c.args.segment c.index-ends.result.now refl c.requires.there c.index-ends.ensures in
    bad_end (data_of c.args.self.now) c.args.segment c.index-ends.result.now is (λ both. false≢true (c.if-not-has_both.ensures.1 both))

pub returns-then-same_site-clause-some : goal.returns-then-same_site-clause-some
returns-then-same_site-clause-some c =
    let is : slice_get c.args.self.now.segments.items c.args.segment ≡ Some c.index-ends.result.now = slice_get_read c.args.self.now.segments.items (length c.args.self.now.segments.items) c.args.segment c.index-ends.result.now refl c.requires.there c.index-ends.ensures in
    self_joined (data_of c.args.self.now) c.args.segment c.index-ends.result.now is (c.if-not-has_both.ensures.0 refl) (c.if-same_site.ensures.0 refl)

pub returns-then-is_taken-clause-some : goal.returns-then-is_taken-clause-some
returns-then-is_taken-clause-some c =
    let is : slice_get c.args.self.now.segments.items c.args.segment ≡ Some c.index-ends.result.now = slice_get_read c.args.self.now.segments.items (length c.args.self.now.segments.items) c.args.segment c.index-ends.result.now refl c.requires.there c.index-ends.ensures in
    end_taken (data_of c.args.self.now) c.args.segment c.index-ends.result.now is (c.if-not-has_both.ensures.0 refl) (λ same. false≢true (c.if-same_site.ensures.1 same))
    (taken_from_any (data_of c.args.self.now) c.deref.result.now c.args.segment c.index-ends.result.now c.deref.ensures.value (c.if-is_taken.ensures.0 refl))

pub returns-else-is_taken-clause-none : goal.returns-else-is_taken-clause-none
returns-else-is_taken-clause-none c =
    let is : slice_get c.args.self.now.segments.items c.args.segment ≡ Some c.index-ends.result.now = slice_get_read c.args.self.now.segments.items (length c.args.self.now.segments.items) c.args.segment c.index-ends.result.now refl c.requires.there c.index-ends.ensures in
    ends_passed (data_of c.args.self.now) c.args.segment c.index-ends.result.now is (c.if-not-has_both.ensures.0 refl) (λ same. false≢true (c.if-same_site.ensures.1 same))
    (λ taken. false≢true (c.if-is_taken.ensures.1 (any_from_taken (data_of c.args.self.now) c.deref.result.now c.args.segment c.index-ends.result.now c.deref.ensures.value taken)))
