use Rattle.qccd_io.proofs.Sent.{sent_handed}
use Rattle.qccd_io.proofs.buffered.Buffered.finish.Goals as goal

pub returns : goal.returns
returns g c =
    sent_handed _ _ _ c.hand_on.ensures.taken c.hand_on.ensures.handed c.hand_on.ensures.ok c.hand_on.ensures.err c.hand_on.ensures.count c.hand_on.ensures.further
