use Rattle.certificates.proofs.LaneCertificates.{two_suffice}
use Rattle.certificates.proofs.lanes.certify_lane.Goals as goal

pub returns : goal.returns
returns c = two_suffice c.args.exit c.certify.result _ _ _ _ c.certify.ensures.certifies
