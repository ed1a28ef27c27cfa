use Rattle.seal_etm.proofs.Blobs.{blob_opens, checked_is}
use Rattle.seal_etm.proofs.laws.blobs_alone_open_and_check.Goals as goal

pub returns : goal.returns
returns c = record { opens = blob_opens; checks = checked_is }
