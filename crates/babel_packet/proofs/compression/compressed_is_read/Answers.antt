-- The compressed TLVs of each message, one after the other.
use Rattle.std.proofs.Common.{refl}
use Rattle.babel_packet.specs.BodyMeanings.{state_after}
use Rattle.babel_packet.proofs.CompressedMessages.{SplitsMore, added}
use Rattle.babel_packet.proofs.CompressedSizes.{compressed_size}
use Rattle.babel_packet.proofs.compression.compressed_is_read.Goals as goal

splits_more : (c : goal.After-put_is_one_more) → SplitsMore
splits_more c = λ body kind payload whole some. record {
  places = c.put_is_one_more.ensures.places body kind payload whole some;
  fault = c.put_is_one_more.ensures.fault body kind payload whole;
}

pub returns-clause-message : goal.returns-clause-message
returns-clause-message c = λ source body decoded message means is encodable.
    (added (splits_more c) source body (state_after source body) message means.whole refl is).means decoded means encodable

pub returns-clause-state : goal.returns-clause-state
returns-clause-state c = λ source body message whole is.
    let adds = added (splits_more c) source body (state_after source body) message whole refl is in (adds.whole, adds.state)

pub returns-clause-short : goal.returns-clause-short
returns-clause-short c = compressed_size
