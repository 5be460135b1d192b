-- The first message of a datagram fits.
use Rattle.std.specs.Prelude.{◌≡◌, ◌+◌, ◌≤◌, true, [], length, IsSome, Option, Some, None}
use Rattle.std.proofs.Common.{arith}
use Rattle.std.proofs.lemmas.Bool.{false≢true, le-leb}
use Rattle.babel_value.specs.declared.addresses.Addr.{Addr}
use Rattle.babel_packet.specs.BodyMeanings.{state_after}
use Rattle.babel_packet.specs.Compressed.{compressed}
use Rattle.babel_packet.proofs.CompressedSizes.{compressed_size}
use Rattle.babel_state.specs.Addresses.{transport_at}
use Rattle.babel_speaker.specs.Sending.{fits_from, FirstMessagesFit}

pub first_fits : FirstMessagesFit
first_fits s target m is there = by (transport_at target.iface s) there
  where
    by : (source : Option Addr) → IsSome source → fits_from source [] m ≡ true
    by None there = absurd (false≢true there)
    by (Some source) there =
        let small : length (compressed (state_after source []) m) ≤ 60 = compressed_size (state_after source []) m is in
        le-leb (4 + 0 + length (compressed (state_after source []) m)) 1024 (omega (arith, small))
