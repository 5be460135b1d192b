-- Keeping the parser state gives what looking back gives.
use Rattle.std.proofs.Common.{◌≡◌, ◌+◌, List, [], ◌∷◌, refl, ap}
use Rattle.babel_value.specs.declared.addresses.Addr.{Addr}
use Rattle.babel_tlv.specs.Place.{Place}
use Rattle.babel_message.specs.declared.placements.Placed.{Placed}
use Rattle.babel_packet.specs.LookBack.{before}
use Rattle.babel_packet.specs.Meaning.{content, placed_from}
use Rattle.babel_packet.specs.Running.{placed_with}

pub looking_back : (source : Addr) (earlier ts : List Place) → placed_with (before source earlier) ts ≡ placed_from source earlier ts
looking_back source earlier [] = refl
looking_back source earlier (t ∷ ts) =
    ap (λ (ps : List Placed). (record { offset = 4 + t.offset; content = content (before source earlier) t.kind t.payload }) ∷ ps)
    (looking_back source (t ∷ earlier) ts)
