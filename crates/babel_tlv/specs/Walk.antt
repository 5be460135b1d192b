-- The steps of the iterators.
use Rattle.std.specs.Prelude.{◌≡◌, ◌<◌, Option, IfSome}
use Rattle.std.specs.Iterator.{YieldsFirstBy}
use Rattle.babel_tlv.specs.Place.{Place, Ahead}
use Rattle.babel_tlv.specs.declared.tlvs.Tlv.{Tlv}

-- the place of a TLV (RFC 8966, section 4.3)
abbrev pub place_of : Tlv → Place
place_of t = record { offset = t.offset; kind = t.kind; payload = t.payload.now }

-- a step gives the first of the places ahead, or none if there is none; the fault and the end stay the same (profile)
pub record GoesOn (now : Ahead) (step : Option Tlv) (next : Ahead) : Type 0 where
  pub gives : YieldsFirstBy place_of (λ a. a.places) now step next
  pub fault : next.fault ≡ now.fault
  pub end : next.end ≡ now.end
  pub within : IfSome step (λ t. t.offset < now.end)
