-- The rest of a payload after the fields is a list of sub-TLVs (RFC 8966, section 4.4).
use Rattle.std.specs.Prelude.{ℕ, List, [], ◌∷◌, Option, Some, None, nat_le, if◌then◌else◌}
use Rattle.babel_tlv.specs.Place.{Place}
use Rattle.babel_tlv.specs.Split.{places_of, fault_of}
use Rattle.babel_message.specs.Layout as layout
use Rattle.babel_message.specs.declared.placements.Content.{Content}
use Rattle.babel_message.specs.declared.placements.Reason.{Reason}
use Rattle.babel_message.specs.declared.placements.Reason.TheVariants as reasons
use Rattle.babel_packet.specs.Contents.{unless}

-- The first sub-TLV of a type that must be understood. None of these types is known here.
abbrev pub mandatory : List Place → Option Reason
mandatory [] = None
mandatory (t ∷ ts) = if nat_le layout.mandatory t.kind then Some (reasons.MandatorySubTlv t.kind) else mandatory ts

-- A sub-TLV that runs past the TLV is reported before one that must be understood, whatever their order is (profile).
abbrev pub tail_reason_of : Option ℕ → List Place → Option Reason
tail_reason_of None subs = mandatory subs
tail_reason_of (Some offset) subs = Some reasons.TailOverrun

unfoldable pub tail_reason : List ℕ → Option Reason
tail_reason tail = tail_reason_of (fault_of tail) (places_of tail)

-- the content of a TLV with this tail, if no earlier reason applies
abbrev pub after_tail : List ℕ → Content → Content
after_tail tail content = unless (tail_reason tail) content
