use Rattle.std.proofs.Common.{◌≡◌, ◌+◌, [], ◌∷◌, ◌++◌, ◌∙◌, ap, length, arith}
use Rattle.babel_tlv.specs.Spelling.{spelled}
use Rattle.babel_tlv.specs.Split.{places_of}
use Rattle.babel_tlv.proofs.Spelled.{places_at-append, fault_at-append, places_at-spelled, fault_at-spelled}
use Rattle.babel_tlv.proofs.laws.put_is_one_more.Goals as goal

pub returns-clause-places : goal.returns-clause-places
returns-clause-places c = λ bytes kind payload sound not_pad1.
    let here : 0 + length bytes ≡ length bytes = omega arith in
    places_at-append 0 0 bytes (spelled kind payload) (omega arith) sound
    ∙ ap (λ ts. places_of bytes ++ ts) (places_at-spelled (0 + length bytes) kind payload (λ pad1. absurd (not_pad1 pad1)) ∙ ap (λ n. record { offset = n; kind = kind; payload = payload } ∷ []) here)

pub returns-clause-fault : goal.returns-clause-fault
returns-clause-fault c = λ bytes kind payload sound.
    fault_at-append 0 0 bytes (spelled kind payload) (omega arith) sound ∙ fault_at-spelled (0 + length bytes) kind payload
