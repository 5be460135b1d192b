-- The source address and the octets of a datagram that is sent.
use Rattle.std.proofs.Common.{◌≡◌, ℕ, List, Some, refl, sym, subst}
use Rattle.babel_value.specs.declared.addresses.Addr.{Addr}
use Rattle.babel_state.specs.declared.items.Target.{Target}
use Rattle.babel_state.specs.Addresses.{transport_at}
use Rattle.babel_state.specs.Invariants.{IsWellFormed}
use Rattle.babel_state.specs.NextDatagram.{Draft}
use Rattle.babel_state.specs.Seen.{seen}
use Rattle.babel_state.specs.SeenLaws.{DatagramsSend}
use Rattle.babel_state.specs.State.{State}
use Rattle.babel_speaker.specs.Sending.{fits_by, IsBuiltFrom, MeansFrom, draft_at}
use Rattle.babel_net.specs.Networks.{SentOctets}
use Rattle.babel_net.specs.Steps.{IsSentBy}

-- a datagram changes no own address
pub transport_kept : DatagramsSend → (now : ℕ) (s : State) (target : Target) (iface : ℕ) → IsWellFormed s → (draft_at now s).target ≡ Some target → transport_at iface (draft_at now s).state ≡ transport_at iface s
unfolding seen
transport_kept law now s target iface well goes = (law now (fits_by s) s target well goes).transports iface

pub sent_by : (node : ℕ) (s : State) (draft : Draft) (target : Target) (source : Addr) (octets : List ℕ) (d : SentOctets) → transport_at target.iface s ≡ Some source → MeansFrom (transport_at target.iface s) octets draft.messages → IsBuiltFrom (transport_at target.iface s) octets draft.messages → d ≡ record { node = node; source = source; octets = octets } → IsSentBy node s draft target d
sent_by node s draft target source octets d own means built is =
    subst (IsSentBy node s draft target) (sym is)
    (record { sender = refl; is_own = own; means = subst (λ o. MeansFrom o octets draft.messages) own means; built = subst (λ o. IsBuiltFrom o octets draft.messages) own built })
