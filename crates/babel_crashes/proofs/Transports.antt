-- The own addresses of a speaker stay as configured.
use Rattle.std.proofs.Common.{◌≡◌, ℕ, List, [], ◌∷◌, slice_get, Option, Some, None, option_map, refl, sym, ap, ◌∙◌}
use Rattle.std.specs.Option.{option_and_then}
use Rattle.std.proofs.lemmas.Option.{slice_get-map}
use Rattle.babel_value.specs.declared.keys.Peer.{Peer}
use Rattle.babel_message.specs.declared.placements.Content.TheVariants as contents
use Rattle.babel_message.specs.declared.placements.Content.{Content}
use Rattle.babel_message.specs.declared.placements.Placed.{Placed}
use Rattle.babel_state.specs.declared.configs.Config.{Config}
use Rattle.babel_state.specs.declared.interfaces.InterfaceEntry.{InterfaceEntry}
use Rattle.babel_state.specs.Addresses.{transport_of, transport_at}
use Rattle.babel_state.specs.Calls.{first_state}
use Rattle.babel_state.specs.Messages.{handle_content, after_places}
use Rattle.babel_state.specs.Restarts.{Snapshot, restored}
use Rattle.babel_state.specs.State.{State}
use Rattle.babel_state.specs.StepLaws.{settings_of, settings_in, KeepsSettings, MessagesKeepSettings}
use Rattle.babel_state.proofs.Moving.{address_settled}

abbrev pub SameTransports : State → State → Type 0
SameTransports old new = (iface : ℕ) → transport_at iface new ≡ transport_at iface old

transport_kept : (o : Option InterfaceEntry) → option_and_then transport_of (option_map settings_of o) ≡ option_and_then transport_of o
transport_kept None = refl
transport_kept (Some i) = address_settled i.transport i

by_settings : (s : State) (iface : ℕ) → option_and_then transport_of (slice_get (settings_in s) iface) ≡ transport_at iface s
by_settings s iface = ap (option_and_then transport_of) (slice_get-map settings_of s.interfaces iface) ∙ transport_kept (slice_get s.interfaces iface)

pub kept_transports : (old new : State) → KeepsSettings old new → SameTransports old new
kept_transports old new same iface =
    sym (by_settings new iface) ∙ ap (λ (xs : List InterfaceEntry). option_and_then transport_of (slice_get xs iface)) same ∙ by_settings old iface

settings_after : MessagesKeepSettings → (now : ℕ) (peer : Peer) (content : Content) (s : State) → KeepsSettings s (handle_content now peer content s).0
settings_after kept now peer (contents.Message message) s = kept now peer message s
settings_after kept now peer contents.State s = refl
settings_after kept now peer (contents.Ignored reason) s = refl

pub places_keep : MessagesKeepSettings → (now : ℕ) (peer : Peer) (placed : List Placed) (s : State) → KeepsSettings s (after_places now peer placed s)
places_keep kept now peer [] s = refl
places_keep kept now peer (x ∷ xs) s =
    places_keep kept now peer xs (handle_content now peer x.content s).0 ∙ settings_after kept now peer x.content s

pub restored_transports : (now : ℕ) (config : Config) (snapshot : Snapshot) → SameTransports (first_state config) (restored now config snapshot)
unfolding restored
restored_transports now config snapshot iface = refl
