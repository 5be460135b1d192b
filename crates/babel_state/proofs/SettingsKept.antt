-- Each step keeps addresses, costs and Hello intervals; a new cost changes one cost.
use Rattle.std.specs.Prelude.{◌≡◌, ◌⊎◌, ℕ, zero, suc, Bool, true, false, List, [], ◌∷◌, map, slice_get, slice_set, Option, Some, None, if◌then◌else◌}
use Rattle.std.specs.Option.{option_map, option_map_or}
use Rattle.std.specs.FinMap.{put}
use Rattle.std.proofs.Common.{refl, sym, ap, ◌∙◌, inl, inr}
use Rattle.std.proofs.lemmas.Option.{slice_get-map}
use Rattle.babel_value.specs.Orders.{prefix_cmp}
use Rattle.babel_sources.specs.Sources.{collected}
use Rattle.babel_state.specs.declared.interfaces.InterfaceEntry.{InterfaceEntry}
use Rattle.babel_state.specs.Calls.{cost_set, announced_also, withdrawn, select_and_advertise}
use Rattle.babel_state.specs.Messages.{handle_message}
use Rattle.babel_state.specs.NextDatagram.{next_datagram}
use Rattle.babel_state.specs.State.{State, announces, interface_at}
use Rattle.babel_state.specs.StepLaws.{OwnValue, own_of, grown, settings_of, settings_in, KeepsSettings, MessagesKeepSettings, TicksKeepSettings, SendingKeepsSettings, AnnouncingKeepsSettings, WithdrawingKeepsSettings, RaisingKeepsSettings, with_cost_at, CostsSetOneCost}
use Rattle.babel_state.specs.Ticks.{requests_ticked, interfaces_ticked, sources_ticked, routes_selected, ticked}
use Rattle.babel_state.proofs.DatagramsSent.{settings_kept}
use Rattle.babel_state.proofs.Keeping.{message_own, before_sources}
use Rattle.babel_state.proofs.SendingLaws.{sending_known}

own_settings : (s t : State) → own_of t ≡ own_of s → KeepsSettings s t
unfolding own_of
own_settings s t same = ap (λ (o : OwnValue). o.interfaces) same

grown_settings : (s t : State) → own_of t ≡ grown (own_of s) → KeepsSettings s t
unfolding own_of
grown_settings s t same = ap (λ (o : OwnValue). o.interfaces) same

pub message_settings : MessagesKeepSettings
message_settings now peer message s = by (message_own now peer message s)
  where
    t : State
    t = (handle_message now peer message s).0

    by : ((own_of t ≡ own_of s) ⊎ (own_of t ≡ grown (own_of s))) → KeepsSettings s t
    by (inl same) = own_settings s t same
    by (inr same) = grown_settings s t same

sources_settings : (now : ℕ) (s : State) → KeepsSettings s (sources_ticked now s)
unfolding sources_ticked
sources_settings now s = by s.collects
  where
    by : (b : Bool) → KeepsSettings s (if b then record s { sources = collected now s.sources } else s)
    by true = refl
    by false = refl

pub tick_settings : TicksKeepSettings
unfolding ticked
tick_settings now s =
    let before : State = interfaces_ticked now (requests_ticked now (routes_selected now s)) in
    sources_settings now before ∙ own_settings s before (before_sources now s)

pub sending_settings : SendingKeepsSettings
sending_settings now fits s = settings_kept s (next_datagram now fits s).state (sending_known now fits s)

pub announced_settings : AnnouncingKeepsSettings
unfolding announced_also
announced_settings prefix s = by (announces prefix s)
  where
    by : (b : Bool) → KeepsSettings s (if b then s else select_and_advertise prefix (record s { announced = put prefix_cmp prefix tt s.announced }))
    by true = refl
    by false = refl

pub withdrawn_settings : WithdrawingKeepsSettings
unfolding withdrawn
withdrawn_settings prefix s = refl

pub raised_settings : RaisingKeepsSettings
raised_settings s = refl

-- ---- a new cost

map_set : (is : List InterfaceEntry) (k : ℕ) (v : InterfaceEntry) → map settings_of (slice_set is k v) ≡ slice_set (map settings_of is) k (settings_of v)
map_set [] k v = refl
map_set (i ∷ is) zero v = refl
map_set (i ∷ is) (suc k) v = ap (λ xs. settings_of i ∷ xs) (map_set is k v)

pub cost_settings : CostsSetOneCost
unfolding cost_set
cost_settings iface cost s = by (interface_at iface s) refl
  where
    with : Option InterfaceEntry → List InterfaceEntry
    with m = option_map_or (λ (i : InterfaceEntry). slice_set (settings_in s) iface (record i { cost = cost })) m (settings_in s)

    get : (m : Option InterfaceEntry) → interface_at iface s ≡ m → slice_get (settings_in s) iface ≡ option_map settings_of m
    get m at = slice_get-map settings_of s.interfaces iface ∙ ap (option_map settings_of) at

    by : (m : Option InterfaceEntry) → interface_at iface s ≡ m →
        settings_in (option_map_or (λ i. record s { interfaces = slice_set s.interfaces iface (record i { cost = cost }) }) m s) ≡ with_cost_at iface cost (settings_in s)
    by None at = sym (ap with (get None at))
    by (Some i) at = map_set s.interfaces iface (record i { cost = cost }) ∙ sym (ap with (get (Some i) at))
