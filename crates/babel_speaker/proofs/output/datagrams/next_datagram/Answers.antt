use Rattle.std.proofs.Common.{◌≡◌, List, [], ◌∷◌, true, sym, refl, ap, ◌∙◌, slice_get, Some, None}
use Rattle.std.specs.Option.{option_and_then}
use Rattle.std.proofs.lemmas.Bool.{false≢true}
use Rattle.babel_build.specs.Built.{Built, fits}
use Rattle.babel_state.specs.Addresses.{transport_of, transport_at}
use Rattle.babel_state.specs.declared.interfaces.InterfaceEntry.{InterfaceEntry}
use Rattle.babel_state.specs.NextDatagram.{Draft, drafted}
use Rattle.babel_speaker.specs.Sending.{fits_at, draft_to, empty_datagram, built_of, IsFilled, draft_at}
use Rattle.babel_speaker.specs.SentMessages.{no_draft}
use Rattle.babel_speaker.proofs.NextDatagrams.{silent_if_none, speaks_if_some, transport_there, next_none, next_stays, next_begins, first_added, filled_means, filled_built, alone_encoded}
use Rattle.babel_speaker.proofs.Snapshots.{removed_snapshot}
use Rattle.babel_speaker.proofs.output.datagrams.next_datagram.Goals as goal

pub returns-in_default-clause-state : goal.returns-in_default-clause-state
returns-in_default-clause-state c =
    sym (ap (λ (d : Draft). d.state) (next_none c.args.now _ c.args.core.now c.skip_silent.new.core (c.skip_silent.ensures.draft c.args.now _) (c.in_default.ensures.none refl)))

pub returns-in_default-clause-target : goal.returns-in_default-clause-target
returns-in_default-clause-target c =
    sym (ap (λ (d : Draft). d.target) (next_none c.args.now _ c.args.core.now c.skip_silent.new.core (c.skip_silent.ensures.draft c.args.now _) (c.in_default.ensures.none refl)))

stays : (c : goal.In_default-transport) → draft_at c.args.now c.args.core.now ≡ no_draft c.skip_silent.new.core
stays c =
    next_stays c.args.now c.args.core.now c.skip_silent.new.core c.in-Some.target c.in-Some.message (c.skip_silent.ensures.draft c.args.now _) (sym c.in-Some.ensures.message)
    (ap (λ (xs : List InterfaceEntry). option_and_then transport_of (slice_get xs c.in-Some.target.iface)) (sym c.skip_silent.ensures.interfaces) ∙ sym c.in_default-transport.ensures)

pub returns-in_default-transport-clause-state : goal.returns-in_default-transport-clause-state
returns-in_default-transport-clause-state c = sym (ap (λ (d : Draft). d.state) (stays c))

pub returns-in_default-transport-clause-target : goal.returns-in_default-transport-clause-target
returns-in_default-transport-clause-target c = sym (ap (λ (d : Draft). d.target) (stays c))

begins : (c : goal.After-write_to) → (fits (empty_datagram c.in-Some-transport.source) c.in-Some.message ≡ true) × (c.add.new.self ≡ built_of (empty_datagram c.in-Some-transport.source) (c.in-Some.message ∷ []))
begins c = first_added c.begin.new.self c.add.new.self c.in-Some-transport.source c.in-Some.message c.add.result c.begin.ensures.empty c.add.ensures.fits c.add.ensures.alone c.add.ensures.added

at : (c : goal.After-write_to) → transport_at c.in-Some.target.iface c.args.core.now ≡ Some c.in-Some-transport.source
at c = ap (λ (xs : List InterfaceEntry). option_and_then transport_of (slice_get xs c.in-Some.target.iface)) (sym c.skip_silent.ensures.interfaces) ∙ sym c.in-Some-transport.ensures

next : (c : goal.After-write_to) → draft_at c.args.now c.args.core.now
    ≡ drafted c.args.now (fits_at (empty_datagram c.in-Some-transport.source)) c.remove_first_item.new.core.pending.items (draft_to c.in-Some.target c.remove_first_item.new.core (c.in-Some.message ∷ []))
next c =
    next_begins c.args.now c.args.core.now c.skip_silent.new.core c.send_message.new.core c.remove_first_item.new.core c.in-Some.target c.in-Some.message c.in-Some-transport.source
    (c.skip_silent.ensures.draft c.args.now _) (sym c.in-Some.ensures.message) (at c) (begins c).0 c.send_message.ensures.state c.send_message.ensures.pending c.remove_first_item.ensures

filled : (c : goal.After-write_to) → IsFilled (empty_datagram c.in-Some-transport.source) (c.in-Some.message ∷ []) c.in-Some.target
    (drafted c.args.now (fits_at (empty_datagram c.in-Some-transport.source)) c.remove_first_item.new.core.pending.items (draft_to c.in-Some.target c.remove_first_item.new.core (c.in-Some.message ∷ [])))
    c.fill.new.core c.add.new.self c.fill.new.builder
filled c = c.fill.ensures.filled (empty_datagram c.in-Some-transport.source) (c.in-Some.message ∷ []) (begins c).1

pub returns-clause-state : goal.returns-clause-state
returns-clause-state c = (filled c).state ∙ sym (ap (λ (d : Draft). d.state) (next c))

pub returns-clause-target : goal.returns-clause-target
returns-clause-target c = (filled c).goes_to ∙ sym (ap (λ (d : Draft). d.target) (next c))

pub returns-clause-octets : goal.returns-clause-octets
returns-clause-octets c =
    filled_means c.in-Some-transport.source _ (c.in-Some.message ∷ []) c.in-Some.target _ _ c.fill.new.core c.add.new.self c.fill.new.builder c.write_to.new.out.items (filled c) (next c) (at c)
    (alone_encoded c.add.new.self c.in-Some.message (c.add.ensures.decoded [] c.begin.ensures.silent (c.add.ensures.alone (ap (λ (b : Built). b.body) c.begin.ensures.empty)))) c.write_to.ensures.means

pub returns-clause-built : goal.returns-clause-built
returns-clause-built c =
    filled_built c.in-Some-transport.source _ (c.in-Some.message ∷ []) c.in-Some.target _ _ c.fill.new.core c.add.new.self c.fill.new.builder c.write_to.new.out.items (filled c) (next c) (at c)
    c.write_to.ensures.octets

pub returns-clause-saved : goal.returns-clause-saved
returns-clause-saved c = λ same.
    c.fill.ensures.saved same
    ∙ removed_snapshot c.send_message.new.core c.remove_first_item.new.core c.args.core.now c.remove_first_item.ensures
    (c.send_message.ensures.saved (c.fill.ensures.marked same) ∙ c.skip_silent.ensures.saved.same)

pub returns-in_default-clause-saved : goal.returns-in_default-clause-saved
returns-in_default-clause-saved c = λ same. c.skip_silent.ensures.saved.same

pub returns-in_default-transport-clause-saved : goal.returns-in_default-transport-clause-saved
returns-in_default-transport-clause-saved c = λ same. c.skip_silent.ensures.saved.same

pub returns-in_default-clause-none : goal.returns-in_default-clause-none
returns-in_default-clause-none c = λ transports. (
  λ none. silent_if_none c.args.core.now c.skip_silent.new.core c.items_mean_messages.ensures.none c.skip_silent.ensures.draft (c.in_default.ensures.none refl),
  λ silent. refl,
)

pub returns-in_default-transport-clause-none : goal.returns-in_default-transport-clause-none
returns-in_default-transport-clause-none c = λ transports.
    let none : transport_at c.in-Some.target.iface c.args.core.now ≡ None =
    ap (λ (xs : List InterfaceEntry). option_and_then transport_of (slice_get xs c.in-Some.target.iface)) (sym c.skip_silent.ensures.interfaces) ∙ sym c.in_default-transport.ensures in
    absurd (transport_there c.args.core.now c.skip_silent.new.core c.in-Some.target c.in-Some.message c.items_mean_messages.ensures.interfaces c.skip_silent.ensures.interfaces (sym c.in-Some.ensures.message) transports none)

pub returns-clause-none : goal.returns-clause-none
returns-clause-none c = λ transports. (
  λ none. absurd (false≢true (sym none)),
  λ silent. absurd (false≢true (sym (speaks_if_some c.args.core.now c.skip_silent.new.core c.in-Some.target c.in-Some.message c.items_mean_messages.ensures.none c.skip_silent.ensures.draft (sym c.in-Some.ensures.message)) ∙ silent)),
)
