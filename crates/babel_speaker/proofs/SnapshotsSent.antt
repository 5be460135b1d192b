-- A message that changes no feasibility distance leaves the snapshot as it is.
use Rattle.std.specs.Prelude.{◌≡◌, ℕ, Bool, true, false, cond, IsTrue, [], ◌∷◌, map, slice_set, Option, Some, None, T}
use Rattle.std.specs.Option.{option_map, option_map_or}
use Rattle.std.specs.FinMap.{find, put, is_sorted}
use Rattle.std.specs.FinMap.Entries.{by_order, same_entries, is_sorted-put, find-put}
use Rattle.std.specs.declared.cmp.Ordering.{Ordering}
use Rattle.std.specs.declared.cmp.Ordering.TheVariants.{Less, Equal, Greater}
use Rattle.std.specs.Ordering.{eq_by_cmp}
use Rattle.std.proofs.Common.{refl, sym, ◌∙◌, ap, subst}
use Rattle.babel_value.specs.declared.distances.Distance.{Distance}
use Rattle.babel_value.specs.declared.keys.Source.{Source}
use Rattle.babel_value.specs.Orders.{source_cmp}
use Rattle.babel_value.proofs.OrderLaws.{source_exact, source_total}
use Rattle.babel_value.proofs.Orderings.{equal}
use Rattle.babel_message.specs.declared.messages.Message.{Message}
use Rattle.babel_message.specs.declared.messages.Message.TheVariants as messages
use Rattle.babel_sources.specs.declared.sources.SourceEntry.{SourceEntry}
use Rattle.babel_sources.specs.Distances.{improves_on}
use Rattle.babel_sources.specs.Sources.{Sources, pair_of, source_entry_after, lowered}
use Rattle.babel_state.specs.declared.interfaces.InterfaceEntry.{InterfaceEntry}
use Rattle.babel_state.specs.declared.items.Target.{Target}
use Rattle.babel_state.specs.NextDatagram.{next_hello, after_message}
use Rattle.babel_state.specs.Restarts.{kept_source, snapshot_of}
use Rattle.babel_state.specs.State.{State, interface_at}
use Rattle.babel_speaker.specs.SentMessages.{changes_a_pair}

-- ---- source tables

-- What is kept of a table doesn't depend on the moments of its entries.
kept_put : (k : Source) (v w : SourceEntry) (es : Sources) → v.distance ≡ w.distance → map kept_source (put source_cmp k v es) ≡ map kept_source (put source_cmp k w es)
kept_put k v w [] same = ap (λ d. (k, d) ∷ []) same
kept_put k v w (e ∷ es) same = by (source_cmp k e.0) (kept_put k v w es same)
  where
    by : (o : Ordering) → map kept_source (put source_cmp k v es) ≡ map kept_source (put source_cmp k w es) → map kept_source (by_order o ((k, v) ∷ e ∷ es) ((e.0, v) ∷ es) (e ∷ put source_cmp k v es))
        ≡ map kept_source (by_order o ((k, w) ∷ e ∷ es) ((e.0, w) ∷ es) (e ∷ put source_cmp k w es))
    by Less rest = ap (λ d. (k, d) ∷ kept_source e ∷ map kept_source es) same
    by Equal rest = ap (λ d. (e.0, d) ∷ map kept_source es) same
    by Greater rest = ap (λ xs. kept_source e ∷ xs) rest

to_hold : (b : Bool) → b ≡ true → T b
to_hold b e = subst T (sym e) tt

-- An entry that is there already changes nothing.
put_there : (k : Source) (w : SourceEntry) (es : Sources) → IsTrue (is_sorted source_cmp es) → find source_cmp k es ≡ Some w → put source_cmp k w es ≡ es
put_there k w es sorted there =
    same_entries source_cmp source_total source_exact (put source_cmp k w es) es (is_sorted-put source_cmp source_total k w es (to_hold (is_sorted source_cmp es) sorted)) (to_hold (is_sorted source_cmp es) sorted)
    (λ q. find-put source_cmp source_total q k w es ∙ by q (eq_by_cmp source_cmp q k) refl)
  where
    by : (q : Source) (b : Bool) → eq_by_cmp source_cmp q k ≡ b → cond b (Some w) (find source_cmp q es) ≡ find source_cmp q es
    by q true same = sym (ap (λ x. find source_cmp x es) (source_exact q k (equal (source_cmp q k) same)) ∙ there)
    by q false other = refl

lowered_kept : (now : ℕ) (source : Source) (sent : Distance) (es : Sources) → IsTrue (is_sorted source_cmp es) → improves_on (pair_of source es) sent ≡ false →
    map kept_source (lowered now source sent es) ≡ map kept_source es
lowered_kept now source sent es sorted worse = by (find source_cmp source es) refl worse
  where
    by : (m : Option SourceEntry) → find source_cmp source es ≡ m → improves_on (option_map (λ e. e.distance) m) sent ≡ false →
        map kept_source (put source_cmp source (source_entry_after now (option_map (λ e. e.distance) m) sent) es) ≡ map kept_source es
    by None at worse = cc
    by (Some w) at worse =
        kept_put source (source_entry_after now (Some w.distance) sent) w es (rw worse refl) ∙ ap (map kept_source) (put_there source w es sorted at)

-- ---- messages

sources_snapshot : (s : State) (sources : Sources) → map kept_source sources ≡ map kept_source s.sources → snapshot_of (record s { sources = sources }) ≡ snapshot_of s
unfolding snapshot_of
sources_snapshot s sources same = λ i. record { router = s.router; seqno = s.seqno; raises = s.raises; sources = same i }

hello_snapshot : (iface : ℕ) (s : State) (m : Option InterfaceEntry) →
    snapshot_of (option_map_or (λ i. record s { interfaces = slice_set s.interfaces iface (next_hello i) }) m s) ≡ snapshot_of s
unfolding snapshot_of
hello_snapshot iface s None = refl
hello_snapshot iface s (Some i) = refl

message_snapshot : (now : ℕ) (target : Target) (m : Message) (s : State) → IsTrue (is_sorted source_cmp s.sources) → changes_a_pair m s ≡ false →
    snapshot_of (after_message now target m s) ≡ snapshot_of s
unfolding after_message
message_snapshot now target (messages.AckRequest opaque interval) s sorted worse = refl
message_snapshot now target (messages.Ack opaque) s sorted worse = refl
message_snapshot now target (messages.Hello unicast seqno interval) s sorted worse = hello_snapshot target.iface s (interface_at target.iface s)
message_snapshot now target (messages.Ihu to rxcost interval) s sorted worse = refl
message_snapshot now target (messages.Update prefix router next_hop seqno metric interval) s sorted worse =
    sources_snapshot s _ (lowered_kept now (record { prefix = prefix; router = router }) (record { seqno = seqno; metric = metric }) s.sources sorted worse)
message_snapshot now target (messages.Retraction prefix interval) s sorted worse = refl
message_snapshot now target (messages.RetractAll interval) s sorted worse = refl
message_snapshot now target (messages.RouteRequest prefix) s sorted worse = refl
message_snapshot now target messages.DumpRequest s sorted worse = refl
message_snapshot now target (messages.SeqnoRequest prefix router seqno hops) s sorted worse = refl

pub sent_snapshot : (now : ℕ) (target : Target) (m : Message) (s t : State) → t ≡ after_message now target m s → IsTrue (is_sorted source_cmp s.sources) → changes_a_pair m s ≡ false →
    snapshot_of t ≡ snapshot_of s
sent_snapshot now target m s t is sorted worse = ap snapshot_of is ∙ message_snapshot now target m s sorted worse
