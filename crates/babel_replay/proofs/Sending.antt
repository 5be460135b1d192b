-- Datagrams that are taken one after another until there is none.
use Rattle.std.proofs.Common.{◌≡◌, ◌+◌, ◌≤◌, ℕ, List, [], ◌∷◌, ◌++◌, length, Option, Some, None, refl, sym, ap, ◌∙◌, subst, arith}
use Rattle.std.proofs.lemmas.Grind.{flat_map-append}
use Rattle.std.proofs.lemmas.List.{append-nil, length-append}
use Rattle.std.proofs.lemmas.List.{nil_from_length}
use Rattle.std.specs.Io.KnownBytes.{Appends}
use Rattle.babel_state.specs.declared.items.Item.{Item}
use Rattle.babel_state.specs.declared.items.Target.{Target}
use Rattle.babel_state.specs.NextDatagram.{Fits, Draft, drafted, next_datagram}
use Rattle.babel_state.specs.State.{State}
use Rattle.babel_speaker.specs.PendingItems.{DatagramsTakeItems}
use Rattle.babel_speaker.specs.Sending.{fits_by, draft_at}
use Rattle.babel_replay.specs.Report.{Sent, Sends, IsNext, AreNext, out_line, out_lines}
use Rattle.babel_replay.specs.Texts.{line, out_text}
use Rattle.babel_replay.proofs.Writing.{appends_none, appends_more}

next_more : (now : ℕ) (old mid : State) (xs : List Sent) (x : Sent) → AreNext now old xs mid → IsNext now mid x → AreNext now old (xs ++ x ∷ []) (draft_at now mid).state
next_more now old mid [] x same next = (subst (λ s. IsNext now s x) same next, ap (λ s. (draft_at now s).state) same)
next_more now old mid (y ∷ ys) x (first, rest) next = (first, next_more now (draft_at now old).state mid ys x rest next)

-- So many were sent, and their lines are written.
pub record SentSoFar (count time : ℕ) (old mid : State) (before after : Option (List ℕ)) : Type 0 where
  pub sent : List Sent
  pub each : AreNext time old sent mid
  pub written : Appends before after (out_lines time sent)
  pub so_many : length sent ≡ count

pub sending_begins : (time : ℕ) (s : State) (h : Option (List ℕ)) → SentSoFar 0 time s s h h
sending_begins time s h = record { sent = []; each = refl; written = appends_none h; so_many = refl }

pub sending_goes : (count time : ℕ) (old mid : State) (h h1 : Option (List ℕ)) (target : Target) (messages : ℕ) (new : State) (h2 : Option (List ℕ)) →
    SentSoFar count time old mid h h1 → Some target ≡ (draft_at time mid).target → messages ≡ length (draft_at time mid).messages →
    new ≡ (draft_at time mid).state → Appends h1 h2 (line (out_text time target messages)) → SentSoFar (count + 1) time old new h h2
sending_goes count time old mid h h1 target messages new h2 so goes counted state appends =
    let x : Sent = record { target = target; messages = messages } in
    let lines : out_lines time (so.sent ++ x ∷ []) ≡ out_lines time so.sent ++ out_line time x =
    flat_map-append (out_line time) so.sent (x ∷ []) ∙ ap (λ l. out_lines time so.sent ++ l) (append-nil (out_line time x)) in
    record {
      sent = so.sent ++ x ∷ [];
      each = subst (λ s. AreNext time old (so.sent ++ x ∷ []) s) (sym state) (next_more time old mid so.sent x so.each (record { target = goes; messages = counted }));
      written = subst (Appends h h2) (sym lines) (appends_more h h1 h2 (out_lines time so.sent) (out_line time x) so.written appends);
      so_many = length-append so.sent (x ∷ []) ∙ ap (λ n. n + 1) so.so_many;
    }

-- The datagrams so far and the items that are left are at most as many as the items at first.
pub fewer_left : DatagramsTakeItems → (count most time : ℕ) (mid : State) (target : Target) (new : State) →
    count + length mid.pending.items ≤ most → Some target ≡ (draft_at time mid).target → new ≡ (draft_at time mid).state →
    count + 1 + length new.pending.items ≤ most
fewer_left takes count most time mid target new few goes state =
    omega (arith, few, takes time (fits_by mid) mid target (sym goes), ap (λ s. length s.pending.items) state)

-- ---- nothing is pending

no_draft_of : (time : ℕ) (f : Fits) (s : State) (items : List Item) → s.pending.items ≡ items → items ≡ [] → next_datagram time f s ≡ record { state = s; target = None; messages = [] }
unfolding next_datagram
no_draft_of time f s items is none = ap (λ xs. drafted time f xs (record { state = s; target = None; messages = [] })) (is ∙ none)

pub sends_nothing : (time : ℕ) (s : State) (h : Option (List ℕ)) → length s.pending.items ≡ 0 → Sends time s s h h
sends_nothing time s h none =
    let draft = no_draft_of time (fits_by s) s s.pending.items refl (nil_from_length s.pending.items none) in
    record {
      sent = [];
      sends = record { last = s; each = refl; ends = (ap (λ (d : Draft). d.target) draft, sym (ap (λ (d : Draft). d.state) draft)) };
      written = appends_none h;
    }
