-- The finite updates of the places of a datagram, one place after the other.
use Rattle.std.proofs.Common.{◌≡◌, ◌<◌, ◌+◌, List, [], ◌∷◌, ◌++◌}
use Rattle.std.proofs.lemmas.List.{append-nil}
use Rattle.std.proofs.lemmas.List.Elements.{All-nil, All-cons, All-append}
use Rattle.babel_message.specs.declared.placements.Content.TheVariants as contents
use Rattle.babel_state.specs.Seen.{UpdateValue}
use Rattle.babel_mixed.specs.Updates.{HaveWords}

pub words_more : (us : List UpdateValue) (u : UpdateValue) → u.distance.seqno < 65536 → HaveWords us → HaveWords (us ++ u ∷ [])
words_more us u word words =
    All-append (λ (v : UpdateValue). v.distance.seqno < 65536) us (u ∷ []) words
    (All-cons (λ (v : UpdateValue). v.distance.seqno < 65536) u [] word (All-nil (λ (v : UpdateValue). v.distance.seqno < 65536)))

pub none_more : (us : List UpdateValue) → us ++ [] ≡ us
none_more us = append-nil us
