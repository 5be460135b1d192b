-- A text with an event's word spells no event, if what follows the word cannot be read.
use Rattle.std.proofs.Common.{◌≡◌, true, codes, refl, rules}
use Rattle.std.proofs.lemmas.Slice.Eq.{bytes_eq-Decides}
use Rattle.std.specs.Str.{bytes_eq}
use Rattle.babel_text.specs.Fields.{after_blank}
use Rattle.babel_config.proofs.EventTexts.{no_tick, no_emit, no_deliver, no_cost, no_announce, no_withdraw, no_restart, no_request, no_lose}
use Rattle.babel_config.proofs.events.parse_event.Goals as goal

pub returns-in_err-node : goal.returns-in_err-node
returns-in_err-node c =
    let same : bytes_eq c.args.word.now (codes "tick") ≡ true = search rules in
    let word = (bytes_eq-Decides c.args.word.now (codes "tick")).0 same in
    rw c.from_residual.ensures
    (no_tick c.args.text.now c.args.word.now c.args.fields.now c.requires.word c.requires.fields word c.in_err-node.ensures)

pub returns-in_err-node-2 : goal.returns-in_err-node-2
returns-in_err-node-2 c =
    let same : bytes_eq c.args.word.now (codes "emit") ≡ true = search rules in
    let word = (bytes_eq-Decides c.args.word.now (codes "emit")).0 same in
    rw c.from_residual-in_err-node-2.ensures
    (no_emit c.args.text.now c.args.word.now c.args.fields.now c.requires.word c.requires.fields word c.in_err-node-2.ensures)

pub returns-in_err-datagram : goal.returns-in_err-datagram
returns-in_err-datagram c =
    let same : bytes_eq c.args.word.now (codes "deliver") ≡ true = search rules in
    let word = (bytes_eq-Decides c.args.word.now (codes "deliver")).0 same in
    rw c.from_residual-in_err-datagram.ensures
    (no_deliver c.args.text.now c.args.word.now c.args.fields.now c.requires.word c.requires.fields word c.in_err-datagram.ensures)

pub returns-in_err-node-3 : goal.returns-in_err-node-3
returns-in_err-node-3 c =
    let same : bytes_eq c.args.word.now (codes "cost") ≡ true = search rules in
    let word = (bytes_eq-Decides c.args.word.now (codes "cost")).0 same in
    rw c.from_residual-in_err-node-3.ensures
    (no_cost c.args.text.now c.args.word.now c.args.fields.now c.requires.word c.requires.fields word c.in_err-node-3.ensures)

pub returns-in_err-node-5 : goal.returns-in_err-node-5
returns-in_err-node-5 c =
    let same : bytes_eq c.args.word.now (codes "announce") ≡ true = search rules in
    let word = (bytes_eq-Decides c.args.word.now (codes "announce")).0 same in
    rw c.from_residual-in_err-node-5.ensures
    (no_announce c.args.text.now c.args.word.now (after_blank c.args.text.now) c.requires.word refl word (λ pair spelled. c.in_err-node-5.ensures pair (c.requires.blank, spelled)))

pub returns-in_err-node-6 : goal.returns-in_err-node-6
returns-in_err-node-6 c =
    let same : bytes_eq c.args.word.now (codes "withdraw") ≡ true = search rules in
    let word = (bytes_eq-Decides c.args.word.now (codes "withdraw")).0 same in
    rw c.from_residual-in_err-node-6.ensures
    (no_withdraw c.args.text.now c.args.word.now (after_blank c.args.text.now) c.requires.word refl word (λ pair spelled. c.in_err-node-6.ensures pair (c.requires.blank, spelled)))

pub returns-in_err-node-7 : goal.returns-in_err-node-7
returns-in_err-node-7 c =
    let same : bytes_eq c.args.word.now (codes "restart") ≡ true = search rules in
    let word = (bytes_eq-Decides c.args.word.now (codes "restart")).0 same in
    rw c.from_residual-in_err-node-7.ensures
    (no_restart c.args.text.now c.args.word.now c.args.fields.now c.requires.word c.requires.fields word c.in_err-node-7.ensures)

pub returns-in_err-node-8 : goal.returns-in_err-node-8
returns-in_err-node-8 c =
    let same : bytes_eq c.args.word.now (codes "request") ≡ true = search rules in
    let word = (bytes_eq-Decides c.args.word.now (codes "request")).0 same in
    rw c.from_residual-in_err-node-8.ensures
    (no_request c.args.text.now c.args.word.now c.args.fields.now c.requires.word c.requires.fields word c.in_err-node-8.ensures)

pub returns-in_err-node-9 : goal.returns-in_err-node-9
returns-in_err-node-9 c =
    let same : bytes_eq c.args.word.now (codes "lose") ≡ true = search rules in
    let word = (bytes_eq-Decides c.args.word.now (codes "lose")).0 same in
    rw c.from_residual-in_err-node-9.ensures
    (no_lose c.args.text.now c.args.word.now c.args.fields.now c.requires.word c.requires.fields word c.in_err-node-9.ensures)
