-- What is decoded is what the octets mean.
use Rattle.std.specs.Prelude.{Result, Ok, IfOk, IfErr, List}
use Rattle.std.proofs.Common.{sym, subst}
use Rattle.babel_value.specs.declared.addresses.Addr.{Addr}
use Rattle.babel_message.specs.declared.errors.Refusal.{Refusal}
use Rattle.babel_message.specs.declared.placements.Placed.{Placed}
use Rattle.babel_state.specs.Messages.{Receives, IsRecvFault}
use Rattle.babel_replay.proofs.stepping.receive_decoded.Goals as goal

pub returns-clause-ok : goal.returns-clause-ok
returns-clause-ok c =
    let old = c.args.speaker.now.state in
    let new = c.receive_decoded.new.self.state in
    let P : Addr → Result (List Placed) Refusal → Type 0 = λ a read.
    IfOk c.receive_decoded.result (λ notes. Receives (record { now = c.args.time; peer = record { iface = c.args.peer.iface; addr = a }; read = read }) old new notes.items) in
    subst (λ read. P c.args.peer.addr read) (sym c.requires.decoded) (subst (λ (a : Addr). P a (Ok c.args.decoded.now.placed)) c.requires.source c.receive_decoded.ensures.ok)

pub returns-clause-refused : goal.returns-clause-refused
returns-clause-refused c =
    let old = c.args.speaker.now.state in
    let P : Addr → Result (List Placed) Refusal → Type 0 = λ a read. IfErr c.receive_decoded.result (IsRecvFault (record { now = c.args.time; peer = record { iface = c.args.peer.iface; addr = a }; read = read }) old) in
    subst (λ read. P c.args.peer.addr read) (sym c.requires.decoded) (subst (λ (a : Addr). P a (Ok c.args.decoded.now.placed)) c.requires.source c.receive_decoded.ensures.refused)
