-- What was printed last is its selected route still, or what is printed now is.
use Rattle.std.proofs.Common.{true, take, refl, sym, ap, subst}
use Rattle.std.specs.Io.KnownBytes.{Appends}
use Rattle.std.specs.Map.Iter.{deref_pair}
use Rattle.std.specs.Option.{option_map}
use Rattle.babel_replay.proofs.Seeing.{is_itself, set_same}
use Rattle.babel_replay.proofs.Unchanged.{no_line}
use Rattle.babel_replay.proofs.Writing.{appends_none}
use Rattle.babel_replay.proofs.replaying.Replayer.write_selection.Goals as goal

pub returns-in-Kept-clause-written : goal.returns-in-Kept-clause-written
returns-in-Kept-clause-written g c =
    let contents = g.W.Write.contents c.args.out.now in
    subst (Appends contents contents)
    (sym (no_line (take c.args.head c.args.self.now.drafts.line) c.args.self.now.speaker.state c.args.self.now.seen.entries c.args.index (option_map deref_pair c.get.result)
    c.in-Some.prefix.now c.in-Some.last.now c.get.ensures (ap (option_map deref_pair) c.in-Some.is) (c.in-Kept.ensures.kept refl)))
    (appends_none contents)

pub returns-in-Kept-clause-seen : goal.returns-in-Kept-clause-seen
returns-in-Kept-clause-seen g c =
    let last = c.in-Some.last.now in
    set_same c.args.self.now.speaker.state c.args.self.now.seen.entries _ c.args.index (option_map deref_pair c.get.result)
    c.in-Some.prefix.now last last true
    refl c.get.ensures (ap (option_map deref_pair) c.in-Some.is) (c.in-Kept.ensures.kept refl) (sym (is_itself last)) refl

pub returns-then-is_same-clause-seen : goal.returns-then-is_same-clause-seen
returns-then-is_same-clause-seen g c =
    set_same c.args.self.now.speaker.state c.args.self.now.seen.entries _ c.args.index (option_map deref_pair c.get.result)
    c.in-Some.prefix.now c.in-Some.last.now c.in-Now.choice c.is_same.result
    refl c.get.ensures (ap (option_map deref_pair) c.in-Some.is) (c.in-Now.ensures.now c.in-Now.choice refl) c.is_same.ensures c.if-is_same.true
