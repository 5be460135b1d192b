-- One more neighbour is written after those that stay, or added to those that are gone.
use Rattle.std.proofs.Common.{◌≡◌, ◌<◌, All, Some, None, length, get_or, set, take, refl, sym, ap, subst, ◌∙◌, arith, inl, inr}
use Rattle.std.proofs.lemmas.List.{take-set, take_all}
use Rattle.std.proofs.lemmas.List.Elements.{All-more}
use Rattle.babel_value.specs.declared.keys.Peer.{Peer}
use Rattle.babel_link.specs.declared.links.Link.{Link}
use Rattle.babel_link.specs.Links.{ticked_link}
use Rattle.babel_link.specs.Neighbours.{cost_changes_of}
use Rattle.babel_link.proofs.TickLemmas.{stays_more, goes_same, stays_same, goes_more, rest_more, read_old, read_moved, written_moved, stays_all, goes_all}
use Rattle.babel_link.proofs.CostLemmas.{Keeps, KeepsOther, all_seen, costs_kept, keeps_other, all_keep_other, changed_stays, other_costs_kept}
use Rattle.babel_link.proofs.DueLemmas.{quiet_earlier, are_quiet_earlier, quiet_kept}
use Rattle.babel_link.proofs.ExactLemmas.{exact_stays, exact_goes}
use Rattle.babel_link.proofs.neighbours.tick_links.Goals as goal
use Rattle.babel_link.proofs.neighbours.tick_links.Goals.{in-Some, in-None}

pub loop-place-preserved : goal.loop-place-preserved
loop-place-preserved c =
    let now = c.args.now in
    let es = c.loop-place.links.items in
    let old = c.args.links.now.items in
    let place = c.loop-place.place in
    let kept = c.loop-place.kept in
    let e = c.index_mut.result.now in
    let link = c.tick_cost.new.self in
    let before = c.loop-place.invariant in
    let ok = c.loop-place.links.ok.0 in
    let old_ok = c.args.links.now.ok.0 in
    let within : place < length es = omega arith in
    let within_kept : kept < length es = omega arith in
    let within_old : place < length old = omega arith in
    let moved = c.move_down.new.links.items in
    let down = c.move_down.ensures.items in
    let read : e ≡ get_or es place e = read_moved es moved place kept within_kept down e c.index_mut.ensures.value in
    let written : set moved kept (e.0, link) ≡ set es kept (e.0, link) = written_moved es moved place kept within_kept down e c.index_mut.ensures.value link in
    let read_it : e ≡ get_or old place e = read_old now es place e within read old before.rest in
    elim c.match-tick_cost.branch [
      | in-Some w ↦
          let stays : ticked_link now e.1 ≡ Some link = w.in-Some.ensures.stays refl in
          let more = λ (P : Peer × Link → Type 0) (all : All P (take place old)) (here : P e). All-more P old place e (omega arith) all (subst P read_it here) in
          record {
            stays = rw (w.links-is, w.kept-is, written) (stays_more now es place e within read kept before.late link _ stays before.stays);
            goes = rw (w.links-is, w.gone-is, written) (goes_same now es place e within read kept before.late link _ _ stays before.goes);
            rest = rw (w.links-is, written) (rest_more now es place e within read kept before.late link old before.rest);
            nothing = λ is.
                let both = w.add.ensures.nothing (sym w.changes-is ∙ is) in
                more (Keeps now) (before.nothing both.0) (record { after = link; stays = stays; same = w.in-Some.ensures.kept (ap Some both.1) });
            one = λ peer is. elim (w.add.ensures.one peer (sym w.changes-is ∙ is)) [
              | inl both ↦ more (KeepsOther now peer) (before.one peer both.0) (keeps_other now peer e (record { after = link; stays = stays; same = w.in-Some.ensures.kept (ap Some both.1) }))
              | inr both ↦ more (KeepsOther now peer) (all_keep_other now peer _ (before.nothing both.0)) (changed_stays now peer e link both.1 stays)
            ];
            none = λ known. rw w.gone-is (before.none (w.add.ensures.known (λ is. known (w.changes-is ∙ is))));
            exact = w.changes-is ∙ exact_stays now old place e within_old read_it link w.in-Some.cost c.loop-place.changes w.add.new.self stays
                (λ same. w.in-Some.ensures.kept (ap Some same) 0) (λ other. w.in-Some.ensures.changed (ap Some other)) w.add.ensures.kept w.add.ensures.first w.add.ensures.more before.exact;
            late = omega arith;
            same_len = rw w.links-is (omega arith);
            few = rw w.gone-is (omega arith);
            capacity = rw w.links-is (omega arith);
            quiet = rw (w.links-is, w.kept-is, w.due-is, written) (quiet_kept w.min-due.result es kept e.0 link within_kept (quiet_earlier w.due.result w.min-due.result link (omega arith) w.due.ensures) (are_quiet_earlier c.loop-place.due w.min-due.result (take kept es) (omega arith) before.quiet));
          }
      | in-None w ↦
          let goes : ticked_link now e.1 ≡ None = w.in-None.ensures.flushed refl in
          record {
            stays = rw (w.links-is, w.kept-is, written) (stays_same now es place e within read kept before.late link _ goes before.stays);
            goes = rw (w.links-is, w.gone-is, w.push.ensures.items, written) (goes_more now es place e within read kept before.late link _ _ goes before.goes);
            rest = rw (w.links-is, written) (rest_more now es place e within read kept before.late link old before.rest);
            nothing = λ is. cc;
            one = λ peer is. cc;
            none = λ known. absurd (known w.changes-is);
            exact = w.changes-is ∙ sym (exact_goes now old place e within_old read_it goes);
            late = omega arith;
            same_len = rw w.links-is (omega arith);
            few = rw w.gone-is (omega arith);
            capacity = rw w.links-is (omega arith);
            quiet = rw (w.links-is, w.kept-is, w.due-is, written, take-set es kept (e.0, link)) before.quiet;
          }
    ]

pub returns-clause-links : goal.returns-clause-links
returns-clause-links c =
    let ok = c.loop-place.links.ok.0 in
    c.truncate.ensures.items ∙ stays_all c.args.now c.loop-place.links.items c.loop-place.place (omega arith) _ _ c.loop-place.invariant.stays

pub returns-clause-gone : goal.returns-clause-gone
returns-clause-gone c =
    let ok = c.loop-place.links.ok.0 in
    goes_all c.args.now c.loop-place.links.items c.loop-place.place (omega arith) _ _ c.loop-place.invariant.goes

pub returns-clause-costs : goal.returns-clause-costs
returns-clause-costs c nothing =
    let ok = c.loop-place.links.ok.0 in
    let old_ok = c.args.links.now.ok.0 in
    let old = c.args.links.now.items in
    rw (returns-clause-links c) (costs_kept c.args.now old (all_seen (Keeps c.args.now) c.loop-place.place old (omega arith) (c.loop-place.invariant.nothing nothing)))

pub returns-clause-others : goal.returns-clause-others
returns-clause-others c peer one =
    let ok = c.loop-place.links.ok.0 in
    let old_ok = c.args.links.now.ok.0 in
    let old = c.args.links.now.items in
    rw (returns-clause-links c) (other_costs_kept c.args.now peer old (all_seen (KeepsOther c.args.now peer) c.loop-place.place old (omega arith) (c.loop-place.invariant.one peer one)))

pub returns-clause-exact : goal.returns-clause-exact
returns-clause-exact c =
    let ok = c.loop-place.links.ok.0 in
    let old_ok = c.args.links.now.ok.0 in
    let old = c.args.links.now.items in
    c.loop-place.invariant.exact ∙ ap (cost_changes_of c.args.now) (take_all c.loop-place.place old (omega arith))
