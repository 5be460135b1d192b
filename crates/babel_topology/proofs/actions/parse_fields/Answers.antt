-- What follows the verb.
use Rattle.std.proofs.Common.{refl}
use Rattle.babel_text.specs.Prefixes.{IsPrefixText}
use Rattle.babel_topology.specs.declared.verbs.Verb.TheVariants as verbs
use Rattle.babel_topology.specs.declared.topology.Action.TheVariants as actions
use Rattle.babel_topology.specs.Words.{IsPair}
use Rattle.babel_topology.specs.Names.{IsLinkText, IsNodeText}
use Rattle.babel_topology.proofs.Texts.{no_field, has_fields, no_fields}
use Rattle.babel_topology.proofs.actions.parse_fields.Goals as goal

pub returns-in_err-link-in-Cut : goal.returns-in_err-link-in-Cut
returns-in_err-link-in-Cut c = no_fields c.args.nodes.now c.args.links.now c.args.verb verbs.Cut c.args.text.now _ c.in-Cut.is (cc)
    (no_field (IsLinkText c.args.nodes.now c.args.links.now c.args.text.now) (λ link. actions.Cut link) c.in_err-link-in-Cut.ensures)

pub returns-in_err-link-in-Join : goal.returns-in_err-link-in-Join
returns-in_err-link-in-Join c = no_fields c.args.nodes.now c.args.links.now c.args.verb verbs.Join c.args.text.now _ c.in-Join.is (cc)
    (no_field (IsLinkText c.args.nodes.now c.args.links.now c.args.text.now) (λ link. actions.Join link) c.in_err-link-in-Join.ensures)

pub returns-in_err-node-in-Announce : goal.returns-in_err-node-in-Announce
returns-in_err-node-in-Announce c = no_fields c.args.nodes.now c.args.links.now c.args.verb verbs.Announce c.args.text.now _ c.in-Announce.is (cc)
    (no_field (IsPair (IsNodeText c.args.nodes.now) IsPrefixText c.args.text.now) (λ read. actions.Announce read.0 read.1) c.in_err-node-in-Announce.ensures)

pub returns-in_ok-node-in-Announce : goal.returns-in_ok-node-in-Announce
returns-in_ok-node-in-Announce c = has_fields c.args.nodes.now c.args.links.now c.args.verb verbs.Announce c.args.text.now _ c.in-Announce.is
    ((c.in_ok-node-in-Announce.node, c.in_ok-node-in-Announce.prefix), c.in_ok-node-in-Announce.ensures, refl)

pub returns-in_err-node-in-Withdraw : goal.returns-in_err-node-in-Withdraw
returns-in_err-node-in-Withdraw c = no_fields c.args.nodes.now c.args.links.now c.args.verb verbs.Withdraw c.args.text.now _ c.in-Withdraw.is (cc)
    (no_field (IsPair (IsNodeText c.args.nodes.now) IsPrefixText c.args.text.now) (λ read. actions.Withdraw read.0 read.1) c.in_err-node-in-Withdraw.ensures)

pub returns-in_ok-node-in-Withdraw : goal.returns-in_ok-node-in-Withdraw
returns-in_ok-node-in-Withdraw c = has_fields c.args.nodes.now c.args.links.now c.args.verb verbs.Withdraw c.args.text.now _ c.in-Withdraw.is
    ((c.in_ok-node-in-Withdraw.node, c.in_ok-node-in-Withdraw.prefix), c.in_ok-node-in-Withdraw.ensures, refl)

pub returns-in_ok-link-in-Cost : goal.returns-in_ok-link-in-Cost
returns-in_ok-link-in-Cost c = has_fields c.args.nodes.now c.args.links.now c.args.verb verbs.Cost c.args.text.now _ c.in-Cost.is
    ((c.in_ok-link-in-Cost.link, c.in_ok-link-in-Cost.cost), c.in_ok-link-in-Cost.ensures, refl)

pub returns-in_ok-link-in-Lossy : goal.returns-in_ok-link-in-Lossy
returns-in_ok-link-in-Lossy c = has_fields c.args.nodes.now c.args.links.now c.args.verb verbs.Lossy c.args.text.now _ c.in-Lossy.is
    ((c.in_ok-link-in-Lossy.link, c.in_ok-link-in-Lossy.loss), c.in_ok-link-in-Lossy.ensures, refl)
