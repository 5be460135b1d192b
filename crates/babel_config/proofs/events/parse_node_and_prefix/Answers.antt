-- The two fields.
use Rattle.babel_text.specs.Prefixes.{IsPrefixText}
use Rattle.babel_config.specs.Events.{IsLong}
use Rattle.babel_config.proofs.EventTexts.{pair, no_pair}
use Rattle.babel_config.proofs.events.parse_node_and_prefix.Goals as goal

pub returns-in_err-parse_prefix : goal.returns-in_err-parse_prefix
returns-in_err-parse_prefix c = rw c.from_residual-in_err-parse_prefix.ensures
    (no_pair IsLong IsPrefixText c.args.text.now c.in_ok-node.node.now c.in_ok-node.prefix.now c.in_ok-node.ensures.rest c.in_err-parse_prefix.ensures)

pub returns : goal.returns
returns c = pair IsLong IsPrefixText c.args.text.now c.in_ok-node.node.now c.in_ok-node.prefix.now _ _
    c.in_ok-node.ensures.parted c.in_ok-node.ensures.word c.in_ok-node.ensures.rest c.in_ok-parse_usize.ensures c.in_ok-parse_prefix.ensures
