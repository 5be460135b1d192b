-- The prefix of the network, of which the text spells only one.
use Rattle.babel_text.proofs.Networks.{network_prefix}
use Rattle.babel_text.proofs.prefixes.parse_prefix.Goals as goal

pub returns : goal.returns
returns c = network_prefix c.args.text.now (c.in_ok-addr.addr, c.in_ok-addr.length) c.in_ok-addr.ensures c.new.result c.new.ensures
