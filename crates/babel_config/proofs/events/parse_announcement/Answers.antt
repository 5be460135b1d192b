-- What follows the word.
use Rattle.babel_text.specs.Prefixes.{IsPrefixText}
use Rattle.babel_config.specs.Events.{IsPair, IsLong}
use Rattle.babel_config.proofs.EventTexts.{after_word}
use Rattle.babel_config.proofs.events.parse_announcement.Goals as goal

pub returns : goal.returns
returns c = after_word (IsPair IsLong IsPrefixText) c.args.text.now c.in_ok-_word.fields.now c.in_ok-_word.ensures.parted c.in_ok-_word.ensures.rest c.parse_node_and_prefix.result c.parse_node_and_prefix.ensures
