-- The items so far mean the values so far.
use Rattle.std.proofs.Common.{take}
use Rattle.toml.specs.View.{items_view}
use Rattle.babel_toml.specs.Values.{IsItems}
use Rattle.babel_config.proofs.lists.read_list.Given as goal

abbrev pub invariant-loop-item : goal.invariant-loop-item
invariant-loop-item g l = IsItems g.K.Kind.means (items_view (take l.item-index l.item-items)) l.list.items
