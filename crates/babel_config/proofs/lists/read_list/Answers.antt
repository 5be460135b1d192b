-- One more item.
use Rattle.std.proofs.Common.{inr, rules}
use Rattle.toml.specs.View.{view, items_view}
use Rattle.babel_toml.specs.Faults.{HasListFault}
use Rattle.babel_config.proofs.Reading.{items_grow}
use Rattle.babel_config.proofs.Faults.{item_fault, err_caused}
use Rattle.babel_config.proofs.lists.read_list.Goals as goal

pub loop-item-preserved : goal.loop-item-preserved
loop-item-preserved g c =
    items_grow g.K.Kind.means c.deref-item-items.result.now c.loop-item.item-index c.item-item.result c.loop-item.list.items c.push.new.self.items
    c.in_ok-read.field-0 c.loop-item-test.true c.item-item.is c.in_ok-push.ensures.items c.loop-item.invariant c.in_ok-read.ensures.ok

pub returns-in_err-read-clause-refused : goal.returns-in_err-read-clause-refused
returns-in_err-read-clause-refused g c =
    err_caused _ (HasListFault g.K.Kind.means (λ _. g.K.Kind.fault) (view c.args.value.now)) c.in_err-read.field-0.0 c.from_residual.ensures.1 (λ other. inr (
      items_view c.deref-item-items.result.now,
      first_of (cc, search rules),
      item_fault g.K.Kind.means (λ _. g.K.Kind.fault) c.deref-item-items.result.now c.loop-item.item-index c.item-item.result c.loop-item.list.items _
          c.loop-item-test.true c.item-item.is c.loop-item.invariant (c.in_err-read.ensures.refused other),
    ))
