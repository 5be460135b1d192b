use Rattle.babel_state.proofs.Meanings.{nothing_skipped, none_if_nothing, item_encodable}
use Rattle.babel_state.proofs.EncodableDatagrams.{datagrams_encodable}
use Rattle.babel_state.proofs.MessageInterfaces.{item_has}
use Rattle.babel_state.proofs.laws.items_mean_messages.Goals as goal

pub returns-clause-skipped : goal.returns-clause-skipped
returns-clause-skipped c = nothing_skipped

pub returns-clause-none : goal.returns-clause-none
returns-clause-none c = none_if_nothing

pub returns-clause-encodable : goal.returns-clause-encodable
returns-clause-encodable c = item_encodable

pub returns-clause-datagrams : goal.returns-clause-datagrams
returns-clause-datagrams c = datagrams_encodable

pub returns-clause-interfaces : goal.returns-clause-interfaces
returns-clause-interfaces c = item_has
