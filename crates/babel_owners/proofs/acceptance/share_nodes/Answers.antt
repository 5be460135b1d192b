-- What `any` returns, as the lists share.
use Rattle.std.proofs.Common.{◌∙◌, rules, tests}
use Rattle.std.proofs.lemmas.Iterator.{YieldsList-from_slice}
use Rattle.std.proofs.lemmas.Iterator.Search.{any_from_yields_List}
use Rattle.babel_state.specs.declared.configs.Interface.{Interface}
use Rattle.babel_machine.specs.Owners.{interface_addresses, addresses_of}
use Rattle.babel_owners.specs.Shared.{share}
use Rattle.babel_owners.proofs.SharedAddresses.{each_share}
use Rattle.babel_owners.proofs.acceptance.share_nodes.Goals as goal

pub returns : goal.returns
returns c =
    any_from_yields_List (λ (one : Interface). share (interface_addresses one) (addresses_of c.args.other.now)) _ _ _ c.any.ensures.ran (YieldsList-from_slice c.args.config.now.interfaces.items cc) (λ x b q k. search (rules, tests))
    ∙ each_share interface_addresses (addresses_of c.args.other.now) c.args.config.now.interfaces.items
