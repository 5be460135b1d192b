-- What `any` returns, as the lists share.
use Rattle.std.proofs.Common.{◌∙◌, rules, tests}
use Rattle.std.proofs.lemmas.Iterator.{YieldsList-from_slice}
use Rattle.std.proofs.lemmas.Iterator.Search.{any_from_yields_List}
use Rattle.babel_state.specs.declared.configs.Config.{Config}
use Rattle.babel_machine.specs.Owners.{addresses_of}
use Rattle.babel_owners.specs.Shared.{share}
use Rattle.babel_owners.proofs.SharedAddresses.{share_each}
use Rattle.babel_owners.proofs.acceptance.is_node_shared.Goals as goal

pub returns : goal.returns
returns c =
    any_from_yields_List (λ (other : Config). share (addresses_of c.args.config.now) (addresses_of other)) _ _ _ c.any.ensures.ran (YieldsList-from_slice c.args.others.now cc) (λ x b q k. search (rules, tests))
    ∙ share_each addresses_of (addresses_of c.args.config.now) c.args.others.now
