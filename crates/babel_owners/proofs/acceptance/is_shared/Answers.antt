-- What `any` returns, as the lists share.
use Rattle.std.proofs.Common.{◌∙◌, rules, tests}
use Rattle.std.proofs.lemmas.Iterator.{YieldsList-from_slice}
use Rattle.std.proofs.lemmas.Iterator.Search.{any_from_yields_List}
use Rattle.babel_state.specs.declared.configs.Interface.{Interface}
use Rattle.babel_machine.specs.Owners.{interface_addresses}
use Rattle.babel_owners.specs.Shared.{share}
use Rattle.babel_owners.proofs.SharedAddresses.{share_each}
use Rattle.babel_owners.proofs.acceptance.is_shared.Goals as goal

pub returns : goal.returns
returns c =
    any_from_yields_List (λ (other : Interface). share (interface_addresses c.args.interface.now) (interface_addresses other)) _ _ _ c.any.ensures.ran (YieldsList-from_slice c.args.others.now cc) (λ x b q k. search (rules, tests))
    ∙ share_each interface_addresses (interface_addresses c.args.interface.now) c.args.others.now
