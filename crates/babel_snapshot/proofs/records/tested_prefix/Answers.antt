-- The address with the length is the prefix.
use Rattle.std.proofs.Common.{Some, sym, ap, ◌∙◌}
use Rattle.babel_snapshot.proofs.TestedRecords.{prefix_is_whole}
use Rattle.babel_snapshot.proofs.records.tested_prefix.Goals as goal

pub returns : goal.returns
returns c =
    prefix_is_whole c.args.octets.now c.tested_addr-addr.result c.tested_addr-addr.ensures c.requires.prefix ∙ ap Some (sym c.new_unchecked.ensures)
