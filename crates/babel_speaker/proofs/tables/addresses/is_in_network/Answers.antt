-- The first three octets are the same, and no bit of the last one counts.
use Rattle.std.proofs.Common.{◌≡◌, ◌≤◌, length, rules}
use Rattle.babel_speaker.proofs.Networks.{share_three}
use Rattle.babel_speaker.proofs.tables.addresses.is_in_network.Goals as goal

pub returns-then-share_three : goal.returns-then-share_three
returns-then-share_three c =
    let octets = c.args.octets.now in
    let own = c.args.network.now.0 in
    let bits = c.args.network.now.1 in
    let four : length octets ≡ 4 = search rules in
    let four_own : length own ≡ 4 = search rules in
    let few : bits ≤ 24 = search rules in
    let same = c.if-share_three.true in
    share_three bits octets own four four_own few c.share_three.ensures.octets.0 c.share_three.ensures.octets.1
    (c.share_three.ensures.first same) (c.share_three.ensures.second same) (c.share_three.ensures.third same)
