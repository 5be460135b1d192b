-- The datagram is the header and the body.
use Rattle.std.proofs.Common.{◌≡◌, drop, ap, sym, ◌∙◌, subst}
use Rattle.babel_packet.specs.BodyMeanings.{Means, datagram}
use Rattle.babel_build.specs.Built.{Built}
use Rattle.babel_build.proofs.builders.Builder.finish.Goals as goal

pub returns-clause-means : goal.returns-clause-means
returns-clause-means c = λ decoded means_all.
    let body : drop 4 c.self.inside.octets.items ≡ c.args.self.body = ap (λ (b : Built). b.body) c.self.view_is in
    subst (λ bytes. Means bytes c.args.self.source decoded) (sym (c.set_length.ensures ∙ ap datagram body))
    (c.one_more_message.ensures.datagram c.args.self.source c.args.self.body decoded means_all)
