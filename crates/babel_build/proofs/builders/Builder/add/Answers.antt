-- The octets are the header and the body, and the state is what a reader has after the body.
use Rattle.std.proofs.Common.{◌≡◌, ◌++◌, ◌+◌, ◌≤◌, length, drop, take, ap, sym, ◌∙◌, arith, length-append, length-drop}
use Rattle.std.proofs.lemmas.List.{drop-append-le, take-append-le, length-take}
use Rattle.std.proofs.lemmas.Bool.{le-leb, leb-true}
use Rattle.babel_packet.specs.Compressed.{compressed, state_with}
use Rattle.babel_build.specs.Built.{Built}
use Rattle.babel_build.proofs.builders.Builder.add.Goals as goal

pub returns-then-not-fits-clause-alone : goal.returns-then-not-fits-clause-alone
returns-then-not-fits-clause-alone c = λ none.
    let octets = c.self.inside.octets.items in
    let body : drop 4 octets ≡ c.args.self.now.body = ap (λ (b : Built). b.body) c.self.view_is in
    let bare : length (drop 4 octets) ≡ 0 = ap length (body ∙ none) in
    c.put_message-fits.ensures.fits ∙ le-leb _ _ (omega (
      arith,
      length-drop 4 octets,
      bare,
      c.compressed_is_read.ensures.short c.self.inside.state c.args.message.now c.fields_are_whole.ensures,
    ))

pub invariant_of-self-else-not-fits : goal.invariant_of-self-else-not-fits
invariant_of-self-else-not-fits c =
    let octets = c.self.inside.octets.items in
    let source = c.self.inside.source in
    let message = c.args.message.now in
    let begun = c.self.invariant.0 in
    let before = c.self.invariant.1 in
    let more = compressed c.self.inside.state message in
    let long : 4 ≤ length octets = omega (arith, length-take 4 octets, ap length begun.header) in
    let all : c.put_message-fits.new.datagram.items ≡ octets ++ more = c.if-not-fits.ensures.appended in
    let grown : drop 4 c.put_message-fits.new.datagram.items ≡ drop 4 octets ++ more = ap (λ xs. drop 4 xs) all ∙ drop-append-le 4 octets more long in
    let law = c.compressed_is_read.ensures.state source (drop 4 octets) message before.whole c.fields_are_whole.ensures in (
      record {
        header = ap (λ xs. take 4 xs) all ∙ take-append-le 4 octets more long ∙ begun.header;
        short = omega (arith, ap length all, length-append octets more, leb-true (length octets + length more) 1024 (sym c.if-not-fits.ensures.fits));
      },
      record {
        whole = rw (grown, before.kept) law.0;
        kept = rw (grown, before.kept) (c.if-not-fits.ensures.state ∙ ap (λ s. state_with s message) before.kept ∙ sym law.1);
      },
    )

pub returns-else-not-fits-clause-decoded : goal.returns-else-not-fits-clause-decoded
returns-else-not-fits-clause-decoded c = λ decoded means fits encodable.
    let octets = c.self.inside.octets.items in
    let source = c.self.inside.source in
    let message = c.args.message.now in
    let before = c.self.invariant.1 in
    let more = compressed c.self.inside.state message in
    let long : 4 ≤ length octets = omega (arith, length-take 4 octets, ap length c.self.invariant.0.header) in
    let grown : drop 4 c.put_message-fits.new.datagram.items ≡ drop 4 octets ++ more =
    ap (λ xs. drop 4 xs) c.if-not-fits.ensures.appended ∙ drop-append-le 4 octets more long in
    let body : drop 4 octets ≡ c.args.self.now.body = ap (λ (b : Built). b.body) c.self.view_is in
    let from : source ≡ c.args.self.now.source = ap (λ (b : Built). b.source) c.self.view_is in
    rw (grown, before.kept, from, body) (c.compressed_is_read.ensures.message c.args.self.now.source c.args.self.now.body decoded message means c.fields_are_whole.ensures encodable)
