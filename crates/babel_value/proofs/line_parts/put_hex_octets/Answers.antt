-- Two digits more are written, and at the end all are.
use Rattle.std.proofs.Common.{◌∙◌, ◌/◌, ◌%◌, List, ℕ, ap, arith, ◌++◌, take, slice_index}
use Rattle.std.proofs.lemmas.List.{length-set}
use Rattle.hex.proofs.Pairs.{encode_done, encode_step}
use Rattle.hex.specs.Hex.{lower_digits}
use Rattle.babel_value.proofs.Digits.{glyph_is_lower}
use Rattle.babel_value.proofs.line_parts.put_hex_octets.Goals as goal

pub loop-index-preserved : goal.loop-index-preserved
loop-index-preserved c =
    let octet : ℕ = slice_index c.args.octets.now c.loop-index.index in
    let small = c.fits-octets c.loop-index.index in (
      encode_step lower_digits c.args.octets.now c.loop-index.digits c.loop-index.index _ _ (omega arith) (omega arith)
          (c.computed_hex_digit.ensures ∙ glyph_is_lower (octet / 16) (omega arith)) (c.computed_hex_digit-in-loop-index.ensures ∙ glyph_is_lower (octet % 16) (omega arith))
          c.loop-index.invariant.0,
      length-set _ _ _ ∙ length-set _ _ _ ∙ c.loop-index.invariant.1,
    )

pub returns-clause-text : goal.returns-clause-text
returns-clause-text c =
    c.put_octets.ensures.text
    ∙ ap (λ (t : List ℕ). take c.args.len c.args.line.now ++ t)
    (encode_done lower_digits c.args.octets.now c.loop-index.digits c.loop-index.index (omega arith) (omega arith) c.loop-index.invariant.0)
