-- The line of the next prefix.
use Rattle.std.proofs.Common.{◌++◌, ap, ◌∙◌}
use Rattle.std.specs.String.{string_bytes}
use Rattle.babel_control.specs.Lines.{xroute_line}
use Rattle.babel_control.specs.declared.lines.Event.TheVariants.{Add}
use Rattle.babel_control.proofs.Appending.{one_more}
use Rattle.babel_control.proofs.changes.write_xroutes.Goals as goal

pub loop-prefix-preserved : goal.loop-prefix-preserved
loop-prefix-preserved c =
    one_more (xroute_line Add) c.args.prefixes.now c.loop-prefix.prefix-index c.prefix-item.result
    (string_bytes c.args.out.now) (string_bytes c.loop-prefix.out) (string_bytes c.push_xroute.new.out) c.loop-prefix-test.true c.loop-prefix.invariant
    (c.in_ok-push_xroute.ensures ∙ ap (λ prefix. string_bytes c.loop-prefix.out ++ xroute_line Add prefix) c.prefix-item.is)
