-- The line of the next device.
use Rattle.std.proofs.Common.{[], None}
use Rattle.std.specs.String.{string_bytes}
use Rattle.babel_control.specs.Lines.{interface_line}
use Rattle.babel_control.specs.declared.lines.Event.TheVariants.{Add}
use Rattle.babel_control.proofs.Appending.{one_more}
use Rattle.babel_control.proofs.changes.write_interfaces.Goals as goal

pub loop-device-preserved : goal.loop-device-preserved
loop-device-preserved c =
    one_more (interface_line Add) c.args.devices.now c.loop-device.device-index (record { name = record { ref_ptr = (0, 0); now = [] }; addresses = None })
    (string_bytes c.args.out.now) (string_bytes c.loop-device.out) (string_bytes c.push_interface.new.out) c.loop-device-test.true c.loop-device.invariant c.in_ok-push_interface.ensures
