-- A client of the control socket (profile).
use Rattle.std.specs.Prelude.{ℕ, List}
use Rattle.babel_control.specs.declared.clients.Access.{Access}
use Rattle.babel_control.specs.declared.clients.Monitoring.{Monitoring}
use Rattle.babel_control.specs.declared.clients.Stage.{Stage}
use Rattle.babel_control.specs.declared.commands.Logging.{Logging}

-- What it may ask for, the octets of the line that it has sent so far, those that wait for it, what
-- it is sent, and what becomes of the connection.
pub record ClientValue : Type 0 where
  pub access : Access
  pub line : List ℕ
  pub waiting : List ℕ
  pub monitoring : Monitoring
  pub logging : Logging
  pub stage : Stage
