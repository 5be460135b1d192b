-- What a client is replied (profile).
use Rattle.std.specs.Prelude.{◌≡◌, ℕ, List, [], ◌++◌, length, codes}
use Rattle.std.specs.Fmt.{decimal}
use Rattle.babel_control.specs.Changes.{ChangesValue, dump_lines}
use Rattle.babel_control.specs.declared.clients.Access.{Access}
use Rattle.babel_control.specs.declared.clients.Access.TheVariants.{All, Reading}
use Rattle.babel_control.specs.declared.commands.Command.{Command}
use Rattle.babel_control.specs.declared.commands.Command.TheVariants as commands
use Rattle.babel_control.specs.declared.commands.Logging.{Logging}
use Rattle.babel_control.specs.declared.commands.Logging.TheVariants.{On, Off}
use Rattle.babel_control.specs.declared.views.Keeping.{Keeping}
use Rattle.babel_control.specs.declared.views.Keeping.TheVariants.{Kept, Failed, Never}
use Rattle.babel_control.specs.declared.views.LogSource.{LogSource}
use Rattle.babel_control.specs.declared.views.LogSource.TheVariants.{Speaker, Nothing}
use Rattle.babel_control.specs.declared.views.TurnCounts.{TurnCounts}
use Rattle.babel_control.specs.declared.views.View.{View}
use Rattle.babel_control.specs.Lines.{line_end}

-- Whether the snapshot of now is on the disk.
abbrev pub keeping_reply : Keeping → List ℕ
keeping_reply Kept = codes "ok" ++ line_end
keeping_reply Failed = codes "no the snapshot can't be kept" ++ line_end
keeping_reply Never = codes "no the speaker runs without --keep" ++ line_end

-- A log that there isn't can't be sent.
abbrev pub logging_reply : Logging → LogSource → List ℕ
logging_reply On Nothing = codes "no this speaker has no log" ++ line_end
logging_reply On Speaker = codes "ok" ++ line_end
logging_reply Off log = codes "ok" ++ line_end

-- What was counted, and how many neighbours and routes there are.
abbrev pub counts_reply : TurnCounts → ℕ → ℕ → List ℕ
counts_reply counts neighbours routes =
    codes "counts turns " ++ (decimal counts.turns ++ (codes " received " ++
    (decimal counts.received ++ (codes " sent " ++ (decimal counts.sent ++
    (codes " refused " ++ (decimal counts.refused ++ (codes " faults " ++
    (decimal counts.faults ++ (codes " neighbours " ++ (decimal neighbours ++
    (codes " routes " ++ (decimal routes ++ (line_end ++ (codes "ok" ++ line_end)))))))))))))))

-- Done.
abbrev pub ok_line : List ℕ
ok_line = codes "ok" ++ line_end

-- A client that may only read is refused `stop`.
abbrev pub stop_reply : Access → List ℕ
stop_reply All = ok_line
stop_reply Reading = codes "no only a client of a socket's file may stop the speaker" ++ line_end

-- What a client with this access is replied, by what was written of the speaker last. Before the
-- last line of `why` and of `expiries` are lines of which this says nothing.
abbrev pub IsReply : {T : Type 0} → Access → Command → View T → ChangesValue → List ℕ → Type 0
IsReply access commands.Nothing view changes text = text ≡ ok_line
IsReply access commands.Dump view changes text = text ≡ dump_lines view.devices.now changes ++ ok_line
IsReply access commands.Monitor view changes text = text ≡ dump_lines view.devices.now changes ++ ok_line
IsReply access commands.Unmonitor view changes text = text ≡ ok_line
IsReply access commands.Quit view changes text = text ≡ []
IsReply access (commands.Why prefix) view changes text = (lines : List ℕ) × (text ≡ lines ++ ok_line)
IsReply access (commands.Log logging) view changes text = text ≡ logging_reply logging view.log
IsReply access commands.Expiries view changes text = (lines : List ℕ) × (text ≡ lines ++ ok_line)
IsReply access commands.Counts view changes text = text ≡ counts_reply view.counts (length changes.neighbours) (length changes.routes)
IsReply access commands.Keep view changes text = text ≡ keeping_reply view.keeping
IsReply access commands.Stop view changes text = text ≡ stop_reply access
