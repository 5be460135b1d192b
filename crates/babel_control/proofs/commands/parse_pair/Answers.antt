-- What isn't a prefix isn't read as one.
use Rattle.std.proofs.Common.{ℕ, List, [], ◌∷◌, true≢false, length, get_or, codes, sym, ap, subst, arith}
use Rattle.babel_value.specs.Prefixes.{PrefixValue}
use Rattle.babel_text.specs.Prefixes.{IsPrefixText}
use Rattle.babel_control.specs.Commands.{Spell, IsReading}
use Rattle.babel_control.specs.declared.commands.Command.{Command}
use Rattle.babel_control.specs.declared.commands.Command.TheVariants as commands
use Rattle.babel_control.specs.declared.commands.Logging.TheVariants.{On, Off}
use Rattle.babel_control.proofs.commands.parse_pair.Goals as goal

module _ (argument : List ℕ) (none : (prefix : PrefixValue) → ¬ (IsPrefixText argument prefix)) where
  no_why : (command : Command) → ¬ (Spell (codes "why" ∷ argument ∷ []) command)
  no_why commands.Nothing h = true≢false (sym h)
  no_why commands.Dump h = omega (arith, ap length h)
  no_why commands.Monitor h = omega (arith, ap length h)
  no_why commands.Unmonitor h = omega (arith, ap length h)
  no_why commands.Quit h = omega (arith, ap length h)
  no_why commands.Expiries h = omega (arith, ap length h)
  no_why commands.Counts h = omega (arith, ap length h)
  no_why commands.Keep h = omega (arith, ap length h)
  no_why commands.Stop h = omega (arith, ap length h)
  no_why (commands.Log On) h = omega (arith, ap (λ w. get_or (get_or w 0 []) 0 0) h)
  no_why (commands.Log Off) h = omega (arith, ap (λ w. get_or (get_or w 0 []) 0 0) h)
  no_why (commands.Why prefix) (text, is, reads) = none prefix (subst (λ t. IsPrefixText t prefix) (sym (ap (λ w. get_or w 1 []) is)) reads)

pub returns-in_err-parse_prefix-in-why : goal.returns-in_err-parse_prefix-in-why
returns-in_err-parse_prefix-in-why c = λ plain.
    subst (λ r. IsReading (c.args.word.now ∷ c.args.argument.now ∷ []) r) (sym c.from_residual.ensures)
    (subst (λ w. (command : Command) → ¬ (Spell (w ∷ c.args.argument.now ∷ []) command)) (sym c.in-why.is)
    (no_why c.args.argument.now c.in_err-parse_prefix-in-why.ensures))
