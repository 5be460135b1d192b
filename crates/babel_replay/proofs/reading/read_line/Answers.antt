use Rattle.std.proofs.Common.{◌≡◌, ◌∷◌, [], length, vec_len, nat_eq, not, sym, ap, subst, ◌∙◌, rules}
use Rattle.std.specs.Io.KnownBytes.{Consumes, IsAtEnd}
use Rattle.babel_replay.specs.Reading.{AppendsPart, ReadsLine}
use Rattle.babel_replay.proofs.LineReading.{ReadsLine-last, ReadsLine-end, IsTooLong-first}
use Rattle.babel_replay.proofs.reading.read_line.Goals as goal

pub returns-in_err-read_part-clause-too_long : goal.returns-in_err-read_part-clause-too_long
returns-in_err-read_part-clause-too_long g c e =
    IsTooLong-first _ _ _ c.loop.invariant.3 c.loop.invariant.2 (c.read_part.ensures.too_long (search rules))

pub returns-in-Last-clause-line : goal.returns-in-Last-clause-line
returns-in-Last-clause-line g c =
    let part : AppendsPart (g.R.Read.remaining c.loop.log) (g.R.Read.remaining c.read_part.new.log) c.loop.line.items c.read_part.new.line.items (10 ∷ []) = search rules in
    ReadsLine-last _ _ _ _ _ c.loop.invariant.3 c.loop.invariant.2 part

pub returns-in-AtEnd-clause-line : goal.returns-in-AtEnd-clause-line
returns-in-AtEnd-clause-line g c =
    let before = c.loop.line.items in
    let after = c.read_part.new.line.items in
    let left = g.R.Read.remaining c.read_part.new.log in
    let part : (after ≡ before) × Consumes (g.R.Read.remaining c.loop.log) left [] × IsAtEnd (g.R.Read.remaining c.loop.log) = search rules in
    let same : vec_len c.read_part.new.line ≡ length after = search rules in
    let is = c.is_empty.ensures ∙ ap (λ n. nat_eq n 0) (same ∙ ap length part.0) in
    subst (λ l. ReadsLine (g.R.Read.remaining c.args.log.now) left (not c.is_empty.result) l) (sym part.0)
    (ReadsLine-end _ _ _ before c.is_empty.result is c.loop.invariant.3 c.loop.invariant.2 part.1 part.2)
