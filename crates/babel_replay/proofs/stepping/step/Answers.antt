-- As long as the count is the same, and below its greatest value, so are the routes.
use Rattle.std.proofs.Common.{◌∙◌}
use Rattle.babel_replay.proofs.stepping.step.Goals as goal

pub returns-clause-kept : goal.returns-clause-kept
returns-clause-kept c same =
    c.make_step.ensures.counted.routes (c.may_differ-changed.ensures.same same ∙ c.routes_version-version.ensures) (c.may_differ-changed.ensures.below same)
