-- Each key, with its default.
use Rattle.std.proofs.Common.{inl, inr, [], false}
use Rattle.toml.specs.View.{view}
use Rattle.babel_text.specs.Prefixes.{IsPrefixText}
use Rattle.babel_config.specs.Configs.{HasConfigFault}
use Rattle.babel_config.specs.Scalars.{IsNumber, IsFlag}
use Rattle.babel_toml.specs.Values.{IsText, IsList}
use Rattle.babel_config.proofs.Faults.{given_or_read, err_caused}
use Rattle.babel_config.proofs.configs.ConfigTableKind.read.Goals as goal

pub returns-clause-ok : goal.returns-clause-ok
returns-clause-ok c = record {
  keys = cc;
  router_id = c.in_ok-router_id.ensures.ok;
  seqno = c.in_ok-seqno.ensures.ok;
  collect = c.in_ok-collect.ensures.ok;
  prefixes = c.in_ok-prefixes.ensures.ok;
  interfaces = c.in_ok-interfaces.ensures.ok;
}

pub returns-in_err-interfaces-clause-refused : goal.returns-in_err-interfaces-clause-refused
returns-in_err-interfaces-clause-refused c =
    err_caused _ (HasConfigFault (view c.args.value.now)) c.in_err-interfaces.field-0.0 c.from_residual-in_err-interfaces.ensures.1 (λ other. inr (
      cc,
      inr (
        (_, c.in_ok-router_id.ensures.ok),
        inr (
          given_or_read IsNumber 0 _ c.in_ok-seqno.seqno c.in_ok-seqno.ensures.ok,
          inr (
            given_or_read IsFlag false _ c.in_ok-collect.collect c.in_ok-collect.ensures.ok,
            inr (
              given_or_read (IsList (IsText IsPrefixText)) [] _ c.in_ok-prefixes.prefixes.items c.in_ok-prefixes.ensures.ok,
              inl (c.in_err-interfaces.ensures.refused other),
            ),
          ),
        ),
      ),
    ))
