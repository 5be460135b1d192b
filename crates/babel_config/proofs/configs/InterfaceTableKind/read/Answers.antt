-- Each key, with its default.
use Rattle.std.proofs.Common.{inl, inr, []}
use Rattle.toml.specs.View.{view}
use Rattle.babel_value.specs.Texts.{IsAddrText}
use Rattle.babel_config.specs.Configs.{HasInterfaceFault}
use Rattle.babel_config.specs.Scalars.{IsNumber, IsIpv4NetworkText, IsIpv6AddrText}
use Rattle.babel_toml.specs.Values.{IsText, IsList}
use Rattle.babel_config.proofs.Faults.{given_read, given_or_read, err_caused}
use Rattle.babel_config.proofs.configs.InterfaceTableKind.read.Goals as goal

pub returns-clause-ok : goal.returns-clause-ok
returns-clause-ok c = record {
  keys = cc;
  transport = c.in_ok-transport.ensures.ok;
  ipv4 = c.in_ok-ipv4.ensures.ok;
  ipv6 = c.in_ok-ipv6.ensures.ok;
  peers = c.in_ok-peers.ensures.ok;
  cost = c.in_ok-cost.ensures.ok;
  hello = c.in_ok-hello.ensures.ok;
}

pub returns-in_err-ipv6-clause-refused : goal.returns-in_err-ipv6-clause-refused
returns-in_err-ipv6-clause-refused c =
    err_caused _ (HasInterfaceFault (view c.args.value.now)) c.in_err-ipv6.field-0.0 c.from_residual-in_err-ipv6.ensures.1 (λ other. inr (
      cc,
      inr (
        (_, c.in_ok-transport.ensures.ok),
        inr (
          given_read (IsText IsIpv4NetworkText) _ c.in_ok-ipv4.ipv4 c.in_ok-ipv4.ensures.ok,
          inl (c.in_err-ipv6.ensures.refused other),
        ),
      ),
    ))

pub returns-in_err-peers-clause-refused : goal.returns-in_err-peers-clause-refused
returns-in_err-peers-clause-refused c =
    err_caused _ (HasInterfaceFault (view c.args.value.now)) c.in_err-peers.field-0.0 c.from_residual-in_err-peers.ensures.1 (λ other. inr (
      cc,
      inr (
        (_, c.in_ok-transport.ensures.ok),
        inr (
          given_read (IsText IsIpv4NetworkText) _ c.in_ok-ipv4.ipv4 c.in_ok-ipv4.ensures.ok,
          inr (
            given_read (IsText IsIpv6AddrText) _ c.in_ok-ipv6.ipv6 c.in_ok-ipv6.ensures.ok,
            inl (c.in_err-peers.ensures.refused other),
          ),
        ),
      ),
    ))

pub returns-in_err-cost-clause-refused : goal.returns-in_err-cost-clause-refused
returns-in_err-cost-clause-refused c =
    err_caused _ (HasInterfaceFault (view c.args.value.now)) c.in_err-cost.field-0.0 c.from_residual-in_err-cost.ensures.1 (λ other. inr (
      cc,
      inr (
        (_, c.in_ok-transport.ensures.ok),
        inr (
          given_read (IsText IsIpv4NetworkText) _ c.in_ok-ipv4.ipv4 c.in_ok-ipv4.ensures.ok,
          inr (
            given_read (IsText IsIpv6AddrText) _ c.in_ok-ipv6.ipv6 c.in_ok-ipv6.ensures.ok,
            inr (
              given_or_read (IsList (IsText IsAddrText)) [] _ c.in_ok-peers.peers.items c.in_ok-peers.ensures.ok,
              inl (c.in_err-cost.ensures.refused other),
            ),
          ),
        ),
      ),
    ))

pub returns-in_err-hello-clause-refused : goal.returns-in_err-hello-clause-refused
returns-in_err-hello-clause-refused c =
    err_caused _ (HasInterfaceFault (view c.args.value.now)) c.in_err-hello.field-0.0 c.from_residual-in_err-hello.ensures.1 (λ other. inr (
      cc,
      inr (
        (_, c.in_ok-transport.ensures.ok),
        inr (
          given_read (IsText IsIpv4NetworkText) _ c.in_ok-ipv4.ipv4 c.in_ok-ipv4.ensures.ok,
          inr (
            given_read (IsText IsIpv6AddrText) _ c.in_ok-ipv6.ipv6 c.in_ok-ipv6.ensures.ok,
            inr (
              given_or_read (IsList (IsText IsAddrText)) [] _ c.in_ok-peers.peers.items c.in_ok-peers.ensures.ok,
              inr (
                given_or_read IsNumber 96 _ c.in_ok-cost.cost c.in_ok-cost.ensures.ok,
                inl (c.in_err-hello.ensures.refused other),
              ),
            ),
          ),
        ),
      ),
    ))
