-- The configuration that a table of a file is, key by key with the defaults, and why a table is none (profile).
use Rattle.std.specs.Prelude.{◌≡◌, true, false, [], codes}
use Rattle.toml.specs.Data.{Data, get}
use Rattle.babel_value.specs.Texts.{IsAddrText}
use Rattle.babel_text.specs.Prefixes.{IsPrefixText}
use Rattle.babel_text.specs.RouterIds.{IsRouterIdText}
use Rattle.babel_state.specs.declared.configs.Config.{Config}
use Rattle.babel_state.specs.declared.configs.Interface.{Interface}
use Rattle.babel_toml.specs.declared.errors.FileFault.{FileFault}
use Rattle.babel_config.specs.declared.keys.TableKind.TheVariants as kinds
use Rattle.babel_config.specs.Keys.{is_table_of, HasTableFault}
use Rattle.babel_toml.specs.Values.{IsText, IsRequired, IsOptional, IsGivenOr, IsList}
use Rattle.babel_toml.specs.Faults.{HasFormFault, HasTextFault, HasListFault, RequiredThen, GivenThen, NoFault}
use Rattle.babel_config.specs.Scalars.{IsNumber, IsFlag, IsTransport, IsIpv4NetworkText, IsIpv6AddrText}

-- The table of an interface. Its cost is 96 if it names none, and its Hello interval 400 centiseconds.
pub record IsInterface (d : Data) (i : Interface) : Type 0 where
  pub keys : is_table_of kinds.Interface d ≡ true
  pub transport : IsRequired IsTransport (get (codes "transport") d) i.transport
  pub ipv4 : IsOptional (IsText IsIpv4NetworkText) (get (codes "ipv4") d) i.ipv4
  pub ipv6 : IsOptional (IsText IsIpv6AddrText) (get (codes "ipv6") d) i.ipv6
  pub peers : IsGivenOr (IsList (IsText IsAddrText)) [] (get (codes "peers") d) i.peers.items
  pub cost : IsGivenOr IsNumber 96 (get (codes "cost") d) i.cost
  pub hello : IsGivenOr IsNumber 400 (get (codes "hello") d) i.hello

-- The table of a configuration.
pub record IsConfig (d : Data) (c : Config) : Type 0 where
  pub keys : is_table_of kinds.Config d ≡ true
  pub router_id : IsRequired (IsText IsRouterIdText) (get (codes "router-id") d) c.router_id
  pub seqno : IsGivenOr IsNumber 0 (get (codes "seqno") d) c.seqno
  pub collect : IsGivenOr IsFlag false (get (codes "collect") d) c.collect
  pub prefixes : IsGivenOr (IsList (IsText IsPrefixText)) [] (get (codes "prefixes") d) c.prefixes.items
  pub interfaces : IsGivenOr (IsList IsInterface) [] (get (codes "interface") d) c.interfaces.items

-- Why the table of an interface cannot be read: the first cause, in the order of its keys.
abbrev pub HasInterfaceKeyFault : Data → FileFault → Type 0
HasInterfaceKeyFault d =
    RequiredThen IsTransport (HasFormFault IsTransport) (get (codes "transport") d)
    (GivenThen (IsText IsIpv4NetworkText) (HasTextFault IsIpv4NetworkText) (get (codes "ipv4") d)
    (GivenThen (IsText IsIpv6AddrText) (HasTextFault IsIpv6AddrText) (get (codes "ipv6") d)
    (GivenThen (IsList (IsText IsAddrText)) (HasListFault (IsText IsAddrText) (λ _. HasTextFault IsAddrText)) (get (codes "peers") d)
    (GivenThen IsNumber (HasFormFault IsNumber) (get (codes "cost") d)
    (GivenThen IsNumber (HasFormFault IsNumber) (get (codes "hello") d) NoFault)))))

abbrev pub HasInterfaceFault : Data → FileFault → Type 0
HasInterfaceFault = HasTableFault kinds.Interface HasInterfaceKeyFault

-- Why the table of a configuration cannot be read, likewise.
abbrev pub HasConfigKeyFault : Data → FileFault → Type 0
HasConfigKeyFault d =
    RequiredThen (IsText IsRouterIdText) (HasTextFault IsRouterIdText) (get (codes "router-id") d)
    (GivenThen IsNumber (HasFormFault IsNumber) (get (codes "seqno") d)
    (GivenThen IsFlag (HasFormFault IsFlag) (get (codes "collect") d)
    (GivenThen (IsList (IsText IsPrefixText)) (HasListFault (IsText IsPrefixText) (λ _. HasTextFault IsPrefixText)) (get (codes "prefixes") d)
    (GivenThen (IsList IsInterface) (HasListFault IsInterface (λ _. HasInterfaceFault)) (get (codes "interface") d) NoFault))))

abbrev pub HasConfigFault : Data → FileFault → Type 0
HasConfigFault = HasTableFault kinds.Config HasConfigKeyFault
