-- Hello intervals that are short enough (profile).
use Rattle.std.specs.Prelude.{Bool, List, nat_le}
use Rattle.std.specs.List.{list_all}
use Rattle.babel_state.specs.declared.interfaces.InterfaceEntry.{InterfaceEntry}
use Rattle.babel_state.specs.Limits.{longest_hello}

-- A Hello interval is short enough if four of them have 16 bits.
abbrev pub has_short_hello : InterfaceEntry → Bool
has_short_hello i = nat_le i.hello longest_hello

abbrev pub have_short_hellos : List InterfaceEntry → Bool
have_short_hellos = list_all has_short_hello
