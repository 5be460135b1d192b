-- The lines of a log (profile): `<time> in <iface> <source> <hex>`, `<time> tick` or `<time> cost <iface> <n>`. One blank separates two fields.
use Rattle.std.specs.Prelude.{◌≡◌, ◌==◌, ◌||◌, ◌⊎◌, ℕ, Bool, true, List, length, slice_index, Some, None, codes, nat_eq, IsUtf8}
use Rattle.std.specs.Cmp.Lexicographic.{pointwise}
use Rattle.babel_value.specs.declared.addresses.Addr.{Addr}
use Rattle.babel_value.specs.Texts.{IsAddrText}
use Rattle.babel_text.specs.Numbers.{IsNumberText}
use Rattle.babel_text.specs.Octets.{hex_octets}
use Rattle.babel_text.specs.Fields.{HasBlank, before_blank, after_blank}
use Rattle.babel_text.specs.declared.errors.LineFault.{LineFault}
use Rattle.babel_text.specs.declared.errors.LineFault.TheVariants as faults
use Rattle.babel_text.specs.declared.log_lines.Action.{Action}
use Rattle.babel_text.specs.declared.log_lines.Action.TheVariants as actions

-- Empty lines are skipped, and lines that begin with `#`.
abbrev pub is_skipped_line : List ℕ → Bool
is_skipped_line line = length line == 0 || slice_index line 0 == 35

-- ---- the fields of a line

abbrev pub IsWord : List ℕ → List ℕ → Type 0
IsWord text word = pointwise nat_eq text word ≡ true

-- ---- what a line means

-- Two fields; and three.
abbrev pub HasTwoFields : List ℕ → Type 0
HasTwoFields fields = HasBlank fields × (¬ (HasBlank (after_blank fields)))

abbrev pub HasThreeFields : List ℕ → Type 0
HasThreeFields fields = HasBlank fields × HasTwoFields (after_blank fields)

-- The fields of a datagram: the interface, the source address and the octets.
abbrev pub IsReceived : ℕ → List ℕ → List ℕ → List ℕ → Action → Type 0
IsReceived room iface source hex (actions.Receive number addr octets) =
    IsNumberText 16 iface number × IsAddrText source addr × (hex_octets room hex ≡ Some octets.now)
IsReceived room iface source hex action = ⊥

-- `<iface> <source> <hex>`
abbrev pub IsReceiveText : ℕ → List ℕ → Action → Type 0
IsReceiveText room fields action =
    HasThreeFields fields
    × IsReceived room (before_blank fields) (before_blank (after_blank fields)) (after_blank (after_blank fields)) action

-- `<iface> <n>`
abbrev pub IsCostText : List ℕ → Action → Type 0
IsCostText fields (actions.SetCost iface cost) = HasTwoFields fields × IsNumberText 16 (before_blank fields) iface × IsNumberText 16 (after_blank fields) cost
IsCostText fields action = ⊥

-- What follows the time. There is room for so many octets of a datagram.
abbrev pub IsActionText : ℕ → List ℕ → Action → Type 0
IsActionText room rest (actions.Receive iface source octets) =
    HasBlank rest × IsWord (before_blank rest) (codes "in") × IsReceiveText room (after_blank rest) (actions.Receive iface source octets)
IsActionText room rest actions.Tick = IsWord rest (codes "tick")
IsActionText room rest (actions.SetCost iface cost) =
    HasBlank rest × IsWord (before_blank rest) (codes "cost") × IsCostText (after_blank rest) (actions.SetCost iface cost)

-- A line of what happens at the time, in centiseconds.
abbrev pub IsLine : ℕ → List ℕ → ℕ → Action → Type 0
IsLine room line time action = IsUtf8 line × HasBlank line × IsNumberText 64 (before_blank line) time × IsActionText room (after_blank line) action

-- ---- why a line means nothing

-- The fault is this one if the fact doesn't hold, and a later one if it holds.
abbrev pub Unless : Type 0 → LineFault → (LineFault → Type 0) → LineFault → Type 0
Unless Holds fault later found = ((¬ Holds) × (found ≡ fault)) ⊎ (Holds × later found)

abbrev pub IsNumber : ℕ → List ℕ → Type 0
IsNumber bits text = (number : ℕ) × IsNumberText bits text number

abbrev pub IsAddress : List ℕ → Type 0
IsAddress text = (addr : Addr) × IsAddrText text addr

-- The first cause: the form first, and then the fields from the left.
abbrev pub IsTickFault : List ℕ → LineFault → Type 0
IsTickFault time found = (¬ (IsNumber 64 time)) × (found ≡ faults.Number)

abbrev pub IsHexFault : ℕ → List ℕ → LineFault → Type 0
IsHexFault room text found = (hex_octets room text ≡ None) × (found ≡ faults.Hex)

-- The fault of the first field that can't be read, from the left.
abbrev pub IsFieldFault : ℕ → List ℕ → List ℕ → List ℕ → List ℕ → LineFault → Type 0
IsFieldFault room time iface source hex =
    Unless (IsNumber 64 time) faults.Number
    (Unless (IsNumber 16 iface) faults.Number
    (Unless (IsAddress source) faults.Address (IsHexFault room hex)))

abbrev pub IsReceiveFault : ℕ → List ℕ → List ℕ → LineFault → Type 0
IsReceiveFault room time fields =
    Unless (HasThreeFields fields) faults.Form
    (IsFieldFault room time (before_blank fields) (before_blank (after_blank fields)) (after_blank (after_blank fields)))

abbrev pub IsCostFault : List ℕ → List ℕ → LineFault → Type 0
IsCostFault time fields =
    Unless (HasTwoFields fields) faults.Form
    (Unless (IsNumber 64 time) faults.Number
    (Unless (IsNumber 16 (before_blank fields)) faults.Number (λ found. (¬ (IsNumber 16 (after_blank fields))) × (found ≡ faults.Number))))

abbrev pub IsWordFault : ℕ → List ℕ → List ℕ → List ℕ → LineFault → Type 0
IsWordFault room time word fields found =
    (IsWord word (codes "in") × IsReceiveFault room time fields found)
    ⊎ ((IsWord word (codes "cost") × IsCostFault time fields found)
    ⊎ ((¬ (IsWord word (codes "in"))) × (¬ (IsWord word (codes "cost"))) × (found ≡ faults.Form)))

abbrev pub IsActionFault : ℕ → List ℕ → List ℕ → LineFault → Type 0
IsActionFault room time rest found =
    (IsWord rest (codes "tick") × IsTickFault time found)
    ⊎ ((¬ (IsWord rest (codes "tick"))) × Unless (HasBlank rest) faults.Form (IsWordFault room time (before_blank rest) (after_blank rest)) found)

abbrev pub IsLineFault : ℕ → List ℕ → LineFault → Type 0
IsLineFault room line =
    Unless (IsUtf8 line) faults.Form (Unless (HasBlank line) faults.Form (IsActionFault room (before_blank line) (after_blank line)))
