-- Why a value of a file cannot be read (profile): F2 for its form, F3 for its text.
-- Of several causes the first one counts, in the order of a list's items and of a table's keys as its definition lists them.
use Rattle.std.specs.Prelude.{◌≡◌, ◌≢◌, ◌⊎◌, ◌<◌, ℕ, List, ◌++◌, Option, Some, None, codes}
use Rattle.std.specs.Fmt.{decimal}
use Rattle.std.specs.declared.io.ErrorKind.{ErrorKind}
use Rattle.std.specs.declared.io.ErrorKind.TheVariants.{OutOfMemory}
use Rattle.toml.specs.Data.{Data, Items, get_item, as_str, as_array}
use Rattle.babel_toml.specs.declared.errors.FileFault.{FileFault}
use Rattle.babel_toml.specs.declared.errors.FileFault.TheVariants.{NotToml, Form, Text, Memory, Unreadable, Event}
use Rattle.babel_toml.specs.Values.{IsRequired}

-- Each fault but F4 has its cause.
abbrev pub IsCaused : (FileFault → Type 0) → FileFault → Type 0
IsCaused HasFault fault = fault ≢ Memory → HasFault fault

-- The value can be read.
abbrev pub IsRead : {A : Type 0} → (Data → A → Type 0) → Data → Type 0
IsRead {A} Means d = (a : A) × Means d a

-- F2: the value is of the wrong kind, or out of range.
abbrev pub HasFormFault : {A : Type 0} → (Data → A → Type 0) → Data → FileFault → Type 0
HasFormFault Means d fault = (fault ≡ Form) × (¬ (IsRead Means d))

-- F2: the value is no text. F3: the text spells nothing of the kind.
abbrev pub HasTextFault : {A : Type 0} → (List ℕ → A → Type 0) → Data → FileFault → Type 0
HasTextFault {A} Spells d fault =
    ((fault ≡ Form) × (as_str d ≡ None))
    ⊎ ((fault ≡ Text) × ((text : List ℕ) × (as_str d ≡ Some text) × ((a : A) → ¬ (Spells text a))))

-- The first item that cannot be read. Its fault may name its number, counted from 0.
abbrev pub HasItemFault : {A : Type 0} → (Data → A → Type 0) → (ℕ → Data → FileFault → Type 0) → Items → FileFault → Type 0
HasItemFault Means HasFault items fault =
    (n : ℕ) × (d : Data) × (get_item n items ≡ Some d) × HasFault n d fault
    × ((m : ℕ) (e : Data) → m < n → get_item m items ≡ Some e → IsRead Means e)

-- F2: the value is no list. Else the fault of an item.
abbrev pub HasListFault : {A : Type 0} → (Data → A → Type 0) → (ℕ → Data → FileFault → Type 0) → Data → FileFault → Type 0
HasListFault Means HasFault d fault =
    ((fault ≡ Form) × (as_array d ≡ None))
    ⊎ ((items : Items) × (as_array d ≡ Some items) × HasItemFault Means HasFault items fault)

-- The fault at a key that the table must have.
abbrev pub HasRequiredFault : (Data → FileFault → Type 0) → Option Data → FileFault → Type 0
HasRequiredFault HasFault None fault = fault ≡ Form
HasRequiredFault HasFault (Some d) fault = HasFault d fault

-- The fault at a key that the table may have.
abbrev pub HasGivenFault : (Data → FileFault → Type 0) → Option Data → FileFault → Type 0
HasGivenFault HasFault None fault = ⊥
HasGivenFault HasFault (Some d) fault = HasFault d fault

-- A key that the table may lack can be read.
abbrev pub IsGivenRead : {A : Type 0} → (Data → A → Type 0) → Option Data → Type 0
IsGivenRead Means None = Unit {0}
IsGivenRead Means (Some d) = IsRead Means d

-- The fault at a required key; or if that can be read, the fault of the later keys.
abbrev pub RequiredThen : {A : Type 0} → (Data → A → Type 0) → (Data → FileFault → Type 0) → Option Data → (FileFault → Type 0) → FileFault → Type 0
RequiredThen {A} Means HasFault key Later fault =
    HasRequiredFault HasFault key fault ⊎ (((a : A) × IsRequired Means key a) × Later fault)

-- The same for a key that the table may lack.
abbrev pub GivenThen : {A : Type 0} → (Data → A → Type 0) → (Data → FileFault → Type 0) → Option Data → (FileFault → Type 0) → FileFault → Type 0
GivenThen Means HasFault key Later fault = HasGivenFault HasFault key fault ⊎ (IsGivenRead Means key × Later fault)

-- The end of the keys.
abbrev pub NoFault : FileFault → Type 0
NoFault fault = ⊥

-- Why the octets of a file aren't read: F4 if an allocation failed, else F5.
abbrev pub reading_fault : ErrorKind → FileFault
reading_fault OutOfMemory = Memory
reading_fault kind = Unreadable

-- The code of a fault, as a command prints it. The number of the event is after F6.
abbrev pub fault_text : FileFault → List ℕ
fault_text NotToml = codes "F1"
fault_text Form = codes "F2"
fault_text Text = codes "F3"
fault_text Memory = codes "F4"
fault_text Unreadable = codes "F5"
fault_text (Event number) = codes "F6 " ++ decimal number
