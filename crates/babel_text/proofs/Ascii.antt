-- A line that is read is UTF-8, since all its fields are ASCII.
use Rattle.std.proofs.Common.{◌≡◌, ◌<◌, ◌^◌, ◌/◌, ◌==◌, ◌||◌, ◌++◌, ℕ, Bool, true, false, cond, List, [], ◌∷◌, length, codes, nat_eq, nat_lt, Some, None, IsUtf8, refl, sym, subst, inl, inr, arith, eqb-true}
use Rattle.std.specs.List.{AllPass}
use Rattle.std.specs.Cmp.Lexicographic.{pointwise}
use Rattle.std.specs.Str.{IsAscii}
use Rattle.std.specs.Str.Parse.{AllDigits}
use Rattle.std.specs.Char.{digit_value}
use Rattle.std.specs.Fmt.{decimal}
use Rattle.std.specs.Net.Grammar.{IsDotted, IsGroupsAfter, IsElided, IsColonHex}
use Rattle.std.specs.Net.Addr.{ipv4_octets, ipv6_segments}
use Rattle.std.proofs.lemmas.Option.{none-some}
use Rattle.std.proofs.lemmas.Fmt.{IsAscii-decimal}
use Rattle.std.proofs.lemmas.List.Elements.{All-head, All-tail}
use Rattle.std.proofs.lemmas.List.Sums.{split_at_first, passes_at_first}
use Rattle.std.proofs.lemmas.Slice.Eq.{bytes_eq-Decides}
use Rattle.std.proofs.lemmas.Str.{IsUtf8-from_ascii, IsAscii-append}
use Rattle.std.proofs.lemmas.Str.Ascii.{IsAscii-nil, IsAscii-cons}
use Rattle.hex.specs.Hex.{decode_sized, is_hex_digit}
use Rattle.hex.proofs.HexLemmas.{IsOk-decode_sized}
use Rattle.babel_value.specs.declared.addresses.Addr.{Addr}
use Rattle.babel_value.specs.declared.addresses.Addr.TheVariants.{V4, V6}
use Rattle.babel_value.specs.Texts.{IsAddrText}
use Rattle.babel_text.specs.declared.log_lines.Action.{Action}
use Rattle.babel_text.specs.declared.log_lines.Action.TheVariants.{Receive, Tick, SetCost}
use Rattle.babel_text.specs.Numbers.{IsNumberText}
use Rattle.babel_text.specs.Octets.{hex_octets, octets_or_none}
use Rattle.babel_text.specs.LogLines.{IsWord, IsActionText}
use Rattle.babel_text.specs.Fields.{HasBlank, before_blank, after_blank}
use Rattle.babel_text.proofs.Blanks.{was_ok}

-- ---- numbers and words

number_is_ascii : (bits : ℕ) (text : List ℕ) (n : ℕ) → n < 2 ^ 64 → text ≡ decimal n → IsAscii text
number_is_ascii bits text n small is = subst IsAscii (sym is) (IsAscii-decimal n small)

word_is_ascii : (text word : List ℕ) → IsWord text word → IsAscii word → IsAscii text
word_is_ascii text word is small = subst IsAscii (sym ((bytes_eq-Decides text word).0 is)) small

-- ---- octets

hex_digit_is_ascii : (c : ℕ) → is_hex_digit c ≡ true → c < 128
hex_digit_is_ascii c digit = grind arith

hex_is_ascii : (text : List ℕ) → AllPass is_hex_digit text → IsAscii text
hex_is_ascii [] digits = IsAscii-nil
hex_is_ascii (c ∷ cs) digits =
    IsAscii-cons c cs (hex_digit_is_ascii c (All-head (λ o. is_hex_digit o ≡ true) c cs digits)) (hex_is_ascii cs (All-tail (λ o. is_hex_digit o ≡ true) c cs digits))

octets_are_ascii : (room : ℕ) (text octets : List ℕ) → hex_octets room text ≡ Some octets → IsAscii text
octets_are_ascii room text octets = by (pointwise nat_eq text (codes "-")) refl (length text / 2 == 0 || nat_lt room (length text / 2))
  where
    by : (dash : Bool) → pointwise nat_eq text (codes "-") ≡ dash → (refused : Bool) → cond dash (Some []) (cond refused None (octets_or_none (decode_sized text (length text / 2)))) ≡ Some octets → IsAscii text
    by true dash refused is = word_is_ascii text (codes "-") dash (IsAscii-cons 45 [] (omega arith) IsAscii-nil)
    by false dash true is = absurd (none-some octets is)
    by false dash false is = hex_is_ascii text (((IsOk-decode_sized text (length text / 2)).0 (was_ok (decode_sized text (length text / 2)) octets is)).1)

-- ---- addresses

point : IsAscii (codes ".")
point = IsAscii-cons 46 [] (omega arith) IsAscii-nil

colon : IsAscii (codes ":")
colon = IsAscii-cons 58 [] (omega arith) IsAscii-nil

dotted_is_ascii : (text octets : List ℕ) → IsDotted text octets → IsAscii text
dotted_is_ascii text octets d =
    let (a, b, c, e) = d.fit in
    let decimal_of : (n : ℕ) → n < 256 → IsAscii (decimal n) = λ n small. IsAscii-decimal n (omega (arith, small)) in
    let with_point : (front : List ℕ) (n : ℕ) → n < 256 → IsAscii front → IsAscii (front ++ codes "." ++ decimal n) =
    λ front n small ascii. IsAscii-append (front ++ codes ".") (decimal n) (IsAscii-append front (codes ".") ascii point) (decimal_of n small) in
    subst IsAscii (sym d.spelled) (with_point _ d.d e (with_point _ d.c c (with_point (decimal d.a) d.b b (decimal_of d.a a))))

digit_is_ascii : (c : ℕ) → digit_value c < 16 → c < 128
digit_is_ascii c small = grind arith

digits_are_ascii : (ds : List ℕ) → AllDigits 16 ds → IsAscii ds
digits_are_ascii [] d = IsAscii-nil
digits_are_ascii (c ∷ cs) d = IsAscii-cons c cs (digit_is_ascii c d.0) (digits_are_ascii cs d.1)

groups_are_ascii : (ipv4 : Bool) (lead text segments : List ℕ) → IsAscii lead → IsGroupsAfter ipv4 lead text segments → IsAscii text
groups_are_ascii ipv4 lead text [] small is = subst IsAscii (sym is) IsAscii-nil
groups_are_ascii ipv4 lead text (s ∷ segments) small (inl (group, rest, is, digits, more)) =
    subst IsAscii (sym is)
    (IsAscii-append (lead ++ group) rest (IsAscii-append lead group small (digits_are_ascii group digits.0.0.1)) (groups_are_ascii ipv4 (codes ":") rest segments colon more))
groups_are_ascii ipv4 lead text (s ∷ segments) small (inr (last, octets, is_ipv4, is, dotted, value)) =
    subst IsAscii (sym is) (IsAscii-append lead last small (dotted_is_ascii last octets dotted))

elided_is_ascii : (text segments : List ℕ) → IsElided text segments → IsAscii text
elided_is_ascii text segments e =
    let head = IsAscii-append e.head_text (codes "::") (groups_are_ascii false [] e.head_text e.head IsAscii-nil e.head_groups) (IsAscii-append (codes ":") (codes ":") colon colon) in
    subst IsAscii (sym e.spelled) (IsAscii-append (e.head_text ++ codes "::") e.tail_text head (groups_are_ascii true [] e.tail_text e.tail IsAscii-nil e.tail_groups))

colon_hex_is_ascii : (text segments : List ℕ) → IsColonHex text segments → IsAscii text
colon_hex_is_ascii text segments (inl (groups, all)) = groups_are_ascii true [] text segments IsAscii-nil groups
colon_hex_is_ascii text segments (inr elided) = elided_is_ascii text segments elided

addr_is_ascii : (text : List ℕ) (addr : Addr) → IsAddrText text addr → IsAscii text
addr_is_ascii text (V4 octets) (ip, spelled, same) = dotted_is_ascii text (ipv4_octets ip) spelled
addr_is_ascii text (V6 octets) (ip, spelled, same, none) = colon_hex_is_ascii text (ipv6_segments ip) spelled

-- ---- lines

fields_are_ascii : (text : List ℕ) → HasBlank text → IsAscii (before_blank text) → IsAscii (after_blank text) → IsAscii text
fields_are_ascii text blank before after =
    let is = eqb-true _ 32 (passes_at_first (λ octet. octet == 32) text 0 blank) in
    subst IsAscii (sym (split_at_first (λ octet. octet == 32) text 0 blank)) (IsAscii-append (before_blank text) _ before (IsAscii-cons _ (after_blank text) (omega (arith, is)) after))

in_is_ascii : IsAscii (codes "in")
in_is_ascii = IsAscii-cons 105 (110 ∷ []) (omega arith) (IsAscii-cons 110 [] (omega arith) IsAscii-nil)

tick_is_ascii : IsAscii (codes "tick")
tick_is_ascii = IsAscii-cons 116 (105 ∷ 99 ∷ 107 ∷ []) (omega arith) (IsAscii-cons 105 (99 ∷ 107 ∷ []) (omega arith) (IsAscii-cons 99 (107 ∷ []) (omega arith) (IsAscii-cons 107 [] (omega arith) IsAscii-nil)))

cost_is_ascii : IsAscii (codes "cost")
cost_is_ascii = IsAscii-cons 99 (111 ∷ 115 ∷ 116 ∷ []) (omega arith) (IsAscii-cons 111 (115 ∷ 116 ∷ []) (omega arith) (IsAscii-cons 115 (116 ∷ []) (omega arith) (IsAscii-cons 116 [] (omega arith) IsAscii-nil)))

word_number : (text : List ℕ) (n : ℕ) → IsNumberText 16 text n → IsAscii text
word_number text n spelled = number_is_ascii 16 text n (omega (arith, spelled.0)) spelled.1

action_is_ascii : (room : ℕ) (rest : List ℕ) (action : Action) → IsActionText room rest action → IsAscii rest
action_is_ascii room rest (Receive iface source octets) (blank, word, ((parted, (parted_again, last)), (number, addr, read))) =
    let fields = after_blank rest in
    let hex = octets_are_ascii room (after_blank (after_blank fields)) octets.now read in
    let others = fields_are_ascii (after_blank fields) parted_again (addr_is_ascii (before_blank (after_blank fields)) source addr) hex in
    fields_are_ascii rest blank (word_is_ascii (before_blank rest) (codes "in") word in_is_ascii) (fields_are_ascii fields parted (word_number (before_blank fields) iface number) others)
action_is_ascii room rest Tick word = word_is_ascii rest (codes "tick") word tick_is_ascii
action_is_ascii room rest (SetCost iface cost) (blank, word, ((parted, last), number, amount)) =
    let fields = after_blank rest in
    fields_are_ascii rest blank (word_is_ascii (before_blank rest) (codes "cost") word cost_is_ascii)
    (fields_are_ascii fields parted (word_number (before_blank fields) iface number) (word_number (after_blank fields) cost amount))

pub line_is_utf8 : (room : ℕ) (line : List ℕ) (time : ℕ) (action : Action) → HasBlank line → IsNumberText 64 (before_blank line) time → IsActionText room (after_blank line) action → IsUtf8 line
line_is_utf8 room line time action blank number is =
    IsUtf8-from_ascii line (fields_are_ascii line blank (number_is_ascii 64 (before_blank line) time number.0 number.1) (action_is_ascii room (after_blank line) action is))
