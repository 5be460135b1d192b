-- Hello histories: which of the last Hellos of one kind came (RFC 8966, section 3.4.1 and appendix A.1).
use Rattle.std.specs.Prelude.{ℕ, Bool, true, false, ◌&&◌, nat_le, nat_lt, List, [], ◌∷◌, ◌++◌, take, drop, replicate, count_by, if◌then◌else◌}
use Rattle.std.specs.List.{list_any}
use Rattle.babel_value.specs.Seqnos.{ahead, next_seqno}
use Rattle.babel_link.specs.declared.marks.Heard.{Heard}
use Rattle.babel_link.specs.declared.marks.Heard.TheVariants.{Kept, Flush}

-- A mark for each expected Hello, newest first: true if it came, false if it was missed. And the seqno of the Hello that is expected next (RFC 8966, section 3.2.4 and appendix A.1).
pub record MarksValue : Type 0 where
  pub marks : List Bool
  pub expected : ℕ

-- How many marks a history has at most (profile).
abbrev pub max_marks : ℕ
max_marks = 16

-- A list of marks is cut to its newest ones (profile).
abbrev pub newest : List Bool → List Bool
newest marks = take max_marks marks

-- What the first Hello of a kind makes (RFC 8966, appendix A.1).
abbrev pub first_marks : ℕ → MarksValue
first_marks n = record { marks = true ∷ []; expected = next_seqno n }

-- How far a Hello may be from the expected one, either way (RFC 8966, appendix A.1).
abbrev pub max_gap : ℕ
max_gap = 16

-- Hello n is further away from the expected one, either way: the sender seems to have restarted (RFC 8966, appendix A.1).
abbrev pub is_far : ℕ → MarksValue → Bool
is_far n m = nat_lt max_gap (ahead m.expected n) && nat_lt max_gap (ahead n m.expected)

-- The marks before the mark of Hello n, if it isn't far away. If it's ahead of the expected one, those between were missed. If it's late, marks were made for Hellos that weren't due, and they go (RFC 8966, appendix A.1).
abbrev pub marks_before : ℕ → MarksValue → List Bool
marks_before n m =
    if nat_le (ahead m.expected n) max_gap then replicate (ahead m.expected n) false ++ m.marks
    else drop (ahead n m.expected) m.marks

-- The marks after a later Hello, with seqno n (RFC 8966, appendix A.1).
unfoldable pub heard_marks : ℕ → MarksValue → MarksValue
heard_marks n m =
    if is_far n m then first_marks n
    else record { marks = newest (true ∷ marks_before n m); expected = next_seqno n }

-- What a later Hello with seqno n means for the neighbour: a Hello that is far away flushes it (RFC 8966, appendix A.1).
unfoldable pub heard_verdict : ℕ → MarksValue → Heard
heard_verdict n m = if is_far n m then Flush else Kept

-- The marks after the expected Hello hasn't come (RFC 8966, appendix A.1).
unfoldable pub missed_marks : MarksValue → MarksValue
missed_marks m = record { marks = newest (false ∷ m.marks); expected = next_seqno m.expected }

-- At least two of the newest three came (RFC 8966, appendix A.2.1).
unfoldable pub is_up : List Bool → Bool
is_up marks = nat_le 2 (count_by (λ mark. mark) (take 3 marks))

-- Some Hello of the history came (RFC 8966, appendix A.1).
unfoldable pub has_received : List Bool → Bool
has_received marks = list_any (λ mark. mark) marks
