-- The lines of a log, taken one after another.
use Rattle.std.proofs.Common.{◌≡◌, ◌≢◌, ◌≤◌, ◌+◌, ◌⊎◌, inl, inr, ℕ, Bool, true, false, true≢false, List, [], ◌∷◌, ◌++◌, length, Option, Some, None, Result, Ok, Err, OnOk, IfErr, refl, sym, ap, ◌∙◌, subst, append_assoc}
use Rattle.std.proofs.lemmas.List.{append-nil, length-append}
use Rattle.std.specs.Prelude.{⊤}
use Rattle.babel_state.specs.State.{State}
use Rattle.babel_text.specs.Lines.{max_line_len}
use Rattle.babel_text.specs.declared.errors.LineFault.{LineFault}
use Rattle.babel_text.specs.declared.errors.LineFault.TheVariants.{Read, Write, Memory}
use Rattle.babel_text.specs.declared.log_lines.Action.{Action}
use Rattle.babel_replay.specs.Reading.{lines_of, ReadsLine}
use Rattle.babel_text.specs.LogLines.{is_skipped_line, IsLine, IsLineFault}
use Rattle.babel_replay.specs.LogReports.{IsReportBy, IsLineReport, IsLogReport, HasLines, BeginsWith, IsRefusedAfter, IsTooLongAfter, IsCause, OfAllLines, OfLinesBefore, room}
use Rattle.babel_replay.specs.Report.{places_in, outcome_lines, seen_by, select_lines, out_lines}
use Rattle.babel_replay.specs.Seen.{SeenPrefix, printed_all}
use Rattle.babel_replay.specs.Taking.{IsNextLine, TakesLine, IsReported, IsReportedLine, LeadsByEvent, LeadsByLine, LeadsTo}
use Rattle.babel_replay.proofs.Writing.{appends_none, appends_more}

-- ---- reports

-- One line more.
report_more : (texts : List (List ℕ)) (text : List ℕ) (old : State) (seen : List SeenPrefix) (mid : State) (between : List SeenPrefix) (new : State) (later : List SeenPrefix) (first last : List ℕ) →
    IsLogReport texts old seen mid between first → IsLineReport text mid between new later last →
    IsLogReport (texts ++ text ∷ []) old seen new later (first ++ last)
report_more [] text old seen mid between new later first last (state, prefixes, report) line = (
  new,
  later,
  last,
  [],
  record {
    line = subst (λ s. IsLineReport text s seen new later last) state (subst (λ es. IsLineReport text mid es new later last) prefixes line);
    together = ap (λ l. l ++ last) report ∙ sym (append-nil last);
  },
  (refl, refl, refl),
)
report_more (t ∷ ts) text old seen mid between new later first last (s, es, one, others, here, rest) line = (
  s,
  es,
  one,
  others ++ last,
  record { line = here.line; together = ap (λ l. l ++ last) here.together ∙ append_assoc one others last },
  report_more ts text s es mid between new later others last rest line,
)

-- ---- what was read

-- The first lines of a log, after which this is left.
abbrev pub HasRead : Option (List ℕ) → Option (List ℕ) → List (List ℕ) → Type 0
HasRead None left texts = ⊤
HasRead (Some octets) None texts = ⊥
HasRead (Some octets) (Some rest) texts = lines_of octets ≡ texts ++ lines_of rest

read_none : (log : Option (List ℕ)) → HasRead log log []
read_none None = tt
read_none (Some octets) = refl

read_more : (log mid left : Option (List ℕ)) (texts : List (List ℕ)) (text : List ℕ) → HasRead log mid texts → ReadsLine mid left true text →
    HasRead log left (texts ++ text ∷ [])
read_more None mid left texts text has reads = tt
read_more (Some octets) None left texts text has reads = absurd has
read_more (Some octets) (Some rest) None texts text has reads = absurd reads
read_more (Some octets) (Some rest) (Some more) texts text has reads =
    has ∙ ap (λ ls. texts ++ ls) reads ∙ sym (append_assoc texts (text ∷ []) (lines_of more))

read_all : (log mid left : Option (List ℕ)) (texts : List (List ℕ)) → HasRead log mid texts → ReadsLine mid left false [] → HasLines log texts
read_all None mid left texts has ends = tt
read_all (Some octets) None left texts has ends = absurd has
read_all (Some octets) (Some rest) None texts has ends = absurd ends
read_all (Some octets) (Some rest) (Some more) texts has ends = has ∙ ap (λ ls. texts ++ ls) ends ∙ append-nil texts

begins : (log mid : Option (List ℕ)) (texts : List (List ℕ)) → HasRead log mid texts → BeginsWith log texts
begins None mid texts has = tt
begins (Some octets) None texts has = absurd has
begins (Some octets) (Some rest) texts has = (lines_of rest, has)

begins_also : (log mid : Option (List ℕ)) (texts more : List (List ℕ)) → HasRead log mid texts → BeginsWith mid more → BeginsWith log (texts ++ more)
begins_also None mid texts more has next = tt
begins_also (Some octets) None texts more has next = absurd has
begins_also (Some octets) (Some rest) texts more has (others, is) = (others, has ∙ ap (λ ls. texts ++ ls) is ∙ sym (append_assoc texts more others))

refused_after : (log mid : Option (List ℕ)) (texts : List (List ℕ)) (fault : LineFault) → HasRead log mid texts → IsRefusedAfter mid [] fault → IsRefusedAfter log texts fault
refused_after log mid texts fault has r = record { text = r.text; next = begins_also log mid texts (r.text ∷ []) has r.next; within = r.within; event = r.event; refused = r.refused }

long_after : (log mid : Option (List ℕ)) (texts : List (List ℕ)) → HasRead log mid texts → IsTooLongAfter mid [] → IsTooLongAfter log texts
long_after None mid texts has is = tt
long_after (Some octets) None texts has is = absurd has
long_after (Some octets) (Some rest) texts has (text, others, is, long) = (text, others, has ∙ ap (λ ls. texts ++ ls) is, long)

cause_after : (log mid : Option (List ℕ)) (texts : List (List ℕ)) (fault : LineFault) → HasRead log mid texts → IsCause mid [] fault → IsCause log texts fault
cause_after log mid texts fault has (inl refused) = inl (refused_after log mid texts fault has refused)
cause_after log mid texts fault has (inr (inl (same, long))) = inr (inl (same, long_after log mid texts has long))
cause_after log mid texts fault has (inr (inr (same, begun))) = inr (inr (same, begins log mid texts has))

-- ---- why a line isn't taken

pub begins_at_first : (log : Option (List ℕ)) → BeginsWith log []
begins_at_first None = tt
begins_at_first (Some octets) = (lines_of octets, refl)

-- A line was read, and it can't be taken.
next_begins : (log left : Option (List ℕ)) (text : List ℕ) → ReadsLine log left true text → BeginsWith log (text ∷ [])
next_begins None left text reads = tt
next_begins (Some octets) None text reads = absurd reads
next_begins (Some octets) (Some rest) text reads = (lines_of rest, reads)

pub line_cause : (log left : Option (List ℕ)) (more tested : Bool) (text view other : List ℕ) (n : ℕ) (fault : LineFault) →
    more ≡ true → ReadsLine log left more text → length text ≤ max_line_len → view ≡ text → tested ≡ is_skipped_line view → tested ≡ false → n ≡ room →
    other ≡ text → IsLineFault n other fault → IsCause log [] fault
line_cause log left more tested text view other n fault is_more reads within viewed test false_so same view_too is =
    inl (record {
      text = text;
      next = next_begins log left text (subst (λ b. ReadsLine log left b text) is_more reads);
      within = within;
      event = ap is_skipped_line (sym viewed) ∙ sym test ∙ false_so;
      refused = subst (λ m. IsLineFault m text fault) same (subst (λ l. IsLineFault n l fault) view_too is);
    })

-- Its report failed.
pub report_cause : (log : Option (List ℕ)) (fault : LineFault) → (fault ≡ Memory) ⊎ (fault ≡ Write) → IsCause log [] fault
report_cause log fault (inl same) = inr (inr (inr (inr same), begins_at_first log))
report_cause log fault (inr same) = inr (inr (inr (inl same), begins_at_first log))

pub read_failed : (log : Option (List ℕ)) → IsCause log [] Read
read_failed log = inr (inr (inl refl, begins_at_first log))

-- ---- the lines before a fault

shorter : (log : Option (List ℕ)) (texts more : List (List ℕ)) → BeginsWith log (texts ++ more) → BeginsWith log texts
shorter None texts more has = tt
shorter (Some octets) texts more (rest, is) = (more ++ rest, is ∙ append_assoc texts more rest)

long_begins : (log : Option (List ℕ)) (texts : List (List ℕ)) → IsTooLongAfter log texts → BeginsWith log texts
long_begins None texts is = tt
long_begins (Some octets) texts (text, others, is, long) = (text ∷ others, is)

cause_begins : (log : Option (List ℕ)) (texts : List (List ℕ)) (fault : LineFault) → IsCause log texts fault → BeginsWith log texts
cause_begins log texts fault (inl refused) = shorter log texts (refused.text ∷ []) refused.next
cause_begins log texts fault (inr (inl (same, long))) = long_begins log texts long
cause_begins log texts fault (inr (inr (same, begun))) = begun

whole_begins : (log : Option (List ℕ)) (texts : List (List ℕ)) → HasLines log texts → BeginsWith log texts
whole_begins None texts has = tt
whole_begins (Some octets) texts has = ([], has ∙ sym (append-nil texts))

-- Nothing could be read.
pub before_first : (log : Option (List ℕ)) (number : ℕ) (fault : LineFault) (P : List (List ℕ) → Type 0) → number ≡ 1 → IsCause log [] fault → P [] →
    OfLinesBefore log number fault P
before_first log number fault P first is p = record { texts = []; before = first; cause = is; holds = λ _. p }

-- Writing failed, at a line or at the end.
pub write_failed : (log : Option (List ℕ)) (number : ℕ) (P Q : List (List ℕ) → Type 0) (taken : Result Unit LineFault) →
    ((texts : List (List ℕ)) → P texts → number ≡ length texts + 1) →
    OnOk taken (OfAllLines log P) → IfErr taken (λ fault. OfLinesBefore log number fault P) → OfLinesBefore log number Write Q
write_failed log number P Q (Ok u) count all before = record {
  texts = all.texts;
  before = count all.texts all.holds;
  cause = inr (inr (inr (inl refl), whole_begins log all.texts all.whole));
  holds = λ (other : Write ≢ Write). absurd (other refl);
}
write_failed log number P Q (Err fault) count all before = record {
  texts = before.texts;
  before = before.before;
  cause = inr (inr (inr (inl refl), cause_begins log before.texts fault before.cause));
  holds = λ (other : Write ≢ Write). absurd (other refl);
}

pub all_weaker : (log : Option (List ℕ)) (P Q : List (List ℕ) → Type 0) → ((texts : List (List ℕ)) → P texts → Q texts) → OfAllLines log P → OfAllLines log Q
all_weaker log P Q go all = record { texts = all.texts; whole = all.whole; holds = go all.texts all.holds }

pub before_weaker : (log : Option (List ℕ)) (number : ℕ) (fault : LineFault) (P Q : List (List ℕ) → Type 0) → ((texts : List (List ℕ)) → P texts → Q texts) →
    OfLinesBefore log number fault P → OfLinesBefore log number fault Q
before_weaker log number fault P Q go b = record {
  texts = b.texts;
  before = b.before;
  cause = b.cause;
  holds = λ (other : fault ≢ Write). go b.texts (b.holds other);
}

-- ---- the loop over the lines

-- Lines that were read, of which P holds.
pub record ReadSoFar (log left : Option (List ℕ)) (P : List (List ℕ) → Type 0) : Type 0 where
  pub texts : List (List ℕ)
  pub read : HasRead log left texts
  pub holds : P texts

pub nothing_read : (log : Option (List ℕ)) (P : List (List ℕ) → Type 0) → P [] → ReadSoFar log log P
nothing_read log P p = record { texts = []; read = read_none log; holds = p }

pub one_more_read : (log mid left : Option (List ℕ)) (P Q : List (List ℕ) → Type 0) (R : List ℕ → Type 0) →
    ((texts : List (List ℕ)) (text : List ℕ) → P texts → R text → Q (texts ++ text ∷ [])) → ReadSoFar log mid P → IsNextLine mid left R → ReadSoFar log left Q
one_more_read log mid left P Q R go so next = record {
  texts = so.texts ++ next.text ∷ [];
  read = read_more log mid left so.texts next.text so.read next.reads;
  holds = go so.texts next.text so.holds next.holds;
}

pub all_read : (log mid left : Option (List ℕ)) (P : List (List ℕ) → Type 0) → ReadSoFar log mid P → ReadsLine mid left false [] → OfAllLines log P
all_read log mid left P so ends = record { texts = so.texts; whole = read_all log mid left so.texts so.read ends; holds = so.holds }

pub stopped : (log mid : Option (List ℕ)) (number : ℕ) (fault : LineFault) (P Q : List (List ℕ) → Type 0) →
    ((texts : List (List ℕ)) → P texts → number ≡ length texts + 1) → (fault ≢ Write → (texts : List (List ℕ)) → P texts → Q texts) →
    ReadSoFar log mid P → IsCause mid [] fault → OfLinesBefore log number fault Q
stopped log mid number fault P Q count go so is = record {
  texts = so.texts;
  before = count so.texts so.holds;
  cause = cause_after log mid so.texts fault so.read is;
  holds = λ (other : fault ≢ Write). go other so.texts so.holds;
}

-- ---- what was written of them

pub none_reported : (old : State) (seen : List SeenPrefix) (before : Option (List ℕ)) → IsReported 1 old seen old seen before before []
none_reported old seen before = record { before_it = refl; report = []; reported = (refl, refl, refl); written = appends_none before }

one_counted : (number : ℕ) (texts : List (List ℕ)) (text : List ℕ) → number ≡ length texts + 1 → number + 1 ≡ length (texts ++ text ∷ []) + 1
one_counted number texts text is = ap (λ n. n + 1) (is ∙ sym (length-append texts (text ∷ [])))

pub reported_more : (number : ℕ) (old : State) (seen : List SeenPrefix) (mid : State) (between : List SeenPrefix) (new : State) (later : List SeenPrefix)
    (a b c : Option (List ℕ)) (texts : List (List ℕ)) (text : List ℕ) →
    IsReported number old seen mid between a b texts → IsReportedLine mid between new later b c text → IsReported (number + 1) old seen new later a c (texts ++ text ∷ [])
reported_more number old seen mid between new later a b c texts text so one = record {
  before_it = one_counted number texts text so.before_it;
  report = so.report ++ one.report;
  reported = report_more texts text old seen mid between new later so.report one.report so.reported one.line;
  written = appends_more a b c so.report one.report so.written one.written;
}

-- The same of what is equal.
pub reported_still : (number : ℕ) (old : State) (seen : List SeenPrefix) (mid : State) (between : List SeenPrefix) (new : State) (later : List SeenPrefix)
    (a b c : Option (List ℕ)) → (new ≡ mid) × (later ≡ between) × (c ≡ b) → (texts : List (List ℕ)) →
    IsReported number old seen mid between a b texts → IsReported number old seen new later a c texts
reported_still number old seen mid between new later a b c (state, prefixes, bytes) texts so =
    subst (λ s. IsReported number old seen s later a c texts) (sym state)
    (subst (λ es. IsReported number old seen mid es a c texts) (sym prefixes)
    (subst (λ h. IsReported number old seen mid between a h texts) (sym bytes) so))

-- ---- where they lead

pub none_leads : (old : State) → LeadsTo 1 old old []
none_leads old = record { before_it = refl; seen = []; report = []; reported = (refl, refl, refl) }

pub leads_more : (number : ℕ) (old mid new : State) (texts : List (List ℕ)) (text : List ℕ) → LeadsTo number old mid texts → LeadsByLine mid new text →
    LeadsTo (number + 1) old new (texts ++ text ∷ [])
leads_more number old mid new texts text so one =
    let (later, report, line) = one so.seen in
    record {
      before_it = one_counted number texts text so.before_it;
      seen = later;
      report = so.report ++ report;
      reported = report_more texts text old [] mid so.seen new later so.report report so.reported line;
    }

-- ---- the loop's ends

pub reported_stopped : (log mid : Option (List ℕ)) (n number : ℕ) (fault : LineFault) (old : State) (seen : List SeenPrefix) (s : State) (es : List SeenPrefix)
    (new : State) (later : List SeenPrefix) (a b c : Option (List ℕ)) →
    n ≡ number → ReadSoFar log mid (IsReported number old seen s es a b) → IsCause mid [] fault →
    (fault ≢ Write → (new ≡ s) × (later ≡ es) × (c ≡ b)) → OfLinesBefore log n fault (IsReported n old seen new later a c)
reported_stopped log mid n number fault old seen s es new later a b c same so is still =
    subst (λ m. OfLinesBefore log m fault (IsReported m old seen new later a c)) (sym same)
    (stopped log mid number fault (IsReported number old seen s es a b) (IsReported number old seen new later a c)
    (λ (texts : List (List ℕ)) (so : IsReported number old seen s es a b texts). so.before_it)
    (λ (other : fault ≢ Write) (texts : List (List ℕ)). reported_still number old seen s es new later a b c (still other) texts) so is)

pub reported_all : (log mid left : Option (List ℕ)) (number : ℕ) (old : State) (seen : List SeenPrefix) (s : State) (es : List SeenPrefix) (new : State) (later : List SeenPrefix)
    (a b c : Option (List ℕ)) →
    ReadSoFar log mid (IsReported number old seen s es a b) → ReadsLine mid left false [] × ((new ≡ s) × (later ≡ es) × (c ≡ b)) →
    OfAllLines log (IsReported number old seen new later a c)
reported_all log mid left number old seen s es new later a b c so (ends, still) =
    all_weaker log (IsReported number old seen s es a b) (IsReported number old seen new later a c) (reported_still number old seen s es new later a b c still)
    (all_read log mid left (IsReported number old seen s es a b) so ends)

pub reported_next : (log mid left : Option (List ℕ)) (number : ℕ) (old : State) (seen : List SeenPrefix) (s : State) (es : List SeenPrefix) (new : State) (later : List SeenPrefix)
    (a b c : Option (List ℕ)) →
    ReadSoFar log mid (IsReported number old seen s es a b) → IsNextLine mid left (IsReportedLine s es new later b c) →
    ReadSoFar log left (IsReported (number + 1) old seen new later a c)
reported_next log mid left number old seen s es new later a b c =
    one_more_read log mid left (IsReported number old seen s es a b) (IsReported (number + 1) old seen new later a c) (IsReportedLine s es new later b c)
    (reported_more number old seen s es new later a b c)

led_still : (number : ℕ) (old s new : State) → new ≡ s → (texts : List (List ℕ)) → LeadsTo number old s texts → LeadsTo number old new texts
led_still number old s new same texts so = subst (λ t. LeadsTo number old t texts) (sym same) so

pub led_stopped : (log mid : Option (List ℕ)) (n number : ℕ) (fault : LineFault) (old s new : State) →
    n ≡ number → ReadSoFar log mid (LeadsTo number old s) → IsCause mid [] fault → new ≡ s → OfLinesBefore log n fault (LeadsTo n old new)
led_stopped log mid n number fault old s new same so is still =
    subst (λ m. OfLinesBefore log m fault (LeadsTo m old new)) (sym same)
    (stopped log mid number fault (LeadsTo number old s) (LeadsTo number old new) (λ (texts : List (List ℕ)) (so : LeadsTo number old s texts). so.before_it)
    (λ (other : fault ≢ Write) (texts : List (List ℕ)). led_still number old s new still texts) so is)

pub led_all : (log mid left : Option (List ℕ)) (number : ℕ) (old s new : State) → ReadSoFar log mid (LeadsTo number old s) → ReadsLine mid left false [] × (new ≡ s) →
    OfAllLines log (LeadsTo number old new)
led_all log mid left number old s new so (ends, still) =
    all_weaker log (LeadsTo number old s) (LeadsTo number old new) (led_still number old s new still) (all_read log mid left (LeadsTo number old s) so ends)

pub led_next : (log mid left : Option (List ℕ)) (number : ℕ) (old s new : State) → ReadSoFar log mid (LeadsTo number old s) → IsNextLine mid left (LeadsByLine s new) →
    ReadSoFar log left (LeadsTo (number + 1) old new)
led_next log mid left number old s new =
    one_more_read log mid left (LeadsTo number old s) (LeadsTo (number + 1) old new) (LeadsByLine s new) (leads_more number old s new)

-- ---- one line

pub next_of : (log left : Option (List ℕ)) (more : Bool) (P : List ℕ → Type 0) (Q : Type 0) → more ≡ true → TakesLine log left more P Q → IsNextLine log left P
next_of log left true P Q is next = next
next_of log left false P Q is next = absurd (true≢false (sym is))

pub end_of : (log left : Option (List ℕ)) (more : Bool) (P : List ℕ → Type 0) (Q : Type 0) → more ≡ false → TakesLine log left more P Q → ReadsLine log left false [] × Q
end_of log left true P Q is next = absurd (true≢false is)
end_of log left false P Q is next = next

pub line_skipped : (log left : Option (List ℕ)) (more tested : Bool) (text view : List ℕ) (s : State) → more ≡ true → ReadsLine log left more text → length text ≤ max_line_len →
    view ≡ text → tested ≡ is_skipped_line view → tested ≡ true → IsNextLine log left (LeadsByLine s s)
line_skipped log left more tested text view s is reads within same test true_so =
    let skipped : is_skipped_line text ≡ true = ap is_skipped_line (sym same) ∙ sym test ∙ true_so in
    record {
      text = text;
      reads = subst (λ b. ReadsLine log left b text) is reads;
      holds = λ (seen : List SeenPrefix). (
        seen,
        [],
        record { within = within; reported = subst (λ b. IsReportBy b text s seen s seen []) (sym skipped) (refl, refl, refl) },
      );
    }

pub line_leads : (log left : Option (List ℕ)) (more tested : Bool) (text view other : List ℕ) (n time : ℕ) (action : Action) (old new : State) →
    more ≡ true → ReadsLine log left more text → length text ≤ max_line_len → view ≡ text → tested ≡ is_skipped_line view → tested ≡ false → n ≡ room → other ≡ text →
    IsLine n other time action → LeadsByEvent time action old new → IsNextLine log left (LeadsByLine old new)
line_leads log left more tested text view other n time action old new is_more reads within viewed test false_so same view_too is_line so =
    let (sent, sends) = so.sends in
    let event : is_skipped_line text ≡ false = ap is_skipped_line (sym viewed) ∙ sym test ∙ false_so in
    let is : IsLine n text time action = subst (λ l. IsLine n l time action) view_too is_line in
    record {
      text = text;
      reads = subst (λ b. ReadsLine log left b text) is_more reads;
      holds = λ (seen : List SeenPrefix).
          let es = seen_by (places_in action) so.outcome seen in
          let report = outcome_lines time (places_in action) so.outcome ++ (select_lines time so.stepped es ++ out_lines time sent) in (
            printed_all so.stepped es,
            report,
            record {
              within = within;
              reported = subst (λ b. IsReportBy b text old seen new (printed_all so.stepped es) report) (sym event) (record {
                time = time;
                action = action;
                event = subst (λ m. IsLine m text time action) same is;
                reported = record { outcome = so.outcome; stepped = so.stepped; steps = so.steps; sent = sent; sends = sends; prefixes = refl; text_is = refl };
              });
            },
          );
    }
