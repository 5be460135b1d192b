-- What is kept covers what was sent.
use Rattle.std.proofs.Common.{◌≡◌, ◌⊎◌, ℕ, suc, true, false, cond, List, [], ◌∷◌, ◌++◌, map, take, Contains, Option, Some, refl, sym, ap, ◌∙◌, subst, inl, inr}
use Rattle.std.proofs.lemmas.List.{append-nil}
use Rattle.std.proofs.lemmas.List.Elements.{All-cons, All-nil, All-contains, Contains-append_left}
use Rattle.babel_state.specs.Restarts.{Snapshot, snapshot_of, restored}
use Rattle.babel_state.specs.State.{State}
use Rattle.babel_wire.specs.Calls.{Call, Recv, Now, Send, Keep, Receipt, Sending}
use Rattle.babel_wire.specs.Keeping.{Keeping, Unchanged, NotMade, Tried, DurableTurn, AreOctetsOf, IsDurableTurn, Keeps, last_kept, is_kept, given_in, calls_of_keeping, calls_of, calls_of_turn, turns_of, taken_in}
use Rattle.babel_wire.specs.Cuts.{File, IsCutOf, IsOnDisk, on_disk, sent_in}
use Rattle.babel_wire.specs.DurableLaws.{WhatIsKeptCoversWhatWasSent, CrashesAreRestarts}
use Rattle.babel_wire.specs.Lives.{IsCovered}
use Rattle.babel_wire.proofs.Files.{disk_joined}
use Rattle.babel_wire.proofs.Members.{AreIn, none_in, joined_in, in_one, in_more}

-- ---- cuts

abbrev pub After : List Call → List Call → List Call → Type 0
After xs ys cut = (later : List Call) × (cut ≡ xs ++ later) × IsCutOf later ys

-- A cut of two lists of calls is in the first, or after it.
pub cut_in : (xs ys cut : List Call) → IsCutOf cut (xs ++ ys) → IsCutOf cut xs ⊎ After xs ys cut
cut_in [] ys cut h = inr (cut, refl, h)
cut_in (x ∷ xs) ys [] h = inl tt
cut_in (x ∷ xs) ys (c ∷ cs) (inr killed) = inl (inr killed)
cut_in (x ∷ xs) ys (c ∷ cs) (inl (same, rest)) = by (cut_in xs ys cs rest)
  where
    by : IsCutOf cs xs ⊎ After xs ys cs → IsCutOf (c ∷ cs) (x ∷ xs) ⊎ After (x ∷ xs) ys (c ∷ cs)
    by (inl within) = inl (inl (same, within))
    by (inr (later, is, cut)) = inr (later, ap (λ d. d ∷ cs) same ∙ ap (λ ds. x ∷ ds) is, cut)

pub whole_cut : (xs : List Call) → IsCutOf xs xs
whole_cut [] = tt
whole_cut (x ∷ xs) = inl (refl, whole_cut xs)

pub sent_joined : (xs ys : List Call) → sent_in (xs ++ ys) ≡ sent_in xs ++ sent_in ys
sent_joined [] ys = refl
sent_joined (Recv receipt ∷ xs) ys = sent_joined xs ys
sent_joined (Now moment ∷ xs) ys = sent_joined xs ys
sent_joined (Send x ∷ xs) ys = ap (λ zs. x ∷ zs) (sent_joined xs ys)
sent_joined (Keep octets is_done ∷ xs) ys = sent_joined xs ys

-- A cut of the rest, with the same on disk and the same sent.
abbrev pub Same : List Call → List Call → Type 0
Same rest cut = (later : List Call) × IsCutOf later rest × ((files : List File) → on_disk files cut ≡ on_disk files later) × (sent_in cut ≡ sent_in later)

pub after_recv : (receipt : Receipt) (rest cut : List Call) → IsCutOf cut (Recv receipt ∷ rest) → Same rest cut
after_recv receipt rest [] h = ([], tt, (λ files. refl), refl)
after_recv receipt rest (c ∷ cs) (inl (same, later)) = (cs, later, (λ files. ap (λ d. on_disk files (d ∷ cs)) same), ap (λ d. sent_in (d ∷ cs)) same)
after_recv receipt rest (c ∷ cs) (inr (same, none)) =
    ([], tt, (λ files. ap (λ d. on_disk files (d ∷ cs)) same ∙ ap (λ ds. on_disk files ds) none), ap (λ d. sent_in (d ∷ cs)) same ∙ ap sent_in none)

pub after_now : (moment : ℕ) (rest cut : List Call) → IsCutOf cut (Now moment ∷ rest) → Same rest cut
after_now moment rest [] h = ([], tt, (λ files. refl), refl)
after_now moment rest (c ∷ cs) (inl (same, later)) = (cs, later, (λ files. ap (λ d. on_disk files (d ∷ cs)) same), ap (λ d. sent_in (d ∷ cs)) same)
after_now moment rest (c ∷ cs) (inr (same, none)) =
    ([], tt, (λ files. ap (λ d. on_disk files (d ∷ cs)) same ∙ ap (λ ds. on_disk files ds) none), ap (λ d. sent_in (d ∷ cs)) same ∙ ap sent_in none)

-- While datagrams are sent, nothing changes on disk.
sends_cut : (xs : List Sending) (cut : List Call) → IsCutOf cut (map Send xs) → ((files : List File) → on_disk files cut ≡ files) × AreIn (sent_in cut) xs
sends_cut xs [] h = ((λ files. refl), none_in xs)
sends_cut [] (c ∷ cs) h = absurd h
sends_cut (x ∷ xs) (c ∷ cs) (inl (same, later)) = by (sends_cut xs cs later)
  where
    by : ((files : List File) → on_disk files cs ≡ files) × AreIn (sent_in cs) xs → ((files : List File) → on_disk files (c ∷ cs) ≡ files) × AreIn (sent_in (c ∷ cs)) (x ∷ xs)
    by (disk, among) = (
      (λ files. ap (λ d. on_disk files (d ∷ cs)) same ∙ disk files),
      subst (λ d. AreIn (sent_in (d ∷ cs)) (x ∷ xs)) (sym same) (joined_in (x ∷ []) (sent_in cs) (x ∷ []) xs (λ y h. h) among),
    )
sends_cut (x ∷ xs) (c ∷ cs) (inr (same, none)) =
    let is : c ∷ cs ≡ Send x ∷ [] = ap (λ d. d ∷ cs) same ∙ ap (λ ds. Send x ∷ ds) none in (
      (λ files. ap (on_disk files) is),
      subst (λ ds. AreIn (sent_in ds) (x ∷ xs)) (sym is) (joined_in (x ∷ []) [] (x ∷ []) xs (λ y h. h) (none_in xs)),
    )

-- ---- one turn

-- The file is the snapshot after the turn, and what was sent was taken in it. Or it is an old one, and nothing was sent.
abbrev pub IsOf : List File → List Call → Snapshot → List Sending → File → Type 0
IsOf files cut snapshot sendings file =
    (Contains files file × (sent_in cut ≡ [])) ⊎ ((octets : List ℕ) × (file ≡ Some octets) × AreOctetsOf snapshot octets × AreIn (sent_in cut) sendings)

none_cut : (cut : List Call) → IsCutOf cut [] → cut ≡ []
none_cut [] h = refl
none_cut (c ∷ cs) h = absurd h

-- A keep that was tried, and nothing was sent.
only_tried : (octets : List ℕ) (files : List File) (snapshot : Snapshot) (sendings : List Sending) (file : File) → AreOctetsOf snapshot octets →
    Contains (Some octets ∷ files) file → IsOf files (Keep octets false ∷ []) snapshot sendings file
only_tried octets files snapshot sendings file is_of at = by (in_more (Some octets) files file at)
  where
    by : (file ≡ Some octets) ⊎ Contains files file → IsOf files (Keep octets false ∷ []) snapshot sendings file
    by (inl is) = inr (octets, is, is_of, none_in sendings)
    by (inr old) = inl (old, refl)

keeping_cut : (last : Option Snapshot) (snapshot : Snapshot) (keeping : Keeping) (sendings : List Sending) (turn : List Sending) (files : List File) (cut : List Call) (file : File) →
    (is_kept keeping ≡ true → turn ≡ sendings) → (is_kept keeping ≡ false → turn ≡ []) →
    Keeps last snapshot keeping → IsOnDisk last files → IsCutOf cut (calls_of_keeping keeping ++ map Send turn) → Contains (on_disk files cut) file →
    IsOf files cut snapshot sendings file
keeping_cut last snapshot Unchanged sendings turn files cut file all none keeps disk is_cut at =
    let sends = sends_cut turn cut is_cut in
    let old : Contains files file = subst (λ fs. Contains fs file) (sends.0 files) at in
    let kept = All-contains (λ (f : File). (octets : List ℕ) × (f ≡ Some octets) × AreOctetsOf snapshot octets) files file (subst (λ l. IsOnDisk l files) keeps disk) old in
    inr (kept.0, kept.1, kept.2, subst (λ xs. AreIn (sent_in cut) xs) (all refl) sends.1)
keeping_cut last snapshot NotMade sendings turn files cut file all none keeps disk is_cut at =
    let sends = sends_cut turn cut is_cut in
    let empty : cut ≡ [] = none_cut cut (subst (λ xs. IsCutOf cut (map Send xs)) (none refl) is_cut) in
    inl (subst (λ fs. Contains fs file) (sends.0 files) at, ap sent_in empty)
keeping_cut last snapshot (Tried octets is_done) sendings turn files [] file all none keeps disk is_cut at = inl (at, refl)
keeping_cut last snapshot (Tried octets false) sendings turn files (c ∷ cs) file all none keeps disk (inl (same, later)) at =
    let empty : cs ≡ [] = none_cut cs (subst (λ xs. IsCutOf cs (map Send xs)) (none refl) later) in
    let is : c ∷ cs ≡ Keep octets false ∷ [] = ap (λ d. d ∷ cs) same ∙ ap (λ ds. Keep octets false ∷ ds) empty in
    subst (λ ds. IsOf files ds snapshot sendings file) (sym is)
    (only_tried octets files snapshot sendings file keeps (subst (λ ds. Contains (on_disk files ds) file) is at))
keeping_cut last snapshot (Tried octets true) sendings turn files (c ∷ cs) file all none keeps disk (inl (same, later)) at =
    let sends = sends_cut turn cs later in
    let here : Contains (Some octets ∷ []) file = subst (λ fs. Contains fs file) (sends.0 (Some octets ∷ [])) (subst (λ d. Contains (on_disk files (d ∷ cs)) file) same at) in
    subst (λ d. IsOf files (d ∷ cs) snapshot sendings file) (sym same)
    (inr (octets, in_one (Some octets) file here, keeps, subst (λ xs. AreIn (sent_in cs) xs) (all refl) sends.1))
keeping_cut last snapshot (Tried octets is_done) sendings turn files (c ∷ cs) file all none keeps disk (inr (same, empty)) at =
    let is : c ∷ cs ≡ Keep octets false ∷ [] = ap (λ d. d ∷ cs) same ∙ ap (λ ds. Keep octets false ∷ ds) empty in
    subst (λ ds. IsOf files ds snapshot sendings file) (sym is)
    (only_tried octets files snapshot sendings file keeps (subst (λ ds. Contains (on_disk files ds) file) is at))

-- What may be on disk when a process is killed in a turn.
pub turn_cut : (last : Option Snapshot) (snapshot : Snapshot) (t : DurableTurn) (files : List File) (cut : List Call) (file : File) →
    Keeps last snapshot t.keeping → IsOnDisk last files → IsCutOf cut (calls_of_turn t) → Contains (on_disk files cut) file → IsOf files cut snapshot t.turn.sendings file
turn_cut last snapshot t files cut file keeps disk is_cut at =
    let rest : List Call = calls_of_keeping t.keeping ++ map Send (given_in t) in
    let one = after_recv t.turn.receipt (Now t.turn.now ∷ rest) cut is_cut in
    let two = after_now t.turn.now rest one.0 one.1 in
    let same_disk : on_disk files cut ≡ on_disk files two.0 = one.2 files ∙ two.2 files in
    let same_sent : sent_in cut ≡ sent_in two.0 = one.3 ∙ two.3 in
    by two.0 same_sent
    (keeping_cut last snapshot t.keeping t.turn.sendings (given_in t) files two.0 file
    (λ is. ap (λ b. cond b t.turn.sendings []) is) (λ is. ap (λ b. cond b t.turn.sendings []) is) keeps disk two.1
    (subst (λ fs. Contains fs file) same_disk at))
  where
    by : (later : List Call) → sent_in cut ≡ sent_in later → IsOf files later snapshot t.turn.sendings file → IsOf files cut snapshot t.turn.sendings file
    by later same (inl (old, none)) = inl (old, same ∙ none)
    by later same (inr (octets, is, is_of, among)) = inr (octets, is, is_of, subst (λ xs. AreIn xs t.turn.sendings) (sym same) among)

disk_sent : (files : List File) (xs : List Sending) → on_disk files (map Send xs) ≡ files
disk_sent files [] = refl
disk_sent files (x ∷ xs) = disk_sent files xs

abbrev IsThat : Snapshot → File → Type 0
IsThat snapshot file = (octets : List ℕ) × (file ≡ Some octets) × AreOctetsOf snapshot octets

-- What was kept last is on disk after the turn.
pub disk_after_keeping : (last : Option Snapshot) (snapshot : Snapshot) (keeping : Keeping) (xs : List Sending) (files : List File) →
    Keeps last snapshot keeping → IsOnDisk last files → IsOnDisk (last_kept last snapshot keeping) (on_disk files (calls_of_keeping keeping ++ map Send xs))
disk_after_keeping last snapshot Unchanged xs files keeps disk = subst (IsOnDisk last) (sym (disk_sent files xs)) disk
disk_after_keeping last snapshot NotMade xs files keeps disk = subst (IsOnDisk last) (sym (disk_sent files xs)) disk
disk_after_keeping last snapshot (Tried octets true) xs files keeps disk =
    subst (IsOnDisk (Some snapshot)) (sym (disk_sent (Some octets ∷ []) xs)) (All-cons (IsThat snapshot) (Some octets) [] (octets, refl, keeps) (All-nil (IsThat snapshot)))
disk_after_keeping last snapshot (Tried octets false) xs files keeps disk = tt

pub sent_given : (t : DurableTurn) → AreIn (sent_in (calls_of_turn t)) t.turn.sendings
sent_given t = by t.keeping (given_in t) (λ is. ap (λ b. cond b t.turn.sendings []) is) (λ is. ap (λ b. cond b t.turn.sendings []) is)
  where
    sent : (xs : List Sending) → AreIn (sent_in (map Send xs)) xs
    sent xs = (sends_cut xs (map Send xs) (whole_cut (map Send xs))).1

    same_as : (xs : List Sending) → xs ≡ t.turn.sendings → AreIn (sent_in (map Send xs)) t.turn.sendings
    same_as xs is = subst (λ ys. AreIn (sent_in (map Send xs)) ys) is (sent xs)

    empty_as : (xs : List Sending) → xs ≡ [] → AreIn (sent_in (map Send xs)) t.turn.sendings
    empty_as xs is = subst (λ ys. AreIn (sent_in (map Send ys)) t.turn.sendings) (sym is) (none_in t.turn.sendings)

    by : (keeping : Keeping) (xs : List Sending) → (is_kept keeping ≡ true → xs ≡ t.turn.sendings) → (is_kept keeping ≡ false → xs ≡ []) →
        AreIn (sent_in (calls_of_keeping keeping ++ map Send xs)) t.turn.sendings
    by Unchanged xs all none = same_as xs (all refl)
    by NotMade xs all none = empty_as xs (none refl)
    by (Tried octets true) xs all none = same_as xs (all refl)
    by (Tried octets false) xs all none = empty_as xs (none refl)

-- ---- turns one after another

abbrev Covers : State → List DurableTurn → List File → List Call → File → Type 0
Covers old ts files cut file =
    (Contains files file × (sent_in cut ≡ [])) ⊎ ((octets : List ℕ) × (file ≡ Some octets) × IsCovered old ts cut octets)

-- By the first turn alone.
by_first : (last : Option Snapshot) (old mid : State) (t : DurableTurn) (ts : List DurableTurn) (cut : List Call) (octets : List ℕ) → IsDurableTurn last old t mid →
    AreOctetsOf (snapshot_of mid) octets → AreIn (sent_in cut) t.turn.sendings → IsCovered old (t ∷ ts) cut octets
by_first last old mid t ts cut octets turn is_of among = record {
  count = 1;
  state = mid;
  reached = (mid, turn.turn, refl);
  octets_of = is_of;
  covers = λ x h. Contains-append_left t.turn.sendings [] x (among x h);
}

-- By more turns.
by_more : (last : Option Snapshot) (old mid : State) (t : DurableTurn) (ts : List DurableTurn) (cut later : List Call) (octets : List ℕ) → IsDurableTurn last old t mid →
    cut ≡ calls_of_turn t ++ later → IsCovered mid ts later octets → IsCovered old (t ∷ ts) cut octets
by_more last old mid t ts cut later octets turn is more = record {
  count = suc more.count;
  state = more.state;
  reached = (mid, turn.turn, more.reached);
  octets_of = more.octets_of;
  covers = subst (λ xs. AreIn xs (t.turn.sendings ++ taken_in (turns_of (take more.count ts)))) (sym (ap sent_in is ∙ sent_joined (calls_of_turn t) later))
      (joined_in (sent_in (calls_of_turn t)) (sent_in later) t.turn.sendings (taken_in (turns_of (take more.count ts))) (sent_given t) more.covers);
}

pub kept_covers : WhatIsKeptCoversWhatWasSent
kept_covers last later old new [] files [] file turns disk is_cut at = inl (at, refl)
kept_covers last later old new [] files (c ∷ cs) file turns disk is_cut at = absurd is_cut
kept_covers last later old new (t ∷ ts) files cut file (mid, turn, rest) disk is_cut at =
    by (λ after cut_after there. kept_covers (last_kept last (snapshot_of mid) t.keeping) later mid new ts (on_disk files (calls_of_turn t)) after file rest
    (disk_after_keeping last (snapshot_of mid) t.keeping (given_in t) files turn.keeps disk) cut_after there)
    (cut_in (calls_of_turn t) (calls_of ts) cut is_cut)
  where
    within : IsOf files cut (snapshot_of mid) t.turn.sendings file → Covers old (t ∷ ts) files cut file
    within (inl old_file) = inl old_file
    within (inr (octets, is, is_of, among)) = inr (octets, is, by_first last old mid t ts cut octets turn is_of among)

    first_only : (after : List Call) → cut ≡ calls_of_turn t ++ after → sent_in after ≡ [] →
        IsOf files (calls_of_turn t) (snapshot_of mid) t.turn.sendings file → Covers old (t ∷ ts) files cut file
    first_only after is none (inl (old_file, not)) =
        inl (old_file, ap sent_in is ∙ sent_joined (calls_of_turn t) after ∙ ap (λ xs. xs ++ sent_in after) not ∙ none)
    first_only after is none (inr (octets, same, is_of, among)) =
        inr (
          octets,
          same,
          by_first last old mid t ts cut octets turn is_of
              (subst (λ xs. AreIn xs t.turn.sendings) (sym (ap sent_in is ∙ sent_joined (calls_of_turn t) after))
              (λ x h. none_more x (joined_in (sent_in (calls_of_turn t)) (sent_in after) t.turn.sendings [] (sent_given t) (subst (λ xs. AreIn xs []) (sym none) (none_in [])) x h))),
        )
      where
        none_more : (x : Sending) → Contains (t.turn.sendings ++ []) x → Contains t.turn.sendings x
        none_more x h = subst (λ xs. Contains xs x) (append-nil t.turn.sendings) h

    beyond : (after : List Call) → cut ≡ calls_of_turn t ++ after → Covers mid ts (on_disk files (calls_of_turn t)) after file → Covers old (t ∷ ts) files cut file
    beyond after is (inl (there, none)) =
        first_only after is none (turn_cut last (snapshot_of mid) t files (calls_of_turn t) file turn.keeps disk (whole_cut (calls_of_turn t)) there)
    beyond after is (inr (octets, same, more)) = inr (octets, same, by_more last old mid t ts cut after octets turn is more)

    by : ((after : List Call) → IsCutOf after (calls_of ts) → Contains (on_disk (on_disk files (calls_of_turn t)) after) file → Covers mid ts (on_disk files (calls_of_turn t)) after file) →
        IsCutOf cut (calls_of_turn t) ⊎ After (calls_of_turn t) (calls_of ts) cut → Covers old (t ∷ ts) files cut file
    by go (inl in_turn) = within (turn_cut last (snapshot_of mid) t files cut file turn.keeps disk in_turn at)
    by go (inr (after, is, cut_after)) = beyond after is
        (go after cut_after (subst (λ fs. Contains fs file) (ap (on_disk files) is ∙ disk_joined files (calls_of_turn t) after) at))

pub crash_restarts : CrashesAreRestarts
crash_restarts now config old turns cut octets covered = ap (restored now config) covered.octets_of.read.same
