-- What may be on disk is what was kept last, or tried since.
use Rattle.std.proofs.Common.{◌≡◌, ◌⊎◌, ℕ, Bool, true, false, true≢false, List, [], ◌∷◌, ◌++◌, Contains, Some, refl, sym, ap, ◌∙◌, subst, inl, inr}
use Rattle.babel_wire.specs.Calls.{Call, Recv, Now, Send, Keep}
use Rattle.babel_wire.specs.Cuts.{File, after_call, on_disk, NoneKept, IsLastTried}
use Rattle.babel_wire.specs.DurableLaws.{FilesAreLastTried}
use Rattle.babel_wire.proofs.Members.{not_in_none, in_one, first_in, later_in, in_more}

abbrev has_kept : Call → Bool
has_kept (Keep octets is_done) = is_done
has_kept (Recv receipt) = false
has_kept (Now moment) = false
has_kept (Send x) = false

none_before : (c : Call) (cs : List Call) → has_kept c ≡ false → NoneKept cs → NoneKept (c ∷ cs)
none_before c cs not none octets h = by (in_more c cs (Keep octets true) h)
  where
    by : (Keep octets true ≡ c) ⊎ Contains cs (Keep octets true) → ⊥
    by (inl is) = true≢false (ap has_kept is ∙ not)
    by (inr later) = none octets later

none_later : (c : Call) (cs : List Call) → NoneKept (c ∷ cs) → NoneKept cs
none_later c cs none octets h = none octets (later_in c cs (Keep octets true) h)

-- ---- from the files to the calls

abbrev Tried : List File → List Call → File → Type 0
Tried files calls file = IsLastTried files calls file

tried_now : (files : List File) (octets : List ℕ) (is_done : Bool) (cs : List Call) (file : File) → file ≡ Some octets → NoneKept cs →
    Tried files (Keep octets is_done ∷ cs) file
tried_now files octets is_done cs file is none =
    inl (octets, is, record { before = []; is_done = is_done; after = cs; whole = refl; last = none })

there_before : (files : List File) (c : Call) (cs : List Call) (file : File) → Contains (after_call files c) file → NoneKept cs → Tried files (c ∷ cs) file
there_before files (Recv receipt) cs file h none = inr (h, none_before (Recv receipt) cs refl none)
there_before files (Now moment) cs file h none = inr (h, none_before (Now moment) cs refl none)
there_before files (Send x) cs file h none = inr (h, none_before (Send x) cs refl none)
there_before files (Keep octets true) cs file h none = tried_now files octets true cs file (in_one (Some octets) file h) none
there_before files (Keep octets false) cs file h none = by (in_more (Some octets) files file h)
  where
    by : (file ≡ Some octets) ⊎ Contains files file → Tried files (Keep octets false ∷ cs) file
    by (inl is) = tried_now files octets false cs file is none
    by (inr old) = inr (old, none_before (Keep octets false) cs refl none)

tried : (files : List File) (calls : List Call) (file : File) → Contains (on_disk files calls) file → Tried files calls file
tried files [] file h = inr (h, λ octets. not_in_none (Keep octets true))
tried files (c ∷ cs) file h = by (tried (after_call files c) cs file h)
  where
    by : Tried (after_call files c) cs file → Tried files (c ∷ cs) file
    by (inl (octets, is, t)) =
        inl (octets, is, record { before = c ∷ t.before; is_done = t.is_done; after = t.after; whole = ap (λ ds. c ∷ ds) t.whole; last = t.last })
    by (inr (old, none)) = there_before files c cs file old none

-- ---- and back

still_there : (c : Call) (cs : List Call) (files : List File) (file : File) → NoneKept (c ∷ cs) → Contains files file → Contains (after_call files c) file
still_there (Recv receipt) cs files file none h = h
still_there (Now moment) cs files file none h = h
still_there (Send x) cs files file none h = h
still_there (Keep octets true) cs files file none h = absurd (none octets (first_in (Keep octets true) cs))
still_there (Keep octets false) cs files file none h = later_in (Some octets) files file h

stays : (cs : List Call) (files : List File) (file : File) → NoneKept cs → Contains files file → Contains (on_disk files cs) file
stays [] files file none h = h
stays (c ∷ cs) files file none h = stays cs (after_call files c) file (none_later c cs none) (still_there c cs files file none h)

pub disk_joined : (files : List File) (xs ys : List Call) → on_disk files (xs ++ ys) ≡ on_disk (on_disk files xs) ys
disk_joined files [] ys = refl
disk_joined files (x ∷ xs) ys = disk_joined (after_call files x) xs ys

just_tried : (files : List File) (octets : List ℕ) (is_done : Bool) → Contains (after_call files (Keep octets is_done)) (Some octets)
just_tried files octets true = first_in (Some octets) []
just_tried files octets false = first_in (Some octets) files

there : (files : List File) (calls : List Call) (file : File) → Tried files calls file → Contains (on_disk files calls) file
there files calls file (inl (octets, is, t)) =
    subst (λ f. Contains (on_disk files calls) f) (sym is)
    (subst (λ cs. Contains (on_disk files cs) (Some octets)) (sym t.whole)
    (subst (λ fs. Contains fs (Some octets)) (sym (disk_joined files t.before (Keep octets t.is_done ∷ t.after)))
    (stays t.after (after_call (on_disk files t.before) (Keep octets t.is_done)) (Some octets) t.last (just_tried (on_disk files t.before) octets t.is_done))))
there files calls file (inr (old, none)) = stays calls files file none old

pub last_tried : FilesAreLastTried
last_tried files calls file = (tried files calls file, there files calls file)
