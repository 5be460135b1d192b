-- What a keeper knows.
use Rattle.std.proofs.Common.{◌≡◌, ◌<◌, ℕ, true, false, List, [], ◌∷◌, Option, Some, None, refl, sym, ap, ◌∙◌, subst, arith}
use Rattle.babel_state.specs.Restarts.{Snapshot, snapshot_of}
use Rattle.babel_snapshot.specs.Octets.{snapshot_octets}
use Rattle.babel_snapshot.specs.SnapshotLaws.{IsRead}
use Rattle.babel_speaker.specs.Versions.{SpeakerValue, greatest_version}
use Rattle.babel_wire.specs.Calls.{Call, Keep, Grows}
use Rattle.babel_wire.proofs.Sendings.{grows_not}
use Rattle.babel_wire.specs.Keeping.{Keeping, Unchanged, NotMade, Tried, last_kept}
use Rattle.babel_wire.specs.DurableRuns.{Fits, KeepersFitOn, IsKept, IsKeeping, kept_version}

pub some_same : {A : Type 0} (a b : A) → Some a ≡ Some b → a ≡ b
some_same {A = A} a b same = ap (λ (o : Option A). elim o [ None ↦ a | Some x ↦ x ]) same

pub keepers_fit_on : KeepersFitOn
keepers_fit_on None None old new fits counted = tt
keepers_fit_on None (Some version) old new fits counted = absurd fits
keepers_fit_on (Some snapshot) None old new fits counted = absurd fits
keepers_fit_on (Some snapshot) (Some version) old new fits counted = (
  omega (arith, fits.0, counted.snapshot_grows),
  λ same below.
      let first : version ≡ old.snapshot_version = omega (arith, fits.0, counted.snapshot_grows, same) in
      let then : new.snapshot_version ≡ old.snapshot_version = sym same ∙ first in
      fits.1 first below ∙ sym (counted.snapshot then (subst (λ v. v < greatest_version) same below)),
)

pub keeping_not_made : (speaker : SpeakerValue) (known : Option ℕ) (h : Option (List Call)) (count : ℕ) → count ≡ speaker.snapshot_version →
    (IsKept known count → ⊥) → IsKeeping speaker known h known h false
keeping_not_made speaker known h count is other = record {
  keeping = NotMade;
  keeps = λ last fits. tt;
  done = refl;
  keeper = refl;
  calls = grows_not h;
  quiet = λ kept. absurd (other (subst (IsKept known) (sym is) kept));
}

pub keeping_done : (speaker : SpeakerValue) (known : Option ℕ) (h : Option (List Call)) (count : ℕ) → count ≡ speaker.snapshot_version →
    (IsKept known count → ⊥) → (octets given : List ℕ) → octets ≡ snapshot_octets (snapshot_of speaker.state) →
    IsRead speaker.state.router octets (snapshot_of speaker.state) → given ≡ octets → (h1 : Option (List Call)) →
    Grows h (Keep given true ∷ []) h1 → IsKeeping speaker known h (Some count) h1 true
unfolding snapshot_of
keeping_done speaker known h count is other octets given written read same h1 grows = record {
  keeping = Tried octets true;
  keeps = λ last fits. record { written = written; read = read };
  done = refl;
  keeper = ap Some is;
  calls = subst (λ (o : List ℕ). Grows h (Keep o true ∷ []) h1) same grows;
  quiet = λ kept. absurd (other (subst (IsKept known) (sym is) kept));
}

pub keeping_failed : (speaker : SpeakerValue) (known : Option ℕ) (h : Option (List Call)) (count : ℕ) → count ≡ speaker.snapshot_version →
    (IsKept known count → ⊥) → (octets given : List ℕ) → octets ≡ snapshot_octets (snapshot_of speaker.state) →
    IsRead speaker.state.router octets (snapshot_of speaker.state) → given ≡ octets → (h1 : Option (List Call)) →
    Grows h (Keep given false ∷ []) h1 → IsKeeping speaker known h None h1 false
unfolding snapshot_of
keeping_failed speaker known h count is other octets given written read same h1 grows = record {
  keeping = Tried octets false;
  keeps = λ last fits. record { written = written; read = read };
  done = refl;
  keeper = refl;
  calls = subst (λ (o : List ℕ). Grows h (Keep o false ∷ []) h1) same grows;
  quiet = λ kept. absurd (other (subst (IsKept known) (sym is) kept));
}

-- What it knows after a turn is what was kept last.
pub fits_after : (last : Option Snapshot) (known : Option ℕ) (speaker : SpeakerValue) (keeping : Keeping) → Fits last known speaker →
    Fits (last_kept last (snapshot_of speaker.state) keeping) (kept_version known speaker.snapshot_version keeping) speaker
fits_after last known speaker Unchanged fits = fits
fits_after last known speaker NotMade fits = fits
fits_after last known speaker (Tried octets true) fits = (omega arith, λ same below. refl)
fits_after last known speaker (Tried octets false) fits = tt
