-- Several processes, each started from what is on disk when the one before it was killed.
use Rattle.std.proofs.Common.{◌≡◌, ◌⊎◌, ℕ, zero, suc, List, [], ◌∷◌, ◌++◌, take, Contains, Some, None, refl, sym, ap, ◌∙◌, subst, inl, inr, append_assoc}
use Rattle.std.proofs.lemmas.List.{append-nil}
use Rattle.std.proofs.lemmas.List.Elements.{Contains-append_left}
use Rattle.babel_state.specs.declared.configs.Config.{Config}
use Rattle.babel_state.specs.Calls.{first_state}
use Rattle.babel_state.specs.Restarts.{restored, restarted}
use Rattle.babel_state.specs.State.{State}
use Rattle.babel_wire.specs.Calls.{Receipt, Sending}
use Rattle.babel_wire.specs.Cuts.{File, on_disk, sent_in}
use Rattle.babel_wire.specs.Intakes.{DurableStep, Turning, TakingIn, Requesting, Losing, Grouping, receipts_in, taken_by, IsCoveredBySteps}
use Rattle.babel_wire.specs.Lives.{Stage, Steps, Restart, Leads, received, taken, started, Process, IsProcess, come_to, sent_by, disk_after, IsFileOf, IsReached, AreReached}
use Rattle.babel_wire.specs.DurableLaws.{ProcessesAreCovered, ProcessesStayCovered}
use Rattle.babel_wire.proofs.IntakeCovering.{steps_cover}
use Rattle.babel_wire.proofs.Members.{AreIn, joined_in, none_in, in_one}

leads_joined : (config : Config) (old mid new : State) (xs ys : List Stage) → Leads config old xs mid → Leads config mid ys new → Leads config old (xs ++ ys) new
leads_joined config old mid new [] ys same after = subst (λ s. Leads config s ys new) same after
leads_joined config old mid new (Steps steps ∷ xs) ys (next, made, rest) after = (next, made, leads_joined config next mid new xs ys rest after)
leads_joined config old mid new (Restart now ∷ xs) ys rest after = leads_joined config (restarted now config old) mid new xs ys rest after

received_joined : (xs ys : List Stage) → received (xs ++ ys) ≡ received xs ++ received ys
received_joined [] ys = refl
received_joined (Steps steps ∷ xs) ys =
    ap (λ zs. receipts_in steps ++ zs) (received_joined xs ys) ∙ sym (append_assoc (receipts_in steps) (received xs) (received ys))
received_joined (Restart now ∷ xs) ys = received_joined xs ys

taken_joined : (xs ys : List Stage) → taken (xs ++ ys) ≡ taken xs ++ taken ys
taken_joined [] ys = refl
taken_joined (Steps steps ∷ xs) ys = ap (λ zs. taken_by steps ++ zs) (taken_joined xs ys) ∙ sym (append_assoc (taken_by steps) (taken xs) (taken ys))
taken_joined (Restart now ∷ xs) ys = taken_joined xs ys

pub first_receipts : (count : ℕ) (steps : List DurableStep) → AreIn (receipts_in (take count steps)) (receipts_in steps)
first_receipts zero steps = none_in (receipts_in steps)
first_receipts (suc count) [] = none_in []
first_receipts (suc count) (Turning t ∷ steps) =
    joined_in (t.turn.receipt ∷ []) (receipts_in (take count steps)) (t.turn.receipt ∷ []) (receipts_in steps) (λ r h. h) (first_receipts count steps)
first_receipts (suc count) (Requesting now ∷ steps) = first_receipts count steps
first_receipts (suc count) (Losing now iface ∷ steps) = first_receipts count steps
first_receipts (suc count) (Grouping ∷ steps) = first_receipts count steps
first_receipts (suc count) (TakingIn i ∷ steps) =
    joined_in (i.receipt ∷ []) (receipts_in (take count steps)) (i.receipt ∷ []) (receipts_in steps) (λ r h. h) (first_receipts count steps)

-- The stages to the state in which a process starts.
record IsBegun (config : Config) (first : State) (come : List Receipt) (sent : List Sending) (state : State) : Type 0 where
  pub stages : List Stage
  pub leads : Leads config first stages state
  pub came : AreIn (received stages) come
  pub covers : AreIn sent (taken stages)

begun_from : (now : ℕ) (config : Config) (first : State) (come : List Receipt) (sent : List Sending) (file : File) → IsReached config first come sent file →
    IsBegun config first come sent (started now config file)
begun_from now config first come sent None reached = record {
  stages = reached.stages;
  leads = subst (Leads config first reached.stages) reached.file_of reached.leads;
  came = reached.came;
  covers = reached.covers;
}
begun_from now config first come sent (Some octets) reached = record {
  stages = reached.stages ++ Restart now ∷ [];
  leads = leads_joined config first reached.state (started now config (Some octets)) reached.stages (Restart now ∷ []) reached.leads
      (ap (restored now config) reached.file_of.read.same);
  came = subst (λ rs. AreIn rs come) (sym (received_joined reached.stages (Restart now ∷ []) ∙ append-nil (received reached.stages))) reached.came;
  covers = subst (AreIn sent) (sym (taken_joined reached.stages (Restart now ∷ []) ∙ append-nil (taken reached.stages))) reached.covers;
}

-- The files after one process.
one_covered : (config : Config) (first : State) (come : List Receipt) (sent : List Sending) (files : List File) (p : Process) → AreReached config first come sent files →
    IsProcess config files p → AreReached config first (come ++ receipts_in p.steps) (sent ++ sent_in p.cut) (on_disk files p.cut)
one_covered config first come sent files p reached is file at =
    by (steps_cover None is.last (started p.now config p.file) is.state p.steps files p.cut file is.steps tt is.is_cut at)
  where
    begun : IsBegun config first come sent (started p.now config p.file)
    begun = begun_from p.now config first come sent p.file (reached p.file is.is_there)

    more_came : IsReached config first come sent file → IsReached config first (come ++ receipts_in p.steps) sent file
    more_came r = record {
      stages = r.stages;
      state = r.state;
      leads = r.leads;
      file_of = r.file_of;
      came = λ x h. Contains-append_left come (receipts_in p.steps) x (r.came x h);
      covers = r.covers;
    }

    by : (Contains files file × (sent_in p.cut ≡ [])) ⊎ ((octets : List ℕ) × (file ≡ Some octets) × IsCoveredBySteps (started p.now config p.file) p.steps p.cut octets) →
        IsReached config first (come ++ receipts_in p.steps) (sent ++ sent_in p.cut) file
    by (inl (old, none)) =
        subst (λ xs. IsReached config first (come ++ receipts_in p.steps) xs file) (sym (ap (λ ys. sent ++ ys) none ∙ append-nil sent)) (more_came (reached file old))
    by (inr (octets, same, covered)) =
        let steps : List DurableStep = take covered.count p.steps in record {
          stages = begun.stages ++ Steps steps ∷ [];
          state = covered.state;
          leads = leads_joined config first (started p.now config p.file) covered.state begun.stages (Steps steps ∷ []) begun.leads
              (covered.state, covered.reached, refl);
          file_of = subst (IsFileOf config covered.state) (sym same) covered.octets_of;
          came = subst (λ rs. AreIn rs (come ++ receipts_in p.steps))
              (sym (received_joined begun.stages (Steps steps ∷ []) ∙ ap (λ zs. received begun.stages ++ zs) (append-nil (receipts_in steps))))
              (joined_in (received begun.stages) (receipts_in steps) come (receipts_in p.steps) begun.came (first_receipts covered.count p.steps));
          covers = subst (AreIn (sent ++ sent_in p.cut))
              (sym (taken_joined begun.stages (Steps steps ∷ []) ∙ ap (λ zs. taken begun.stages ++ zs) (append-nil (taken_by steps))))
              (joined_in sent (sent_in p.cut) (taken begun.stages) (taken_by steps) begun.covers covered.covers);
        }

pub stay_covered : ProcessesStayCovered
stay_covered config first come sent files [] reached is =
    subst (λ xs. AreReached config first (come ++ []) xs files) (sym (append-nil sent)) (subst (λ rs. AreReached config first rs sent files) (sym (append-nil come)) reached)
stay_covered config first come sent files (p ∷ ps) reached (one, rest) =
    subst (λ xs. AreReached config first (come ++ (receipts_in p.steps ++ come_to ps)) xs (disk_after (on_disk files p.cut) ps)) (append_assoc sent (sent_in p.cut) (sent_by ps))
    (subst (λ rs. AreReached config first rs ((sent ++ sent_in p.cut) ++ sent_by ps) (disk_after (on_disk files p.cut) ps)) (append_assoc come (receipts_in p.steps) (come_to ps))
    (stay_covered config first (come ++ receipts_in p.steps) (sent ++ sent_in p.cut) (on_disk files p.cut) ps (one_covered config first come sent files p reached one) rest))

pub all_covered : ProcessesAreCovered
all_covered config processes is = stay_covered config (first_state config) [] [] (None ∷ []) processes new is
  where
    no_file : (file : File) → file ≡ None → IsReached config (first_state config) [] [] file
    no_file file none = record {
      stages = [];
      state = first_state config;
      leads = refl;
      file_of = subst (IsFileOf config (first_state config)) (sym none) refl;
      came = none_in [];
      covers = none_in [];
    }

    new : AreReached config (first_state config) [] [] (None ∷ [])
    new file at = no_file file (in_one None file at)
