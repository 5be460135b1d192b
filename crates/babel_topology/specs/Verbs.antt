-- The words for what happens (profile).
use Rattle.std.specs.Prelude.{◌≡◌, ℕ, List, codes}
use Rattle.babel_topology.specs.declared.verbs.Verb.{Verb}
use Rattle.babel_topology.specs.declared.verbs.Verb.TheVariants as verbs

abbrev pub verb_text : Verb → List ℕ
verb_text verbs.Cut = codes "cut"
verb_text verbs.Join = codes "join"
verb_text verbs.Cost = codes "cost"
verb_text verbs.Lossy = codes "lossy"
verb_text verbs.Announce = codes "announce"
verb_text verbs.Withdraw = codes "withdraw"
verb_text verbs.Restart = codes "restart"
verb_text verbs.Crash = codes "crash"

abbrev pub IsVerbText : List ℕ → Verb → Type 0
IsVerbText text verb = text ≡ verb_text verb
