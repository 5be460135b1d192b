-- What is asked, and the lines that ask it (profile).
use Rattle.std.specs.Prelude.{◌≡◌, ℕ, List, [], ◌∷◌, ◌++◌, Option, Some, None, MatchOption, codes}
use denote.Ref.{Bor}
use Rattle.babel_ask.specs.declared.questions.Question.{Question}
use Rattle.babel_ask.specs.declared.questions.Question.TheVariants.{Neighbours, Routes, Why, Log, Counts}

-- The octet that ends a line.
abbrev pub line_feed : ℕ
line_feed = 10

-- The last line ends the connection.
abbrev pub quitting : List ℕ
quitting = codes "quit" ++ line_feed ∷ []

-- A dump has the neighbours, the routes and the names of the devices, and `expiries` when they are given up.
abbrev pub request_text : Question → List ℕ
request_text Neighbours = codes "dump" ++ line_feed ∷ codes "expiries" ++ line_feed ∷ quitting
request_text Routes = codes "dump" ++ line_feed ∷ codes "expiries" ++ line_feed ∷ quitting
request_text (Why prefix) = codes "dump" ++ line_feed ∷ codes "why " ++ prefix.now ++ line_feed ∷ quitting
request_text Log = codes "log on" ++ line_feed ∷ []
request_text Counts = codes "counts" ++ line_feed ∷ quitting

-- The words that ask a question: one, or `why` and a prefix.
abbrev pub Ask : List ℕ → Option (Bor (List ℕ)) → Question → Type 0
Ask word prefix Neighbours = (word ≡ codes "neighbours") × (prefix ≡ None)
Ask word prefix Routes = (word ≡ codes "routes") × (prefix ≡ None)
Ask word prefix (Why text) = (word ≡ codes "why") × (prefix ≡ Some text)
Ask word prefix Log = (word ≡ codes "log") × (prefix ≡ None)
Ask word prefix Counts = (word ≡ codes "counts") × (prefix ≡ None)

-- The question that the words ask; none only if they ask none.
abbrev pub IsQuestionOf : List ℕ → Option (Bor (List ℕ)) → Option Question → Type 0
IsQuestionOf word prefix read = MatchOption read ((question : Question) → ¬ (Ask word prefix question)) (Ask word prefix)
