-- The whole file was read.
use Rattle.std.proofs.Common.{◌≡◌, ◌<◌, List, ℕ, [], ◌++◌, length, take, IfSome, arith, subst}
use Rattle.std.specs.Option.{option_map}
use Rattle.babel_config.proofs.FileReading.{front_is_whole}
use Rattle.babel_config.proofs.files.read_file.Goals as goal

pub returns-clause-whole : goal.returns-clause-whole
returns-clause-whole g c =
    let octets : List ℕ = c.read_to_end.new.buf.items in
    let short : length octets < 1048577 = omega (arith, c.if-len-gt-MAX_FILE_LEN.false, c.len.ensures) in
    let at_input : IfSome (option_map (take c.take-front.result.limit) (g.R.Read.remaining c.args.input)) (λ front. octets ≡ c.new-octets.result.items ++ front) =
    subst (λ x. IfSome (option_map (take c.take-front.result.limit) (g.R.Read.remaining x)) (λ front. octets ≡ c.new-octets.result.items ++ front)) c.take-front.ensures.inner c.in_ok-read_to_end.ensures.bytes in
    let at_limit : IfSome (option_map (take 1048577) (g.R.Read.remaining c.args.input)) (λ front. octets ≡ c.new-octets.result.items ++ front) =
    subst (λ n. IfSome (option_map (take n) (g.R.Read.remaining c.args.input)) (λ front. octets ≡ c.new-octets.result.items ++ front)) c.take-front.ensures.limit at_input in
    let at_empty : IfSome (option_map (take 1048577) (g.R.Read.remaining c.args.input)) (λ front. octets ≡ [] ++ front) =
    subst (λ before. IfSome (option_map (take 1048577) (g.R.Read.remaining c.args.input)) (λ front. octets ≡ before ++ front)) c.new-octets.ensures.items at_limit in
    front_is_whole (g.R.Read.remaining c.args.input) 1048577 octets short at_empty
