use Rattle.std.proofs.Common.{◌≡◌, ◌+◌, length, vec_len, take, sym, subst, ◌∙◌, append-nil, rules, arith, length-take-le}
use Rattle.std.specs.Io.KnownBytes.{Consumes}
use Rattle.std.specs.Io.BufRead.{FillKeeps}
use Rattle.std.proofs.BufReadLemmas.{Consumes_shown}
use Rattle.babel_replay.proofs.LineReading.{found_plain, found_feed, StartsWith-take}
use Rattle.babel_replay.proofs.reading.read_part.Goals as goal

pub returns-then-count-len-clause-too_long : goal.returns-then-count-len-clause-too_long
returns-then-count-len-clause-too_long g c _ =
    let shown = c.in-Ok.shown.now in
    let count = c.unwrap_or-count.result in
    let plain = found_plain shown count _ c.memchr-found.ensures c.unwrap_or-count.ensures in
    let same : vec_len c.args.line.now ≡ length c.args.line.now.items = search rules in
    record {
      part = take count shown;
      plain = plain.1;
      front = StartsWith-take _ shown count plain.0 c.in-Ok.ensures.front;
      long = omega (arith, c.if-count-len.true, c.len.ensures, same, length-take-le count shown plain.0);
    }

pub returns-then-is_some-clause-part : goal.returns-then-is_some-clause-part
returns-then-is_some-clause-part g c =
    let shown = c.in-Ok.shown.now in
    let count = c.unwrap_or-count.result in
    let plain = found_plain shown count _ c.memchr-found.ensures c.unwrap_or-count.ensures in
    let feed = found_feed shown count _ c.memchr-found.ensures c.unwrap_or-count.ensures (sym c.is_some.ensures ∙ c.if-is_some.true) in
    let rested = c.fill_buf.follows.lender-at-none in
    let filled = subst (FillKeeps _ (g.R.Read.remaining rested) (g.R.BufRead.consumable_len rested)) c.in-Ok.is c.fill_buf.follows.holds-at-none in
    let moved = Consumes_shown _ _ _ _ shown (count + 1) (omega (arith, feed.0)) c.in-Ok.ensures.front c.in-Ok.ensures.end filled.0 filled.1 c.consume.ensures.bytes in
    record {
      part = take count shown;
      appended = search rules;
      plain = plain.1;
      taken = subst (Consumes _ _) feed.1 moved.0;
    }

pub returns-clause-part : goal.returns-clause-part
returns-clause-part g c =
    let shown = c.in-Ok.shown.now in
    let count = c.unwrap_or-count.result in
    let plain = found_plain shown count _ c.memchr-found.ensures c.unwrap_or-count.ensures in
    let rested = c.fill_buf.follows.lender-at-none in
    let filled = subst (FillKeeps _ (g.R.Read.remaining rested) (g.R.BufRead.consumable_len rested)) c.in-Ok.is c.fill_buf.follows.holds-at-none in
    let moved = Consumes_shown _ _ _ _ shown count plain.0 c.in-Ok.ensures.front c.in-Ok.ensures.end filled.0 filled.1 c.consume-2.ensures.bytes in
    record {
      part = take count shown;
      appended = search rules;
      plain = plain.1;
      taken = subst (Consumes _ _) (sym (append-nil (take count shown))) moved.0;
    }
