use Rattle.std.proofs.Common.{length, refl, ap, ◌∙◌, arith}
use Rattle.std.proofs.KnownBytes.{Keeps-refl, Keeps-trans}
use Rattle.coy_io.specs.Lines.{line_len}
use Rattle.coy_io.proofs.FirstLine.{line_len_grows}
use Rattle.coy_io.proofs.search.find_line.Goals as goal

pub reading-init : goal.reading-init
reading-init g c = record {
  read = omega arith;
  within = c.requires;
  ahead = Keeps-refl _;
  first = λ h. (refl, refl);
  faults = refl;
  counts = record { bytes = omega arith; made = omega arith; vain = omega arith };
}

pub reading-preserved : goal.reading-preserved
reading-preserved g c =
    let e = c.in-Ok.ensures in
    let before = c.reading.invariant in
    let bytes = c.as_slice-bytes.ensures.value in
    let end = c.first_line_from-end.ensures.value ∙ ap line_len bytes in
    let len = ap length bytes in
    let grows = line_len_grows _ _ e.front in
    record {
      read = omega (arith, grows, end);
      within = omega (arith, end, len, e.length, e.most);
      ahead = Keeps-trans _ _ _ before.ahead e.ahead;
      first = λ h. let same = (before.first h).1 in absurd (omega (arith, end, len, ap line_len same, ap length same));
      faults = cc (e.cause.quiet);
      counts = record {
        bytes = omega (arith, before.counts.bytes, e.counts.bytes_given, e.length);
        made = omega (arith, before.counts.made, e.counts.one, e.length);
        vain = omega (arith, before.counts.vain, e.counts.moving (omega arith));
      };
    }
