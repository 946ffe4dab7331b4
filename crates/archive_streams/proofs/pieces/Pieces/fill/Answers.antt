use Rattle.std.proofs.Common.{◌≡◌, ◌<◌, ◌++◌, [], ℕ, List, length, take, arith, ap, refl, sym}
use Rattle.archive_streams.specs.Pieces.{size_of}
use Rattle.archive_streams.proofs.Giving.{Consumes-none, given_anew, none_unused, one_call}
use Rattle.archive_streams.proofs.pieces.Pieces.fill.Goals as goal

pub returns-in-Err-clause-reads : goal.returns-in-Err-clause-reads
returns-in-Err-clause-reads g c = record {
  more = [];
  consumed = Consumes-none _ _ c.in-Err.ensures.octets;
  grown = sym (ap (λ (s : List ℕ). s ++ []) (none_unused c.args.self.now.start c.args.self.now.end c.args.self.now.piece.items
      c.if-self.false));
  size = refl;
  far = omega arith;
  calls = λ h. omega (arith, h, c.in-Err.ensures.counted, c.args.self.now.few);
  ends = λ h. omega (arith, c.in-Err.ensures.no_end);
  at_end = λ h k. absurd (omega (arith, k, c.if-self-gt0.false));
}

pub returns-then-n-eq0-clause-reads : goal.returns-then-n-eq0-clause-reads
returns-then-n-eq0-clause-reads g c =
    let p = c.args.self.now in
    let none : p.ends ≡ 0 = omega (arith, c.if-self-gt0.false) in
    let size : length c.read.new.buf ≡ size_of p = omega arith in
    let asked : 0 < length c.read.new.buf = omega (arith, size, p.some) in
    let ended = c.in-Ok.ensures.ended c.if-n-eq0.true asked in
    let few = g.met.R.Input.few_ends c.args.reader.now in
    record {
      more = take c.in-Ok.n c.read.new.buf;
      consumed = c.in-Ok.ensures.octets;
      grown = given_anew (size_of p) p.start p.end c.in-Ok.n p.piece.items c.read.new.buf size c.if-self.false;
      size = refl;
      far = one_call (size_of p) p.calls c.in-Ok.n c.read.new.buf size c.in-Ok.ensures.within;
      calls = λ low. omega (arith, low, c.in-Ok.ensures.counted, p.few);
      ends = λ low. omega (arith, low, few, ended, none, p.few);
      at_end = λ before more. c.in-Ok.ensures.at_end c.if-n-eq0.true asked;
    }

pub returns-else-n-eq0-clause-reads : goal.returns-else-n-eq0-clause-reads
returns-else-n-eq0-clause-reads g c =
    let p = c.args.self.now in
    let none : p.ends ≡ 0 = omega (arith, c.if-self-gt0.false) in
    let size : length c.read.new.buf ≡ size_of p = omega arith in
    let unended = c.in-Ok.ensures.no_end (omega (arith, c.if-n-eq0.false)) in
    record {
      more = take c.in-Ok.n c.read.new.buf;
      consumed = c.in-Ok.ensures.octets;
      grown = given_anew (size_of p) p.start p.end c.in-Ok.n p.piece.items c.read.new.buf size c.if-self.false;
      size = refl;
      far = one_call (size_of p) p.calls c.in-Ok.n c.read.new.buf size c.in-Ok.ensures.within;
      calls = λ low. omega (arith, low, c.in-Ok.ensures.counted, p.few);
      ends = λ low. omega (arith, unended);
      at_end = λ before more. absurd (omega (arith, more, none));
    }
