use Rattle.std.proofs.Common.{rules, ◌≡◌, ◌+◌, ◌-◌, ◌++◌, ◌≤◌, drop, take, List, ℕ, length, sym, ap, subst, Option, length-append, ◌∙◌, arith}
use Rattle.std.proofs.lemmas.List.{length-take, take-append-le}
use Rattle.std.specs.Prelude.{IsSome, IsSomeAnd}
use Rattle.disk.specs.Calls.{Gives}
use Rattle.disk.specs.Files.{File}
use Rattle.disk.specs.States.{Entry}
use Rattle.store_follow.proofs.Octets.{is_there, read_more, shown_same, unchanged_then}
use Rattle.store_follow.proofs.reading.read_at.Goals as goal

pub loop-piece-preserved : goal.loop-piece-preserved
loop-piece-preserved g c =
    let i = c.loop-piece.invariant in
    let n = c.in_ok-n.n in
    let buf = c.read.new.buf in
    let old = c.loop-piece.octets.items in
    let within : n ≤ length buf = c.in_ok-n.ensures.within in
    let piece = take n (buf ++ drop c.min-wanted.result c.loop-piece.piece) in
    let is : c.extend_from_slice.new.self.items ≡ old ++ piece = c.in_ok-extend_from_slice.ensures.items in
    let piece_is : piece ≡ take n buf = take-append-le n buf (drop c.min-wanted.result c.loop-piece.piece) within in
    let read : c.len-in-loop-piece.result ≡ length old = search rules in
    let sizes : length buf ≤ c.args.len - length old =
    omega (arith, c.read.auto.buf, length-take c.min-wanted.result c.loop-piece.piece, c.min-wanted.ensures, read) in
    let size : length piece ≤ length buf = omega (arith, ap (λ (l : List ℕ). length l) piece_is, length-take n buf) in
    let len_is : c.len-in-loop-piece-2.result ≡ length old = search rules in
    record {
      told = λ tells. i.told (c.in_ok-n.ensures.told tells);
      same = λ tells. unchanged_then (g.D.Disk.state c.args.disk.now) (g.D.Disk.state c.loop-piece.disk)
          (g.D.Disk.state c.read.new.self) (i.same (c.in_ok-n.ensures.told tells)) (c.in_ok-n.ensures.done tells).same;
      within = omega (arith, ap (λ (l : List ℕ). length l) is, length-append old piece, i.within, sizes, size);
      there = λ some tells sound.
          let same = i.same (c.in_ok-n.ensures.told tells) in
          subst (λ (o : Option File). IsSome o) (shown_same (g.D.Disk.state c.args.disk.now)
          (g.D.Disk.state c.loop-piece.disk) c.args.name.now same)
          (is_there ((g.D.Disk.state c.loop-piece.disk).entries c.args.name.now).now _
          ((c.in_ok-n.ensures.done tells).gives (same.lost ∙ sound)));
      read = λ tells sound file shown.
          let before = c.in_ok-n.ensures.told tells in
          let same = i.same before in
          let now = ((g.D.Disk.state c.loop-piece.disk).entries c.args.name.now).now in
          let given : IsSomeAnd now (λ f. Gives f (c.args.at + c.len-in-loop-piece-2.result) buf n) =
          (c.in_ok-n.ensures.done tells).gives (same.lost ∙ sound) in
          let gives : IsSomeAnd now (λ f. Gives f (c.args.at + length old) buf n) =
          subst (λ (k : ℕ). IsSomeAnd now (λ f. Gives f (c.args.at + k) buf n)) len_is given in
          subst (λ (l : List ℕ). l ≡ take (length l) (drop c.args.at file)) (sym is)
          (read_more ((g.D.Disk.state c.loop-piece.disk).entries c.args.name.now).now
          ((g.D.Disk.state c.args.disk.now).entries c.args.name.now) file old buf piece c.args.at n
          (ap (λ (e : Entry). e.now) (sym (same.entries c.args.name.now))) gives shown (i.read before sound file shown) piece_is);
    }
