use Rattle.std.proofs.Common.{◌≡◌, ◌+◌, ◌++◌, List, ℕ, Option, ap, length, refl, rules, subst, sym, take, ◌∙◌}
use Rattle.std.specs.Prelude.{IsSomeAnd, Some}
use Rattle.disk.specs.Calls.{Gives}
use Rattle.disk.specs.Files.{File}
use Rattle.disk.specs.States.{Entry}
use Rattle.ledger_disk.proofs.Tails.{IsReadFrom, read_more, unchanged_then}
use Rattle.ledger_disk.proofs.tail.read_from.Goals as goal

pub pieces-preserved : goal.pieces-preserved
pieces-preserved g c =
    let i = c.pieces.invariant in
    let n = c.in_ok-n.n in
    let buf = c.read.new.buf in
    let old = c.pieces.octets.items in
    let is : c.extend_from_slice.new.self.items ≡ old ++ take n buf = search rules in
    let len_is : c.len-in-pieces.result ≡ length old = search rules in
    record {
      told = λ tells. i.told (c.read.ensures.told tells);
      same = λ tells. unchanged_then (g.D.Disk.state c.args.disk.now) (g.D.Disk.state c.pieces.disk)
          (g.D.Disk.state c.read.new.self) (i.same (c.read.ensures.told tells)) (c.in_ok-n.ensures.done tells).same;
      read = λ tells sound file now.
          let before = c.read.ensures.told tells in
          let same = i.same before in
          let found = ((g.D.Disk.state c.pieces.disk).entries c.args.name.now).now in
          let now_is : found ≡ Some file =
          ap (λ (e : Entry). e.now) (same.entries c.args.name.now) ∙ now in
          let given : IsSomeAnd found (λ f. Gives f (c.args.at + c.len-in-pieces.result) buf n) =
          (c.in_ok-n.ensures.done tells).gives (same.lost ∙ sound) in
          let gives : IsSomeAnd found (λ f. Gives f (c.args.at + length old) buf n) =
          subst (λ (k : ℕ). IsSomeAnd found (λ f. Gives f (c.args.at + k) buf n)) len_is given in
          subst (λ (l : List ℕ). IsReadFrom file.shown c.args.at l) (sym is)
          (read_more found file old buf (take n buf) c.args.at n now_is gives (i.read before sound file now) refl);
    }
