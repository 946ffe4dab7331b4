use Rattle.std.proofs.Common.{rules, ◌<◌, ◌^◌, List, arith, sym, subst, take, ℕ}
use Rattle.archive_tree.specs.Archives.{texts_of}
use Rattle.archive_tree.specs.Trees.{HasTaken}
use Rattle.c_library.proofs.Rooting.{leaf_more, leaves_few}
use Rattle.c_library.proofs.root.head_of.Goals as goal

pub entries-preserved : goal.entries-preserved
entries-preserved c =
    let es = c.args.archive.now.list in
    let i = c.entries.index in
    let within : i < c.len-index-end.result = omega (arith, c.entries-test.true) in
    let fits : c.len-index-end.result < 2 ^ 64 = search (rules, arith) in
    subst (λ (ys : List (List ℕ)). HasTaken c.push.new.self ys) (sym (leaf_more es i c.in-Some.octets.now c.in-Some.ensures))
    (c.push.ensures.taken (take i (texts_of es))
    (leaves_few es i c.len-index-end.result c.len-index-end.ensures.value within fits) c.entries.invariant)
