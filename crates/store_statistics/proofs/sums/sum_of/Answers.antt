use Rattle.std.proofs.Common.{List, refl, subst, take}
use Rattle.std.proofs.lemmas.List.{take_all}
use Rattle.store_statistics.specs.Sums.{AreSums}
use Rattle.store_statistics.specs.declared.figures.FileFigures.{FileFigures}
use Rattle.store_statistics.proofs.Summing.{sums_next}
use Rattle.store_statistics.proofs.sums.sum_of.Goals as goal

pub files-init : goal.files-init
files-init c = record {
  records = c.new.ensures.records;
  octets = refl;
  first = c.new.ensures.first;
  last = c.new.ensures.last;
}

pub files-preserved : goal.files-preserved
files-preserved c =
    sums_next c.args.files.now c.files.file-index c.file-item.result c.files.sum c.add.new.sum c.files-test.true
    c.file-item.is (c.add.ensures (take c.files.file-index c.args.files.now) c.file-item.result refl) c.files.invariant

pub returns : goal.returns
returns c =
    subst (λ (l : List FileFigures). AreSums l c.files.sum) (take_all c.files.file-index c.args.files.now c.files-test.false)
    c.files.invariant
